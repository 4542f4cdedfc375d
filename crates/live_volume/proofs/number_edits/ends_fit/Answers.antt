use Rattle.std.proofs.Common.{◌≡◌, Bool, true, false, ◌&&◌, refl, rules}
use Rattle.std.proofs.lemmas.Int.{to_z-of_z}
use Rattle.std.specs.Int.{w128}
use mir.Val.{SFits}
use Rattle.num_order.specs.Number.{fits}
use Rattle.bench_rules.specs.TraceEdits.{counted}
use Rattle.bench_rules.proofs.RenumberLemmas.{fits_wide}
use Rattle.live_volume.proofs.number_edits.ends_fit.Goals as goal

neither : (a b : Bool) → (b ≡ true → ⊥) → false ≡ (a && b)
neither true true never = absurd (never refl)
neither true false never = refl
neither false b never = refl

pub returns-in-None : goal.returns-in-None
returns-in-None c =
    let first : SFits w128 c.args.first = search rules in
    let step : SFits w128 c.args.step = search rules in
    let last = counted c.args.first c.args.step c.args.k in
    neither (fits c.args.kind c.args.first) (fits c.args.kind last)
    (λ e. c.in-None.ensures (rw (to_z-of_z w128 c.args.first first, to_z-of_z w128 c.args.step step) (fits_wide c.args.kind last c.requires e)))
