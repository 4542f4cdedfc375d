use Rattle.std.proofs.Common.{◌≡◌, ℕ, rules, SFits, arith, ap, ◌-◌, ◌∙◌}
use Rattle.std.specs.Int.{w32}
use Rattle.std.proofs.lemmas.Int.{to_z-of_z}
use Rattle.trace_record.proofs.HeaderLemmas.{inside, number_is}
use Rattle.trace_record.proofs.main_header.signed_in.Goals as goal

pub short_in-requires-clause-place : goal.short_in-requires-clause-place
short_in-requires-clause-place c = record { inside = c.requires.place.inside; signed = c.requires.place.signed; size = search rules }

pub i32_at-requires : goal.i32_at-requires
i32_at-requires c =
    let where-it-is = inside c.args.place c.requires.place.inside in
    omega (arith, where-it-is.0, where-it-is.1, c.requires.place.size)

pub returns-else-place-eq2 : goal.returns-else-place-eq2
returns-else-place-eq2 c =
    let fits : SFits w32 c.i32_at.result = search rules in
    let four : c.args.place.kind.size ≡ 4 = search (rules, c.requires.place.size) in
    to_z-of_z w32 _ fits
    ∙ number_is c.args.order c.args.place 4 _ c.args.main.now c.i32_at.result c.requires.place.signed four (ap (λ (n : ℕ). n - 1) c.from-else-place-eq2.ensures) c.i32_at.ensures
