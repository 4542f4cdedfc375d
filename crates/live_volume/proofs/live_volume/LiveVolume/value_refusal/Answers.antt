use Rattle.std.proofs.Common.{◌≡◌, ◌≢◌, ◌∙◌, Option, None, ap, sym, subst, rules}
use Rattle.std.proofs.lemmas.Int.{to_z-of_z}
use Rattle.std.specs.Int.{w128}
use mir.Val.{SFits}
use Rattle.std.specs.Prelude.{IfSome, Some}
use Rattle.trace_view.specs.Shown.{bytes_of, head_of}
use Rattle.bench_rules.specs.declared.refusal.Refusal.{Refusal}
use Rattle.bench_rules.specs.declared.refusal.Refusal.TheVariants.{OutOfMemory}
use Rattle.bench_rules.specs.ReadFaults.{IsRefusalOfNoRead}
use Rattle.bench_rules.specs.Refused.{set_refusal}
use Rattle.bench_rules.proofs.EditMemoryLemmas.{set_memory}
use Rattle.bench_rules.proofs.NoReadLemmas.{set_free}
use Rattle.bench_rules.specs.TraceEdits.{counted}
use Rattle.live_volume.proofs.HeldLemmas.{looked_as, seen_once}
use Rattle.live_volume.proofs.RoomLemmas.{fits_in_view, holds_in_view, told_of_trace}
use Rattle.live_volume.proofs.live_volume.LiveVolume.value_refusal.Goals as goal

pub returns-clause-refusal : goal.returns-clause-refusal
returns-clause-refusal c =
    let seen = rw (c.in_ok-trace.was, c.in-Some.is) at c.look.follows.holds-at-none in
    let first : SFits w128 c.args.first = search rules in
    let step : SFits w128 c.args.step = search rules in
    let is : c.renumber_refusal.result ≡ set_refusal (head_of c.in-Some.trace) (bytes_of c.in-Some.trace) (Some c.args.place) (counted c.args.first c.args.step c.args.k) =
    rw (to_z-of_z w128 c.args.first first, to_z-of_z w128 c.args.step step) at c.renumber_refusal.ensures in
    rw (← c.self.view_is)
    (λ sure. told_of_trace c.self.inside.overlay.volume c.args.p c.in-Some.trace c.args.place (counted c.args.first c.args.step c.args.k) c.renumber_refusal.result (seen.trace sure) is)

pub returns-clause-each : goal.returns-clause-each
returns-clause-each c =
    let shape = rw c.in-Some.is at c.in_ok-trace.ensures.shape in
    rw (← c.self.view_is) (λ none. holds_in_view c.self.inside.overlay.volume c.args.p c.in-Some.trace c.args.place _ shape (sym c.renumber_refusal.ensures ∙ none))

pub returns-clause-fit : goal.returns-clause-fit
returns-clause-fit c =
    let first : SFits w128 c.args.first = search rules in
    let step : SFits w128 c.args.step = search rules in
    let is : c.renumber_refusal.result ≡ set_refusal (head_of c.in-Some.trace) (bytes_of c.in-Some.trace) (Some c.args.place) (counted c.args.first c.args.step c.args.k) =
    rw (to_z-of_z w128 c.args.first first, to_z-of_z w128 c.args.step step) at c.renumber_refusal.ensures in
    λ none. fits_in_view c.in-Some.trace c.args.place (counted c.args.first c.args.step c.args.k) (sym is ∙ none)

pub returns-clause-seen : goal.returns-clause-seen
returns-clause-seen c =
    let seen = rw (c.in_ok-trace.was, c.in-Some.is) at c.look.follows.holds-at-none in
    looked_as c.self.inside c.look.follows.lender-at-none 1 c.args.self.now c.self.view_is (seen_once c.self.inside.overlay c.look.follows.lender-at-none seen.looked seen.reads)

not_told : (o : Option Refusal) → (o ≡ Some OutOfMemory → ⊥) → IfSome o (λ r. r ≢ OutOfMemory)
not_told None never = tt
not_told (Some r) never = λ e. never (ap Some e)

pub returns-clause-other : goal.returns-clause-other
returns-clause-other c =
    not_told c.renumber_refusal.result (λ e. set_memory (head_of c.in-Some.trace) (bytes_of c.in-Some.trace) (Some c.args.place) _ (sym c.renumber_refusal.ensures ∙ e))

pub returns-clause-rule : goal.returns-clause-rule
returns-clause-rule c =
    subst (λ (o : Option Refusal). IfSome o IsRefusalOfNoRead) (sym c.renumber_refusal.ensures) (set_free (head_of c.in-Some.trace) (bytes_of c.in-Some.trace) (Some c.args.place) _)
