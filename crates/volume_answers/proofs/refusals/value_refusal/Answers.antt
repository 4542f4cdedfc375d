use Rattle.std.proofs.Common.{◌≡◌, ◌≢◌, ◌∙◌, refl, ap, sym, subst, rules, Option, Some, None}
use Rattle.std.specs.Prelude.{IfSome}
use Rattle.std.proofs.lemmas.Int.{to_z-of_z}
use Rattle.std.specs.Int.{w128}
use mir.Val.{SFits}
use Rattle.bench_rules.proofs.SeenLemmas.{seen_more, seen_none}
use Rattle.trace_view.specs.Shown.{bytes_of, head_of}
use Rattle.bench_rules.specs.Refused.{set_refusal}
use Rattle.bench_rules.specs.declared.refusal.Refusal.{Refusal}
use Rattle.bench_rules.specs.declared.refusal.Refusal.TheVariants.{OutOfMemory}
use Rattle.bench_rules.specs.ReadFaults.{IsRefusalOfNoRead}
use Rattle.bench_rules.proofs.EditMemoryLemmas.{set_memory}
use Rattle.bench_rules.proofs.NoReadLemmas.{set_free}
use Rattle.bench_rules.proofs.SetLemmas.{refused_by}
use Rattle.volume_answers.proofs.RoomLemmas.{room}
use Rattle.volume_answers.proofs.refusals.value_refusal.Goals as goal

pub returns-clause-refusal : goal.returns-clause-refusal
returns-clause-refusal c = λ s same sure.
    let fit : SFits w128 c.args.value = search rules in
    let view = c.in-Some.trace in
    let there = rw c.in-Some.is at c.in_ok-trace.ensures.there in
    let seen = rw (c.in_ok-trace.was, c.in-Some.is) at c.look.follows.holds-at-none in
    let shown = seen.trace sure in
    refused_by s c.args.p c.args.place c.args.value c.args.overlay.now.volume (head_of view) (bytes_of view) c.set_refusal.result
    (sym same) (there.0 refl) shown.0 shown.1
    (c.set_refusal.ensures ∙ ap (set_refusal (head_of view) (bytes_of view) (Some c.args.place)) (to_z-of_z w128 c.args.value fit))

pub returns-clause-room : goal.returns-clause-room
returns-clause-room c = λ none.
    let fit : SFits w128 c.args.value = search rules in
    let view = c.in-Some.trace in
    let there = rw c.in-Some.is at c.in_ok-trace.ensures.there in
    let shape = rw c.in-Some.is at c.in_ok-trace.ensures.shape in
    room c.args.overlay.now.volume c.args.p c.args.place c.args.value (head_of view) (bytes_of view) (there.0 refl) view.whole shape.1
    (sym (c.set_refusal.ensures ∙ ap (set_refusal (head_of view) (bytes_of view) (Some c.args.place)) (to_z-of_z w128 c.args.value fit)) ∙ none)

pub returns-clause-seen : goal.returns-clause-seen
returns-clause-seen c =
    let o = c.args.overlay.now in
    let there = rw c.in-Some.is at c.in_ok-trace.ensures.there in
    let seen = rw (c.in_ok-trace.was, c.in-Some.is) at c.look.follows.holds-at-none in
    rw (there.0 refl) (seen_more o o c.look.follows.lender-at-none 0 (seen_none o) seen.looked seen.reads)

pub returns-clause-other : goal.returns-clause-other
returns-clause-other c =
    let fit : SFits w128 c.args.value = search rules in
    let view = c.in-Some.trace in
    not_told c.set_refusal.result (λ e.
    set_memory (head_of view) (bytes_of view) (Some c.args.place) c.args.value
    (sym (c.set_refusal.ensures ∙ ap (set_refusal (head_of view) (bytes_of view) (Some c.args.place)) (to_z-of_z w128 c.args.value fit)) ∙ e))
  where
    not_told : (o : Option Refusal) → (o ≡ Some OutOfMemory → ⊥) → IfSome o (λ r. r ≢ OutOfMemory)
    not_told None never = tt
    not_told (Some r) never = λ e. never (ap Some e)

pub returns-clause-rule : goal.returns-clause-rule
returns-clause-rule c =
    let fit : SFits w128 c.args.value = search rules in
    let view = c.in-Some.trace in
    subst (λ (o : Option Refusal). IfSome o IsRefusalOfNoRead)
    (sym (c.set_refusal.ensures ∙ ap (set_refusal (head_of view) (bytes_of view) (Some c.args.place)) (to_z-of_z w128 c.args.value fit)))
    (set_free (head_of view) (bytes_of view) (Some c.args.place) c.args.value)
