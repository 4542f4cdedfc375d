use Rattle.std.proofs.Common.{◌≡◌, ◌≢◌, ◌∙◌, ℕ, ℤ, List, None, Some, Result, Ok, Err, ap, inr, subst, sym}
use Rattle.std.specs.Prelude.{IfErr}
use Rattle.field_map.specs.declared.place.Place.{Place}
use Rattle.frame_cut.specs.declared.file_head.Head.{Head}
use Rattle.bench_rules.specs.declared.refusal.Refusal.{Refusal}
use Rattle.bench_rules.specs.declared.refusal.Refusal.TheVariants.{OutOfMemory}
use Rattle.bench_rules.specs.Computed.{Formula, computed_in, refusal_of_result}
use Rattle.bench_rules.proofs.LookLemmas.{if_err}
use Rattle.bench_rules.proofs.EditMemoryLemmas.{computed_memory, set_memory}
use Rattle.trace_view.specs.Shown.{bytes_of, head_of}
use Rattle.frame_cut.specs.Traces.{trace_at}
use Rattle.many_traces.proofs.NumbersLemmas.{held, kept_in_kind}
use Rattle.many_traces.proofs.ShownLemmas.{if_ok, ok_on, shown_as}
use Rattle.bench_rules.specs.ReadFaults.{IsRefusalOfNoRead}
use Rattle.bench_rules.proofs.NoReadLemmas.{computed_free}
use Rattle.bench_rules.proofs.ReadTellLemmas.{no_read_tells}
use Rattle.many_traces.proofs.NoReadLemmas.{admitted_free}
use Rattle.many_traces.proofs.computed.number_at.Goals as goal

pub returns-clause-none : goal.returns-clause-none
returns-clause-none c =
    let view = c.in-Some.trace in
    let place : Place = c.args.place in
    let f : Formula = record { place = place; source = c.args.source; steps = c.args.steps.now } in
    let seen = rw (c.in_ok-trace.was, c.in-Some.is) at c.look.follows.holds-at-none in
    ok_on c.admitted.result
    (λ x told sure. shown_as (λ (h : Head) (t : List ℕ). refusal_of_result h t place (computed_in h f c.args.p t) ≡ None) c.args.overlay.now.volume c.args.p view (seen.trace sure)
    (subst (λ (n : Result ℤ Refusal). refusal_of_result (head_of view) (bytes_of view) place n ≡ None) c.computed_in-number.ensures told.1))
    c.admitted.ensures.ok

pub returns-clause-number : goal.returns-clause-number
returns-clause-number c =
    let view = c.in-Some.trace in
    let f : Formula = record { place = c.args.place; source = c.args.source; steps = c.args.steps.now } in
    let seen = rw (c.in_ok-trace.was, c.in-Some.is) at c.look.follows.holds-at-none in
    if_ok c.admitted.result
    (λ x told sure. shown_as (λ (h : Head) (t : List ℕ). computed_in h f c.args.p t ≡ Ok x) c.args.overlay.now.volume c.args.p view (seen.trace sure) (sym c.computed_in-number.ensures ∙ told.0))
    c.admitted.ensures.ok

pub returns-clause-err : goal.returns-clause-err
returns-clause-err c =
    let view = c.in-Some.trace in
    let place : Place = c.args.place in
    let f : Formula = record { place = place; source = c.args.source; steps = c.args.steps.now } in
    let seen = rw (c.in_ok-trace.was, c.in-Some.is) at c.look.follows.holds-at-none in
    if_err c.admitted.result
    (λ refusal told. inr (λ sure. shown_as (λ (h : Head) (t : List ℕ). refusal_of_result h t place (computed_in h f c.args.p t) ≡ Some refusal) c.args.overlay.now.volume c.args.p view (seen.trace sure)
    (subst (λ (n : Result ℤ Refusal). refusal_of_result (head_of view) (bytes_of view) place n ≡ Some refusal) c.computed_in-number.ensures told)))
    c.admitted.ensures.err

pub returns-clause-fits : goal.returns-clause-fits
returns-clause-fits c =
    let view = c.in-Some.trace in
    kept_in_kind c.admitted.result c.computed_in-number.result (head_of view) (bytes_of view) c.args.place c.admitted.ensures.ok

pub returns-clause-place : goal.returns-clause-place
returns-clause-place c =
    let view = c.in-Some.trace in
    let shape = rw c.in-Some.is at c.in_ok-trace.ensures.shape in
    held c.admitted.result c.computed_in-number.result (head_of view) (bytes_of view) (trace_at c.args.overlay.now.volume c.args.p) c.args.place view.whole shape.1 c.admitted.ensures.ok

-- what refuses the number that is computed, or its set, is not want of memory
other : (h : Head) (t : List ℕ) (place : Place) (number r : Result ℤ Refusal) → (number ≡ Err OutOfMemory → ⊥) → IfErr r (λ refusal. refusal_of_result h t place number ≡ Some refusal)
    → IfErr r (λ refusal. refusal ≢ OutOfMemory)
other h t place number (Ok x) never told = tt
other h t place (Ok y) (Err r) never told = λ e. set_memory h t (Some place) y (told ∙ ap Some e)
other h t place (Err q) (Err r) never told = λ e.
    let same : q ≡ r = cc in
    never (ap (λ (f : Refusal). let n : Result ℤ Refusal = Err f in n) (same ∙ e))

pub returns-clause-other : goal.returns-clause-other
returns-clause-other c =
    let view = c.in-Some.trace in
    other (head_of view) (bytes_of view) c.args.place c.computed_in-number.result c.admitted.result
    (λ e. computed_memory (head_of view) (record { place = c.args.place; source = c.args.source; steps = c.args.steps.now }) c.args.p (bytes_of view) (sym c.computed_in-number.ensures ∙ e)) c.admitted.ensures.err

pub returns-clause-reads_tell : goal.returns-clause-reads_tell
returns-clause-reads_tell c =
    let h = head_of c.in-Some.trace in
    let t = bytes_of c.in-Some.trace in
    let place : Place = c.args.place in
    let f : Formula = record { place = place; source = c.args.source; steps = c.args.steps.now } in
    let free : IfErr c.computed_in-number.result IsRefusalOfNoRead = subst (λ (n : Result ℤ Refusal). IfErr n IsRefusalOfNoRead) (sym c.computed_in-number.ensures) (computed_free h f c.args.p t) in
    if_err c.admitted.result
    (λ refusal told. no_read_tells c.args.overlay.now.reads c.look.follows.lender-at-none.reads refusal (admitted_free h t place c.computed_in-number.result refusal free told))
    c.admitted.ensures.err
