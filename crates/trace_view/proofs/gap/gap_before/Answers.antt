use Rattle.std.proofs.Common.{◌≡◌, ◌-◌, ◌≤◌, ◌<◌, ◌⊎◌, inl, inr, ℕ, List, take, subst, sym, arith}
use Rattle.trace_view.specs.Runs.{end_of}
use Rattle.trace_view.proofs.GapLemmas.{Round, round, gap_here, fits_lower, counted_in_front, one_more_in_front, fits_one_more}
use Rattle.trace_view.specs.Puts.{Show}
use Rattle.trace_view.proofs.PutLemmas.{show-none, show-lower}
use Rattle.trace_view.proofs.gap.gap_before.Goals as goal
use Rattle.trace_view.proofs.gap.gap_before.Goals.{then-run-at, else-run-at}

pub overflow_add-run : goal.overflow_add-run
overflow_add-run c =
    let here : Round c.args.runs.now c.args.limit c.loop-run.run-index c.run-item.result = round _ _ _ _ (omega arith) c.run-item.is c.requires.fit in
    omega (arith, here.inside, c.len.ensures.value)

pub returns-then-at-run-clause-gap : goal.returns-then-at-run-clause-gap
returns-then-at-run-clause-gap c =
    let here : Round c.args.runs.now c.args.limit c.loop-run.run-index c.run-item.result = round _ _ _ _ (omega arith) c.run-item.is c.requires.fit in
    let lower : (c.if-run-at.place ≡ c.run-item.result.at) ⊎ (c.if-run-at.place ≡ c.args.at) = elim c.if-run-at.branch [
      | then-run-at w ↦ inl w.place-is
      | else-run-at w ↦ inr w.place-is
    ] in
    let le : c.if-run-at.place ≤ c.run-item.result.at = elim c.if-run-at.branch [
      | then-run-at w ↦ omega (arith, w.place-is)
      | else-run-at w ↦ omega (arith, w.place-is, w.if-run-at.false)
    ] in
    gap_here _ _ _ _ _ _ here c.loop-run.invariant.counted (fits_lower _ _ _ _ _ _ here lower c.loop-run.invariant.before) le

pub returns-then-at-run-clause-bytes : goal.returns-then-at-run-clause-bytes
returns-then-at-run-clause-bytes c =
    let here : Round c.args.runs.now c.args.limit c.loop-run.run-index c.run-item.result = round _ _ _ _ (omega arith) c.run-item.is c.requires.fit in
    let lower : (c.if-run-at.place ≡ c.run-item.result.at) ⊎ (c.if-run-at.place ≡ c.args.at) = elim c.if-run-at.branch [
      | then-run-at w ↦ inl w.place-is
      | else-run-at w ↦ inr w.place-is
    ] in
    let le : c.if-run-at.place ≤ c.args.at = elim c.if-run-at.branch [
      | then-run-at w ↦ omega (arith, w.place-is, w.if-run-at.true)
      | else-run-at w ↦ omega (arith, w.place-is)
    ] in
    let touches : c.args.at ≤ end_of c.run-item.result = omega (arith, c.len.ensures.value) in
    subst (λ (xs : List ℕ). Show c.args.runs.now c.args.limit c.if-run-at.place c.args.at (take (c.args.at - c.if-run-at.place) xs)) (sym c.as_slice.ensures) (show-lower _ _ _ _ _ _ here lower le touches)

pub returns-then-at-run-clause-count : goal.returns-then-at-run-clause-count
returns-then-at-run-clause-count c =
    let here : Round c.args.runs.now c.args.limit c.loop-run.run-index c.run-item.result = round _ _ _ _ (omega arith) c.run-item.is c.requires.fit in
    let touches : c.args.at ≤ end_of c.run-item.result = omega (arith, c.len.ensures.value) in
    counted_in_front _ _ _ _ _ _ here c.loop-run.invariant.counted touches c.loop-run.invariant.front

pub returns-clause-bytes : goal.returns-clause-bytes
returns-clause-bytes c = show-none _ _ _

pub loop-run-preserved : goal.loop-run-preserved
loop-run-preserved c =
    let here : Round c.args.runs.now c.args.limit c.loop-run.run-index c.run-item.result = round _ _ _ _ (omega arith) c.run-item.is c.requires.fit in
    let ends : end_of c.run-item.result < c.args.at = omega (arith, c.len.ensures.value) in
    record {
      counted = omega arith;
      before = fits_one_more _ _ _ _ _ here (omega arith);
      front = one_more_in_front _ _ _ _ _ here ends c.loop-run.invariant.front;
    }
