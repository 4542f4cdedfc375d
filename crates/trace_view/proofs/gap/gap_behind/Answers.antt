use Rattle.std.proofs.Common.{◌≡◌, ◌∙◌, ◌+◌, ◌-◌, ◌≤◌, ◌⊎◌, inr, ℕ, List, arith, ap, drop, subst, sym}
use Rattle.std.specs.Borrow.{Bor}
use Rattle.std.proofs.lemmas.List.{take_all, length-drop}
use Rattle.trace_view.specs.Runs.{FitFrom, end_of}
use Rattle.trace_view.proofs.GapLemmas.{Round, round, gap_here, counted_behind, none_more_behind, place_le, place_more, fits_one_more}
use Rattle.trace_view.specs.Puts.{Show}
use Rattle.trace_view.proofs.PutLemmas.{show-back}
use Rattle.trace_view.proofs.gap.gap_behind.Goals as goal
use Rattle.trace_view.proofs.gap.gap_behind.Goals.{then-place-run_end, else-place-run_end}

pub returns-then-end-run-clause-gap : goal.returns-then-end-run-clause-gap
returns-then-end-run-clause-gap c =
    let here : Round c.args.runs.now c.args.limit c.loop-run.run-index c.run-item.result = round _ _ _ _ (omega arith) c.run-item.is c.requires.fit in
    gap_here _ _ _ _ _ _ here c.loop-run.invariant.counted c.loop-run.invariant.before (place_le _ _ _ _ c.loop-run.place _ here (omega arith) c.loop-run.invariant.others)

pub returns-then-end-run-clause-count : goal.returns-then-end-run-clause-count
returns-then-end-run-clause-count c =
    let here : Round c.args.runs.now c.args.limit c.loop-run.run-index c.run-item.result = round _ _ _ _ (omega arith) c.run-item.is c.requires.fit in
    counted_behind _ _ _ _ _ _ here c.loop-run.invariant.counted c.if-end-run.true c.loop-run.invariant.none

pub overflow_add-run_end : goal.overflow_add-run_end
overflow_add-run_end c =
    let here : Round c.args.runs.now c.args.limit c.loop-run.run-index c.run-item.result = round _ _ _ _ (omega arith) c.run-item.is c.requires.fit in
    omega (arith, here.inside, c.len.ensures.value)

pub loop-run-preserved : goal.loop-run-preserved
loop-run-preserved c =
    let here : Round c.args.runs.now c.args.limit c.loop-run.run-index c.run-item.result = round _ _ _ _ (omega arith) c.run-item.is c.requires.fit in
    let ends : end_of c.run-item.result ≡ c.run-item.result.at + c.len.result = omega (arith, c.len.ensures.value) in
    let inside : end_of c.run-item.result ≤ c.args.limit = here.inside in
    elim c.if-place-run_end.branch [
      | then-place-run_end w ↦
          let place : end_of c.run-item.result ≡ c.if-place-run_end.place = omega (arith, w.place-is) in
          let reached : c.args.end ≤ end_of c.run-item.result = omega (arith, w.if-place-run_end.true) in
          let bytes : drop (c.args.end - c.run-item.result.at) c.run-item.result.bytes.items ≡ c.if-place-run_end.bytes.now =
          ap (drop (c.args.end - c.run-item.result.at)) (sym w.as_slice.ensures) ∙ (sym (take_all _ _ (omega (arith, length-drop (c.args.end - c.run-item.result.at) w.as_slice.result.now))) ∙ ap (λ (b : Bor (List ℕ)). b.now) (sym w.bytes-is)) in
          record {
            counted = omega arith;
            least = omega (arith, w.if-place-run_end.true, w.place-is);
            most = omega arith;
            before = fits_one_more _ _ _ _ _ here (omega arith);
            others = inr (subst (λ (n : ℕ). FitFrom n (drop (c.loop-run.run-index + 1) c.args.runs.now) c.args.limit) place here.behind);
            shown = subst (λ (xs : List ℕ). Show c.args.runs.now c.args.limit c.args.end c.if-place-run_end.place xs) bytes (subst (λ (n : ℕ). Show c.args.runs.now c.args.limit c.args.end n (drop (c.args.end - c.run-item.result.at) c.run-item.result.bytes.items)) place (show-back _ _ _ _ _ here c.if-end-run.false reached));
            none = none_more_behind _ _ _ _ _ here c.if-end-run.false c.loop-run.invariant.none;
          }
      | else-place-run_end w ↦
          let place : c.loop-run.place ≡ c.if-place-run_end.place = sym w.place-is in
          let past : end_of c.run-item.result ≤ c.loop-run.place = omega (arith, w.if-place-run_end.false) in
          record {
            counted = omega arith;
            least = omega (arith, w.place-is);
            most = omega (arith, w.place-is);
            before = fits_one_more _ _ _ _ _ here (omega arith);
            others = subst (λ (n : ℕ). (n ≡ c.args.end) ⊎ FitFrom n (drop (c.loop-run.run-index + 1) c.args.runs.now) c.args.limit) place
                (place_more _ _ _ _ _ _ here past c.loop-run.invariant.others);
            shown = subst (λ (xs : List ℕ). Show c.args.runs.now c.args.limit c.args.end c.if-place-run_end.place xs) (ap (λ (b : Bor (List ℕ)). b.now) (sym w.bytes-is)) (subst (λ (n : ℕ). Show c.args.runs.now c.args.limit c.args.end n c.loop-run.bytes.now) place c.loop-run.invariant.shown);
            none = none_more_behind _ _ _ _ _ here c.if-end-run.false c.loop-run.invariant.none;
          }
    ]
