use Rattle.std.specs.Prelude.{◌≡◌, ◌+◌, ◌<◌, ◌≤◌, ◌^◌, [], ◌∷◌, ◌++◌, cond, length, filter_map, take}
use Rattle.std.proofs.Common.{rules, arith, sym, ap, ◌∙◌, subst, List, length-append}
use Rattle.std.proofs.lemmas.List.{take_all}
use Rattle.std.specs.Ordering.{is_eq}
use Rattle.key_counts.specs.Rising.{times_in}
use Rattle.position_differences.specs.Differences.{difference_cmp}
use Rattle.position_differences.specs.declared.difference.Difference.{Difference}
use Rattle.survey_cells.specs.declared.cells.SurveyCell.{SurveyCell}
use Rattle.survey_cells.specs.Neighbours.{difference_beyond}
use Rattle.survey_cells.proofs.PairLemmas.{few_kept, few_so_far, kept_none, kept_some, times_few, times_more}
use Rattle.survey_cells.proofs.pairs.count_differences.Goals as goal
use Rattle.survey_cells.proofs.pairs.count_differences.Goals.{in-Some+in_ok-count_difference, in_default}

pub count_difference-requires : goal.count_difference-requires
count_difference-requires c = λ q.
    let cells = c.args.cells.now in
    let h = difference_beyond cells c.args.apart in
    let inside : c.loop-cell.cell-index < length cells = c.loop-cell-test.true in
    let whole : length cells < 2 ^ 64 = search rules in
    omega (arith, times_few (filter_map h (take c.loop-cell.cell-index cells)) q, few_so_far h cells c.loop-cell.cell-index c.cell-item.result inside, c.loop-cell.invariant.counts q)

pub overflow_add-pairs : goal.overflow_add-pairs
overflow_add-pairs c =
    let cells = c.args.cells.now in
    let inside : c.loop-cell.cell-index < length cells = c.loop-cell-test.true in
    let whole : length cells < 2 ^ 64 = search rules in
    omega (arith, few_so_far (difference_beyond cells c.args.apart) cells c.loop-cell.cell-index c.cell-item.result inside, c.loop-cell.invariant.pairs)

pub loop-cell-preserved : goal.loop-cell-preserved
loop-cell-preserved c =
    let cells = c.args.cells.now in
    let h = difference_beyond cells c.args.apart in
    let i = c.loop-cell.cell-index in
    let d = c.cell-item.result in
    let ds : List Difference = filter_map h (take i cells) in
    elim c.match-difference_beyond.branch [
      | in-Some+in_ok-count_difference w ↦
          let v = w.in-Some.difference in
          let kept : filter_map h (take (i + 1) cells) ≡ ds ++ v ∷ [] = kept_some h cells i d c.loop-cell-test.true v (sym w.in-Some.is ∙ c.difference_beyond.ensures ∙ ap h c.cell-item.is) in
          record {
            pairs = w.pairs-is ∙ ap (λ n. n + 1) c.loop-cell.invariant.pairs ∙ sym (ap length kept ∙ length-append ds (v ∷ []));
            counts = λ q. rw (w.lately-is, w.counts-is)
                (w.in_ok-count_difference.ensures.each q
                ∙ ap (λ n. n + cond (is_eq (difference_cmp v q)) 1 0) (c.loop-cell.invariant.counts q)
                ∙ sym (ap (λ (l : List Difference). times_in difference_cmp l q) kept ∙ times_more ds v q));
            memory = rw w.room-is (grind (arith, c.loop-cell.invariant.memory, w.in_ok-count_difference.ensures.memory.never_falls));
          }
      | in_default w ↦
          let kept : filter_map h (take (i + 1) cells) ≡ ds = kept_none h cells i d c.loop-cell-test.true (w.in_default.ensures ∙ ap h c.cell-item.is) in
          record {
            pairs = w.pairs-is ∙ c.loop-cell.invariant.pairs ∙ sym (ap length kept);
            counts = λ q. rw (w.lately-is, w.counts-is) (c.loop-cell.invariant.counts q ∙ sym (ap (λ (l : List Difference). times_in difference_cmp l q) kept));
            memory = rw w.room-is c.loop-cell.invariant.memory;
          }
    ]

pub returns-clause-few : goal.returns-clause-few
returns-clause-few c =
    let cells = c.args.cells.now in
    let h = difference_beyond cells c.args.apart in
    let all : take c.loop-cell.cell-index cells ≡ cells = take_all _ _ c.loop-cell-test.false in
    let count : c.loop-cell.pairs ≡ length (filter_map h cells) = c.loop-cell.invariant.pairs ∙ ap (λ l. length (filter_map h l)) all in
    omega (arith, few_kept h cells)

pub count_lately-requires : goal.count_lately-requires
count_lately-requires c = λ q.
    let cells = c.args.cells.now in
    let h = difference_beyond cells c.args.apart in
    let whole : length cells < 2 ^ 64 = search rules in
    let few : length (filter_map h (take c.loop-cell.cell-index cells)) ≤ length cells = subst (λ (l : List SurveyCell). length (filter_map h l) ≤ length cells) (sym (take_all _ _ c.loop-cell-test.false)) (few_kept h cells) in
    omega (arith, few, times_few (filter_map h (take c.loop-cell.cell-index cells)) q, c.loop-cell.invariant.counts q)

pub returns-clause-counts : goal.returns-clause-counts
returns-clause-counts c = λ q.
    let cells = c.args.cells.now in
    let h = difference_beyond cells c.args.apart in
    let all : take c.loop-cell.cell-index cells ≡ cells = take_all _ _ c.loop-cell-test.false in
    c.in_ok-count_lately.ensures.each q ∙ c.loop-cell.invariant.counts q ∙ ap (λ (l : List SurveyCell). times_in difference_cmp (filter_map h l) q) all
