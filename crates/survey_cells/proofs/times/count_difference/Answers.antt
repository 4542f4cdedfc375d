use Rattle.std.specs.Prelude.{◌≡◌, ℕ, ◌+◌, cond}
use Rattle.std.proofs.Common.{arith, sym, ap, ◌∙◌, set}
use Rattle.std.specs.Ordering.{is_eq}
use Rattle.position_differences.specs.declared.difference.Difference.{Difference}
use Rattle.position_differences.specs.Differences.{difference_cmp}
use Rattle.survey_cells.specs.Lately.{counted_in}
use Rattle.survey_cells.proofs.LatelyLemmas.{one_within, own, raised, same_parts}
use Rattle.survey_cells.proofs.times.count_difference.Goals as goal

pub overflow_add-lately : goal.overflow_add-lately
overflow_add-lately c =
    let e = c.index-lately-place.result in
    omega (arith, c.requires e.0, one_within c.args.lately.now c.place_of-place.result e e.0 c.if-place-lately.false c.index-lately-place.is, own e.0 e.1)

pub returns-then-eq-clause-each : goal.returns-then-eq-clause-each
returns-then-eq-clause-each c = λ q.
    let e = c.index-lately-place.result in
    let same : e.0 ≡ c.args.difference = same_parts e.0 c.args.difference (sym c.eq.ensures ∙ c.if-eq.true) in
    let more : counted_in (set c.args.lately.now c.place_of-place.result (e.0, e.1 + 1)) q ≡ counted_in c.args.lately.now q + cond (is_eq (difference_cmp e.0 q)) 1 0
    = raised c.args.lately.now c.place_of-place.result e.0 e.1 q c.if-place-lately.false c.index-lately-place.is in
    let one : ◌≡◌ {A = ℕ} (cond (is_eq (difference_cmp e.0 q)) 1 0) (cond (is_eq (difference_cmp c.args.difference q)) 1 0) = ap (λ (d : Difference). cond (is_eq (difference_cmp d q)) 1 0) same in
    omega (arith, more, one)

pub raise_by-requires-2 : goal.raise_by-requires-2
raise_by-requires-2 c =
    let e = c.index-lately-place.result in
    omega (arith, c.requires e.0, one_within c.args.lately.now c.place_of-place.result e e.0 c.if-place-lately.false c.index-lately-place.is, own e.0 e.1)
