use Rattle.std.proofs.Common.{arith}
use Rattle.trace_view.proofs.WrittenLemmas.{fits_first}
use Rattle.trace_view.proofs.stretches.Stretches.advance.Goals as goal

pub slice_bounds-result-end-then-from-at : goal.slice_bounds-result-end-then-from-at
slice_bounds-result-end-then-from-at c = let k = fits_first _ _ _ _ _ c.in-Some.ensures.cases.0 c.self.invariant in omega (arith, k)

pub overflow_add-self : goal.overflow_add-self
overflow_add-self c = let k = fits_first _ _ _ _ _ c.in-Some.ensures.cases.0 c.self.invariant in omega (arith, k, c.len.ensures)
