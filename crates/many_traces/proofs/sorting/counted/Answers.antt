use Rattle.std.proofs.Common.{◌∙◌, ap, ◌∷◌, [], ◌++◌, arith}
use Rattle.many_traces.proofs.ExchangeLemmas.{counted-more}
use Rattle.many_traces.proofs.sorting.counted.Goals as goal

pub loop-number-preserved : goal.loop-number-preserved
loop-number-preserved c = ((rw c.in_ok-told_back.ensures.ok at c.push.ensures.items) ∙ (ap (λ l. l ++ c.loop-number.number ∷ []) c.loop-number.invariant.0 ∙ counted-more c.loop-number.number), grind arith)
