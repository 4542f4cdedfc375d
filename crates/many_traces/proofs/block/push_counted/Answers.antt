use Rattle.std.proofs.Common.{◌∙◌, ◌+◌, ◌++◌, ◌∷◌, [], ap, append_assoc, append-nil, sym, arith}
use Rattle.std.specs.List.{range_with_len}
use Rattle.many_traces.proofs.ExchangeLemmas.{range-more}
use Rattle.many_traces.proofs.block.push_counted.Goals as goal

pub loop-k-init : goal.loop-k-init
loop-k-init c = (sym (append-nil _), grind arith)

pub loop-k-preserved : goal.loop-k-preserved
loop-k-preserved c =
    let first = c.args.first in
    let k = c.loop-k.k in (
      (rw c.in_ok-told_back.ensures.ok at c.push.ensures.items)
          ∙ ap (λ l. l ++ (first + k) ∷ []) c.loop-k.invariant.0
          ∙ append_assoc _ (range_with_len first k) ((first + k) ∷ [])
          ∙ ap (λ l. c.args.numbers.now.items ++ l) (range-more first k),
      grind arith,
    )
