use Rattle.std.proofs.Common.{◌≡◌, ◌∙◌, ℕ, ◌++◌, length, ap, sym, subst, arith, List}
use Rattle.std.specs.List.{range_with_len}
use Rattle.std.specs.List.Sorted.{IsPermutation}
use Rattle.many_traces.proofs.BlockLemmas.{turned, length-turned, turned-permutes}
use Rattle.many_traces.proofs.block.exchanges_to_turn.Goals as goal

pub exchanges-requires-clause-last : goal.exchanges-requires-clause-last
exchanges-requires-clause-last c =
    let is : c.as_slice.result.now ≡ turned c.args.before c.args.behind =
    c.as_slice.ensures.value ∙ c.in_ok-push_counted-2.ensures.numbers
    ∙ ap (λ l. l ++ range_with_len 0 c.args.before) (c.in_ok-push_counted.ensures.numbers ∙ ap (λ l. l ++ range_with_len c.args.before c.args.behind) (rw c.in_ok-order.ensures.ok at c.with_capacity.ensures.items)) in
    omega (arith, ap (λ (l : List ℕ). length l) is, length-turned c.args.before c.args.behind, c.requires.last)

pub exchanges-requires-clause-permutation : goal.exchanges-requires-clause-permutation
exchanges-requires-clause-permutation c =
    let is : c.as_slice.result.now ≡ turned c.args.before c.args.behind =
    c.as_slice.ensures.value ∙ c.in_ok-push_counted-2.ensures.numbers
    ∙ ap (λ l. l ++ range_with_len 0 c.args.before) (c.in_ok-push_counted.ensures.numbers ∙ ap (λ l. l ++ range_with_len c.args.before c.args.behind) (rw c.in_ok-order.ensures.ok at c.with_capacity.ensures.items)) in
    subst (λ (l : List ℕ). IsPermutation (range_with_len 0 (length l)) l) (sym is) (turned-permutes c.args.before c.args.behind)
