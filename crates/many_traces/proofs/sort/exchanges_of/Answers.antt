use Rattle.std.proofs.Common.{◌≡◌, ◌∙◌, ℕ, List, length, ap, sym, subst, arith}
use Rattle.std.specs.List.{range_with_len}
use Rattle.std.specs.List.Sorted.{IsPermutation}
use Rattle.std.proofs.lemmas.List.FromFn.{length-range_with_len}
use Rattle.std.proofs.lemmas.List.Sorted.{length_permutation}
use Rattle.many_traces.proofs.sort.exchanges_of.Goals as goal

-- as many as rows
as-many : (c : goal.After-as_slice) → length c.as_slice.result.now ≡ length c.args.table.now
as-many c =
    ap (λ (l : List ℕ). length l) c.as_slice.ensures.value
    ∙ (length_permutation (range_with_len 0 (length c.args.table.now)) c.in_ok-rows.rows.items c.in_ok-rows.ensures.permutation ∙ length-range_with_len 0 (length c.args.table.now))

pub exchanges-requires-clause-last : goal.exchanges-requires-clause-last
exchanges-requires-clause-last c = omega (arith, as-many c, c.requires.last)

pub exchanges-requires-clause-permutation : goal.exchanges-requires-clause-permutation
exchanges-requires-clause-permutation c =
    rw (as-many c) (subst (λ (l : List ℕ). IsPermutation (range_with_len 0 (length c.args.table.now)) l) (sym c.as_slice.ensures.value) c.in_ok-rows.ensures.permutation)
