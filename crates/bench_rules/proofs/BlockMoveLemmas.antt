-- A block of traces that is moved: what is known where the edit is not refused, and the volume that it gives.
use Rattle.std.proofs.Common.{◌≡◌, ℕ, zero, suc, ◌+◌, ◌-◌, ◌<◌, ◌≤◌, Bool, true, false, leb, List, ◌∷◌, ◌++◌, Option, Some, None, refl, sym, ap, subst, ◌∙◌, arith}
use Rattle.std.specs.Prelude.{◌&&◌, if◌then◌else◌}
use Rattle.std.specs.List.{range_with_len}
use Rattle.std.specs.List.Sorted.{IsPermutation}
use Rattle.std.proofs.lemmas.Bool.{le-leb, leb-true, leb-false}
use Rattle.std.proofs.lemmas.List.Sorted.{IsPermutation-append_comm}
use Rattle.frame_cut.specs.Cuts.{IsCut}
use Rattle.frame_cut.specs.Traces.{count_of}
use Rattle.frame_cut.specs.Volume.{Volume, bytes_of}
use Rattle.bench_rules.specs.declared.edit.Edit.TheVariants.{MoveBlock}
use Rattle.bench_rules.specs.declared.refusal.Refusal.{Refusal}
use Rattle.bench_rules.specs.BlockMoves.{block_order, block_refusal, first_moved, last_for_block, last_moved, no_place_for_block}
use Rattle.bench_rules.specs.ManyTraces.{positions}
use Rattle.bench_rules.specs.Sorted.{with_order, with_traces_as}
use Rattle.bench_rules.specs.State.{State}
use Rattle.bench_rules.specs.Steps.{IsAfter}
use Rattle.bench_rules.proofs.FirstLemmas.{AreTraces, are_traces}
use Rattle.bench_rules.proofs.SetLemmas.{both}
use Rattle.bench_rules.proofs.SortLemmas.{cut_sorted}

-- ---- the traces that come to stand elsewhere

-- numbers that follow one another, in two parts
pub range-parts : (k m n : ℕ) → range_with_len k m ++ range_with_len (k + m) n ≡ range_with_len k (m + n)
range-parts k zero n =
    let there : k + 0 ≡ k = omega arith in
    let many : n ≡ 0 + n = omega arith in
    ap (λ i. range_with_len i n) there ∙ ap (range_with_len k) many
range-parts k (suc m) n =
    let there : k + suc m ≡ k + 1 + m = omega arith in
    let many : suc (m + n) ≡ suc m + n = omega arith in
    ap (λ l. k ∷ l) (ap (λ i. range_with_len (k + 1) m ++ range_with_len i n) there ∙ range-parts (k + 1) m n) ∙ ap (range_with_len k) many

module _ (a b to : ℕ) (low : 1 ≤ a) (high : a ≤ b) (first : 1 ≤ to) where
  in-front : to ≤ a → positions to (a - 1) ++ positions a b ≡ positions to b
  in-front less =
      let from : a ≡ to + (a - 1 + 1 - to) = omega (arith, low, less) in
      let many : a - 1 + 1 - to + (b + 1 - a) ≡ b + 1 - to = omega (arith, low, high, less) in
      ap (λ i. positions to (a - 1) ++ range_with_len i (b + 1 - a)) from ∙ range-parts to (a - 1 + 1 - to) (b + 1 - a) ∙ ap (range_with_len to) many

  behind : a < to → positions a b ++ positions (b + 1) (to + (b - a)) ≡ positions a (to + (b - a))
  behind less =
      let from : b + 1 ≡ a + (b + 1 - a) = omega (arith, high) in
      let many : b + 1 - a + (to + (b - a) + 1 - (b + 1)) ≡ to + (b - a) + 1 - a = omega (arith, high, less) in
      ap (λ i. positions a b ++ range_with_len i (to + (b - a) + 1 - (b + 1))) from ∙ range-parts a (b + 1 - a) (to + (b - a) + 1 - (b + 1)) ∙ ap (range_with_len a) many

  pub block-permutes : IsPermutation (positions (first_moved a to) (last_moved a b to)) (block_order a b to)
  block-permutes = by (leb to a) refl
    where
      by : (t : Bool) → leb to a ≡ t → IsPermutation (positions (first_moved a to) (last_moved a b to)) (block_order a b to)
      by true is =
          let less : to ≤ a = leb-true to a is in
          let one : first_moved a to ≡ to = omega (arith, less) in
          let two : last_moved a b to ≡ b = omega (arith, less, high) in
          rw (is, one, two) (subst (λ l. IsPermutation l (positions a b ++ positions to (a - 1))) (in-front less) (IsPermutation-append_comm (positions to (a - 1)) (positions a b)))
      by false is =
          let less : a < to = leb-false to a is in
          let one : first_moved a to ≡ a = omega (arith, less) in
          let two : last_moved a b to ≡ to + (b - a) = omega (arith, less, high) in
          rw (is, one, two) (subst (λ l. IsPermutation l (positions (b + 1) (to + (b - a)) ++ positions a b)) (behind less) (IsPermutation-append_comm (positions a b) (positions (b + 1) (to + (b - a)))))

-- ---- the edit

-- what is known of a block that is not refused
pub record BlockAccepted (v : Volume) (a b to : ℕ) : Type 0 where
  pub low : 1 ≤ a
  pub high : a ≤ b
  pub last : b ≤ count_of v
  pub first : 1 ≤ to
  pub room : to + (b - a) ≤ count_of v

allowed : (b : Bool) (r : Refusal) → (if b then None else Some r) ≡ None → b ≡ true
allowed true r e = refl
allowed false r e = absurd cc

pub block_accepted : (v : Volume) (a b to : ℕ) → block_refusal v a b to ≡ None → BlockAccepted v a b to
block_accepted v a b to e =
    let there : AreTraces v a b (no_place_for_block v a b to) = are_traces v a b (no_place_for_block v a b to) e in
    let inside = both (leb 1 to) (leb to (last_for_block v a b)) (allowed _ _ there.none) in
    let most : to ≤ last_for_block v a b = leb-true to (last_for_block v a b) inside.1 in
    record { low = there.low; high = there.high; last = there.last; first = leb-true 1 to inside.0; room = omega (arith, most, there.high, there.last) }

-- the edit is done where the traces stand in that order
pub block_done : (s : State) (a b to : ℕ) (w : Volume) → IsCut (bytes_of s.volume) s.reading s.limits s.volume → BlockAccepted s.volume a b to
    → w ≡ with_order s.volume (first_moved a to) (last_moved a b to) (block_order a b to) → IsAfter s (MoveBlock a b to) (record s { volume = w })
block_done s a b to w cut c is =
    let from : ℕ = first_moved a to in
    let until : ℕ = last_moved a b to in
    let order : List ℕ = block_order a b to in
    let moved = cut_sorted s.volume from until order (omega (arith, c.low, c.first)) (omega (arith, c.high)) (omega (arith, c.last, c.room)) (block-permutes a b to c.low c.high c.first) s.reading s.limits cut in
    record {
      volume = subst (λ (u : Volume). IsCut (with_traces_as s.volume from until order) s.reading s.limits u) (sym is) moved;
      fields = refl;
      reading = refl;
      limits = refl;
      on_disk = refl;
    }
