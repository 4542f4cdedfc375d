-- Pairs of positions that move a block of traces.
use Rattle.std.proofs.Common.{◌≡◌, ℕ, ◌+◌, ◌-◌, ◌<◌, ◌≤◌, Bool, true, false, leb, List, ◌++◌, length, map, refl, sym, ap, subst, ◌∙◌, arith}
use Rattle.std.specs.List.{range_with_len}
use Rattle.std.specs.List.Sorted.{IsPermutation}
use Rattle.std.proofs.lemmas.Bool.{leb-true, leb-false}
use Rattle.std.proofs.lemmas.List.{length-append, map-append}
use Rattle.std.proofs.lemmas.List.FromFn.{length-range_with_len}
use Rattle.std.proofs.lemmas.List.Sorted.{IsPermutation-append_comm}
use Rattle.trace_store.specs.Swapped.{with_swapped}
use Rattle.bench_rules.specs.BlockMoves.{block_order, first_moved, last_moved}
use Rattle.bench_rules.specs.ManyTraces.{positions}
use Rattle.bench_rules.proofs.BlockMoveLemmas.{range-parts}
use Rattle.many_traces.specs.Arranged.{Arranges, Puts}
use Rattle.many_traces.proofs.ExchangeLemmas.{own-map}

-- the items behind so many, and then these: as many as there are, and the same
abbrev pub turned : (before behind : ℕ) → List ℕ
turned before behind = range_with_len before behind ++ range_with_len 0 before

pub length-turned : (before behind : ℕ) → length (turned before behind) ≡ before + behind
length-turned before behind = omega (arith, length-append (range_with_len before behind) (range_with_len 0 before), length-range_with_len before behind, length-range_with_len 0 before)

pub turned-permutes : (before behind : ℕ) → IsPermutation (range_with_len 0 (length (turned before behind))) (turned before behind)
turned-permutes before behind =
    let from : before ≡ 0 + before = omega arith in
    let whole : range_with_len 0 before ++ range_with_len before behind ≡ range_with_len 0 (length (turned before behind)) =
    ap (λ i. range_with_len 0 before ++ range_with_len i behind) from ∙ range-parts 0 before behind ∙ ap (range_with_len 0) (sym (length-turned before behind)) in
    subst (λ l. IsPermutation l (turned before behind)) whole (IsPermutation-append_comm (range_with_len 0 before) (range_with_len before behind))

-- by their positions
placed : (first before behind : ℕ) → map (λ k. first + k) (turned before behind) ≡ range_with_len (first + before) behind ++ range_with_len (first + 0) before
placed first before behind =
    map-append (λ k. first + k) (range_with_len before behind) (range_with_len 0 before)
    ∙ ap (λ l. l ++ map (λ k. first + k) (range_with_len 0 before)) (own-map first behind before)
    ∙ ap (λ l. range_with_len (first + before) behind ++ l) (own-map first before 0)

-- pairs that turn the items put the traces in the order that they make
puts-turned : (low high before behind : ℕ) (order : List ℕ) (pairs : List (ℕ × ℕ)) → 1 ≤ low → low ≤ high → before + behind ≡ high + 1 - low → order ≡ range_with_len (low + before) behind ++ range_with_len (low + 0) before
    → Arranges low (turned before behind) pairs → Puts low high order pairs
puts-turned low high before behind order pairs from until many is r =
    let long : length (turned before behind) ≡ high + 1 - low = length-turned before behind ∙ many in
    record {
      places = λ n h. r.places n (omega (arith, h, long, from, until));
      put = λ front rest at.
          ap (λ n. with_swapped (front ++ (range_with_len low n ++ rest)) pairs) (sym long)
          ∙ (r.arranged front rest at ∙ ap (λ l. front ++ (l ++ rest)) (placed low before behind ∙ sym is));
    }

module _ (a b to : ℕ) (pairs : List (ℕ × ℕ)) (low : 1 ≤ a) (high : a ≤ b) (first : 1 ≤ to) where
  -- the block comes in front of the traces that it passes
  pub puts-in-front : to ≤ a → Arranges to (turned (a - to) (b - a + 1)) pairs → Puts (first_moved a to) (last_moved a b to) (block_order a b to) pairs
  puts-in-front less r = by (leb to a) refl
    where
      by : (t : Bool) → leb to a ≡ t → Puts (first_moved a to) (last_moved a b to) (block_order a b to) pairs
      by false is = absurd (omega (arith, leb-false to a is, less))
      by true is =
          let one : first_moved a to ≡ to = omega (arith, less) in
          let two : last_moved a b to ≡ b = omega (arith, less, high) in
          let i : a ≡ to + (a - to) = omega (arith, less) in
          let m : b + 1 - a ≡ b - a + 1 = omega (arith, high) in
          let j : to ≡ to + 0 = omega arith in
          let n : a - 1 + 1 - to ≡ a - to = omega (arith, low) in
          let order : positions a b ++ positions to (a - 1) ≡ range_with_len (to + (a - to)) (b - a + 1) ++ range_with_len (to + 0) (a - to) =
          ap (λ k. range_with_len k (b + 1 - a) ++ positions to (a - 1)) i
          ∙ ap (λ k. range_with_len (to + (a - to)) k ++ positions to (a - 1)) m
          ∙ ap (λ k. range_with_len (to + (a - to)) (b - a + 1) ++ range_with_len k (a - 1 + 1 - to)) j
          ∙ ap (λ k. range_with_len (to + (a - to)) (b - a + 1) ++ range_with_len (to + 0) k) n in
          rw (is, one, two) (puts-turned to b (a - to) (b - a + 1) (positions a b ++ positions to (a - 1)) pairs first (omega (arith, less, high)) (omega (arith, less, high)) order r)

  -- or behind them
  pub puts-behind : a < to → Arranges a (turned (b - a + 1) (to - a)) pairs → Puts (first_moved a to) (last_moved a b to) (block_order a b to) pairs
  puts-behind less r = by (leb to a) refl
    where
      by : (t : Bool) → leb to a ≡ t → Puts (first_moved a to) (last_moved a b to) (block_order a b to) pairs
      by true is = absurd (omega (arith, leb-true to a is, less))
      by false is =
          let one : first_moved a to ≡ a = omega (arith, less) in
          let two : last_moved a b to ≡ to + (b - a) = omega (arith, less, high) in
          let i : b + 1 ≡ a + (b - a + 1) = omega (arith, high) in
          let m : to + (b - a) + 1 - (b + 1) ≡ to - a = omega (arith, high, less) in
          let j : a ≡ a + 0 = omega arith in
          let n : b + 1 - a ≡ b - a + 1 = omega (arith, high) in
          let order : positions (b + 1) (to + (b - a)) ++ positions a b ≡ range_with_len (a + (b - a + 1)) (to - a) ++ range_with_len (a + 0) (b - a + 1) =
          ap (λ k. range_with_len k (to + (b - a) + 1 - (b + 1)) ++ positions a b) i
          ∙ ap (λ k. range_with_len (a + (b - a + 1)) k ++ positions a b) m
          ∙ ap (λ k. range_with_len (a + (b - a + 1)) (to - a) ++ range_with_len k (b + 1 - a)) j
          ∙ ap (λ k. range_with_len (a + (b - a + 1)) (to - a) ++ range_with_len (a + 0) k) n in
          rw (is, one, two) (puts-turned a (to + (b - a)) (b - a + 1) (to - a) (positions (b + 1) (to + (b - a)) ++ positions a b) pairs low (omega (arith, high, less)) (omega (arith, high, less)) order r)
