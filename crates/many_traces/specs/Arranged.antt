-- Traces that come in the place of one another, two at a time, until they stand in an order.
use Rattle.std.specs.Prelude.{◌≡◌, ◌≢◌, ℕ, ◌+◌, ◌-◌, ◌<◌, ◌≤◌, ◌^◌, min, ℤ, Bool, Option, Some, None, List, [], ◌++◌, length, map, slice_index, slice_index_or}
use Rattle.std.specs.List.{range_with_len}
use Rattle.std.specs.List.Sorted.{IsPermutation}
use Rattle.field_map.specs.declared.place.Place.{Place}
use Rattle.frame_cut.specs.Volume.{Volume}
use Rattle.trace_store.specs.Swapped.{with_swapped, ArePlaces}
use Rattle.bench_rules.specs.ManyTraces.{positions}
use Rattle.bench_rules.specs.Refused.{sort_refusal}
use Rattle.bench_rules.specs.Sorted.{in_order, order_of}

-- row k of these, or the last one where there are fewer
abbrev pub row_near : List (ℕ × List ℤ) → ℕ → ℕ × List ℤ
row_near rows k = slice_index_or rows (min k (length rows - 1)) (0, [])

-- pairs of positions that put those from `first` on into this order of theirs, counted from 0, and leave those before and behind them
pub record Arranges (first : ℕ) (order : List ℕ) (pairs : List (ℕ × ℕ)) : Type 0 where
  pub places : (n : ℕ) → first - 1 + length order ≤ n → ArePlaces n pairs
  pub arranged : (front behind : List ℕ) → length front ≡ first - 1 → with_swapped (front ++ (range_with_len first (length order) ++ behind)) pairs ≡ front ++ (map (λ k. first + k) order ++ behind)

-- which item stands at each place, where each item stands, and pairs that brought them there; items and places count from 0
pub record AreInStep (first : ℕ) (standing places : List ℕ) (pairs : List (ℕ × ℕ)) : Type 0 where
  pub low : 1 ≤ first
  pub last : first + length standing ≤ 2 ^ 32
  pub long : length places ≡ length standing
  pub there : (item : ℕ) → item < length standing → (slice_index places item < length standing) × (slice_index standing (slice_index places item) ≡ item)
  pub back : (place : ℕ) → place < length standing → (slice_index standing place < length standing) × (slice_index places (slice_index standing place) ≡ place)
  pub by_pairs : Arranges first standing pairs

-- the item stands at the place, and only the one that stood there has gone elsewhere
pub record IsBrought (old new : List ℕ) (place item : ℕ) : Type 0 where
  pub long : length new ≡ length old
  pub there : slice_index new place ≡ item
  pub others : (k : ℕ) → k ≢ place → slice_index old k ≢ item → slice_index new k ≡ slice_index old k

-- pairs of positions that put the rows from position `first` on in order
pub record PutsRows (first : ℕ) (rows : List (ℕ × List ℤ)) (falls : List Bool) (pairs : List (ℕ × ℕ)) : Type 0 where
  pub order : List ℕ
  pub permutes : IsPermutation (range_with_len 0 (length rows)) order
  pub is : in_order falls rows ≡ map (row_near rows) order
  pub by_pairs : Arranges first order pairs

-- pairs of positions that put positions a to b in this order, and leave those before and behind them
pub record Puts (a b : ℕ) (order : List ℕ) (pairs : List (ℕ × ℕ)) : Type 0 where
  pub places : (n : ℕ) → b ≤ n → ArePlaces n pairs
  pub put : (front behind : List ℕ) → length front ≡ a - 1 → with_swapped (front ++ (positions a b ++ behind)) pairs ≡ front ++ (order ++ behind)

-- nothing refuses the sort, and these pairs of positions put traces a to b in the order of their numbers at the places
pub record Sorts (v : Volume) (places : Option (List Place)) (falls : List Bool) (a b : ℕ) (pairs : List (ℕ × ℕ)) : Type 0 where
  pub none : sort_refusal v a b places ≡ None
  pub puts : (ps : List Place) (order : List ℕ) → places ≡ Some ps → order_of v ps falls a b ≡ Some order → Puts a b order pairs
