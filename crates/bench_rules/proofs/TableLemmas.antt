-- The rows of a table.
use Rattle.std.proofs.Common.{◌≡◌, ◌<◌, ◌≤◌, ◌+◌, ◌*◌, ◌-◌, ℕ, suc, List, length, take, drop, zero, Some, ap, subst, ◌∙◌, arith}
use Rattle.std.proofs.Math.Nat.{mul-le-mul_left}
use Rattle.std.proofs.lemmas.List.FromFn.{length-map-range_with_len}
use Rattle.std.proofs.lemmas.Option.{slice_get-map}
use Rattle.std.specs.Global.{Global}
use Rattle.std.specs.Prelude.{ℤ, Vec, Option, None, option_map, slice_get}
use Rattle.std.specs.List.{range_with_len}
use Rattle.bench_rules.specs.Tables.{AreAbove, AreCounted, position_in, rows_of}

-- row k of n ends among the numbers of all n
pub row_ends : (w k n : ℕ) → k < n → w * k + w ≤ w * n
row_ends w k n below = let e : w * suc k ≡ w * k + w = omega arith in subst (λ (m : ℕ). m ≤ w * n) e (mul-le-mul_left w below)

-- as many rows as are counted
pub rows_counted : (listed : Option (Vec ℕ Global)) (first n w : ℕ) (xs : List ℤ) → length (rows_of listed first n w xs) ≡ n
rows_counted listed first n w xs = length-map-range_with_len (λ k. (position_in listed first k, take w (drop (w * k) xs))) 0 n

-- a position that is counted from 0
position_at : (a n k : ℕ) → k < n → slice_get (range_with_len a n) k ≡ Some (a + k)
position_at a zero k below = elim below [ ]
position_at a (suc n) zero below = ap (λ (x : ℕ). Some x) (omega arith)
position_at a (suc n) (suc k) below = position_at (a + 1) n k (omega arith) ∙ ap (λ (x : ℕ). Some x) (omega arith)

counted_at : (n k : ℕ) → k < n → slice_get (range_with_len 0 n) k ≡ Some k
counted_at n k below = position_at 0 n k below ∙ ap (λ (x : ℕ). Some x) (omega arith)

-- row k, and its numbers up to where they end
pub row_at : (listed : Option (Vec ℕ Global)) (first n w k : ℕ) (xs : List ℤ) → k < n → slice_get (rows_of listed first n w xs) k ≡ Some (position_in listed first k, take (w * k + w - w * k) (drop (w * k) xs))
row_at listed first n w k xs below =
    slice_get-map (λ j. (position_in listed first j, take w (drop (w * j) xs))) (range_with_len 0 n) k
    ∙ ap (λ (o : Option ℕ). option_map (λ j. (position_in listed first j, take w (drop (w * j) xs))) o) (counted_at n k below)
    ∙ ap (λ (m : ℕ). Some (position_in listed first k, take m (drop (w * k) xs))) (omega arith)

-- as many traces are listed
pub above : (listed : Option (Vec ℕ Global)) (n k : ℕ) → AreCounted listed n → k < n → AreAbove k listed
above None n k many below = tt
above (Some ps) n k many below = omega (arith, many, below)

-- a row that is shown is one of those that are counted
pub row_below : (listed : Option (Vec ℕ Global)) (first n w : ℕ) (xs : List ℤ) (shown : List (ℕ × List ℤ)) (k : ℕ) → rows_of listed first n w xs ≡ shown → k < length shown → k < n
row_below listed first n w xs shown k is below = omega (arith, below, ap (λ (rows : List (ℕ × List ℤ)). length rows) is, rows_counted listed first n w xs)
