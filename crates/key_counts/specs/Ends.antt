-- The least and the greatest of the keys that are counted.
use Rattle.std.specs.Prelude.{◌≡◌, ℕ, ◌<◌, false, Option, Some, None}
use Rattle.std.specs.Ordering.{is_gt}
use Rattle.std.specs.declared.cmp.Ordering.{Ordering}

module _ {K : Type 0} (cmp : K → K → Ordering) where
  -- a counted key that is above no counted key, and none where none is counted
  abbrev pub IsLeast : (K → ℕ) → Option K → Type 0
  IsLeast count None = (k : K) → count k ≡ 0
  IsLeast count (Some l) = (0 < count l) × ((k : K) → 0 < count k → is_gt (cmp l k) ≡ false)

  -- a counted key that no counted key is above, and none where none is counted
  abbrev pub IsGreatest : (K → ℕ) → Option K → Type 0
  IsGreatest count None = (k : K) → count k ≡ 0
  IsGreatest count (Some g) = (0 < count g) × ((k : K) → 0 < count k → is_gt (cmp k g) ≡ false)

-- l and g are counted, and nothing that is counted is below l or above g
pub record IsBetween {K : Type 0} (cmp : K → K → Ordering) (count : K → ℕ) (l g : K) : Type 0 where
  pub least_occurs : 0 < count l
  pub greatest_occurs : 0 < count g
  pub none_below : (k : K) → 0 < count k → is_gt (cmp l k) ≡ false
  pub none_above : (k : K) → 0 < count k → is_gt (cmp k g) ≡ false

-- the least and the greatest of what is counted, and none where nothing is
abbrev pub IsSpan : {K : Type 0} → (K → K → Ordering) → (K → ℕ) → Option (K × K) → Type 0
IsSpan {K} cmp count None = (k : K) → count k ≡ 0
IsSpan {K} cmp count (Some r) = IsBetween cmp count r.0 r.1
