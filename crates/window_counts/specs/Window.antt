-- Counts of keys that have a place, beside counts of the others.
use Rattle.std.specs.Prelude.{◌≡◌, ℕ, zero, suc, ◌<◌, Bool, true, false, List, [], ◌∷◌, length, slice_index, if◌then◌else◌, Option, Some, None}
use Rattle.std.specs.Ordering.{is_lt}
use Rattle.std.specs.declared.cmp.Ordering.{Ordering}
use Rattle.std.specs.declared.cmp.Ordering.TheVariants.{Less, Equal}
use Rattle.key_counts.specs.Counts.{count_of}

-- a key with its number, unless that is 0, in front of others
abbrev pub entry_before : {K : Type 0} → K → ℕ → List (K × ℕ) → List (K × ℕ)
entry_before k zero es = es
entry_before k (suc n) es = (k, suc n) ∷ es

-- the keys of places with a number above 0, place by place, each with its number
abbrev pub entries : {K : Type 0} → (ℕ → K) → List ℕ → List (K × ℕ)
entries key [] = []
entries key (n ∷ ns) = entry_before (key 0) n (entries (λ p. key (suc p)) ns)

-- the number at a place, 0 where there is none
abbrev pub number_in : List ℕ → Option ℕ → ℕ
number_in ns None = 0
number_in ns (Some p) = slice_index ns p

-- so many keys have a place each, in their order
pub record ArePlaced {K : Type 0} (cmp : K → K → Ordering) (size : ℕ) (place : K → Option ℕ) (key : ℕ → K) : Type 0 where
  pub within : (k : K) (p : ℕ) → place k ≡ Some p → (p < size) × (cmp k (key p) ≡ Equal)
  pub found : (k : K) (p : ℕ) → p < size → cmp k (key p) ≡ Equal → place k ≡ Some p
  pub rising : (p q : ℕ) → p < q → q < size → cmp (key p) (key q) ≡ Less

-- each place has a number, and what is counted apart has no place
pub record IsApart {K : Type 0} (cmp : K → K → Ordering) (size : ℕ) (place : K → Option ℕ) (ns : List ℕ) (outside : List (K × ℕ)) : Type 0 where
  pub places : length ns ≡ size
  pub apart : (k : K) (p : ℕ) → place k ≡ Some p → count_of cmp outside k ≡ 0

module _ {K : Type 0} (cmp : K → K → Ordering) where
  -- the next entry of two lists that are merged is the first list's
  abbrev pub is_first : List (K × ℕ) → List (K × ℕ) → Bool
  is_first [] ys = false
  is_first (x ∷ xs) [] = true
  is_first (x ∷ xs) (y ∷ ys) = is_lt (cmp x.0 y.0)

  -- x in front of xs, merged with the last argument, where `on` merges xs with a list
  abbrev pub merge_step : K × ℕ → List (K × ℕ) → (List (K × ℕ) → List (K × ℕ)) → List (K × ℕ) → List (K × ℕ)
  merge_step x xs on [] = x ∷ xs
  merge_step x xs on (y ∷ ys) = if is_lt (cmp x.0 y.0) then x ∷ on (y ∷ ys) else (y ∷ merge_step x xs on ys)

  -- two lists of keys with their numbers in one, the lesser key first
  abbrev pub merge : List (K × ℕ) → List (K × ℕ) → List (K × ℕ)
  merge [] ys = ys
  merge (x ∷ xs) ys = merge_step x xs (merge xs) ys
