-- The keys that occur in a list, in rising order and each once, and how often each occurs.
use Rattle.std.specs.Prelude.{◌≡◌, ℕ, ◌<◌, Bool, List, [], ◌∷◌, map, count_by, All}
use Rattle.std.specs.List.{list_any}
use Rattle.std.specs.List.Sorted.{IsStrictlySortedBy}
use Rattle.std.specs.Ordering.{is_eq}
use Rattle.std.specs.BTreeSet.{insert_key}
use Rattle.std.specs.Map.{keys_of, values_of}
use Rattle.std.specs.declared.cmp.Ordering.{Ordering}
use Rattle.key_counts.specs.Counts.{count_of}

-- the keys of a list, rising, each once
abbrev pub rising : {K : Type 0} → (K → K → Ordering) → List K → List K
rising cmp [] = []
rising cmp (k ∷ ks) = insert_key cmp (rising cmp ks) k

-- whether the key occurs
abbrev pub occurs : {K : Type 0} → (K → K → Ordering) → K → List K → Bool
occurs cmp k ks = list_any (λ q. is_eq (cmp k q)) ks

-- the list is strictly rising, and has exactly the keys of the other
pub record IsRisingOf {K : Type 0} (cmp : K → K → Ordering) (keys list : List K) : Type 0 where
  pub sorted : IsStrictlySortedBy cmp list
  pub same : (k : K) → occurs cmp k list ≡ occurs cmp k keys

-- how often the key occurs
abbrev pub times_in : {K : Type 0} → (K → K → Ordering) → List K → K → ℕ
times_in cmp ks k = count_by (λ q. is_eq (cmp q k)) ks

-- the keys of a list, rising, each with how often it occurs
abbrev pub occurrences : {K : Type 0} → (K → K → Ordering) → List K → List (K × ℕ)
occurrences cmp ks = map (λ k. (k, times_in cmp ks k)) (rising cmp ks)

-- the list has each key whose number is above 0 and no other, rising, with its number
pub record Shows {K : Type 0} (cmp : K → K → Ordering) (number : K → ℕ) (list : List (K × ℕ)) : Type 0 where
  pub sorted : IsStrictlySortedBy cmp (keys_of list)
  pub positive : All (λ n. 0 < n) (values_of list)
  pub counts : (k : K) → count_of cmp list k ≡ number k
