-- What a `Counts` is seen as: the keys that it holds, rising, each with its positive number.
use Rattle.std.specs.Prelude.{◌≡◌, ℕ, ◌+◌, ◌-◌, ◌==◌, if◌then◌else◌, List, fold}
use Rattle.std.specs.Ordering.{is_eq}
use Rattle.std.specs.Map.{lookup, set_value, remove_entry, count_at}
use Rattle.std.specs.declared.cmp.Ordering.{Ordering}
use Rattle.std.specs.BTreeMap.{insert_entry, is_at}

module _ {K : Type 0} (cmp : K → K → Ordering) where
  -- the number at the key, or 0
  abbrev pub count_of : List (K × ℕ) → K → ℕ
  count_of es k = count_at (λ q. lookup (is_at (cmp q)) es) k

  -- one more at the key
  abbrev pub with_one_more : List (K × ℕ) → K → List (K × ℕ)
  with_one_more es k = insert_entry cmp es k (count_of es k + 1)

  -- one more at each of the keys in turn
  abbrev pub with_each_more : List (K × ℕ) → List K → List (K × ℕ)
  with_each_more es ks = fold with_one_more es ks

  -- one less at the key, which is left out at 0
  abbrev pub with_one_less : List (K × ℕ) → K → List (K × ℕ)
  with_one_less es k = if count_of es k == 1 then remove_entry (is_at (cmp k)) es else set_value (is_at (cmp k)) es (count_of es k - 1)

  -- the key has one more than it had, and each other the same
  abbrev pub HasOneMore : List (K × ℕ) → List (K × ℕ) → K → Type 0
  HasOneMore old new k = (q : K) → count_of new q ≡ count_of old q + (if is_eq (cmp k q) then 1 else 0)
