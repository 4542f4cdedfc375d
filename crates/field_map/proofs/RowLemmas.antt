-- A table of names, looked up row by row.
use Rattle.std.proofs.Common.{◌≡◌, ◌↔◌, refl, ℕ, ◌+◌, ◌<◌, Bool, true, false, List, [], ◌∷◌, length, drop, get_or, slice_get, Option, Some, None, zero, suc, arith, add-one, drop-cons, bytes_eq}
use Rattle.std.specs.Bool.{IsTrue, one_answer}
use Rattle.std.proofs.lemmas.List.{length-map}
use Rattle.std.proofs.lemmas.Slice.Eq.{bytes_eq-Decides}
use Rattle.std.specs.Slice.{IsItemAt}
use Rattle.std.specs.Option.{option_copied}
use Rattle.std.specs.Borrow.{Bor}
use Rattle.field_map.specs.declared.place.Place.{Place}
use Rattle.field_map.specs.Pairs.{place_of, rows_as, rows_shown, IsPairAt}

-- a test that says whether two texts are the same answers as their comparison
pub tested : {b : Bool} {xs ys : List ℕ} → (IsTrue b ↔ (xs ≡ ys)) → bytes_eq xs ys ≡ b
tested {b} {xs} {ys} h = one_answer (bytes_eq xs ys) b (bytes_eq-Decides xs ys) h

module _ (f : List ℕ → List ℕ) (rows : List (Bor (List ℕ) × Place)) (i : ℕ) (d : Bor (List ℕ) × Place) (name : List ℕ) (low : i < length rows) where
  -- among the rows from the i-th on, the place of a name that the i-th has
  pub place_of-here : bytes_eq name (f (get_or rows i d).0.now) ≡ true → place_of (rows_as f (drop i rows)) name ≡ Some (get_or rows i d).1
  place_of-here h = rw (drop-cons rows i d low, h) refl

  -- the place of one that it does not have stands behind it
  pub place_of-behind : bytes_eq name (f (get_or rows i d).0.now) ≡ false → place_of (rows_as f (drop i rows)) name ≡ place_of (rows_as f (drop (i + 1) rows)) name
  place_of-behind h = rw (drop-cons rows i d low, add-one i, h) refl

-- what stands at k in a table
at : (rows : List (Bor (List ℕ) × Place)) (k : ℕ) (d : Bor (List ℕ) × Place) → k < length rows → slice_get (rows_shown rows) k ≡ Some ((get_or rows k d).0.now, (get_or rows k d).1)
at [] k d low = absurd (omega (arith, low))
at (row ∷ rows) zero d low = refl
at (row ∷ rows) (suc k) d low = at rows k d (omega (arith, low))

-- row k of a table gives the name and the place that stand at k
pub field_of_row : (rows : List (Bor (List ℕ) × Place)) (k : ℕ) (r : Option (Bor (Bor (List ℕ) × Place))) → IsItemAt rows k r
    → IsPairAt (rows_shown rows) k (option_copied r)
field_of_row rows k None item = rw (length-map {B = List ℕ × Place} rows (λ (e : Bor (List ℕ) × Place). (e.0.now, e.1))) item.3
field_of_row rows k (Some row) item = rw (item.4 (omega arith) row.now) (at rows k row.now item.3.0)
