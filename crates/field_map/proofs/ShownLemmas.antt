-- What is shown of a map's entries, with the names as bytes, after a look-up and a change.
use Rattle.std.proofs.Common.{◌≡◌, ◌∙◌, ap, ℕ, Bool, true, false, List, [], ◌∷◌, map, refl}
use Rattle.std.specs.Prelude.{bytes_eq}
use Rattle.indexmap.specs.IndexMap.{insert_entry}
use Rattle.std.specs.Map.{lookup, remove_entry, set_value}
use Rattle.field_map.specs.declared.place.Place.{Place}
use Rattle.field_map.specs.Pairs.{Pairs, bound, is_bound}

module _ {K B V : Type 0} (f : K → B) (test : K → Bool) (read : B → Bool) (same : (k : K) → test k ≡ read (f k)) where
  abbrev shown : List (K × V) → List (B × V)
  shown es = map (λ e. (f e.0, e.1)) es

  pub lookup-shown : (es : List (K × V)) → lookup test es ≡ lookup read (shown es)
  lookup-shown [] = refl
  lookup-shown (e ∷ es) = rw (same e.0, lookup-shown es) refl

  pub remove_entry-shown : (es : List (K × V)) → shown (remove_entry test es) ≡ remove_entry read (shown es)
  remove_entry-shown [] = refl
  remove_entry-shown (e ∷ es) = go (read (f e.0)) refl (remove_entry-shown es)
    where
      go : (b : Bool) → read (f e.0) ≡ b → shown (remove_entry test es) ≡ remove_entry read (shown es) → shown (remove_entry test (e ∷ es)) ≡ remove_entry read (shown (e ∷ es))
      go true h rest = rw (same e.0, h) refl
      go false h rest = rw (same e.0, h) (ap (λ xs. (f e.0, e.1) ∷ xs) rest)

  pub set_value-shown : (v : V) (es : List (K × V)) → shown (set_value test es v) ≡ set_value read (shown es) v
  set_value-shown v [] = refl
  set_value-shown v (e ∷ es) = go (read (f e.0)) refl (set_value-shown v es)
    where
      go : (b : Bool) → read (f e.0) ≡ b → shown (set_value test es v) ≡ set_value read (shown es) v → shown (set_value test (e ∷ es) v) ≡ set_value read (shown (e ∷ es)) v
      go true h rest = rw (same e.0, h) refl
      go false h rest = rw (same e.0, h) (ap (λ xs. (f e.0, e.1) ∷ xs) rest)

module _ {K B V : Type 0} (f : K → B) (eq : K → K → Bool) (same_bytes : B → B → Bool) (same : (j k : K) → eq j k ≡ same_bytes (f j) (f k)) (k : K) (v : V) where
  pub insert_entry-shown : (es : List (K × V)) → map (λ e. (f e.0, e.1)) (insert_entry eq es k v) ≡ insert_entry same_bytes (map (λ e. (f e.0, e.1)) es) (f k) v
  insert_entry-shown [] = refl
  insert_entry-shown (e ∷ es) = go (same_bytes (f k) (f e.0)) refl (insert_entry-shown es)
    where
      go : (b : Bool) → same_bytes (f k) (f e.0) ≡ b → map (λ x. (f x.0, x.1)) (insert_entry eq es k v) ≡ insert_entry same_bytes (map (λ x. (f x.0, x.1)) es) (f k) v
          → map (λ x. (f x.0, x.1)) (insert_entry eq (e ∷ es) k v) ≡ insert_entry same_bytes (map (λ x. (f x.0, x.1)) (e ∷ es)) (f k) v
      go true h rest = rw (same k e.0, h) refl
      go false h rest = rw (same k e.0, h) (ap (λ xs. (f e.0, e.1) ∷ xs) rest)

-- an insertion of the map is a binding
pub insert_entry-bound : (es : Pairs) (name : List ℕ) (place : Place) → insert_entry bytes_eq es name place ≡ bound es name place
insert_entry-bound [] name place = refl
insert_entry-bound (e ∷ es) name place = go (bytes_eq name e.0) refl (is_bound es name) refl (insert_entry-bound es name place)
  where
    go : (b : Bool) → bytes_eq name e.0 ≡ b → (there : Bool) → is_bound es name ≡ there → insert_entry bytes_eq es name place ≡ bound es name place
        → insert_entry bytes_eq (e ∷ es) name place ≡ bound (e ∷ es) name place
    go true h there g rest = rw h refl
    go false h true g rest = rw (h, g) (ap (λ xs. e ∷ xs) (rest ∙ (rw g refl)))
    go false h false g rest = rw (h, g) (ap (λ xs. e ∷ xs) (rest ∙ (rw g refl)))
