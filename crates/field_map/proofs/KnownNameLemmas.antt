-- The standard names among those of the trace header.
use Rattle.std.proofs.Common.{◌≡◌, ◌∙◌, refl, sym, ap, ℕ, Bool, true, false, List, [], ◌∷◌, map, drop, Option, Some, None, bytes_eq}
use Rattle.std.proofs.lemmas.Slice.Eq.{bytes_eq-Decides}
use Rattle.std.specs.Option.{option_or}
use Rattle.field_map.specs.declared.place.Place.{Place}
use Rattle.field_map.specs.Pairs.{Pairs, place_of}
use Rattle.field_map.specs.StandardNames.{standard_names, standard_place}
use Rattle.field_map.specs.HeaderNames.{header_names}

-- the first of a list of finds
abbrev first : List (Option Place) → Option Place
first [] = None
first (o ∷ os) = o

-- a list of which each name has its place in another: what it finds, the other finds
part : (xs ys : Pairs) → map (λ e. place_of ys e.0) xs ≡ map (λ e. Some e.1) xs → (name : List ℕ) (p : Place) → place_of xs name ≡ Some p → place_of ys name ≡ Some p
part [] ys h name p e = absurd cc
part (x ∷ xs) ys h name p e = go (bytes_eq name x.0) refl (part xs ys (ap (drop 1) h) name p)
  where
    go : (b : Bool) → bytes_eq name x.0 ≡ b → (place_of xs name ≡ Some p → place_of ys name ≡ Some p) → place_of ys name ≡ Some p
    go true is rest = ap (place_of ys) ((bytes_eq-Decides name x.0).0 is) ∙ ap first h ∙ sym (rw is refl) ∙ e
    go false is rest = rest (sym (rw is refl) ∙ e)

-- a search of the standard names first changes nothing
pub standard_first : (name : List ℕ) (o : Option Place) → option_or (standard_place name) (option_or (place_of header_names name) o) ≡ option_or (place_of header_names name) o
standard_first name o = by (standard_place name) refl
  where
    by : (found : Option Place) → standard_place name ≡ found → option_or (standard_place name) (option_or (place_of header_names name) o) ≡ option_or (place_of header_names name) o
    by None is = rw is refl
    by (Some p) is = rw (is, part standard_names header_names refl name p is) refl
