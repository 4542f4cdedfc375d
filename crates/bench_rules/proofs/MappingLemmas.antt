-- Geometry names that are bound one after another: where nothing refuses them.
use Rattle.std.proofs.Common.{◌≡◌, ℕ, Bool, true, false, List, [], ◌∷◌, Option, None, refl, arith}
use Rattle.std.proofs.lemmas.Bool.Decides.{nat_tests}
use Rattle.std.specs.Prelude.{◌&&◌, not, nat_lt}
use Rattle.std.specs.List.{list_all}
use Rattle.field_map.specs.declared.place.Place.{Place}
use Rattle.field_map.specs.Binding.{HasGeometry, bind_fault, geometry_at_load, is_bad_kind, is_geometry, is_name, is_outside, is_standard}
use Rattle.field_map.specs.Pairs.{Pairs, bound, is_bound}
use Rattle.field_map.proofs.GeometryLemmas.{HasGeometry-at-load, HasGeometry-set, geometry-bound, place-bindable}
use Rattle.bench_rules.specs.declared.mapping.Mapping.{Mapping}
use Rattle.bench_rules.specs.declared.mapping.Mapping.TheVariants.{Shot, Usual}
use Rattle.bench_rules.specs.Mappings.{MayBeBound, bindings, first_bind_fault}
use Rattle.bench_rules.proofs.SetLemmas.{both}

-- nothing refuses the name with the place, where it is bound
abbrev is_free : ℕ → List ℕ × Place → Bool
is_free e b = is_geometry b.0 && (is_name b.0 && (not (is_outside e b.0 b.1) && (not (is_bad_kind b.0 b.1.kind) && not (is_standard b.0))))

not-below-0 : (n : ℕ) → nat_lt n 0 ≡ false
not-below-0 n = grind (arith, nat_tests)

all-free : (e : ℕ) (mapping : Mapping) → list_all (is_free e) (bindings mapping) ≡ true
all-free e Shot = simp not-below-0
all-free e Usual = simp not-below-0

not-so : (b : Bool) → not b ≡ true → b ≡ false
not-so true h = absurd cc
not-so false h = refl

none-so : (e : ℕ) (pairs : Pairs) (name : List ℕ) (place : Place) → is_name name ≡ true → is_outside e name place ≡ false → is_bad_kind name place.kind ≡ false → is_bound pairs name ≡ true → is_standard name ≡ false
    → bind_fault e pairs name place ≡ None
none-so e pairs name place named inside kind there own = rw (named, inside, kind, there, own) refl

-- what is known of a name that nothing refuses
record IsFree (e : ℕ) (pairs : Pairs) (b : List ℕ × Place) : Type 0 where
  geometry : is_geometry b.0 ≡ true
  none : bind_fault e pairs b.0 b.1 ≡ None

free : (e : ℕ) (pairs : Pairs) (b : List ℕ × Place) → is_free e b ≡ true → HasGeometry e pairs → IsFree e pairs b
free e pairs b h has =
    let one = both _ _ h in
    let two = both _ _ one.1 in
    let three = both _ _ two.1 in
    let four = both _ _ three.1 in
    record {
      geometry = one.0;
      none = none-so e pairs b.0 b.1 two.0 (not-so _ three.0) (not-so _ four.0) (geometry-bound e pairs b.0 has one.0) (not-so _ four.1);
    }

none-refused : (e : ℕ) (pairs bs : Pairs) → list_all (is_free e) bs ≡ true → HasGeometry e pairs → first_bind_fault e pairs bs ≡ None
none-refused e pairs [] h has = refl
none-refused e pairs (b ∷ bs) h has =
    let parts = both (is_free e b) (list_all (is_free e) bs) h in
    let f = free e pairs b parts.0 has in
    rw f.none (none-refused e (bound pairs b.0 b.1) bs parts.1 (HasGeometry-set e pairs b.0 b.1 (place-bindable e pairs b.0 b.1 f.geometry f.none) has))

all-stand : (e : ℕ) (bs : Pairs) → list_all (is_free e) bs ≡ true → MayBeBound e bs
all-stand e [] h = tt
all-stand e (b ∷ bs) h =
    let parts = both (is_free e b) (list_all (is_free e) bs) h in
    let f = free e geometry_at_load b parts.0 (HasGeometry-at-load e) in
    (f.geometry, place-bindable e geometry_at_load b.0 b.1 f.geometry f.none, all-stand e bs parts.1)

-- nothing refuses a mapping, where each geometry name is bound
pub mapping-free : (e : ℕ) (pairs : Pairs) (mapping : Mapping) → HasGeometry e pairs → first_bind_fault e pairs (bindings mapping) ≡ None
mapping-free e pairs mapping has = none-refused e pairs (bindings mapping) (all-free e mapping) has

-- and each of its names may stand at its place
pub mapping-stands : (e : ℕ) (mapping : Mapping) → MayBeBound e (bindings mapping)
mapping-stands e mapping = all-stand e (bindings mapping) (all-free e mapping)
