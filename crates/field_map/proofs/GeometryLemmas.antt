-- The geometry names stay bound to places where they may stand.
use Rattle.std.proofs.Common.{◌≡◌, ◌∙◌, ap, sym, subst, arith, ℕ, Bool, true, false, List, [], ◌∷◌, refl}
use Rattle.std.proofs.lemmas.Bool.Decides.{nat_tests}
use Rattle.std.specs.Prelude.{bytes_eq, unwrap_or, not, ◌&&◌, ◌||◌, Option, Some, None, is_some, nat_lt, if◌then◌else◌}
use Rattle.std.specs.Option.{option_map_or}
use Rattle.std.specs.List.{list_all}
use Rattle.std.specs.Map.{remove_entry}
use Rattle.std.proofs.lemmas.Slice.Eq.{bytes_eq-Decides}
use Rattle.indexmap.specs.IndexMap.{insert_entry}
use Rattle.num_order.specs.Number.{is_size}
use Rattle.field_map.specs.declared.place.Place.{Place}
use Rattle.field_map.specs.declared.map_fault.MapFault.{MapFault}
use Rattle.field_map.specs.declared.map_fault.MapFault.TheVariants.{BadName, OutsideHeader, BadKind, Full, Standard}
use Rattle.field_map.specs.Pairs.{Pairs, place_of, bound, unbound}
use Rattle.field_map.specs.Binding.{HasGeometry, is_geometry, is_geometry_place, is_geometry_kind, is_outside, is_bad_kind, is_name, is_full, is_standard, bind_fault, geometry_at_load}
use Rattle.field_map.specs.SixPlaces.{StandsAt}
use Rattle.field_map.proofs.ShownLemmas.{insert_entry-bound}

-- ---- what a look-up finds after a change

-- a name that is not n is not a name that is n
other : (q n k : List ℕ) → bytes_eq n k ≡ true → bytes_eq q n ≡ false → bytes_eq q k ≡ false
other q n k same h = subst (λ (x : List ℕ). bytes_eq q x ≡ false) ((bytes_eq-Decides n k).0 same) h

place-inserted : (es : Pairs) (n : List ℕ) (p : Place) → place_of (insert_entry bytes_eq es n p) n ≡ Some p
place-inserted [] n p = rw ((bytes_eq-Decides n n).1 refl) refl
place-inserted (e ∷ es) n p = go (bytes_eq n e.0) refl (place-inserted es n p)
  where
    go : (b : Bool) → bytes_eq n e.0 ≡ b → place_of (insert_entry bytes_eq es n p) n ≡ Some p → place_of (insert_entry bytes_eq (e ∷ es) n p) n ≡ Some p
    go true h rest = rw (h, h) refl
    go false h rest = rw (h, h) rest

place-beside : (es : Pairs) (n : List ℕ) (p : Place) (q : List ℕ) → bytes_eq q n ≡ false → place_of (insert_entry bytes_eq es n p) q ≡ place_of es q
place-beside [] n p q h = rw h refl
place-beside (e ∷ es) n p q h = go (bytes_eq n e.0) refl (bytes_eq q e.0) refl (place-beside es n p q h)
  where
    go : (b : Bool) → bytes_eq n e.0 ≡ b → (d : Bool) → bytes_eq q e.0 ≡ d → place_of (insert_entry bytes_eq es n p) q ≡ place_of es q → place_of (insert_entry bytes_eq (e ∷ es) n p) q ≡ place_of (e ∷ es) q
    go true g d k rest = rw (g, other q n e.0 g h) refl
    go false g true k rest = rw (g, k) refl
    go false g false k rest = rw (g, k) rest

-- a name that is bound leaves where another stands
pub place-bound : (es : Pairs) (n : List ℕ) (p : Place) (q : List ℕ) → bytes_eq q n ≡ false → place_of (bound es n p) q ≡ place_of es q
place-bound es n p q h = rw (← insert_entry-bound es n p) (place-beside es n p q h)

back : (es : Pairs) (n : List ℕ) (p was : Place) → place_of es n ≡ Some was → insert_entry bytes_eq (insert_entry bytes_eq es n p) n was ≡ es
back [] n p was h = absurd cc
back (e ∷ es) n p was h = go (bytes_eq n e.0) refl (back es n p was) h
  where
    go : (b : Bool) → bytes_eq n e.0 ≡ b → (place_of es n ≡ Some was → insert_entry bytes_eq (insert_entry bytes_eq es n p) n was ≡ es) → place_of (e ∷ es) n ≡ Some was → insert_entry bytes_eq (insert_entry bytes_eq (e ∷ es) n p) n was ≡ e ∷ es
    go true g rest h = let is : Some e.1 ≡ Some was = rw g at h in rw (g, g) (ap (λ (x : Place). (e.0, x) ∷ es) (sym (ap (λ (o : Option Place). unwrap_or o was) is)))
    go false g rest h = rw (g, g) (ap (λ xs. e ∷ xs) (rest (rw g at h)))

-- a name that gets another place, and then the one that it had, is bound as it was
pub bound-back : (es : Pairs) (n : List ℕ) (p was : Place) → place_of es n ≡ Some was → bound (bound es n p) n was ≡ es
bound-back es n p was h = rw (← insert_entry-bound (bound es n p) n was, ← insert_entry-bound es n p) (back es n p was h)

-- and so does one that is taken out
pub place-removed : (es : Pairs) (n q : List ℕ) → bytes_eq q n ≡ false → place_of (remove_entry (bytes_eq n) es) q ≡ place_of es q
place-removed [] n q h = refl
place-removed (e ∷ es) n q h = go (bytes_eq n e.0) refl (bytes_eq q e.0) refl (place-removed es n q h)
  where
    go : (b : Bool) → bytes_eq n e.0 ≡ b → (d : Bool) → bytes_eq q e.0 ≡ d → place_of (remove_entry (bytes_eq n) es) q ≡ place_of es q → place_of (remove_entry (bytes_eq n) (e ∷ es)) q ≡ place_of (e ∷ es) q
    go true g d k rest = rw (g, other q n e.0 g h) refl
    go false g true k rest = rw (g, k) refl
    go false g false k rest = rw (g, k) rest

-- ---- what a binding that is not refused says

not-second : (a b : Bool) (u v : MapFault) (rest : Option MapFault) → (if a then Some u else (if b then Some v else rest)) ≡ None → (b ≡ false) × (rest ≡ None)
not-second true b u v rest h = absurd cc
not-second false true u v rest h = absurd cc
not-second false false u v rest h = (refl, h)

not-first : (a : Bool) (u : MapFault) (rest : Option MapFault) → (if a then Some u else rest) ≡ None → a ≡ false
not-first true u rest h = absurd cc
not-first false u rest h = refl

kind-is : (size geometry kind : Bool) → (not size || (geometry && not kind)) ≡ false → geometry ≡ true → kind ≡ true
kind-is size geometry true h g = refl
kind-is true true false h g = absurd cc
kind-is true false false h g = absurd cc
kind-is false geometry false h g = absurd cc

both : (outside kind : Bool) → outside ≡ false → kind ≡ true → (not outside && kind) ≡ true
both false true o k = refl
both false false o k = k
both true kind o k = absurd cc

pub place-bindable : (extensions : ℕ) (pairs : Pairs) (name : List ℕ) (place : Place) → is_geometry name ≡ true → bind_fault extensions pairs name place ≡ None → is_geometry_place extensions name place ≡ true
place-bindable extensions pairs name place g h =
    let s = not-second (not (is_name name)) (is_outside extensions name place) BadName OutsideHeader
    (if is_bad_kind name place.kind then Some BadKind else (if is_full pairs name then Some Full else (if is_standard name then Some Standard else None))) h in
    let k = not-first (is_bad_kind name place.kind) BadKind (if is_full pairs name then Some Full else (if is_standard name then Some Standard else None)) s.1 in
    both (is_outside extensions name place) (is_geometry_kind name place.kind) s.0 (kind-is (is_size place.kind.size) (is_geometry name) (is_geometry_kind name place.kind) k g)

-- ---- the three ways to a map

pub HasGeometry-bound : (extensions : ℕ) (pairs : Pairs) (n : List ℕ) (p : Place) → bind_fault extensions pairs n p ≡ None → HasGeometry extensions pairs → HasGeometry extensions (bound pairs n p)
HasGeometry-bound extensions pairs n p free has = record { stands = λ name g. rw (← insert_entry-bound pairs n p) (go name g (bytes_eq name n) refl) }
  where
    go : (name : List ℕ) → is_geometry name ≡ true → (b : Bool) → bytes_eq name n ≡ b → option_map_or (is_geometry_place extensions name) (place_of (insert_entry bytes_eq pairs n p) name) false ≡ true
    go name g true h =
        let e : name ≡ n = (bytes_eq-Decides name n).0 h in
        let free_name : bind_fault extensions pairs name p ≡ None = subst (λ (x : List ℕ). bind_fault extensions pairs x p ≡ None) (sym e) free in
        let found : place_of (insert_entry bytes_eq pairs n p) name ≡ Some p = subst (λ (x : List ℕ). place_of (insert_entry bytes_eq pairs n p) x ≡ Some p) (sym e) (place-inserted pairs n p) in
        rw found (place-bindable extensions pairs name p g free_name)
    go name g false h = rw (place-beside pairs n p name h) (has.stands name g)

pub HasGeometry-set : (extensions : ℕ) (pairs : Pairs) (n : List ℕ) (p : Place) → is_geometry_place extensions n p ≡ true → HasGeometry extensions pairs → HasGeometry extensions (bound pairs n p)
HasGeometry-set extensions pairs n p may has = record { stands = λ name g. rw (← insert_entry-bound pairs n p) (go name g (bytes_eq name n) refl) }
  where
    go : (name : List ℕ) → is_geometry name ≡ true → (b : Bool) → bytes_eq name n ≡ b → option_map_or (is_geometry_place extensions name) (place_of (insert_entry bytes_eq pairs n p) name) false ≡ true
    go name g true h =
        let e : name ≡ n = (bytes_eq-Decides name n).0 h in
        let there : is_geometry_place extensions name p ≡ true = subst (λ (x : List ℕ). is_geometry_place extensions x p ≡ true) (sym e) may in
        let found : place_of (insert_entry bytes_eq pairs n p) name ≡ Some p = subst (λ (x : List ℕ). place_of (insert_entry bytes_eq pairs n p) x ≡ Some p) (sym e) (place-inserted pairs n p) in
        rw found there
    go name g false h = rw (place-beside pairs n p name h) (has.stands name g)

pub HasGeometry-unbound : (extensions : ℕ) (pairs : Pairs) (n : List ℕ) → is_geometry n ≡ false → HasGeometry extensions pairs → HasGeometry extensions (unbound pairs n)
HasGeometry-unbound extensions pairs n free has = record { stands = λ name g. go name g (bytes_eq name n) refl }
  where
    true_is_false : true ≡ false → ⊥
    true_is_false x = cc

    go : (name : List ℕ) → is_geometry name ≡ true → (b : Bool) → bytes_eq name n ≡ b → option_map_or (is_geometry_place extensions name) (place_of (unbound pairs n) name) false ≡ true
    go name g true h =
        let e : name ≡ n = (bytes_eq-Decides name n).0 h in
        let f : is_geometry name ≡ false = subst (λ (x : List ℕ). is_geometry x ≡ false) (sym e) free in
        absurd (true_is_false (sym g ∙ f))
    go name g false h = rw (place-removed pairs n name h) (has.stands name g)

and-first : (a b : Bool) → (a && b) ≡ true → a ≡ true
and-first true b h = refl
and-first false b h = absurd cc

and-second : (a b : Bool) → (a && b) ≡ true → b ≡ true
and-second true b h = h
and-second false b h = absurd cc

-- pairs of which each is in order
all-stand : (extensions : ℕ) (es : Pairs) → list_all (λ e. is_geometry_place extensions e.0 e.1) es ≡ true → (name : List ℕ) → is_some (place_of es name) ≡ true → option_map_or (is_geometry_place extensions name) (place_of es name) false ≡ true
all-stand extensions [] h name g = absurd cc
all-stand extensions (e ∷ es) h name g = go (bytes_eq name e.0) refl (λ k. all-stand extensions es (and-second (is_geometry_place extensions e.0 e.1) (list_all (λ x. is_geometry_place extensions x.0 x.1) es) h) name k)
  where
    go : (b : Bool) → bytes_eq name e.0 ≡ b → (is_some (place_of es name) ≡ true → option_map_or (is_geometry_place extensions name) (place_of es name) false ≡ true) → option_map_or (is_geometry_place extensions name) (place_of (e ∷ es) name) false ≡ true
    go true same rest =
        let here : is_geometry_place extensions e.0 e.1 ≡ true = and-first (is_geometry_place extensions e.0 e.1) (list_all (λ x. is_geometry_place extensions x.0 x.1) es) h in
        rw same (subst (λ (x : List ℕ). is_geometry_place extensions x e.1 ≡ true) (sym ((bytes_eq-Decides name e.0).0 same)) here)
    go false same rest = rw same (rest (rw same at g))

not-below-0 : (n : ℕ) → nat_lt n 0 ≡ false
not-below-0 n = grind (arith, nat_tests)

pub HasGeometry-at-load : (extensions : ℕ) → HasGeometry extensions geometry_at_load
HasGeometry-at-load extensions = record { stands = λ name g. all-stand extensions geometry_at_load (simp not-below-0) name g }

-- ---- one of the six

bound-where : (extensions : ℕ) (name : List ℕ) (o : Option Place) → option_map_or (is_geometry_place extensions name) o false ≡ true → is_some o ≡ true
bound-where extensions name None h = absurd cc
bound-where extensions name (Some place) h = refl

-- it is bound
pub geometry-bound : (extensions : ℕ) (pairs : Pairs) (name : List ℕ) → HasGeometry extensions pairs → is_geometry name ≡ true → is_some (place_of pairs name) ≡ true
geometry-bound extensions pairs name has g = bound-where extensions name (place_of pairs name) (has.stands name g)

-- to a place where it may stand
pub geometry-stands : (extensions : ℕ) (pairs : Pairs) (name : List ℕ) (place : Place) → HasGeometry extensions pairs → is_geometry name ≡ true → place_of pairs name ≡ Some place → StandsAt extensions pairs name place
geometry-stands extensions pairs name place has g is = (is, subst (λ o. option_map_or (is_geometry_place extensions name) o false ≡ true) is (has.stands name g))
