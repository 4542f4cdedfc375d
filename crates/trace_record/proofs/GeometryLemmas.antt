-- A map that keeps the geometry names gives each trace of its file a geometry.
use Rattle.std.proofs.Common.{◌≡◌, ◌∙◌, ap, sym, pos, ℤ, ℕ, ◌+◌, ◌-◌, ◌≤◌, Bool, true, false, List, arith, refl, subst}
use Rattle.std.specs.Prelude.{not, ◌&&◌, ◌||◌, ◌==◌, nat_lt, nat_le, codes, bytes_eq, length, Option, Some, None, option_map, unwrap_or, if◌then◌else◌}
use Rattle.std.specs.Option.{option_map_or}
use Rattle.std.proofs.lemmas.Bool.Decides.{nat_tests}
use Rattle.num_order.specs.Number.{is_size}
use Rattle.field_map.specs.declared.place.Place.{Place}
use Rattle.field_map.specs.Pairs.{Pairs, place_of}
use Rattle.field_map.specs.Binding.{HasGeometry, is_geometry, is_geometry_place, is_geometry_kind, is_outside}
use Rattle.frame_cut.specs.declared.file_head.Head.{Head}
use Rattle.frame_cut.specs.Frames.{count_within, extension_count, extensions_of, header_unsigned, length_with, sample_count}
use Rattle.frame_cut.specs.Cuts.{IsTrace}
use Rattle.trace_view.specs.Values.{has_place, value_at}
use Rattle.trace_record.specs.OfTrace.{bound_value, has_geometry_at, has_named, has_geometry}
use Rattle.trace_record.specs.Laws.{GeometryOfEachTrace}

-- ---- how many extensions a trace has at least

-- the last extension that a geometry name may stand in, of at most x
abbrev last : ℕ → ℕ
last x = if nat_lt 1 x then 1 else x

counted : (x u e : ℕ) → (if x == 0 then Some 0 else count_within x u) ≡ Some e → last x ≤ e
counted x u e h = grind (arith, nat_tests)

enough : (h : Head) (t : List ℕ) → IsTrace h t → last h.extensions ≤ extensions_of h t
enough h t whole = go (extension_count h t) refl whole.exact
  where
    go : (o : Option ℕ) → extension_count h t ≡ o → option_map (λ e. length_with h e (sample_count h t)) o ≡ Some (length t) → last h.extensions ≤ unwrap_or o 0
    go None k exact = absurd cc
    go (Some e) k exact = counted h.extensions (header_unsigned h 1 157 2 t) e k

-- ---- what a geometry name's place says

in-header : (byte size extension last_one count : ℕ) (signed other : Bool) → last_one ≤ count
    → (not (byte == 0 || nat_lt 240 (byte + size - 1) || nat_lt last_one extension) && (signed && (size == 2 || (size == 4 && other)))) ≡ true
    → ((is_size size && nat_lt 0 byte && nat_lt (byte + size) 242) && nat_le extension count) ≡ true
in-header byte size extension last_one count signed other few h = grind (arith, nat_tests)

kind-from : (a b : Bool) → (a && b) ≡ true → b ≡ true
kind-from true b h = h
kind-from false b h = absurd cc

both : (a b : Bool) → a ≡ true → b ≡ true → (a && b) ≡ true
both true b p q = q
both false b p q = absurd cc

at-place : (h : Head) (t : List ℕ) (name : List ℕ) (place : Place) → is_geometry name ≡ true → last h.extensions ≤ extensions_of h t → is_geometry_place h.extensions name place ≡ true → has_geometry_at h t name place ≡ true
at-place h t name place g few stands =
    both (has_place h t place) (is_geometry_kind name place.kind)
    (in-header place.byte place.kind.size place.extension (last h.extensions) (extensions_of h t) place.kind.signed (not (bytes_eq name (codes "scalar"))) few (rw g at stands))
    (kind-from (not (is_outside h.extensions name place)) (is_geometry_kind name place.kind) stands)

at-name : (h : Head) (fields : Pairs) (t : List ℕ) (name : List ℕ) → is_geometry name ≡ true → HasGeometry h.extensions fields → IsTrace h t → option_map_or (has_geometry_at h t name) (place_of fields name) false ≡ true
at-name h fields t name g has whole = go (place_of fields name) (has.stands name g)
  where
    go : (o : Option Place) → option_map_or (is_geometry_place h.extensions name) o false ≡ true → option_map_or (has_geometry_at h t name) o false ≡ true
    go None stands = absurd cc
    go (Some place) stands = at-place h t name place g (enough h t whole) stands

-- the place of a geometry name
pub has_named_place : (h : Head) (fields : Pairs) (t : List ℕ) (name : List ℕ) (place : Place) → is_geometry name ≡ true → HasGeometry h.extensions fields → IsTrace h t → place_of fields name ≡ Some place → has_place h t place ≡ true
has_named_place h fields t name place g has whole e =
    first (has_place h t place) _ (subst (λ o. option_map_or (has_geometry_at h t name) o false ≡ true) e (at-name h fields t name g has whole))
  where
    first : (a b : Bool) → (a && b) ≡ true → a ≡ true
    first true b p = refl
    first false b p = p

pub geometry_of_each_trace : GeometryOfEachTrace
geometry_of_each_trace h fields t has whole =
    let at = λ (name : List ℕ) (g : is_geometry name ≡ true). at-name h fields t name g has whole in
    rw (at (codes "inline") refl, at (codes "crossline") refl, at (codes "offset") refl, at (codes "x") refl, at (codes "y") refl, at (codes "scalar") refl) refl

-- ---- each of the six names

-- they are bound to places that the trace has
pub record AreNamed (h : Head) (fields : Pairs) (t : List ℕ) : Type 0 where
  pub inline : has_named h fields t (codes "inline") ≡ true
  pub crossline : has_named h fields t (codes "crossline") ≡ true
  pub offset : has_named h fields t (codes "offset") ≡ true
  pub x : has_named h fields t (codes "x") ≡ true
  pub y : has_named h fields t (codes "y") ≡ true
  pub scalar : has_named h fields t (codes "scalar") ≡ true

split : (a b : Bool) → (a && b) ≡ true → (a ≡ true) × (b ≡ true)
split true b h = (refl, h)
split false b h = cc

pub names : (h : Head) (fields : Pairs) (t : List ℕ) → has_geometry h fields t ≡ true → AreNamed h fields t
names h fields t has =
    let one = split (has_named h fields t (codes "inline")) _ has in
    let two = split (has_named h fields t (codes "crossline")) _ one.1 in
    let three = split (has_named h fields t (codes "offset")) _ two.1 in
    let four = split (has_named h fields t (codes "x")) _ three.1 in
    let five = split (has_named h fields t (codes "y")) _ four.1 in
    let six = split (has_named h fields t (codes "scalar")) _ five.1 in
    record { inline = one.0; crossline = two.0; offset = three.0; x = four.0; y = five.0; scalar = six.0 }

-- the value at the place of one of them is that of the name
pub named_value : (h : Head) (fields : Pairs) (t : List ℕ) (name : List ℕ) (place : Place) (r : ℤ) → place_of fields name ≡ Some place → has_named h fields t name ≡ true → (has_place h t place ≡ true → r ≡ value_at h t place) → r ≡ bound_value h fields t name
named_value h fields t name place r is has e =
    let here : has_geometry_at h t name place ≡ true = subst (λ o. option_map_or (has_geometry_at h t name) o false ≡ true) is has in
    e (split (has_place h t place) (is_geometry_kind name place.kind) here).0 ∙ sym (ap (λ o. option_map_or (value_at h t) o (pos 0)) is)
