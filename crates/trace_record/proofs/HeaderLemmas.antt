-- Numbers in the headers of a trace.
use Rattle.std.proofs.Common.{◌≡◌, ℕ, ◌+◌, ◌-◌, ◌*◌, ◌<◌, ◌≤◌, ◌⊎◌, Bool, List, ℤ, length, take, drop, true, false, refl, sym, subst, ap, ◌∙◌, arith}
use Rattle.std.specs.Prelude.{not, ◌&&◌, ◌||◌, ◌==◌, nat_lt, codes, bytes_eq}
use Rattle.std.proofs.lemmas.List.{drop-take, take-take, length-take}
use Rattle.std.proofs.lemmas.Bool.Decides.{nat_tests}
use Rattle.num_order.specs.declared.order.Order.{Order}
use Rattle.num_order.specs.Number.{num, unsigned, with_sign, is_size}
use Rattle.field_map.specs.declared.place.Place.{Place}
use Rattle.field_map.specs.Binding.{is_geometry, is_geometry_place, is_geometry_kind, is_outside}
use Rattle.frame_cut.specs.declared.file_head.Head.{Head}
use Rattle.frame_cut.specs.Cuts.{IsTrace}
use Rattle.trace_view.specs.Values.{value_at, is_in_header, main_header}
use Rattle.trace_record.specs.NumberPlaces.{IsNumber, IsShort}

-- the number at a signed place of so many bytes
pub value_is : (h : Head) (t : List ℕ) (place : Place) (n at : ℕ) (r : ℤ) → place.kind.signed ≡ true → place.kind.size ≡ n → at ≡ 240 * place.extension + place.byte - 1
    → r ≡ num h.order (record { size = n; signed = true }) (take n (drop at t)) → r ≡ value_at h t place
value_is h t place n at r signed size here e =
    let s = sym signed in
    let z = sym size in
    e ∙ (λ i. with_sign (s i) (z i) (unsigned h.order (take (z i) (drop (here i) t))))

-- a trace has a main header
pub has_header : (h : Head) (t : List ℕ) → IsTrace h t → 240 ≤ length t
has_header h t whole = let long = whole.whole in grind (arith, nat_tests)

-- ---- the main header

-- so many of its bytes are those of the trace
pub in-main : (t : List ℕ) (size at : ℕ) → at + size ≤ 240 → take size (drop at (main_header t)) ≡ take size (drop at t)
in-main t size at inside =
    let whole : at + (240 - at) ≡ 240 = omega arith in
    subst (λ n. take size (drop at (take n t)) ≡ take size (drop at t)) whole (ap (take size) (drop-take at (240 - at) t) ∙ take-take size (240 - at) (drop at t) (omega arith))

-- where the main header is at hand
pub main_bytes : (t main : List ℕ) (size at : ℕ) → main ≡ main_header t → at + size ≤ 240 → take size (drop at main) ≡ take size (drop at t)
main_bytes t main size at is inside = rw is (in-main t size at inside)

-- it has 240 bytes
pub length-main : (h : Head) (t : List ℕ) → IsTrace h t → length (main_header t) ≡ 240
length-main h t whole = let long = has_header h t whole in omega (arith, length-take 240 t)

-- where a place lies in its header
pub inside : (place : Place) → is_in_header place ≡ true → (0 < place.byte) × (place.byte + place.kind.size < 242)
inside place h = go place.byte place.kind.size h
  where
    go : (byte size : ℕ) → (is_size size && nat_lt 0 byte && nat_lt (byte + size) 242) ≡ true → (0 < byte) × (byte + size < 242)
    go byte size h = (grind (arith, nat_tests), grind (arith, nat_tests))

-- the number of so many bytes from one place on is that of the place that is there, signed and of as many
pub number_is : (o : Order) (place : Place) (n at : ℕ) (bytes : List ℕ) (r : ℤ) → place.kind.signed ≡ true → place.kind.size ≡ n → at ≡ place.byte - 1 → r ≡ num o (record { size = n; signed = true }) (take n (drop at bytes)) → r ≡ num o place.kind (take place.kind.size (drop (place.byte - 1) bytes))
number_is o place n at bytes r signed size here e =
    let s = sym signed in
    let z = sym size in
    e ∙ (λ i. with_sign (s i) (z i) (unsigned o (take (z i) (drop (here i) bytes))))

-- the number at a place of the main header is the value at the place
pub main_value : (h : Head) (t main : List ℕ) (place : Place) (r : ℤ) → main ≡ main_header t → place.extension ≡ 0 → is_in_header place ≡ true → r ≡ num h.order place.kind (take place.kind.size (drop (place.byte - 1) main)) → r ≡ value_at h t place
main_value h t main place r is first within e =
    let where-it-is = inside place within in
    let here : place.byte - 1 ≡ 240 * place.extension + place.byte - 1 = rw first (omega arith) in
    e ∙ ap (num h.order place.kind) (rw is (in-main t place.kind.size (place.byte - 1) (omega (arith, where-it-is.0, where-it-is.1))) ∙ ap (λ n. take place.kind.size (drop n t)) here)

-- ---- the place of a geometry name

in-front : (byte size extension last_one : ℕ) (signed other : Bool) → (not (byte == 0 || nat_lt 240 (byte + size - 1) || nat_lt last_one extension) && (signed && (size == 2 || (size == 4 && other)))) ≡ true
    → (is_size size && nat_lt 0 byte && nat_lt (byte + size) 242) ≡ true
in-front byte size extension last_one signed other h = grind (arith, nat_tests)

both-of : (a b : Bool) → (a && b) ≡ true → (a ≡ true) × (b ≡ true)
both-of true b h = (refl, h)
both-of false b h = absurd cc

sizes : (size : ℕ) (other : Bool) → (size == 2 || (size == 4 && other)) ≡ true → (size ≡ 2) ⊎ (size ≡ 4)
sizes size other h = grind (arith, nat_tests)

only-two : (size : ℕ) → (size == 2 || (size == 4 && false)) ≡ true → size ≡ 2
only-two size h = grind (arith, nat_tests)

-- it is that of a number
pub geometry-number : (extensions : ℕ) (name : List ℕ) (place : Place) → is_geometry name ≡ true → is_geometry_place extensions name place ≡ true → IsNumber place
geometry-number extensions name place g stands =
    let kind = both-of (not (is_outside extensions name place)) (is_geometry_kind name place.kind) stands in
    let parts = both-of place.kind.signed _ kind.1 in
    record {
      inside = in-front place.byte place.kind.size place.extension _ place.kind.signed (not (bytes_eq name (codes "scalar"))) (rw g at stands);
      signed = parts.0;
      size = sizes place.kind.size _ parts.1;
    }

-- that of the scalar has two bytes
pub scalar-short : (extensions : ℕ) (place : Place) → is_geometry_place extensions (codes "scalar") place ≡ true → IsShort place
scalar-short extensions place stands =
    let number = geometry-number extensions (codes "scalar") place refl stands in
    let kind = both-of (not (is_outside extensions (codes "scalar") place)) (is_geometry_kind (codes "scalar") place.kind) stands in
    let parts = both-of place.kind.signed _ kind.1 in
    record { inside = number.inside; signed = number.signed; size = only-two place.kind.size parts.1 }
