-- Numbers in the main header of a trace.
use Rattle.std.proofs.Common.{◌≡◌, ℕ, ◌+◌, ◌-◌, ◌*◌, ◌<◌, ◌≤◌, List, ℤ, Some, length, take, drop, true, sym, subst, ap, ◌∙◌, arith}
use Rattle.std.specs.Prelude.{◌&&◌, nat_lt, nat_le}
use Rattle.std.proofs.lemmas.List.{drop-take, take-take, length-take}
use Rattle.std.proofs.lemmas.Bool.Decides.{nat_tests}
use Rattle.num_order.specs.declared.order.Order.{Order}
use Rattle.num_order.specs.declared.kind.Kind.{Kind}
use Rattle.num_order.specs.Number.{num, unsigned, with_sign, is_size}
use Rattle.field_map.specs.declared.place.Place.{Place}
use Rattle.frame_cut.specs.declared.file_head.Head.{Head}
use Rattle.frame_cut.specs.Frames.{extensions_of}
use Rattle.frame_cut.specs.Cuts.{IsTrace}
use Rattle.trace_view.specs.Values.{value_of, value_at, is_in_header, main_header}

-- a trace has a main header
has_main : (h : Head) (t : List ℕ) → IsTrace h t → 240 ≤ length t
has_main h t whole = let long = whole.whole in grind (arith, nat_tests)

-- it has 240 bytes
pub length-main : (h : Head) (t : List ℕ) → IsTrace h t → length (main_header t) ≡ 240
length-main h t whole = let long = has_main h t whole in omega (arith, length-take 240 t)

-- so many of its bytes are those of the trace
in-main : (t : List ℕ) (size at : ℕ) → at + size ≤ 240 → take size (drop at (main_header t)) ≡ take size (drop at t)
in-main t size at inside =
    let whole : at + (240 - at) ≡ 240 = omega arith in
    subst (λ n. take size (drop at (take n t)) ≡ take size (drop at t)) whole (ap (take size) (drop-take at (240 - at) t) ∙ take-take size (240 - at) (drop at t) (omega arith))

-- where a place lies in its header
inside : (place : Place) → is_in_header place ≡ true → (0 < place.byte) × (place.byte + place.kind.size < 242)
inside place h = go place.byte place.kind.size h
  where
    go : (byte size : ℕ) → (is_size size && nat_lt 0 byte && nat_lt (byte + size) 242) ≡ true → (0 < byte) × (byte + size < 242)
    go byte size h = (grind (arith, nat_tests), grind (arith, nat_tests))

-- the number of bytes of so many, at a signed place of as many
pub number_is : (o : Order) (place : Place) (n : ℕ) (bytes : List ℕ) (r : ℤ) → place.kind.signed ≡ true → place.kind.size ≡ n → r ≡ num o (record { size = n; signed = true }) (take n bytes) → r ≡ num o place.kind (take place.kind.size bytes)
number_is o place n bytes r signed size e =
    let s = sym signed in
    let z = sym size in
    e ∙ (λ i. with_sign (s i) (z i) (unsigned o (take (z i) bytes)))

-- the number of as many bytes as a place of the main header has
pub part_is : (o : Order) (kind : Kind) (main : List ℕ) (byte from size : ℕ) (r : ℤ) → from ≡ byte → size ≡ kind.size → r ≡ num o kind (take (from - 1 + size - (from - 1)) (drop (from - 1) main)) → r ≡ num o kind (take kind.size (drop (byte - 1) main))
part_is o kind main byte from size r here wide e =
    let count : from - 1 + size - (from - 1) ≡ kind.size = omega (arith, wide) in
    e ∙ ap (λ (n : ℕ). num o kind (take n (drop (from - 1) main))) count ∙ ap (λ (n : ℕ). num o kind (take kind.size (drop (n - 1) main))) here

-- the number at a place of the main header is the value at the place
main_value : (h : Head) (t main : List ℕ) (place : Place) (r : ℤ) → main ≡ main_header t → place.extension ≡ 0 → is_in_header place ≡ true → r ≡ num h.order place.kind (take place.kind.size (drop (place.byte - 1) main)) → r ≡ value_at h t place
main_value h t main place r is first within e =
    let where-it-is = inside place within in
    let here : place.byte - 1 ≡ 240 * place.extension + place.byte - 1 = rw first (omega arith) in
    e ∙ ap (num h.order place.kind) (rw is (in-main t place.kind.size (place.byte - 1) (omega (arith, where-it-is.0, where-it-is.1))) ∙ ap (λ n. take place.kind.size (drop n t)) here)

zero_least : (n : ℕ) → nat_le 0 n ≡ true
zero_least n = grind (arith, nat_tests)

-- and each trace has the place
pub main_number : (h : Head) (t main : List ℕ) (place : Place) (r : ℤ) → main ≡ main_header t → place.extension ≡ 0 → is_in_header place ≡ true → r ≡ num h.order place.kind (take place.kind.size (drop (place.byte - 1) main)) → Some r ≡ value_of h t place
main_number h t main place r is first within e =
    let has : nat_le place.extension (extensions_of h t) ≡ true = rw first (zero_least (extensions_of h t)) in
    rw within (rw has (ap (λ x. Some x) (main_value h t main place r is first within e)))
