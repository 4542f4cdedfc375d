-- The place of a number compares with each rank as the number compares with the rank's value.
use Rattle.std.proofs.Common.{◌≡◌, ◌∙◌, ℕ, zero, suc, ◌+◌, ◌-ℤ◌, ◌*◌, ◌^◌, ◌<◌, ◌≤◌, ℤ, pos, negsuc, neg_ℤ, Bool, true, false, cond, nat_cmp, int_cmp, Ordering, Less, Equal, Greater, List, Some, None, is_some, unwrap_or, if◌then◌else◌, ◌&&◌, refl, sym, ap, subst, inl, inr, arith, lit<, lit≤, eq-zero-or-pos, eq-or-lt_of_le, zero-mul, leb-true, true≢false, bytes_eq, codes, SFits, w64}
use lib.Ieee.{Float, nan, inf, fin, binary64, round, up, down, neg, of_bits, to_bits, of_fields, odd}
use lib.Ieee.Exact.{HasValue}
use Rattle.std.specs.Prelude.{⊤}
use Rattle.std.specs.Ordering.{ordering_reverse, ordering_then}
use Rattle.fast_float.specs.Text.{Parts, scan, tens_down}
use Rattle.fast_float.proofs.ExactLemmas.{ten_to_pos}
use Rattle.float_codes.specs.Ranks.{rank, rank_of, value_at, is_number_rank, no_number}
use Rattle.float_text.specs.Words.{is_negative, size_of, is_decimal}
use Rattle.float_text.proofs.OrderLemmas.{order_of, cmp_less, cmp_equal, cmp_greater}
use Rattle.float_text.proofs.SignLemmas.{HasSign}
use Rattle.exact_amounts.specs.declared.amount.Amount.{Amount}
use Rattle.exact_amounts.specs.Numbers.{Number, Fraction, Infinity, whole, decimal, number_of}
use Rattle.exact_amounts.specs.Places.{compares, compares_with, place_of, level, stands, IsPlaceOf, PlacesAreExact}
use Rattle.exact_amounts.proofs.SignedLemmas.{pos_cmp, both_minus, minus_right, minus_left, then_reversed}
use Rattle.exact_amounts.proofs.FloatLemmas.{most, size_of_bits, less_values, less_bits, rank_is, neg-round, neg-bits, to_bits-neg, rank-minus}
use Rattle.exact_amounts.proofs.NearLemmas.{compares_size, compares_neg, some_number, some_float, above_minus, below_plus, near_sign, bits_back, bits_small, near_is, less_at, greater_at}

-- ---- the floats of the patterns up to that of infinity

zero_bits : of_bits binary64 0 ≡ fin false 0 (pos 0)
unfolding of_bits of_fields odd
zero_bits = refl

most_bits : of_bits binary64 most ≡ inf false
unfolding of_bits of_fields
most_bits = refl

sign_of_inf : HasSign false (inf false)
unfolding HasSign
sign_of_inf = refl

sign_of_size : (v : Float) (V : ℕ) → HasValue v false V (2 ^ 1074) → HasSign false v
unfolding HasSign
sign_of_size nan V h = absurd h
sign_of_size (inf t) V h = absurd h
sign_of_size (fin t m e) V h = h.0

sign_of_bits : (n : ℕ) → n ≤ most → HasSign false (of_bits binary64 n)
sign_of_bits n h = elim (eq-or-lt_of_le h) [
  | inl e ↦ subst (HasSign false) (sym (ap (of_bits binary64) e ∙ most_bits)) sign_of_inf
  | inr l ↦ (let s = size_of_bits n l in sign_of_size (of_bits binary64 n) s.0 s.1.value)
]

-- ---- what is no number

nan_bits : value_at no_number ≡ nan
unfolding of_bits
nan_bits = refl

none_compares : (n : Number) → compares_with n no_number ≡ Less
none_compares n = ap (compares n) nan_bits ∙ above n
  where
    above : (n : Number) → compares n nan ≡ Less
    above (Fraction s a c) = refl
    above (Infinity s) = refl

below_none : (n : ℕ) → n ≤ most → int_cmp (pos n) no_number ≡ Less
below_none n h = pos_cmp n 0x7FF8000000000000 ∙ cmp_less n 0x7FF8000000000000 (omega arith)

minus_below_none : (n : ℕ) → int_cmp (neg_ℤ (pos n)) no_number ≡ Less
minus_below_none n = minus_left n 0x7FF8000000000000 ∙ cmp_less 0 (n + 0x7FF8000000000000) (omega arith)

-- ---- a fraction with its sign

and_left : (b : Bool) → (b && true) ≡ true → b ≡ true
and_left true h = refl
and_left false h = h

module _ (a c : ℕ) (C : 0 < c) where
  abbrev near : Float
  near = round binary64 false a c

  abbrev bits : ℕ
  bits = to_bits binary64 near

  abbrev side : Ordering
  side = compares (Fraction false a c) near

  abbrev at : ℕ → Float
  at n = of_bits binary64 n

  bits_up_to : bits ≤ most
  bits_up_to = elim (near_is a c C) [ inl f ↦ (let l = f.0 in omega arith) | inr i ↦ (let e = i.0 in omega arith) ]

  sizes : (n : ℕ) → n ≤ most → ordering_then (nat_cmp bits n) side ≡ compares (Fraction false a c) (at n)
  sizes n h = elim (order_of bits n) [
    | inl l ↦ ap (λ o. ordering_then o side) (cmp_less bits n l) ∙ sym (elim (eq-or-lt_of_le h) [
      | inl e ↦ ap (λ k. compares (Fraction false a c) (at k)) e ∙ ap (compares (Fraction false a c)) most_bits
      | inr k ↦ (let s = size_of_bits n k in compares_size (at n) a c s.0 s.1.value ∙ cmp_less _ _ (less_at a c C n s.0 l h s.1))
    ])
    | inr (inl e) ↦ ap (λ o. ordering_then o side) (cmp_equal bits n e) ∙ ap (compares (Fraction false a c)) (sym (bits_back a c C) ∙ ap at e)
    | inr (inr g) ↦
        let small = bits_up_to in
        let k : n < most = omega arith in
        let s = size_of_bits n k in
        ap (λ o. ordering_then o side) (cmp_greater bits n g) ∙ sym (compares_size (at n) a c s.0 s.1.value ∙ cmp_greater _ _ (greater_at a c C n s.0 g s.1))
  ]

  -- one of the two is not 0
  some_size : (n : ℕ) → n ≤ most → 0 < bits + n → (m : ℕ) (e : ℤ) → at n ≡ fin false m e → 0 < a * down e + m * up e * c
  some_size n h p m e q = elim (eq-zero-or-pos bits) [
    | inl z ↦ elim (eq-or-lt_of_le h) [
      | inl k ↦ absurd (no_size (sym most_bits ∙ ap at (sym k) ∙ q))
      | inr k ↦
          let s = size_of_bits n k in
          let o = size_of_bits 0 (lit< tt) in
          let some : 0 < n = omega arith in
          let l : o.0 < s.0 = less_values (at 0) (at n) o.0 s.0 (2 ^ 1074) (lit< tt) o.1.value s.1.value (less_bits 0 n some h) in
          some_float (at n) a c s.0 C s.1.value (omega arith) m e q
    ]
    | inr r ↦
        let o = size_of_bits 0 (lit< tt) in
        let g = greater_at a c C 0 o.0 r o.1 in
        some_number (at n) a c (above_none g) m e q
  ]
    where
      no_size : inf false ≡ fin false m e → ⊥
      no_size x = subst IsInf x tt
        where
          IsInf : Float → Type 0
          IsInf nan = ⊥
          IsInf (inf s) = ⊤
          IsInf (fin s k d) = ⊥

      above_none : {x : ℕ} → x < a * 2 ^ 1074 → 0 < a
      above_none {x} g = elim (eq-zero-or-pos a) [ inl z ↦ absurd (let y : a * 2 ^ 1074 ≡ 0 = ap (λ k. k * 2 ^ 1074) z ∙ zero-mul (2 ^ 1074) in omega arith) | inr r ↦ r ]

  -- both are 0
  zeros : (n : ℕ) → bits + n ≡ 0 → (side ≡ compares (Fraction false a c) (neg (at n))) × (ordering_reverse side ≡ compares (Fraction true a c) (at n))
  unfolding neg
  zeros n z =
      let b : bits ≡ 0 = omega arith in
      let e : n ≡ 0 = omega arith in
      let v : near ≡ fin false 0 (pos 0) = sym (bits_back a c C) ∙ ap at b ∙ zero_bits in
      let w : at n ≡ fin false 0 (pos 0) = ap at e ∙ zero_bits in
      let o : 0 * c ≡ 0 = zero-mul c in
      let s : side ≡ int_cmp (pos (a * 1)) (pos 0) = ap (compares (Fraction false a c)) v ∙ ap (λ k. int_cmp (pos (a * 1)) (pos k)) o in (
        s ∙ sym (ap (λ x. compares (Fraction false a c) (neg x)) w ∙ ap (λ k. int_cmp (pos (a * 1)) (neg_ℤ (pos k))) o),
        ap ordering_reverse (s ∙ pos_cmp (a * 1) 0) ∙ sym (both_minus (a * 1) 0) ∙ sym (ap (compares (Fraction true a c)) w ∙ ap (λ k. int_cmp (neg_ℤ (pos (a * 1))) (pos k)) o),
      )

  minus_float : (n : ℕ) → n ≤ most → ordering_then (int_cmp (pos bits) (neg_ℤ (pos n))) side ≡ compares (Fraction false a c) (neg (at n))
  minus_float n h = ap (λ o. ordering_then o side) (minus_right bits n) ∙ elim (eq-zero-or-pos (bits + n)) [
    | inl z ↦ ap (λ o. ordering_then o side) (cmp_equal (bits + n) 0 z) ∙ (zeros n z).0
    | inr p ↦ ap (λ o. ordering_then o side) (cmp_greater (bits + n) 0 p) ∙ sym (above_minus (at n) a c (sign_of_bits n h) (some_size n h p))
  ]

  minus_number : (n : ℕ) → n ≤ most → ordering_then (int_cmp (neg_ℤ (pos bits)) (pos n)) (ordering_reverse side) ≡ compares (Fraction true a c) (at n)
  minus_number n h = ap (λ o. ordering_then o (ordering_reverse side)) (minus_left bits n) ∙ elim (eq-zero-or-pos (bits + n)) [
    | inl z ↦ ap (λ o. ordering_then o (ordering_reverse side)) (cmp_equal 0 (bits + n) (sym z)) ∙ (zeros n z).1
    | inr p ↦ ap (λ o. ordering_then o (ordering_reverse side)) (cmp_less 0 (bits + n) p) ∙ sym (below_plus (at n) a c (sign_of_bits n h) (some_size n h p))
  ]

  both : (n : ℕ) → n ≤ most → ordering_then (int_cmp (neg_ℤ (pos bits)) (neg_ℤ (pos n))) (ordering_reverse side) ≡ compares (Fraction true a c) (neg (at n))
  both n h = ap (λ o. ordering_then o (ordering_reverse side)) (both_minus bits n) ∙ then_reversed (nat_cmp bits n) side ∙ ap ordering_reverse (sizes n h) ∙ sym (compares_neg (at n) a c (sign_of_bits n h))

  -- ---- its place

  pub plus_rank : rank_of (round binary64 false a c) ≡ pos bits
  plus_rank = rank_is bits (bits_small a c C)

  pub minus_rank : rank_of (round binary64 true a c) ≡ negsuc bits
  minus_rank = ap (λ v. rank (to_bits binary64 v)) (sym (neg-round a c)) ∙ ap rank (to_bits-neg near (near_sign a c C)) ∙ rank-minus bits (bits_small a c C)

  pub minus_side : compares (Fraction true a c) (round binary64 true a c) ≡ ordering_reverse side
  minus_side = ap (compares (Fraction true a c)) (sym (neg-round a c)) ∙ compares_neg near a c (near_sign a c C)

  with_numbers : (s : Bool) (r : ℤ) → is_number_rank r ≡ true → stands (place_of (Fraction s a c)) r ≡ compares_with (Fraction s a c) r
  with_numbers false (pos n) h =
      let k : n ≤ most = leb-true n most h in
      ap (λ r. ordering_then (int_cmp (level r) (pos n)) side) plus_rank ∙ ap (λ o. ordering_then o side) (pos_cmp bits n) ∙ sizes n k
  with_numbers false (negsuc n) h =
      let k : n ≤ most = leb-true n most (and_left _ h) in
      ap (λ r. ordering_then (int_cmp (level r) (neg_ℤ (pos n))) side) plus_rank ∙ minus_float n k ∙ ap (compares (Fraction false a c)) (neg-bits n (omega arith))
  with_numbers true (pos n) h =
      let k : n ≤ most = leb-true n most h in
      (λ i. ordering_then (int_cmp (level (minus_rank i)) (pos n)) (minus_side i)) ∙ minus_number n k
  with_numbers true (negsuc n) h =
      let k : n ≤ most = leb-true n most (and_left _ h) in
      (λ i. ordering_then (int_cmp (level (minus_rank i)) (neg_ℤ (pos n))) (minus_side i)) ∙ both n k ∙ ap (compares (Fraction true a c)) (neg-bits n (omega arith))

  with_none : (s : Bool) → stands (place_of (Fraction s a c)) no_number ≡ Less
  with_none false = ap (λ r. ordering_then (int_cmp (level r) no_number) side) plus_rank ∙ ap (λ o. ordering_then o side) (below_none bits (bits_up_to))
  with_none true = (λ i. ordering_then (int_cmp (level (minus_rank i)) no_number) (minus_side i)) ∙ ap (λ o. ordering_then o (ordering_reverse side)) (minus_below_none bits)

  pub fraction_exact : (s : Bool) → IsPlaceOf (place_of (Fraction s a c)) (Fraction s a c)
  fraction_exact s r (inl h) = with_numbers s r h
  fraction_exact s r (inr e) = ap (stands (place_of (Fraction s a c))) e ∙ with_none s ∙ sym (ap (compares_with (Fraction s a c)) e ∙ none_compares (Fraction s a c))

minus-one : (n : ℕ) → negsuc 0 -ℤ pos n ≡ negsuc n
minus-one zero = refl
minus-one (suc n) = ap negsuc (omega arith)

abbrev pub amount_at : ℤ → Ordering → Amount
amount_at x y = record { rank = x; side = y }

-- a place from that of the size
module _ (a c : ℕ) (C : 0 < c) (v : Float) (e : v ≡ round binary64 false a c) (o : Ordering) (f : o ≡ compares (Fraction false a c) v) (r : ℤ) (g : r ≡ rank_of v) where
  minus_rank_is : negsuc 0 -ℤ r ≡ rank_of (round binary64 true a c)
  minus_rank_is = ap (λ z. negsuc 0 -ℤ z) (g ∙ ap rank_of e ∙ plus_rank a c C) ∙ minus-one (to_bits binary64 (round binary64 false a c)) ∙ sym (minus_rank a c C)

  pub minus_fits : SFits w64 (negsuc 0 -ℤ r)
  minus_fits =
      let small = bits_small a c C in
      let one = ap (λ z. negsuc 0 -ℤ z) (g ∙ ap rank_of e ∙ plus_rank a c C) ∙ minus-one (to_bits binary64 (round binary64 false a c)) in
      subst (SFits w64) (sym one) (record { sfits = small })

  minus_side_is : ordering_reverse o ≡ compares (Fraction true a c) (round binary64 true a c)
  minus_side_is = ap ordering_reverse (f ∙ ap (compares (Fraction false a c)) e) ∙ sym (minus_side a c C)

  pub placed_minus : (s : Bool) → s ≡ true → amount_at (negsuc 0 -ℤ r) (ordering_reverse o) ≡ place_of (Fraction s a c)
  placed_minus s t = (λ i. amount_at (minus_rank_is i) (minus_side_is i)) ∙ ap (λ b. place_of (Fraction b a c)) (sym t)

-- ---- an infinity

plus_infinity : rank_of (inf false) ≡ pos most
unfolding to_bits
plus_infinity = rank_is most (lit< tt)

minus_infinity : rank_of (inf true) ≡ negsuc most
unfolding to_bits
minus_infinity = rank-minus most (lit< tt)

of_size : (s : Bool) (v : Float) (V : ℕ) → HasValue v false V (2 ^ 1074) → (compares (Infinity s) v ≡ cond s Less Greater) × (compares (Infinity s) (neg v) ≡ cond s Less Greater)
unfolding neg
of_size s nan V h = absurd h
of_size s (inf t) V h = absurd h
of_size s (fin t m e) V h = (refl, refl)

of_sign : (v : Float) → HasSign false v → (compares (Infinity false) (neg v) ≡ Greater) × (compares (Infinity true) v ≡ Less)
unfolding neg HasSign
of_sign nan h = absurd h
of_sign (inf true) h = absurd (true≢false h)
of_sign (inf false) h = (refl, refl)
of_sign (fin t m e) h = (refl, refl)

minus_most : compares (Infinity true) (neg (of_bits binary64 most)) ≡ Equal
unfolding neg
minus_most = ap (λ v. compares (Infinity true) (neg v)) most_bits

pub plus_bits : of_bits binary64 0x7ff0_0000_0000_0000 ≡ inf false
unfolding of_bits
plus_bits = refl

pub minus_bits : of_bits binary64 0xfff0_0000_0000_0000 ≡ inf true
unfolding of_bits
minus_bits = refl

pub infinity_place : (s : Bool) → amount_at (rank_of (inf s)) Equal ≡ place_of (Infinity s)
infinity_place true = refl
infinity_place false = refl

infinite_with_numbers : (s : Bool) (r : ℤ) → is_number_rank r ≡ true → stands (place_of (Infinity s)) r ≡ compares_with (Infinity s) r
infinite_with_numbers false (pos n) h =
    let k : n ≤ most = leb-true n most h in
    ap (λ r. ordering_then (int_cmp (level r) (pos n)) Equal) plus_infinity ∙ ap (λ o. ordering_then o Equal) (pos_cmp most n) ∙ elim (eq-or-lt_of_le k) [
      | inl e ↦ ap (λ o. ordering_then o Equal) (cmp_equal most n (sym e)) ∙ sym (ap (λ j. compares (Infinity false) (of_bits binary64 j)) e ∙ ap (compares (Infinity false)) most_bits)
      | inr l ↦ (let s = size_of_bits n l in ap (λ o. ordering_then o Equal) (cmp_greater most n l) ∙ sym (of_size false (of_bits binary64 n) s.0 s.1.value).0)
    ]
infinite_with_numbers false (negsuc n) h =
    let k : n ≤ most = leb-true n most (and_left _ h) in
    ap (λ r. ordering_then (int_cmp (level r) (neg_ℤ (pos n))) Equal) plus_infinity ∙ ap (λ o. ordering_then o Equal) (minus_right most n ∙ cmp_greater (most + n) 0 (omega arith))
    ∙ sym (of_sign (of_bits binary64 n) (sign_of_bits n k)).0 ∙ ap (compares (Infinity false)) (neg-bits n (omega arith))
infinite_with_numbers true (pos n) h =
    let k : n ≤ most = leb-true n most h in
    ap (λ r. ordering_then (int_cmp (level r) (pos n)) Equal) minus_infinity ∙ ap (λ o. ordering_then o Equal) (minus_left most n ∙ cmp_less 0 (most + n) (omega arith))
    ∙ sym (of_sign (of_bits binary64 n) (sign_of_bits n k)).1
infinite_with_numbers true (negsuc n) h =
    let k : n ≤ most = leb-true n most (and_left _ h) in
    ap (λ r. ordering_then (int_cmp (level r) (neg_ℤ (pos n))) Equal) minus_infinity ∙ ap (λ o. ordering_then o Equal) (both_minus most n) ∙ elim (eq-or-lt_of_le k) [
      | inl e ↦ ap (λ o. ordering_then (ordering_reverse o) Equal) (cmp_equal most n (sym e)) ∙ sym (ap (λ j. compares (Infinity true) (neg (of_bits binary64 j))) e ∙ minus_most)
      | inr l ↦ (let s = size_of_bits n l in ap (λ o. ordering_then (ordering_reverse o) Equal) (cmp_greater most n l) ∙ sym (of_size true (of_bits binary64 n) s.0 s.1.value).1)
    ]
    ∙ ap (compares (Infinity true)) (neg-bits n (omega arith))

infinite_with_none : (s : Bool) → stands (place_of (Infinity s)) no_number ≡ Less
infinite_with_none false = ap (λ r. ordering_then (int_cmp (level r) no_number) Equal) plus_infinity ∙ ap (λ o. ordering_then o Equal) (below_none most (lit≤ tt))
infinite_with_none true = ap (λ r. ordering_then (int_cmp (level r) no_number) Equal) minus_infinity ∙ ap (λ o. ordering_then o Equal) (minus_below_none most)

infinity_exact : (s : Bool) → IsPlaceOf (place_of (Infinity s)) (Infinity s)
infinity_exact s r (inl h) = infinite_with_numbers s r h
infinity_exact s r (inr e) = ap (stands (place_of (Infinity s))) e ∙ infinite_with_none s ∙ sym (ap (compares_with (Infinity s)) e ∙ none_compares (Infinity s))

-- ---- the law

pub whole_exact : (x : ℤ) → IsPlaceOf (place_of (whole x)) (whole x)
whole_exact (pos n) = fraction_exact n 1 (lit< tt) false
whole_exact (negsuc n) = fraction_exact (suc n) 1 (lit< tt) true

decimal_exact : (s : Bool) (p : Parts) → IsPlaceOf (place_of (decimal s p)) (decimal s p)
decimal_exact s p = fraction_exact _ _ (ten_to_pos (tens_down p)) s

said : (b d s : Bool) (p : Parts) (n : Number) → (if b then Some (Infinity s) else (if d then Some (decimal s p) else None)) ≡ Some n → IsPlaceOf (place_of n) n
said true d s p n e = subst (λ k. IsPlaceOf (place_of k) k) (ap (λ o. unwrap_or o n) e) (infinity_exact s)
said false true s p n e = subst (λ k. IsPlaceOf (place_of k) k) (ap (λ o. unwrap_or o n) e) (decimal_exact s p)
said false false s p n e = absurd (true≢false (sym (ap is_some e)))

pub word_exact : (word : List ℕ) (n : Number) → number_of word ≡ Some n → IsPlaceOf (place_of n) n
word_exact word n e = said (bytes_eq (size_of word) (codes "inf")) (is_decimal (size_of word)) (is_negative word) (scan (size_of word)) n e

pub places_are_exact : PlacesAreExact
places_are_exact = record { of_whole = whole_exact; of_word = word_exact }
