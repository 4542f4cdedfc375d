use Rattle.std.proofs.Common.{◌≡◌, ◌∙◌, ◌*◌, ◌^◌, ◌<◌, sym, ap, subst, arith, mul-pos, pow_pos, zero-mul, ltb-true, ltb-false}
use Rattle.fast_float.specs.Text.{digits_of, tens_up, tens_down}
use Rattle.fast_float.proofs.ExactLemmas.{ten_to_pos}
use Rattle.exact_amounts.proofs.SideLemmas.{infinite_side_of, finite_side_of, not_tiny_of, not_huge_of, side_above_zero, side_at_zero}
use Rattle.exact_amounts.proofs.side.decimal_side.Goals as goal

pub returns-then-not-is_finite : goal.returns-then-not-is_finite
returns-then-not-is_finite c =
    let p = c.args.decimal.now in
    infinite_side_of (digits_of p * 10 ^ tens_up p) (10 ^ tens_down p) (ten_to_pos (tens_down p)) c.args.near c.requires (sym c.is_finite.ensures.value ∙ c.if-not-is_finite.true)

pub compare_decimal-requires-clause-above : goal.compare_decimal-requires-clause-above
compare_decimal-requires-clause-above c =
    let p = c.args.decimal.now in
    let s = c.size_parts-digits in
    not_tiny_of (digits_of p * 10 ^ tens_up p) (10 ^ tens_down p) (ten_to_pos (tens_down p)) c.args.near c.requires (sym c.is_finite.ensures.value ∙ c.if-not-is_finite.false)
    (subst (λ x. 0 < x) s.ensures.size (mul-pos c.if-digits-gt0.true (pow_pos s.result.1)))

pub compare_decimal-requires-clause-below : goal.compare_decimal-requires-clause-below
compare_decimal-requires-clause-below c =
    let p = c.args.decimal.now in
    not_huge_of (digits_of p * 10 ^ tens_up p) (10 ^ tens_down p) (ten_to_pos (tens_down p)) c.args.near c.requires (sym c.is_finite.ensures.value ∙ c.if-not-is_finite.false)

pub returns-then-digits-gt0 : goal.returns-then-digits-gt0
returns-then-digits-gt0 c =
    let p = c.args.decimal.now in
    let s = c.size_parts-digits in
    c.compare_decimal.ensures
    ∙ finite_side_of (digits_of p * 10 ^ tens_up p) (10 ^ tens_down p) (ten_to_pos (tens_down p)) c.args.near c.requires (sym c.is_finite.ensures.value ∙ c.if-not-is_finite.false)
    (s.result.0 * 2 ^ s.result.1) s.ensures.size

pub returns-then-is_above_zero : goal.returns-then-is_above_zero
returns-then-is_above_zero c =
    let p = c.args.decimal.now in
    let s = c.size_parts-digits in
    let none : s.result.0 ≡ 0 = omega (arith, c.if-digits-gt0.false) in
    side_above_zero (digits_of p * 10 ^ tens_up p) (10 ^ tens_down p) (ten_to_pos (tens_down p)) c.args.near c.requires (sym c.is_finite.ensures.value ∙ c.if-not-is_finite.false)
    (s.result.0 * 2 ^ s.result.1) s.ensures.size (ap (λ x. x * 2 ^ s.result.1) none ∙ zero-mul (2 ^ s.result.1))
    (mul-pos (ltb-true 0 (digits_of p) (sym c.is_above_zero.ensures ∙ c.if-is_above_zero.true)) (ten_to_pos (tens_up p)))

pub returns-else-is_above_zero : goal.returns-else-is_above_zero
returns-else-is_above_zero c =
    let p = c.args.decimal.now in
    let s = c.size_parts-digits in
    let none : s.result.0 ≡ 0 = omega (arith, c.if-digits-gt0.false) in
    let l = ltb-false 0 (digits_of p) (sym c.is_above_zero.ensures ∙ c.if-is_above_zero.false) in
    let zero : digits_of p ≡ 0 = omega (arith, l) in
    side_at_zero (digits_of p * 10 ^ tens_up p) (10 ^ tens_down p) (ten_to_pos (tens_down p)) c.args.near c.requires (sym c.is_finite.ensures.value ∙ c.if-not-is_finite.false)
    (s.result.0 * 2 ^ s.result.1) s.ensures.size (ap (λ x. x * 2 ^ s.result.1) none ∙ zero-mul (2 ^ s.result.1))
    (ap (λ x. x * 10 ^ tens_up p) zero ∙ zero-mul (10 ^ tens_up p))
