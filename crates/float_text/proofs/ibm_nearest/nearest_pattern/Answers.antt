-- By the bits of the decimal's binary64.
use Rattle.std.proofs.Common.{◌≡◌, ◌∙◌, ◌+◌, ◌-◌, ◌*◌, ◌/◌, ◌%◌, ◌^◌, ◌<◌, ◌≤◌, sym, ap, arith, Less, Equal, Greater, nat_cmp}
use lib.Ieee.{to_bits, binary64}
use Rattle.fast_float.specs.Text.{digits_of, tens_up, tens_down}
use Rattle.fast_float.proofs.ExactLemmas.{ten_to_pos}
use Rattle.float_codes.specs.Nearest.{ibm_pack}
use Rattle.float_text.specs.Sides.{rounded_to}
use Rattle.float_text.proofs.OrderLemmas.{is_less, is_equal, is_greater}
use Rattle.float_text.proofs.PlaceLemmas.{too_small, too_large, by_bounds, bits_below, bits_above, bits_middle, bits_room}
use Rattle.float_text.proofs.ibm_nearest.nearest_pattern.Goals.{then-exponent-lt763, else-exponent-lt763, in-Less, in-Equal, in-Greater}
use Rattle.float_text.proofs.ibm_nearest.nearest_pattern.Goals as goal

pub returns-then-exponent-lt741 : goal.returns-then-exponent-lt741
returns-then-exponent-lt741 c =
    let p = c.args.decimal.now in
    let b = c.f64_to_bits_with_nan-bits in
    c.packed.ensures ∙ sym (too_small (digits_of p * 10 ^ tens_up p) (10 ^ tens_down p) b.result (ten_to_pos (tens_down p)) (b.ensures ∙ ap (to_bits binary64) c.to_float-near.ensures) (omega arith) c.args.negative c.if-exponent-lt741.true)

pub returns-then-exponent-ge1279 : goal.returns-then-exponent-ge1279
returns-then-exponent-ge1279 c =
    let p = c.args.decimal.now in
    let b = c.f64_to_bits_with_nan-bits in
    sym (too_large (digits_of p * 10 ^ tens_up p) (10 ^ tens_down p) b.result (ten_to_pos (tens_down p)) (b.ensures ∙ ap (to_bits binary64) c.to_float-near.ensures) (omega arith) c.args.negative c.if-exponent-ge1279.true)

pub compare_with_middle-order-requires-clause-above : goal.compare_with_middle-order-requires-clause-above
compare_with_middle-order-requires-clause-above c =
    let p = c.args.decimal.now in
    let b = c.f64_to_bits_with_nan-bits in
    let k = c.if-exponent-lt763.dropped in
    let low : b.result / 2 ^ 52 < 763 → k ≡ 0 = elim c.if-exponent-lt763.branch [
      | then-exponent-lt763 w ↦ λ h. w.dropped-is
      | else-exponent-lt763 w ↦ λ h. absurd (omega (arith, w.if-exponent-lt763.false))
    ] in
    let high : 763 ≤ b.result / 2 ^ 52 → k ≡ (b.result / 2 ^ 52 - 763) / 4 = elim c.if-exponent-lt763.branch [
      | then-exponent-lt763 w ↦ λ h. absurd (omega (arith, w.if-exponent-lt763.true))
      | else-exponent-lt763 w ↦ λ h. w.dropped-is
    ] in
    (bits_room (digits_of p * 10 ^ tens_up p) (10 ^ tens_down p) b.result (ten_to_pos (tens_down p)) (b.ensures ∙ ap (to_bits binary64) c.to_float-near.ensures) (omega arith) k c.if-exponent-lt741.false (omega (arith, c.if-exponent-ge1279.false)) low high
    (is_equal _ _ (sym c.in-Equal.is ∙ c.place-kept.ensures.side))).0

pub compare_with_middle-order-requires-clause-below : goal.compare_with_middle-order-requires-clause-below
compare_with_middle-order-requires-clause-below c =
    let p = c.args.decimal.now in
    let b = c.f64_to_bits_with_nan-bits in
    let k = c.if-exponent-lt763.dropped in
    let low : b.result / 2 ^ 52 < 763 → k ≡ 0 = elim c.if-exponent-lt763.branch [
      | then-exponent-lt763 w ↦ λ h. w.dropped-is
      | else-exponent-lt763 w ↦ λ h. absurd (omega (arith, w.if-exponent-lt763.false))
    ] in
    let high : 763 ≤ b.result / 2 ^ 52 → k ≡ (b.result / 2 ^ 52 - 763) / 4 = elim c.if-exponent-lt763.branch [
      | then-exponent-lt763 w ↦ λ h. absurd (omega (arith, w.if-exponent-lt763.true))
      | else-exponent-lt763 w ↦ λ h. w.dropped-is
    ] in
    (bits_room (digits_of p * 10 ^ tens_up p) (10 ^ tens_down p) b.result (ten_to_pos (tens_down p)) (b.ensures ∙ ap (to_bits binary64) c.to_float-near.ensures) (omega arith) k c.if-exponent-lt741.false (omega (arith, c.if-exponent-ge1279.false)) low high
    (is_equal _ _ (sym c.in-Equal.is ∙ c.place-kept.ensures.side))).1

pub returns : goal.returns
returns c =
    let p = c.args.decimal.now in
    let s = c.args.negative in
    let b = c.f64_to_bits_with_nan-bits in
    let k = c.if-exponent-lt763.dropped in
    let low : b.result / 2 ^ 52 < 763 → k ≡ 0 = elim c.if-exponent-lt763.branch [
      | then-exponent-lt763 w ↦ λ h. w.dropped-is
      | else-exponent-lt763 w ↦ λ h. absurd (omega (arith, w.if-exponent-lt763.false))
    ] in
    let high : 763 ≤ b.result / 2 ^ 52 → k ≡ (b.result / 2 ^ 52 - 763) / 4 = elim c.if-exponent-lt763.branch [
      | then-exponent-lt763 w ↦ λ h. absurd (omega (arith, w.if-exponent-lt763.true))
      | else-exponent-lt763 w ↦ λ h. w.dropped-is
    ] in
    let a = digits_of p * 10 ^ tens_up p in
    let d = 10 ^ tens_down p in
    let bits = b.ensures ∙ ap (to_bits binary64) c.to_float-near.ensures in
    let last : b.result / 2 ^ 52 < 1279 = omega (arith, c.if-exponent-ge1279.false) in
    let first = c.packed-2.ensures ∙ ap (ibm_pack s k) c.rounded.ensures.value in
    elim c.match-side.branch [
      | in-Less w ↦
          first ∙ (λ i. ibm_pack s k (rounded_to (c.place-kept.ensures.whole i) (w.order-is i)))
          ∙ sym (bits_below a d b.result (ten_to_pos (tens_down p)) bits (omega arith) k c.if-exponent-lt741.false last low high s (is_less _ _ (sym w.in-Less.is ∙ c.place-kept.ensures.side)))
      | in-Equal w ↦
          first ∙ (λ i. ibm_pack s k (rounded_to (c.place-kept.ensures.whole i) ((w.order-is ∙ w.compare_with_middle-order.ensures ∙ ap (λ x. nat_cmp (a * 2 ^ 281) ((2 * x + 1) * 2 ^ (4 * k) * d)) c.place-kept.ensures.whole) i)))
          ∙ sym (bits_middle a d b.result (ten_to_pos (tens_down p)) bits (omega arith) k c.if-exponent-lt741.false last low high s)
      | in-Greater w ↦
          first ∙ (λ i. ibm_pack s k (rounded_to (c.place-kept.ensures.whole i) (w.order-is i)))
          ∙ sym (bits_above a d b.result (ten_to_pos (tens_down p)) bits (omega arith) k c.if-exponent-lt741.false last low high s (is_greater _ _ (sym w.in-Greater.is ∙ c.place-kept.ensures.side)))
    ]
