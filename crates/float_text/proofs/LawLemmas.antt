-- Each value of a format is read back from what shows it.
use Rattle.std.proofs.Common.{◌≡◌, ◌∙◌, ℕ, zero, suc, ◌+◌, ◌-◌, ◌*◌, ◌/◌, ◌%◌, ◌^◌, ◌<◌, ◌≤◌, ◌++◌, ◌&&◌, ◌==◌, Bool, true, false, cond, List, length, bytes_eq, codes, if◌then◌else◌, nat_cmp, Less, Option, Some, None, refl, sym, ap, subst, inl, inr, arith, lit≤, mod-lt, mul-pos, true≢false, pow-add, pow_pos, mul_assoc, mul_comm, mul_right_comm, mul-le-mul_right, mul-lt-mul_of_pos_right, le_of_eq, le_trans, lt_of_lt_of_le, lt_of_le_of_lt}
use lib.Dec.{leb, ltb}
use lib.Ieee.{Float, Format, nan, inf, fin, round, odd, units, prec, low, emax, of_bits, up, down}
use lib.Ieee.Bits.{of_bits-fits}
use lib.Ieee.Exact.{HasValue}
use lib.Ieee.Fits.{round_is}
use Rattle.std.specs.Float.{binary32, binary64, float_is_finite}
use Rattle.fast_float.specs.Text.{Parts, scan, digits_of, tens_up, tens_down, nearest}
use Rattle.fast_float.proofs.ExactLemmas.{ten_to_pos}
use Rattle.float_codes.specs.declared.float_format.FloatFormat.{FloatFormat}
use Rattle.float_codes.specs.declared.float_format.FloatFormat.TheVariants.{Ibm32, Ieee32, Ieee64}
use Rattle.float_codes.specs.Values.{ibm_value, ibm_fraction, ibm_exponent, float_of_bits}
use Rattle.float_codes.specs.Nearest.{ibm_nearest, ibm_pattern, ibm_pack, IsNormal}
use Rattle.float_codes.proofs.LawLemmas.{fits_stays, ibm_is_exact, ibm_reads_back}
use Rattle.float_codes.proofs.NearestLemmas.{pattern_of_value}
use Rattle.float_text.specs.declared.reading.Reading.{Reading}
use Rattle.float_text.specs.declared.reading.Reading.TheVariants.{Value, PastGreatest}
use Rattle.float_text.specs.Sides.{rounded_to}
use Rattle.float_text.specs.Words.{reading_of, nearest_in, finite_reading, ibm_reading, is_negative, size_of, is_decimal}
use Rattle.float_text.specs.Texts.{shown, reader, ReadsBack}
use Rattle.float_text.specs.Laws.{SamplesReadBack}
use Rattle.float_text.proofs.OrderLemmas.{cmp_less}
use Rattle.float_text.proofs.SignLemmas.{HasSign, sign_round}
use Rattle.float_text.proofs.NearLemmas.{at_unit, closest_below, nearest_at, side_below}
use Rattle.float_text.proofs.PlaceLemmas.{sign_of_value}

-- ---- a fraction that is rounded with a sign has the size that it has without

size_of_odd : (d : ℕ) (s : Bool) (q k l V D : ℕ) → HasValue (odd d s q k l) s V D → HasValue (odd d false q k l) false V D
unfolding odd
size_of_odd d s zero k l V D h = (refl, h.1)
size_of_odd d s (suc q) k l V D h = (refl, h.1)

size_of_either : (b s : Bool) (d q k l V D : ℕ) → HasValue (cond b (odd d s q k l) (inf s)) s V D → HasValue (cond b (odd d false q k l) (inf false)) false V D
size_of_either true s d q k l V D h = size_of_odd d s q k l V D h
size_of_either false s d q k l V D h = h

size_of_units : (f : Format) (s : Bool) (q k V D : ℕ) → HasValue (units f s q k) s V D → HasValue (units f false q k) false V D
unfolding units
size_of_units f s q k V D h = size_of_either (ltb (q * 2 ^ k) (2 ^ (low f + suc (emax f)))) s (suc (prec f)) q k (low f) V D h

size_of_round : (f : Format) (s : Bool) (a c V D : ℕ) → HasValue (round f s a c) s V D → HasValue (round f false a c) false V D
size_of_round f s a c V D h = subst (λ x. HasValue x false V D) (sym (round_is f false a c)) (size_of_units f s _ _ V D (subst (λ x. HasValue x s V D) (round_is f s a c) h))

-- the same value over a larger power of two
in_least_units : (x : Float) (s : Bool) (N : ℕ) → HasValue x s N (2 ^ 280) → HasValue x s (N * 2 ^ 794) (2 ^ 1074)
in_least_units nan s N h = h
in_least_units (inf t) s N h = h
in_least_units (fin t m e) s N h = (
  h.0,
  ap (λ z. m * up e * z) (pow-add 2 280 794) ∙ sym (mul_assoc (m * up e) (2 ^ 280) (2 ^ 794)) ∙ ap (λ z. z * 2 ^ 794) h.1 ∙ mul_right_comm N (down e) (2 ^ 794),
)

-- ---- a number whose binary64 is a normal IBM value is rounded to that value

module _ (s : Bool) (a c p : ℕ) (C : 0 < c) (is : round binary64 s a c ≡ ibm_value p) (normal : IsNormal p) where
  abbrev m : ℕ
  m = ibm_fraction p

  abbrev k : ℕ
  k = ibm_exponent p

  abbrev N : ℕ
  N = m * 2 ^ (4 * k)

  few : m < 2 ^ 24
  few = mod-lt p (lit≤ tt)

  up_to : k < 128
  up_to = mod-lt (p / 2 ^ 24) (lit≤ tt)

  large : 0 < k → 2 ^ 20 ≤ m
  large h = elim normal [ inl l ↦ l | inr z ↦ absurd (omega arith) ]

  sign : leb (2 ^ 31) p ≡ s
  sign = sign_of_value (ibm_value p) (leb (2 ^ 31) p) s N (2 ^ 280) (ibm_is_exact p) (subst (HasSign s) is (sign_round binary64 s a c))

  value : HasValue (round binary64 false a c) false (N * 2 ^ 794) (2 ^ 1074)
  value =
      in_least_units _ false N
      (size_of_round binary64 s a c N (2 ^ 280) (subst (λ x. HasValue x s N (2 ^ 280)) (sym is) (subst (λ t. HasValue (ibm_value p) t N (2 ^ 280)) sign (ibm_is_exact p))))

  whole : N * 2 ^ 794 ≡ m * 2 ^ (794 + 4 * k)
  whole = mul_assoc m (2 ^ (4 * k)) (2 ^ 794) ∙ ap (λ x. m * x) (mul_comm (2 ^ (4 * k)) (2 ^ 794) ∙ sym (pow-add 2 794 (4 * k)))

  unit_some : 0 < 2 ^ (794 + 4 * k)
  unit_some = pow_pos (794 + 4 * k)

  from_number : ibm_nearest s a c ≡ ibm_pack s k m
  from_number =
      let K : k ≤ 128 = omega (arith, up_to) in
      let from : m * 2 ^ (794 + 4 * k) ≤ N * 2 ^ 794 = le_of_eq (sym whole) in
      let to : N * 2 ^ 794 < m * 2 ^ (794 + 4 * k) + 2 ^ (794 + 4 * k) = omega (arith, whole, unit_some) in
      let half : 2 * (N * 2 ^ 794) < (2 * m + 1) * 2 ^ (794 + 4 * k) = (let o : (2 * m + 1) * 2 ^ (794 + 4 * k) ≡ 2 * (m * 2 ^ (794 + 4 * k)) + 2 ^ (794 + 4 * k) = omega arith in omega (arith, whole, unit_some, o)) in
      nearest_at a c (N * 2 ^ 794) C value k K m few large from to s
      ∙ ap (λ o. ibm_pack s k (rounded_to m o)) (cmp_less (2 * (a * 2 ^ 280)) ((2 * m + 1) * (c * 2 ^ (4 * k))) (side_below a c (N * 2 ^ 794) C value k K m few large from to half))

  from_value : ibm_nearest s N (2 ^ 280) ≡ ibm_pack s k m
  from_value =
      let u = 2 ^ 280 * 2 ^ (4 * k) in
      let all : N * 2 ^ 280 ≡ m * u = mul_assoc m (2 ^ (4 * k)) (2 ^ 280) ∙ ap (λ x. m * x) (mul_comm (2 ^ (4 * k)) (2 ^ 280)) in
      let U : 0 < u = mul-pos (pow_pos 280) (pow_pos (4 * k)) in
      let low_is : 0 < k → 2 ^ 20 * u ≤ N * 2 ^ 280 = λ h. le_trans (mul-le-mul_right u (large h)) (le_of_eq (sym all)) in
      let high_is : N * 2 ^ 280 < 2 ^ 24 * u = lt_of_le_of_lt (le_of_eq all) (mul-lt-mul_of_pos_right few U) in
      at_unit s N (2 ^ 280) k m (pow_pos 280) low_is high_is (closest_below (N * 2 ^ 280) u m (le_of_eq (sym all)) (omega (arith, all, U)) (omega (arith, all, U)))

  pub normal_stays : ibm_nearest s a c ≡ ibm_pattern (ibm_value p)
  normal_stays = from_number ∙ sym from_value ∙ ap (λ t. ibm_nearest t N (2 ^ 280)) (sym sign) ∙ sym (pattern_of_value (ibm_value p) (leb (2 ^ 31) p) N (2 ^ 280) (pow_pos 280) (ibm_is_exact p))

-- so is one whose binary64 is any IBM value
ibm_stays : (s : Bool) (a c b : ℕ) → 0 < c → round binary64 s a c ≡ ibm_value b → ibm_reading s (ibm_nearest s a c) ≡ Value (ibm_value b)
ibm_stays s a c b C is =
    let h = ibm_reads_back b in
    ap (ibm_reading s) (normal_stays s a c h.0 C (is ∙ sym h.2) h.3 ∙ ap ibm_pattern h.2 ∙ h.1) ∙ ap Value h.2

-- ---- a word that is read as such a binary64

value_in : Option Reading → Float
value_in None = nan
value_in (Some (Value v)) = v
value_in (Some (PastGreatest s)) = nan

is_value : Option Reading → Bool
is_value None = false
is_value (Some (Value v)) = true
is_value (Some (PastGreatest s)) = false

value_of_finite : (s : Bool) (w v : Float) → Some (finite_reading s w) ≡ Some (Value v) → w ≡ v
unfolding value_in is_value
value_of_finite s w v e = go (float_is_finite w) e
  where
    go : (b : Bool) → (let r : Option Reading = Some (if b then Value w else PastGreatest s) in r) ≡ Some (Value v) → w ≡ v
    go true h = ap value_in h
    go false h = absurd (true≢false (sym (ap is_value h)))

abbrev chosen : Bool → Bool → Bool → Bool → Reading → Option Reading
chosen a b c n r = if a then Some (Value nan) else (if b then Some (Value (inf n)) else (if c then Some r else None))

ibm_read : (a b d n : Bool) (r q : Reading) (v : Float) → (Some r ≡ Some (Value v) → q ≡ Value v) → chosen a b d n r ≡ Some (Value v) → chosen a b d n q ≡ Some (Value v)
ibm_read true b d n r q v f h = h
ibm_read false true d n r q v f h = h
ibm_read false false true n r q v f h = ap Some (f h)
ibm_read false false false n r q v f h = h

pub samples_read_back : SamplesReadBack
samples_read_back Ibm32 b word h =
    let p = scan (size_of word) in
    let s = is_negative word in
    ibm_read (bytes_eq word (codes "nan")) (bytes_eq (size_of word) (codes "inf")) (is_decimal (size_of word)) s (nearest_in Ieee64 s p) (nearest_in Ibm32 s p) (ibm_value b)
    (λ e. ibm_stays s (digits_of p * 10 ^ tens_up p) (10 ^ tens_down p) b (ten_to_pos (tens_down p)) (value_of_finite s (nearest binary64 s p) (ibm_value b) e)) h
samples_read_back Ieee32 b word h = h ∙ ap (λ v. Some (Value v)) (fits_stays binary32 (of_bits binary32 b) (of_bits-fits binary32 b))
samples_read_back Ieee64 b word h = h

-- what is read as a float shows is read back as it
pub reads_back : (f : FloatFormat) (v : Float) (word : List ℕ) → reading_of (reader f) word ≡ Some (Value (shown f v)) → ReadsBack f v word
reads_back f v word h =
    record {
      as_shown = h;
      as_sample = λ b e. samples_read_back f b word (h ∙ ap (λ x. Some (Value (shown f x))) e) ∙ ap (λ x. Some (Value x)) (sym e);
    }
