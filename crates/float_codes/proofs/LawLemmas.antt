-- The laws of the float formats.
use mathlib.Core.Path.{◌≡◌, refl, sym, ap, ◌∙◌, subst}
use mathlib.Core.Logic.{◌⊎◌, inl, inr}
use mathlib.Core.Bool.{Bool, true, false, not, ◌&&◌, cond}
use Prim.Native.Nat.{ℕ, zero, suc, ◌+◌, ◌-◌, ◌*◌, ◌/◌, ◌%◌, ◌^◌, ◌<◌, ◌≤◌, compare}
use native.Mathlib.Nat.{mul-pos, mod-lt, lt_of_lt_of_le, lt_of_le_of_lt, le_trans, le_of_lt, mul_assoc, mul_comm, mul_right_comm, mul-lt-mul_of_pos_right, lt_irrefl, lt_of_mul-lt-mul_right, le_of_mul-le-mul_right, mul-div_cancel, div-one}
use native.Mathlib.Omega.{arith}
use lib.Pow.{pow-add, pow_pos, pow_mono, pow-lt, shl_lt}
use lib.IntN.{ℤ, pos, negsuc}
use lib.Dec.{T, leb, ltb, eqb, lit≤, leb→le, ltb→lt}
use borrow.Author.Tests.{le-leb, lt-leb, leb-false, ne_eqb}
use lib.Ieee.{Float, Format, nan, inf, fin, binary32, binary64, prec, low, emax, up, down, odd, round, nearest, size, of_bits, to_bits, fits}
use lib.Ieee.Fits.{down_pos, and_l, and_r, round-fits, odd-fits}
use lib.Ieee.Bits.{of_bits-fits, to_bits-of_bits}
use lib.Ieee.Digits.{size_reaches, size-le, size-lt, back}
use lib.Ieee.Exact.{HasValue, odd_sign, round_exact}
use lib.Ieee.Nearest.{closest, closest_same}
use lib.Ieee.Scale.{round_same}
use Rattle.std.specs.Float.{float_is_finite, round_to_format}
use Rattle.std.proofs.Common.{Some, None, if◌then◌else◌}
use Rattle.float_codes.specs.declared.float_format.FloatFormat.TheVariants.{Ieee32, Ieee64}
use Rattle.float_codes.specs.Values.{ibm_value}
use Rattle.float_codes.specs.Nearest.{ibm_nearest, ibm_pack, ibm_at, ibm_dropped, IsNormal}
use Rattle.float_codes.specs.Laws.{IbmIsExact, IeeeReadsBack, IbmReadsBack}
use Rattle.float_codes.proofs.IbmLemmas.{same_value, odd_shift}
use Rattle.float_codes.proofs.NearestLemmas.{pattern_of_value}

pub ibm_is_exact : IbmIsExact
unfolding ibm_value
ibm_is_exact b = odd_sign 24 (leb (2 ^ 31) b) (b % 2 ^ 24) (4 * (b / 2 ^ 24 % 128)) 280

-- ---- what fits a format is not rounded

unrounded : (f : Format) (s : Bool) (m j : ℕ) (e : ℤ) → m < 2 ^ prec f → m * up e < 2 ^ suc (emax f) * down e → m * up e * 2 ^ low f ≡ m * 2 ^ j * down e
    → T (fits f (fin s m e)) → round f s (m * up e) (down e) ≡ fin s m e
unrounded f s m j e small reach h fit =
    let a = m * 2 ^ j in
    let d = down e in
    let l = 2 ^ low f in
    let top_is : 2 ^ suc (emax f) * l ≡ 2 ^ (low f + suc (emax f)) = mul_comm (2 ^ suc (emax f)) l ∙ sym (pow-add 2 (low f) (suc (emax f))) in
    let under : a * d < 2 ^ suc (emax f) * l * d = subst (λ (z : ℕ). z < 2 ^ suc (emax f) * l * d) h
    (subst (λ (z : ℕ). m * up e * l < z) (mul_right_comm (2 ^ suc (emax f)) d l) (mul-lt-mul_of_pos_right reach (pow_pos (low f)))) in
    let below : a < 2 ^ (low f + suc (emax f)) = subst (λ (z : ℕ). a < z) top_is (lt_of_mul-lt-mul_right d under) in
    let v : HasValue (round f s a l) s a l = round_exact f s a l m j (pow_pos (low f)) small below refl in
    round_same f s (m * up e) d a l (down_pos e) (pow_pos (low f)) h
    ∙ same_value f (round f s a l) (fin s m e) s a (round-fits f s a l) fit v (refl, h)

le_of_pow : (a b : ℕ) → 2 ^ a ≤ 2 ^ b → a ≤ b
le_of_pow a b h = go (leb a b) refl
  where
    go : (t : Bool) → leb a b ≡ t → a ≤ b
    go true e = leb→le a b (subst T (sym e) tt)
    go false e = absurd (lt_irrefl (2 ^ a) (lt_of_le_of_lt h (pow-lt (leb-false a b e))))

places : (l k m : ℕ) → suc k ≤ l → m * 1 * 2 ^ l ≡ m * 2 ^ (l - suc k) * 2 ^ suc k
places l k m h =
    let one : m * 1 ≡ m = omega arith in
    ap (λ (z : ℕ). z * 2 ^ l) one ∙ ap (λ (z : ℕ). m * 2 ^ z) (sym (back l (suc k) h)) ∙ ap (λ (z : ℕ). m * z) (pow-add 2 (l - suc k) (suc k)) ∙ sym (mul_assoc m (2 ^ (l - suc k)) (2 ^ suc k))

places_up : (l k m : ℕ) → m * 2 ^ k * 2 ^ l ≡ m * 2 ^ (k + l) * 1
places_up l k m =
    let one : m * 2 ^ (k + l) * 1 ≡ m * 2 ^ (k + l) = omega arith in
    mul_assoc m (2 ^ k) (2 ^ l) ∙ ap (λ (z : ℕ). m * z) (sym (pow-add 2 k l)) ∙ sym one

zero_case : (f : Format) (s : Bool) (e : ℤ) → T (fits f (fin s 0 e)) → round f s (0 * up e) (down e) ≡ fin s 0 e
zero_case f s e fit =
    let none : 0 * up e * 2 ^ low f ≡ 0 * 2 ^ 0 * down e = omega arith in
    let reach : 0 * up e < 2 ^ suc (emax f) * down e =
    let z : 0 ≡ 0 * up e = omega arith in subst (λ (x : ℕ). x < 2 ^ suc (emax f) * down e) z (mul-pos (pow_pos (suc (emax f))) (down_pos e)) in
    unrounded f s 0 0 e (pow_pos (prec f)) reach none fit

kept : (f : Format) (s : Bool) (m : ℕ) (e : ℤ) → m < 2 ^ prec f → down e ≤ 2 ^ low f → m * up e < 2 ^ suc (emax f) * down e → T (fits f (fin s m e))
    → round f s (m * up e) (down e) ≡ fin s m e
kept f s m (pos k) a b c fit = unrounded f s m (k + low f) (pos k) a c (places_up (low f) k m) fit
kept f s m (negsuc k) a b c fit = unrounded f s m (low f - suc k) (negsuc k) a c (places (low f) k m (le_of_pow (suc k) (low f) b)) fit

pub fits_stays : (f : Format) (x : Float) → T (fits f x) → round_to_format f x ≡ x
unfolding round_to_format
fits_stays f nan t = refl
fits_stays f (inf s) t = refl
fits_stays f (fin s zero e) t = zero_case f s e t
fits_stays f (fin s (suc m) e) t = go (unfold fits in t)
  where
    go : T (eqb (suc m % 2) 1 && ltb (suc m) (2 ^ prec f) && leb (down e) (2 ^ low f) && ltb (suc m * up e) (2 ^ suc (emax f) * down e)) → round f s (suc m * up e) (down e) ≡ fin s (suc m) e
    go u =
        let a : Bool = eqb (suc m % 2) 1 in
        let b : Bool = ltb (suc m) (2 ^ prec f) in
        let c : Bool = leb (down e) (2 ^ low f) in
        let d : Bool = ltb (suc m * up e) (2 ^ suc (emax f) * down e) in
        let abc : T (a && b && c) = and_l (a && b && c) d u in
        kept f s (suc m) e (ltb→lt (suc m) (2 ^ prec f) (and_r a b (and_l (a && b) c abc))) (leb→le (down e) (2 ^ low f) (and_r (a && b) c abc))
        (ltb→lt (suc m * up e) (2 ^ suc (emax f) * down e) (and_r (a && b && c) d u)) t

-- ---- IEEE patterns

pub ieee64_reads_back : IeeeReadsBack Ieee64
ieee64_reads_back b h n = ap Some (to_bits-of_bits binary64 b h n)

never_both : (t : Bool) → (t && not t) ≡ false
never_both true = refl
never_both false = refl

pub ieee32_reads_back : IeeeReadsBack Ieee32
ieee32_reads_back b h n =
    let v = of_bits binary32 b in
    ap (λ (w : Float). if float_is_finite v && not (float_is_finite w) then None else Some (to_bits binary32 w)) (fits_stays binary32 v (of_bits-fits binary32 b))
    ∙ ap (λ (t : Bool). if t then None else Some (to_bits binary32 v)) (never_both (float_is_finite v))
    ∙ ap Some (to_bits-of_bits binary32 b h n)

-- ---- IBM patterns

closest_one : (q : ℕ) → closest q 1 ≡ q
closest_one q =
    let z : q % 1 * 2 ≡ 0 = omega arith in
    ap (λ (x : ℕ). nearest (q / 1) (compare x 1)) z ∙ div-one q

size_of_number : (m e : ℕ) → m < 2 ^ 24 → size (m * 2 ^ (4 * e)) ≤ 24 + 4 * e
size_of_number m e h = size-le (m * 2 ^ (4 * e)) (24 + 4 * e) (shl_lt 24 (4 * e) h)

-- the digits that are dropped are zeros
split : (m e k : ℕ) → k ≤ e → m * 2 ^ (4 * (e - k)) * 2 ^ (4 * k) ≡ m * 2 ^ (4 * e)
split m e k h =
    let sum : 4 * (e - k) + 4 * k ≡ 4 * e = omega arith in
    mul_assoc m (2 ^ (4 * (e - k))) (2 ^ (4 * k)) ∙ ap (λ (z : ℕ). m * z) (sym (pow-add 2 (4 * (e - k)) (4 * k)) ∙ ap (λ (z : ℕ). 2 ^ z) sum)

record Parts (m e k q : ℕ) : Type 0 where
  dropped : ibm_dropped (m * 2 ^ (4 * e)) ≡ k
  exponent : k < 128
  same : q * 2 ^ (4 * k) ≡ m * 2 ^ (4 * e)
  fraction : q < 2 ^ 24
  normal : (2 ^ 20 ≤ q) ⊎ (k ≡ 0)

below_six : (n k q : ℕ) → n ≡ q * 2 ^ (4 * k) → size n ≤ 4 * k + 24 → q < 2 ^ 24
below_six n k q e h =
    let sum : 4 * k + 24 ≡ 24 + 4 * k = omega arith in
    let a : n < 2 ^ 24 * 2 ^ (4 * k) = subst (λ (z : ℕ). n < z) (ap (λ (z : ℕ). 2 ^ z) sum ∙ pow-add 2 24 (4 * k)) (lt_of_lt_of_le (size-lt n) (pow_mono h)) in
    lt_of_mul-lt-mul_right (2 ^ (4 * k)) (subst (λ (z : ℕ). z < 2 ^ 24 * 2 ^ (4 * k)) e a)

above_five : (n k q : ℕ) → n ≡ q * 2 ^ (4 * k) → 4 * k + 20 < size n → 2 ^ 20 ≤ q
above_five n k q e h =
    let sum : 4 * k + 20 ≡ 20 + 4 * k = omega arith in
    let a : 2 ^ 20 * 2 ^ (4 * k) ≤ n = subst (λ (z : ℕ). z ≤ n) (ap (λ (z : ℕ). 2 ^ z) sum ∙ pow-add 2 20 (4 * k)) (size_reaches n (4 * k + 20) h) in
    le_of_mul-le-mul_right (subst (λ (z : ℕ). 2 ^ 20 * 2 ^ (4 * k) ≤ z) e a) (pow_pos (4 * k))

parts : (m e : ℕ) → m < 2 ^ 24 → e < 128 → Parts m e (ibm_dropped (m * 2 ^ (4 * e))) (m * 2 ^ (4 * (e - ibm_dropped (m * 2 ^ (4 * e)))))
parts m e M E =
    let n = m * 2 ^ (4 * e) in
    let k = ibm_dropped n in
    let q = m * 2 ^ (4 * (e - k)) in
    let u : size n ≤ 24 + 4 * e = size_of_number m e M in
    let k_le : k ≤ e = omega arith in
    let same : q * 2 ^ (4 * k) ≡ n = split m e k k_le in
    record {
      dropped = refl;
      exponent = omega arith;
      same = same;
      fraction = below_six n k q (sym same) (omega arith);
      normal = go k refl (above_five n k q (sym same));
    }
  where
    go : (j : ℕ) → ibm_dropped (m * 2 ^ (4 * e)) ≡ j → (4 * j + 20 < size (m * 2 ^ (4 * e)) → 2 ^ 20 ≤ m * 2 ^ (4 * (e - j))) → (2 ^ 20 ≤ m * 2 ^ (4 * (e - j))) ⊎ (j ≡ 0)
    go zero p a = inr refl
    go (suc j) p a = inl (a (omega arith))

nearest_is : (s : Bool) (m e k q : ℕ) → Parts m e k q → ibm_nearest s (m * 2 ^ (4 * e)) (2 ^ 280) ≡ ibm_at s k q
unfolding ibm_nearest
nearest_is s m e k q p =
    let n = m * 2 ^ (4 * e) in
    let w : n * 2 ^ 280 / 2 ^ 280 ≡ n = mul-div_cancel n (pow_pos 280) in
    let d : ibm_dropped (n * 2 ^ 280 / 2 ^ 280) ≡ k = ap ibm_dropped w ∙ p.dropped in
    let cross : n * 2 ^ 280 * 1 ≡ q * (2 ^ 280 * 2 ^ (4 * k)) =
    let one : n * 2 ^ 280 * 1 ≡ n * 2 ^ 280 = omega arith in
    one ∙ ap (λ (z : ℕ). z * 2 ^ 280) (sym p.same) ∙ mul_right_comm q (2 ^ (4 * k)) (2 ^ 280) ∙ mul_assoc q (2 ^ 280) (2 ^ (4 * k)) in
    let c : closest (n * 2 ^ 280) (2 ^ 280 * 2 ^ (4 * k)) ≡ q = closest_same (n * 2 ^ 280) (2 ^ 280 * 2 ^ (4 * k)) q 1 (mul-pos (pow_pos 280) (pow_pos (4 * k))) (lit≤ tt) cross ∙ closest_one q in
    let apart : eqb q (2 ^ 24) ≡ false = ne_eqb q (2 ^ 24) (λ h. let l = p.fraction in omega arith) in
    ap (λ (z : ℕ). ibm_pack s z (closest (n * 2 ^ 280) (2 ^ 280 * 2 ^ (4 * z)))) d
    ∙ ap (λ (z : ℕ). ibm_pack s k z) c
    ∙ ap (λ (t : Bool). if t then ibm_at s (k + 1) (2 ^ 20) else ibm_at s k q) apart

at_is : (s : Bool) (k q : ℕ) → k < 128 → ibm_at s k q ≡ Some (cond s (2 ^ 31) 0 + k * 2 ^ 24 + q)
at_is s k q h = ap (λ (t : Bool). if t then None else Some (cond s (2 ^ 31) 0 + k * 2 ^ 24 + q)) (lt-leb 128 k h)

same_parts : (s : Bool) (m e k q : ℕ) → m < 2 ^ 24 → e < 128 → Parts m e k q → odd 24 s q (4 * k) 280 ≡ odd 24 s m (4 * e) 280
same_parts s m e k q M E p =
    let far : 24 + (4 * e + 794) ≤ 1074 + 1024 = omega arith in
    let near : 24 + (4 * k + 794) ≤ 1074 + 1024 = let l = p.exponent in omega arith in
    let a : q * 2 ^ (4 * k + 794) ≡ m * 2 ^ (4 * e + 794) =
    ap (λ (z : ℕ). q * z) (pow-add 2 (4 * k) 794) ∙ sym (mul_assoc q (2 ^ (4 * k)) (2 ^ 794)) ∙ ap (λ (z : ℕ). z * 2 ^ 794) p.same ∙ mul_assoc m (2 ^ (4 * e)) (2 ^ 794) ∙ ap (λ (z : ℕ). m * z) (sym (pow-add 2 (4 * e) 794)) in
    sym (odd_shift 24 s q (4 * k) 280 794)
    ∙ same_value binary64 (odd 24 s q (4 * k + 794) 1074) (odd 24 s m (4 * e + 794) 1074) s (m * 2 ^ (4 * e + 794))
    (odd-fits binary64 24 s q (4 * k + 794) p.fraction (le_trans (le_of_lt p.fraction) (lit≤ tt)) (lt_of_lt_of_le (shl_lt 24 (4 * k + 794) p.fraction) (pow_mono near)))
    (odd-fits binary64 24 s m (4 * e + 794) M (le_trans (le_of_lt M) (lit≤ tt)) (lt_of_lt_of_le (shl_lt 24 (4 * e + 794) M) (pow_mono far)))
    (subst (λ (z : ℕ). HasValue (odd 24 s q (4 * k + 794) 1074) s z (2 ^ 1074)) a (odd_sign 24 s q (4 * k + 794) 1074))
    (odd_sign 24 s m (4 * e + 794) 1074)
    ∙ odd_shift 24 s m (4 * e) 280 794

value_at : (s : Bool) (k q : ℕ) → k < 128 → q < 2 ^ 24 → ibm_value (cond s (2 ^ 31) 0 + k * 2 ^ 24 + q) ≡ odd 24 s q (4 * k) 280
unfolding ibm_value
value_at true k q K Q =
    let c = 2 ^ 31 + k * 2 ^ 24 + q in
    let f : c % 2 ^ 24 ≡ q = omega arith in
    let x : c / 2 ^ 24 % 128 ≡ k = omega arith in
    λ i. odd 24 (le-leb (2 ^ 31) c (omega arith) i) (f i) (4 * x i) 280
value_at false k q K Q =
    let c = 0 + k * 2 ^ 24 + q in
    let f : c % 2 ^ 24 ≡ q = omega arith in
    let x : c / 2 ^ 24 % 128 ≡ k = omega arith in
    λ i. odd 24 (lt-leb (2 ^ 31) c (omega arith) i) (f i) (4 * x i) 280

fraction_at : (s : Bool) (k q : ℕ) → q < 2 ^ 24 → (cond s (2 ^ 31) 0 + k * 2 ^ 24 + q) % 2 ^ 24 ≡ q
fraction_at true k q Q = omega arith
fraction_at false k q Q = omega arith

exponent_at : (s : Bool) (k q : ℕ) → k < 128 → q < 2 ^ 24 → (cond s (2 ^ 31) 0 + k * 2 ^ 24 + q) / 2 ^ 24 % 128 ≡ k
exponent_at true k q K Q = omega arith
exponent_at false k q K Q = omega arith

normal_at : (s : Bool) (k q : ℕ) → k < 128 → q < 2 ^ 24 → (2 ^ 20 ≤ q) ⊎ (k ≡ 0) → IsNormal (cond s (2 ^ 31) 0 + k * 2 ^ 24 + q)
normal_at s k q K Q (inl a) = inl (subst (λ (z : ℕ). 2 ^ 20 ≤ z) (sym (fraction_at s k q Q)) a)
normal_at s k q K Q (inr a) = inr (exponent_at s k q K Q ∙ a)

value_is : (b : ℕ) → ibm_value b ≡ odd 24 (leb (2 ^ 31) b) (b % 2 ^ 24) (4 * (b / 2 ^ 24 % 128)) 280
unfolding ibm_value
value_is b = refl

pub ibm_reads_back : IbmReadsBack
ibm_reads_back b =
    let s = leb (2 ^ 31) b in
    let m = b % 2 ^ 24 in
    let e = b / 2 ^ 24 % 128 in
    let M : m < 2 ^ 24 = mod-lt b (lit≤ tt) in
    let E : e < 128 = mod-lt (b / 2 ^ 24) (lit≤ tt) in
    let k = ibm_dropped (m * 2 ^ (4 * e)) in
    let q = m * 2 ^ (4 * (e - k)) in
    let p : Parts m e k q = parts m e M E in (
      cond s (2 ^ 31) 0 + k * 2 ^ 24 + q,
      pattern_of_value (ibm_value b) s (m * 2 ^ (4 * e)) (2 ^ 280) (pow_pos 280) (ibm_is_exact b) ∙ nearest_is s m e k q p ∙ at_is s k q p.exponent,
      value_at s k q p.exponent p.fraction ∙ same_parts s m e k q M E p ∙ sym (value_is b),
      normal_at s k q p.exponent p.fraction p.normal,
    )
