-- Floats by their patterns: a size in units of 2 ^ -1074, or an infinity, and what the other sign changes.
use Rattle.std.proofs.Common.{◌≡◌, ◌∙◌, ℕ, zero, suc, ◌+◌, ◌*◌, ◌/◌, ◌%◌, ◌^◌, ◌<◌, ◌≤◌, pos, negsuc, Bool, true, false, cond, not, ◌&&◌, int_lt, refl, sym, ap, subst, arith, pow_pos, pow_mono, pow-add, lt_of_lt_of_le, le_trans, le_of_eq, lt_of_not-le, not-le_of_lt, mul-lt-mul_of_pos_right, mul-le-mul_right, mod-eq_of_lt, ltb-true, lt-ltb, le-leb, ne_eqb, eqb, leb, true≢false}
use borrow.Author.Tests.{lt-leb}
use lib.Ieee.{Float, nan, inf, fin, binary64, low, round, units, odd, up, down, lt, neg, of_bits, to_bits, of_fields}
use lib.Dec.{ltb}
use lib.Ieee.Fits.{round_is}
use lib.Ieee.Exact.{HasValue, round_exact}
use lib.Ieee.Order.{transfer}
use Rattle.float_codes.specs.Ranks.{rank, is_zero, IsNumber}
use Rattle.float_codes.proofs.NearestLemmas.{field, value_of_bits, value_of_bits-zero}
use Rattle.float_codes.proofs.RankLemmas.{ranks_keep_order}
use Rattle.float_text.proofs.SignLemmas.{HasSign}

-- the pattern of infinity, which is above those of all sizes
abbrev pub most : ℕ
most = 2047 * 2 ^ 52

-- ---- a float that is a / c and one that is b / c

pub less_values : (x y : Float) (a b c : ℕ) → 0 < c → HasValue x false a c → HasValue y false b c → lt x y ≡ true → a < b
unfolding lt
less_values nan y a b c C h g l = absurd h
less_values (inf s) y a b c C h g l = absurd h
less_values (fin s m e) nan a b c C h g l = absurd g
less_values (fin s m e) (inf t) a b c C h g l = absurd g
less_values (fin true m e) (fin t n d) a b c C h g l = absurd (true≢false h.0)
less_values (fin false m e) (fin true n d) a b c C h g l = absurd (true≢false g.0)
less_values (fin false m e) (fin false n d) a b c C h g l =
    let cross : m * up e * down d < n * up d * down e = ltb-true _ _ l in
    lt_of_not-le (λ (q : b ≤ a). not-le_of_lt cross (transfer (n * up d) (m * up e) (down d) (down e) b a c c C C g.1 h.1 (mul-le-mul_right c q)))

-- ---- the size of a float that is neither negative nor infinite

pub record HasSize (v : Float) (V : ℕ) : Type 0 where
  pub digits : ℕ
  pub twos : ℕ
  pub small : digits < 2 ^ 53
  pub low : twos ≤ 2045
  pub is : V ≡ digits * 2 ^ twos
  pub value : HasValue v false V (2 ^ 1074)

pub size_of_bits : (n : ℕ) → n < most → (V : ℕ) × HasSize (of_bits binary64 n) V
size_of_bits n h = go (field n) refl
  where
    plus : leb (2 ^ 63) n ≡ false
    plus = lt-leb (2 ^ 63) n (omega arith)

    with_plus : (V : ℕ) → HasValue (of_bits binary64 n) (leb (2 ^ 63) n) V (2 ^ 1074) → HasValue (of_bits binary64 n) false V (2 ^ 1074)
    with_plus V g = subst (λ s. HasValue (of_bits binary64 n) s V (2 ^ 1074)) plus g

    go : (x : ℕ) → field n ≡ x → (V : ℕ) × HasSize (of_bits binary64 n) V
    go zero e = (n % 2 ^ 52 * 2 ^ 0, record { digits = n % 2 ^ 52; twos = 0; small = omega arith; low = omega arith; is = refl; value = with_plus _ (value_of_bits-zero n e) })
    go (suc x) e = (
      (n % 2 ^ 52 + 2 ^ 52) * 2 ^ x,
      record { digits = n % 2 ^ 52 + 2 ^ 52; twos = x; small = omega arith; low = omega arith; is = refl; value = with_plus _ (value_of_bits n x e (omega arith)) },
    )

-- such a size is rounded to itself
pub size_is_exact : (v : Float) (V : ℕ) → HasSize v V → HasValue (round binary64 false V (2 ^ 1074)) false V (2 ^ 1074)
size_is_exact v V h =
    let l : h.digits * 2 ^ h.twos < 2 ^ 53 * 2 ^ h.twos = mul-lt-mul_of_pos_right h.small (pow_pos h.twos) in
    let m : 53 + h.twos ≤ 2098 = (let t = h.low in omega arith) in
    let fits : h.digits * 2 ^ h.twos < 2 ^ 2098 = lt_of_lt_of_le l (le_trans (le_of_eq (sym (pow-add 2 53 h.twos))) (pow_mono m)) in
    round_exact binary64 false V (2 ^ 1074) h.digits h.twos (pow_pos 1074) h.small fits (ap (λ x. x * 2 ^ 1074) h.is)

-- ---- patterns are in the order of the sizes

pub rank_is : (n : ℕ) → n < 2 ^ 63 → rank n ≡ pos n
rank_is n h = λ i. cond (lt-leb (2 ^ 63) n h i) (negsuc (n % 2 ^ 63)) (pos (mod-eq_of_lt h i))

and_false : (b : Bool) → (true && not (b && false)) ≡ true
and_false true = refl
and_false false = refl

pub less_bits : (p n : ℕ) → p < n → n ≤ most → lt (of_bits binary64 p) (of_bits binary64 n) ≡ true
less_bits p n h k =
    let l : p < 2 ^ 63 = omega arith in
    let m : n < 2 ^ 63 = omega arith in
    let some : is_zero n ≡ false = ne_eqb (n % 2 ^ 63) 0 (λ e. omega arith) in
    let number_p : IsNumber p = omega arith in
    let number_n : IsNumber n = omega arith in
    ranks_keep_order p n number_p number_n ∙ (λ i. int_lt (rank_is p l i) (rank_is n m i) && not (is_zero p && some i)) ∙ ap (λ b. b && not (is_zero p && false)) (lt-ltb p n h) ∙ and_false (is_zero p)

-- ---- the other sign

neg-odd : (d q k l : ℕ) → neg (odd d false q k l) ≡ odd d true q k l
unfolding neg odd
neg-odd d zero k l = refl
neg-odd d (suc q) k l = refl

neg-either : (b : Bool) (x y z w : Float) → neg x ≡ z → neg y ≡ w → neg (cond b x y) ≡ cond b z w
neg-either true x y z w p q = p
neg-either false x y z w p q = q

neg-inf : neg (inf false) ≡ inf true
unfolding neg
neg-inf = refl

neg-nan : neg nan ≡ nan
unfolding neg
neg-nan = refl

neg-units : (q k : ℕ) → neg (units binary64 false q k) ≡ units binary64 true q k
unfolding units
neg-units q k = neg-either (ltb (q * 2 ^ k) (2 ^ 2098)) _ _ _ _ (neg-odd 54 q k 1074) neg-inf

pub neg-round : (a c : ℕ) → neg (round binary64 false a c) ≡ round binary64 true a c
neg-round a c = ap neg (round_is binary64 false a c) ∙ neg-units _ _ ∙ sym (round_is binary64 true a c)

neg-fields : (x t : ℕ) → neg (of_fields binary64 false x t) ≡ of_fields binary64 true x t
unfolding of_fields
neg-fields zero t = neg-odd 53 t 0 1074
neg-fields (suc x) t = neg-either (eqb (suc x) 2047) _ _ _ _ (neg-either (eqb t 0) _ _ _ _ neg-inf neg-nan) (neg-odd 53 (2 ^ 52 + t) x 1074)

pub neg-bits : (n : ℕ) → n < 2 ^ 63 → neg (of_bits binary64 n) ≡ of_bits binary64 (2 ^ 63 + n)
unfolding of_bits
neg-bits n h =
    let x : n % 2 ^ 63 / 2 ^ 52 ≡ (2 ^ 63 + n) % 2 ^ 63 / 2 ^ 52 = omega arith in
    let t : n % 2 ^ 52 ≡ (2 ^ 63 + n) % 2 ^ 52 = omega arith in
    ap (λ s. neg (of_fields binary64 s (n % 2 ^ 63 / 2 ^ 52) (n % 2 ^ 52))) (lt-leb (2 ^ 63) n h) ∙ neg-fields (n % 2 ^ 63 / 2 ^ 52) (n % 2 ^ 52)
    ∙ (λ i. of_fields binary64 (sym (le-leb (2 ^ 63) (2 ^ 63 + n) (omega arith)) i) (x i) (t i))

pub to_bits-neg : (v : Float) → HasSign false v → to_bits binary64 (neg v) ≡ 2 ^ 63 + to_bits binary64 v
unfolding to_bits neg HasSign
to_bits-neg nan h = absurd h
to_bits-neg (inf true) h = absurd (true≢false h)
to_bits-neg (inf false) h = refl
to_bits-neg (fin true m e) h = absurd (true≢false h)
to_bits-neg (fin false m e) h = omega arith

pub rank-minus : (n : ℕ) → n < 2 ^ 63 → rank (2 ^ 63 + n) ≡ negsuc n
rank-minus n h =
    let e : (2 ^ 63 + n) % 2 ^ 63 ≡ n = omega arith in
    λ i. cond (le-leb (2 ^ 63) (2 ^ 63 + n) (omega arith) i) (negsuc (e i)) (pos ((2 ^ 63 + n) % 2 ^ 63))
