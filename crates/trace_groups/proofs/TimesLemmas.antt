-- Amounts of floats compared by digits and powers.
use Rattle.std.specs.Prelude.{◌≡◌, ℕ, ◌+◌, ◌-◌, ◌*◌, ◌^◌, ◌/◌, ◌%◌, ◌<◌, ◌≤◌, ◌==◌, Bool, true, false, nat_lt, if◌then◌else◌, refl}
use Rattle.std.proofs.Common.{arith, sym, ap, ◌∙◌, subst}
use Rattle.std.proofs.lemmas.Bool.{ltb-true, ltb-false, lt-ltb, le-ltb, eqb-true}
use Rattle.std.proofs.lemmas.Nat.{pow-add, mod_below}
use Rattle.std.proofs.Math.Nat.{mul-le-mul_left, mod-eq_of_lt}
use Rattle.std.proofs.Math.Pow.{pow_mono}
use Rattle.trace_groups.specs.Loud.{power_of, digits_of, units_of}

-- what stands in front of a fraction, where the exponent is this
few_digits : (q f : ℕ) → f < 2 ^ 52 → (if q == 0 then 0 else 2 ^ 52) + f < 2 ^ 53
few_digits q f h = by (q == 0)
  where
    by : (b : Bool) → (if b then 0 else 2 ^ 52) + f < 2 ^ 53
    by true = omega arith
    by false = omega arith

many_digits : (q f : ℕ) → 0 < q - 1 → 2 ^ 52 ≤ (if q == 0 then 0 else 2 ^ 52) + f
many_digits q f h = by (q == 0) refl
  where
    by : (b : Bool) → (q == 0) ≡ b → 2 ^ 52 ≤ (if b then 0 else 2 ^ 52) + f
    by true e = absurd (let none = eqb-true q 0 e in omega arith)
    by false e = omega arith

digits_few : (b : ℕ) → digits_of b < 2 ^ 53
digits_few b = few_digits (b / 2 ^ 52) (b % 2 ^ 52) (mod_below b (2 ^ 52) (omega arith))

digits_many : (b : ℕ) → 0 < power_of b → 2 ^ 52 ≤ digits_of b
digits_many b h = many_digits (b / 2 ^ 52) (b % 2 ^ 52) h

-- digits s of the amount and t of the median, P the power of 2 of the lower one
lesser : (s t P Q : ℕ) → s < 2 ^ 53 → 2 ^ 52 ≤ t → P ≤ Q → s * P ≤ 100 * (t * Q)
lesser s t P Q few many up =
    let one = mul-le-mul_left P (let l : s ≤ 100 * t = omega arith in l) in
    let two = mul-le-mul_left (100 * t) up in
    omega (arith, one, two)

greater : (s t P Q : ℕ) → 2 ^ 52 ≤ s → t < 2 ^ 53 → 0 < P → 256 * P ≤ Q → 100 * (t * P) < s * Q
greater s t P Q many few some up =
    let one = mul-le-mul_left P (let l : 100 * t + 1 ≤ 256 * s = omega arith in l) in
    let two = mul-le-mul_left s up in
    omega (arith, one, two)

both_times : (x y P : ℕ) → 0 < P → nat_lt x y ≡ nat_lt (x * P) (y * P)
both_times x y P some = by (nat_lt x y) refl
  where
    by : (b : Bool) → nat_lt x y ≡ b → nat_lt x y ≡ nat_lt (x * P) (y * P)
    by true e =
        let up = mul-le-mul_left P (let l : x + 1 ≤ y = (let m = ltb-true x y e in omega arith) in l) in
        e ∙ sym (lt-ltb (x * P) (y * P) (omega (arith, up, some)))
    by false e =
        let up = mul-le-mul_left P (ltb-false x y e) in
        e ∙ sym (le-ltb (x * P) (y * P) (omega (arith, up)))

power_positive : (n : ℕ) → 0 < 2 ^ n
power_positive n = let low : 2 ^ 0 ≤ 2 ^ n = pow_mono {i = 0} {j = n} (omega arith) in omega (arith, low)

-- the amount is of a lower power
pub below_power : (a m : ℕ) → power_of a < power_of m → false ≡ nat_lt (100 * units_of m) (units_of a)
below_power a m h =
    let up : 2 ^ power_of a ≤ 2 ^ power_of m = pow_mono (omega arith) in
    sym (le-ltb (100 * units_of m) (units_of a) (lesser (digits_of a) (digits_of m) (2 ^ power_of a) (2 ^ power_of m) (digits_few a) (digits_many m (omega arith)) up))

-- of a power higher by 8 or more
pub far_above : (a m : ℕ) → 8 ≤ power_of a - power_of m → true ≡ nat_lt (100 * units_of m) (units_of a)
far_above a m h =
    let up : 2 ^ (8 + power_of m) ≤ 2 ^ power_of a = pow_mono (omega arith) in
    let split : 2 ^ (8 + power_of m) ≡ 256 * 2 ^ power_of m = pow-add 2 8 (power_of m) in
    sym (lt-ltb (100 * units_of m) (units_of a) (greater (digits_of a) (digits_of m) (2 ^ power_of m) (2 ^ power_of a) (digits_many a (omega arith)) (digits_few m) (power_positive (power_of m)) (subst (λ n. n ≤ 2 ^ power_of a) split up)))

-- of a power higher by less
pub near_above : (a m d : ℕ) → power_of a ≡ d + power_of m → d < 8 → nat_lt (100 * digits_of m) (digits_of a * 2 ^ d % 2 ^ 64) ≡ nat_lt (100 * units_of m) (units_of a)
near_above a m d at h =
    let small : 2 ^ d ≤ 2 ^ 7 = pow_mono {i = d} {j = 7} (omega arith) in
    let wide : digits_of a * 2 ^ d < 2 ^ 64 = (let up = mul-le-mul_left (digits_of a) small in omega (arith, up, digits_few a)) in
    let whole : digits_of a * 2 ^ d % 2 ^ 64 ≡ digits_of a * 2 ^ d = mod-eq_of_lt wide in
    let high : (digits_of a * 2 ^ d) * 2 ^ power_of m ≡ units_of a = omega (arith, ap (λ n. digits_of a * n) (pow-add 2 d (power_of m)), ap (λ n. digits_of a * 2 ^ n) at) in
    let low : (100 * digits_of m) * 2 ^ power_of m ≡ 100 * units_of m = omega arith in
    ap (λ n. nat_lt (100 * digits_of m) n) whole
    ∙ both_times (100 * digits_of m) (digits_of a * 2 ^ d) (2 ^ power_of m) (power_positive (power_of m))
    ∙ ap (λ n. nat_lt n ((digits_of a * 2 ^ d) * 2 ^ power_of m)) low
    ∙ ap (λ n. nat_lt (100 * units_of m) n) high
