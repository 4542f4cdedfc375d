-- Words of 128 bits.
use Rattle.std.proofs.Common.{◌≡◌, ℕ, zero, suc, ◌+◌, ◌-◌, ◌*◌, ◌^◌, ◌/◌, ◌%◌, ◌<◌, ◌≤◌, List, [], ◌∷◌, length, get_or, slice_set, slice_index_or, take, drop, refl, ap, sym, ◌∙◌, subst, Bool, true, false, cond, sum_by}
use mathlib.Core.Bool.{true≢false, false≢true}
use Rattle.std.proofs.lemmas.List.Sums.{sum_by_more}
use native.Mathlib.Omega.{arith}
use native.Mathlib.Nat.{lt_of_lt_of_le, le_of_lt, mul-lt-mul_of_pos_right, mod-eq_of_lt}
use mathlib.Core.Logic.{◌⊎◌, inl, inr}
use lib.Pow.{pow-add, pow_pos, pow_mono}
use Rattle.std.proofs.lemmas.List.{get_or-set_same, get_or-set_other}
use Rattle.std.proofs.lemmas.Bool.{cases_eq}
use Rattle.float_sum.specs.Worth.{worth, IsWithin}
use Rattle.float_sum.proofs.WorthLemmas.{worth_set}
use Rattle.float_sum.specs.Sums.{HasLeading, AreDigits}

pub power : (i : ℕ) → 2 ^ (32 * suc i) ≡ 2 ^ 32 * 2 ^ (32 * i)
power i = let e : 32 * suc i ≡ 32 + 32 * i = omega arith in ap (λ (z : ℕ). 2 ^ z) e ∙ pow-add 2 32 (32 * i)

-- ---- add

-- a number shifted within a word
small : (digits shift : ℕ) → digits < 2 ^ 53 → digits * 2 ^ (shift % 32) ≤ 2 ^ 84
small digits shift h =
    let r : shift % 32 ≤ 31 = omega arith in
    let p : 2 ^ (shift % 32) ≤ 2 ^ 31 = pow_mono r in
    le_of_lt (lt_of_lt_of_le (mul-lt-mul_of_pos_right h (pow_pos (shift % 32))) (omega arith))

pub in_word : (digits shift n : ℕ) → digits < 2 ^ 53 → n ≡ digits → (n * 2 ^ (shift % 32)) % 2 ^ 128 ≡ digits * 2 ^ (shift % 32)
in_word digits shift n h e =
    let s = small digits shift h in
    ap (λ (z : ℕ). (z * 2 ^ (shift % 32)) % 2 ^ 128) e ∙ mod-eq_of_lt (omega arith)

pub in_word_small : (digits shift n : ℕ) → digits < 2 ^ 53 → n ≡ digits → (n * 2 ^ (shift % 32)) % 2 ^ 128 ≤ 2 ^ 84
in_word_small digits shift n h e = subst (λ (z : ℕ). z ≤ 2 ^ 84) (sym (in_word digits shift n h e)) (small digits shift h)

whole_shift : (digits shift : ℕ) → digits * 2 ^ (shift % 32) * 2 ^ (32 * (shift / 32)) ≡ digits * 2 ^ shift
whole_shift digits shift =
    let s : shift % 32 + 32 * (shift / 32) ≡ shift = omega arith in
    let t : 2 ^ (shift % 32) * 2 ^ (32 * (shift / 32)) ≡ 2 ^ shift = sym (pow-add 2 (shift % 32) (32 * (shift / 32))) ∙ ap (λ (z : ℕ). 2 ^ z) s in
    last digits (2 ^ (shift % 32)) (2 ^ (32 * (shift / 32))) (2 ^ shift) t
  where
    last : (d a q b : ℕ) → a * q ≡ b → d * a * q ≡ d * b
    last d a q b e = let f : d * (a * q) ≡ d * b = ap (λ (z : ℕ). d * z) e in omega arith

pub added : (xs : List ℕ) (digits shift n : ℕ) → shift / 32 < length xs → digits < 2 ^ 53 → n ≡ digits
    → worth (slice_set xs (shift / 32) (slice_index_or xs (shift / 32) 0 + (n * 2 ^ (shift % 32)) % 2 ^ 128)) ≡ worth xs + digits * 2 ^ shift
added xs digits shift n p h e =
    worth_set xs (shift / 32) ((n * 2 ^ (shift % 32)) % 2 ^ 128) 0 p
    ∙ ap (λ (z : ℕ). worth xs + z * 2 ^ (32 * (shift / 32))) (in_word digits shift n h e)
    ∙ ap (λ (z : ℕ). worth xs + z) (whole_shift digits shift)

pub put_within : (b c : ℕ) (xs : List ℕ) (i y : ℕ) → IsWithin b xs → b ≤ c → y ≤ c → IsWithin c (slice_set xs i y)
put_within b c xs i y h l m = λ k d p.
    let q : k < length xs = subst (λ (z : ℕ). k < z) (Rattle.std.proofs.lemmas.List.length-set xs i y) p in
    elim (cases_eq k i) [
      | inl e ↦ subst (λ (z : ℕ). get_or (slice_set xs i y) z d ≤ c) (sym e) (subst (λ (z : ℕ). z ≤ c) (sym (get_or-set_same xs i y d (subst (λ (z : ℕ). z < length xs) e q))) m)
      | inr n ↦ subst (λ (z : ℕ). z ≤ c) (sym (get_or-set_other xs i k y d n)) (let f = h k d q in omega arith)
    ]

-- ---- carry

pub worth_put : (xs : List ℕ) (i y d : ℕ) → i < length xs → worth (slice_set xs i y) + slice_index_or xs i d * 2 ^ (32 * i) ≡ worth xs + y * 2 ^ (32 * i)
worth_put [] i y d h = absurd (omega arith)
worth_put (x ∷ xs) zero y d h = omega arith
worth_put (x ∷ xs) (suc i) y d h =
    let q = 2 ^ (32 * i) in
    let g = slice_index_or xs i d in
    step x (worth (slice_set xs i y)) (worth xs) g y q (2 ^ (32 * suc i)) (power i) (worth_put xs i y d (omega arith))
  where
    step : (x s w g y q p : ℕ) → p ≡ 2 ^ 32 * q → s + g * q ≡ w + y * q → x + 2 ^ 32 * s + g * p ≡ x + 2 ^ 32 * w + y * p
    step x s w g y q p e f =
        let a : g * p ≡ 2 ^ 32 * (g * q) = ap (λ (z : ℕ). g * z) e ∙ omega arith in
        let b : y * p ≡ 2 ^ 32 * (y * q) = ap (λ (z : ℕ). y * z) e ∙ omega arith in
        omega arith

pub carried : (xs : List ℕ) (i carry d w : ℕ) → i < length xs → worth xs + carry * 2 ^ (32 * i) ≡ w
    → worth (slice_set xs i ((slice_index_or xs i d + carry) % 2 ^ 32)) + (slice_index_or xs i d + carry) / 2 ^ 32 * 2 ^ (32 * (i + 1)) ≡ w
carried xs i carry d w h e =
    let g = slice_index_or xs i d in
    let v = g + carry in
    let n : i + 1 ≡ suc i = omega arith in
    let p : 2 ^ (32 * (i + 1)) ≡ 2 ^ 32 * 2 ^ (32 * i) = ap (λ (z : ℕ). 2 ^ (32 * z)) n ∙ power i in
    step (worth (slice_set xs i (v % 2 ^ 32))) (worth xs) g carry (v % 2 ^ 32) (v / 2 ^ 32) (2 ^ (32 * i)) (2 ^ (32 * (i + 1))) w p (worth_put xs i (v % 2 ^ 32) d h) e (omega arith)
  where
    step : (s x g c m q u p w : ℕ) → p ≡ 2 ^ 32 * u → s + g * u ≡ x + m * u → x + c * u ≡ w → m + 2 ^ 32 * q ≡ g + c → s + q * p ≡ w
    step s x g c m q u p w e f k l =
        let a : q * p ≡ 2 ^ 32 * (q * u) = ap (λ (z : ℕ). q * z) e ∙ omega arith in
        let b : (m + 2 ^ 32 * q) * u ≡ (g + c) * u = ap (λ (z : ℕ). z * u) l in
        omega arith

pub none_left : (s c p w : ℕ) → s + c * p ≡ w → w < p → s ≡ w
none_left s zero p w e h = omega arith
none_left s (suc c) p w e h = absurd (omega arith)

pub digits_set : (xs : List ℕ) (i y : ℕ) → i < length xs → y < 2 ^ 32 → ((k : ℕ) → k < i → get_or xs k 0 < 2 ^ 32) → (k : ℕ) → k < i + 1 → get_or (slice_set xs i y) k 0 < 2 ^ 32
digits_set xs i y l m h k p = elim (cases_eq k i) [
  | inl e ↦ subst (λ (z : ℕ). get_or (slice_set xs i y) z 0 < 2 ^ 32) (sym e) (subst (λ (z : ℕ). z < 2 ^ 32) (sym (get_or-set_same xs i y 0 l)) m)
  | inr n ↦ subst (λ (z : ℕ). z < 2 ^ 32) (sym (get_or-set_other xs i k y 0 n)) (h k (omega arith))
]

pub all_digits : (xs : List ℕ) (n : ℕ) → length xs ≤ n → ((k : ℕ) → k < n → get_or xs k 0 < 2 ^ 32) → AreDigits xs
all_digits xs n l h = λ k d p. subst (λ (z : ℕ). z < 2 ^ 32) (Rattle.std.proofs.lemmas.List.get_or_default xs k 0 d p) (h k (omega arith))

-- ---- subtract

pub worth_take : (xs : List ℕ) (i d : ℕ) → i < length xs → worth (take (i + 1) xs) ≡ worth (take i xs) + get_or xs i d * 2 ^ (32 * i)
worth_take xs i d h = let n : i + 1 ≡ suc i = omega arith in ap (λ (z : ℕ). worth (take z xs)) n ∙ go xs i d h
  where
    step : (x s w g q p : ℕ) → p ≡ 2 ^ 32 * q → s ≡ w + g * q → x + 2 ^ 32 * s ≡ x + 2 ^ 32 * w + g * p
    step x s w g q p e f = let a : g * p ≡ 2 ^ 32 * (g * q) = ap (λ (z : ℕ). g * z) e ∙ omega arith in omega arith

    go : (xs : List ℕ) (i d : ℕ) → i < length xs → worth (take (suc i) xs) ≡ worth (take i xs) + get_or xs i d * 2 ^ (32 * i)
    go [] i d h = absurd (omega arith)
    go (x ∷ xs) zero d h = omega arith
    go (x ∷ xs) (suc i) d h = step x _ _ (get_or xs i d) (2 ^ (32 * i)) (2 ^ (32 * suc i)) (power i) (go xs i d (omega arith))

pub worth_take_set : (xs : List ℕ) (i y : ℕ) → i < length xs → worth (take (i + 1) (slice_set xs i y)) ≡ worth (take i xs) + y * 2 ^ (32 * i)
worth_take_set xs i y h =
    worth_take (slice_set xs i y) i 0 (subst (λ (z : ℕ). i < z) (sym (Rattle.std.proofs.lemmas.List.length-set xs i y)) h)
    ∙ ap (λ (z : List ℕ). worth z + get_or (slice_set xs i y) i 0 * 2 ^ (32 * i)) (Rattle.std.proofs.lemmas.List.take-set xs i y)
    ∙ ap (λ (z : ℕ). worth (take i xs) + z * 2 ^ (32 * i)) (get_or-set_same xs i y 0 h)

-- a digit f less g and what was borrowed b, with 2 ^ 32 lent
pub borrowed : (f g b : ℕ) → f < 2 ^ 32 → g < 2 ^ 32 → b ≤ 1
    → (f + 2 ^ 32 - g - b) % 2 ^ 32 + g + b ≡ f + 2 ^ 32 * (1 - (f + 2 ^ 32 - g - b) / 2 ^ 32)
borrowed f g b F G B = omega arith

pub subtracted : (o y x p f g b n c u v : ℕ) → o + y ≡ x + b * u → v ≡ 2 ^ 32 * u → n + g + b ≡ f + 2 ^ 32 * c
    → o + n * u + (y + g * u) ≡ x + f * u + c * v
subtracted o y x p f g b n c u v e h k =
    let a : (n + g + b) * u ≡ (f + 2 ^ 32 * c) * u = ap (λ (z : ℕ). z * u) k in
    let d : c * v ≡ 2 ^ 32 * (c * u) = ap (λ (z : ℕ). c * z) h ∙ omega arith in
    omega arith

pub sub_step : (out less from : List ℕ) (i b : ℕ) → i < length out → i < length less → i < length from → AreDigits from → AreDigits less → b ≤ 1
    → worth (take i out) + worth (take i less) ≡ worth (take i from) + b * 2 ^ (32 * i)
    → worth (take (i + 1) (slice_set out i ((get_or from i 0 + 2 ^ 32 - get_or less i 0 - b) % 2 ^ 32))) + worth (take (i + 1) less)
    ≡ worth (take (i + 1) from) + (1 - (get_or from i 0 + 2 ^ 32 - get_or less i 0 - b) / 2 ^ 32) * 2 ^ (32 * (i + 1))
sub_step out less from i b lo ll lf df dl B e =
    let f = get_or from i 0 in
    let g = get_or less i 0 in
    let v = f + 2 ^ 32 - g - b in
    let k : i + 1 ≡ suc i = omega arith in
    let p : 2 ^ (32 * (i + 1)) ≡ 2 ^ 32 * 2 ^ (32 * i) = ap (λ (z : ℕ). 2 ^ (32 * z)) k ∙ power i in
    (λ j. worth_take_set out i (v % 2 ^ 32) lo j + worth_take less i 0 ll j)
    ∙ subtracted (worth (take i out)) (worth (take i less)) (worth (take i from)) 0 f g b (v % 2 ^ 32) (1 - v / 2 ^ 32) (2 ^ (32 * i)) (2 ^ (32 * (i + 1))) e p (borrowed f g b (df i 0 lf) (dl i 0 ll) B)
    ∙ ap (λ (z : ℕ). z + (1 - v / 2 ^ 32) * 2 ^ (32 * (i + 1))) (sym (worth_take from i 0 lf))

pub worth_lt : (xs : List ℕ) (n : ℕ) → length xs ≡ n → AreDigits xs → worth xs < 2 ^ (32 * n)
worth_lt xs n e h = subst (λ (z : ℕ). worth xs < 2 ^ (32 * z)) e (go xs h)
  where
    go : (xs : List ℕ) → AreDigits xs → worth xs < 2 ^ (32 * length xs)
    go [] h = omega arith
    go (x ∷ xs) h =
        let r : worth xs < 2 ^ (32 * length xs) = go xs (λ k d p. h (suc k) d (omega arith)) in
        let x_lt : x < 2 ^ 32 = h 0 0 (omega arith) in
        subst (λ (z : ℕ). x + 2 ^ 32 * worth xs < z) (sym (power (length xs))) (omega arith)

-- one is borrowed in one order, and so in the other none is
pub lower : (o u a b p q : ℕ) (s t : Bool) → s ≡ true → q ≡ p → o < p → u < p → o + b ≡ a + cond s 1 0 * p → u + a ≡ b + cond t 1 0 * q → (u + a ≡ b) × (a < b)
lower o u a b p q false t e f g h i j = absurd (false≢true e)
lower o u a b p q true false e f g h i j = (omega arith, omega arith)
lower o u a b p q true true e f g h i j = absurd (omega arith)

pub not_lower : (o a b p : ℕ) (s : Bool) → s ≡ false → o + b ≡ a + cond s 1 0 * p → o + b ≡ a
not_lower o a b p true e i = absurd (true≢false e)
not_lower o a b p false e i = omega arith

-- ---- leading digits

pub worth_drop : (xs : List ℕ) (i d : ℕ) → i < length xs → worth (drop i xs) ≡ get_or xs i d + 2 ^ 32 * worth (drop (i + 1) xs)
worth_drop xs i d h = ap worth (Rattle.std.proofs.lemmas.List.drop_more xs i d h)

-- one digit more, which is kept
pub kept : (n m top digit r : ℕ) (rest : Bool) → HasLeading n top 0 rest r → m ≡ digit + 2 ^ 32 * n → HasLeading m (top * 2 ^ 32 + digit) 0 rest r
kept n m top digit r rest h e =
    let a : r < 1 = h.below in
    let b : n ≡ top * 1 + r = h.is in
    record { is = let z : m ≡ (top * 2 ^ 32 + digit) * 1 + r = omega arith in z; below = h.below; none = h.none; some = h.some; enough = λ p. absurd (omega arith) }

pub kept_one : (n m top d digit r : ℕ) (rest : Bool) → HasLeading n top d rest r → top < 2 ^ 64 → m ≡ digit + 2 ^ 32 * n → HasLeading m (top * 2 ^ 32 + digit) d rest r
kept_one n m top zero digit r rest h l e = kept n m top digit r rest h e
kept_one n m top (suc d) digit r rest h l e = let f : 2 ^ 64 ≤ top = h.enough (omega arith) in absurd (omega arith)

-- what the words from i - 1 on are
pub one_lower : (xs : List ℕ) (i : ℕ) → 0 < i → i ≤ length xs → worth (drop (i - 1) xs) ≡ get_or xs (i - 1) 0 + 2 ^ 32 * worth (drop i xs)
one_lower xs i p h =
    let e : i - 1 + 1 ≡ i = omega arith in
    worth_drop xs (i - 1) 0 (omega arith) ∙ ap (λ (z : ℕ). get_or xs (i - 1) 0 + 2 ^ 32 * worth (drop z xs)) e

pub nothing_leads : (xs : List ℕ) (n : ℕ) → n ≡ length xs → HasLeading (worth (drop n xs)) 0 0 false 0
nothing_leads xs n e =
    let z : worth (drop n xs) ≡ 0 = ap worth (Rattle.std.proofs.lemmas.List.drop_all n xs (omega arith)) in
    record { is = let y : worth (drop n xs) ≡ 0 * 1 + 0 = omega arith in y; below = omega arith; none = λ q. refl; some = λ q. absurd (mathlib.Core.Bool.false≢true q); enough = λ q. absurd (omega arith) }

-- and one that is dropped
pub not_kept : (n m top d digit r : ℕ) (rest more : Bool) → HasLeading n top d rest r → m ≡ digit + 2 ^ 32 * n → digit < 2 ^ 32 → 2 ^ 64 ≤ top
    → (more ≡ false → (rest ≡ false) × (digit ≡ 0)) → (more ≡ true → (rest ≡ true) ⊎ (0 < digit))
    → HasLeading m top (d + 1) more (digit + 2 ^ 32 * r)
not_kept n m top d digit r rest more h e s t f g =
    let k : d + 1 ≡ suc d = omega arith in
    let p : 2 ^ (32 * (d + 1)) ≡ 2 ^ 32 * 2 ^ (32 * d) = ap (λ (z : ℕ). 2 ^ (32 * z)) k ∙ power d in
    let b : r < 2 ^ (32 * d) = h.below in
    record {
      is = put m n top digit r (2 ^ (32 * d)) (2 ^ (32 * (d + 1))) p h.is e;
      below = omega arith;
      none = λ q. let a = f q in let z : r ≡ 0 = h.none a.0 in let y : digit ≡ 0 = a.1 in omega arith;
      some = λ q. elim (g q) [ inl a ↦ let z : 0 < r = h.some a in omega arith | inr a ↦ omega arith ];
      enough = λ q. t;
    }
  where
    put : (m n top digit r u v : ℕ) → v ≡ 2 ^ 32 * u → n ≡ top * u + r → m ≡ digit + 2 ^ 32 * n → m ≡ top * v + (digit + 2 ^ 32 * r)
    put m n top digit r u v e h k = let a : top * v ≡ 2 ^ 32 * (top * u) = ap (λ (z : ℕ). top * z) e ∙ omega arith in omega arith

-- ---- the sum of a list

pub none_more : {X : Type 0} (f : X → ℕ) (xs : List X) (i : ℕ) (d : X) → i < length xs → f (get_or xs i d) ≡ 0 → sum_by f (take i xs) ≡ sum_by f (take (i + 1) xs)
none_more f xs i d h e = let s = sum_by_more f xs i d h in omega arith

pub one_more : {X : Type 0} (f : X → ℕ) (xs : List X) (i : ℕ) (d : X) (w x : ℕ) → i < length xs → w ≡ sum_by f (take i xs) → x ≡ f (get_or xs i d) → w + x ≡ sum_by f (take (i + 1) xs)
one_more f xs i d w x h e g = let s = sum_by_more f xs i d h in omega arith

pub widen : (b c : ℕ) (xs ys : List ℕ) → ys ≡ xs → b ≤ c → IsWithin b xs → IsWithin c ys
widen b c xs ys e l h = subst (IsWithin c) (sym e) (λ k d p. let q = h k d p in omega arith)

pub grow : (w v x i b : ℕ) → v ≡ w + x → w ≤ i * b → x ≤ b → v ≤ (i + 1) * b
grow w v x i b e h l = omega arith

pub stay : (w v i b : ℕ) → v ≡ w → w ≤ i * b → v ≤ (i + 1) * b
stay w v i b e h = omega arith
