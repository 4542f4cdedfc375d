-- Rows of digits, digit by digit.
use Rattle.std.proofs.Common.{◌≡◌, ◌∙◌, ℕ, zero, suc, ◌+◌, ◌-◌, ◌*◌, ◌^◌, ◌<◌, ◌≤◌, Bool, true, false, List, [], ◌∷◌, ◌++◌, length, get_or, take, drop, nat_lt, refl, sym, ap, arith, take_all, drop-cons, length-drop, mul-le-mul_left, pow-suc, add-one, ltb-true, ltb-false, lt-ltb}
use lib.Seq.{take-append-add, drop-append-le, drop-append-add}
use Rattle.std.specs.Char.{digit_value}
use Rattle.std.specs.Str.Parse.{digits_value, AllDigits}
use Rattle.std.proofs.lemmas.Str.{digit_value_digit}
use Rattle.std.proofs.lemmas.Str.Parse.{digit_from_value}
use Rattle.fast_float.proofs.DigitsLemmas.{digits_value_after_is, digits_value-append}
use Rattle.fast_float.proofs.ExactLemmas.{ten_to_pos}
use Rattle.fast_float.proofs.Rows.{one_more}

pub record IsDigitByte (c : ℕ) : Type 0 where
  pub from : 48 ≤ c
  pub to : c ≤ 57
  pub value : digit_value c ≡ c - 48

pub digit_byte : (ds : List ℕ) (i : ℕ) → AllDigits 10 ds → i < length ds → IsDigitByte (get_or ds i 0)
digit_byte [] i h l = absurd (omega arith)
digit_byte (d ∷ ds) zero h l = let r = digit_from_value d h.0 in record { from = r.0; to = r.1; value = sym (omega (arith, digit_value_digit d r)) }
digit_byte (d ∷ ds) (suc i) h l = digit_byte ds i h.1 (omega arith)

-- a digit of a row, and those behind it
pub first_of : (d : ℕ) (ds : List ℕ) → digits_value 10 (d ∷ ds) ≡ digit_value d * 10 ^ length ds + digits_value 10 ds
first_of d ds = digits_value_after_is (0 * 10 + digit_value d) ds ∙ omega arith

pub rest_of : (ds : List ℕ) (i : ℕ) → i < length ds → digits_value 10 (drop i ds) ≡ digit_value (get_or ds i 0) * 10 ^ (length ds - (i + 1)) + digits_value 10 (drop (i + 1) ds)
rest_of ds i l =
    let n : length (drop (suc i) ds) ≡ length ds - (i + 1) = omega (arith, length-drop (suc i) ds) in
    ap (digits_value 10) (drop-cons ds i 0 l) ∙ first_of (get_or ds i 0) (drop (suc i) ds)
    ∙ (λ j. digit_value (get_or ds i 0) * 10 ^ n j + digits_value 10 (drop (sym (add-one i) j) ds))

module _ (ds : List ℕ) (i acc d total : ℕ) (h : AllDigits 10 ds) (l : i < length ds) (is : d ≡ get_or ds i 0 - 48) (all : acc * 10 ^ (length ds - i) + digits_value 10 (drop i ds) ≡ total) where
  place : acc * 10 ^ (length ds - i) ≡ acc * 10 * 10 ^ (length ds - (i + 1))
  place =
      let e : length ds - i ≡ suc (length ds - (i + 1)) = omega arith in
      omega (arith, ap (λ k. acc * 10 ^ k) e, ap (λ x. acc * x) (pow-suc 10 (length ds - (i + 1))))

  digit : digit_value (get_or ds i 0) * 10 ^ (length ds - (i + 1)) ≡ d * 10 ^ (length ds - (i + 1))
  digit = ap (λ x. x * 10 ^ (length ds - (i + 1))) ((digit_byte ds i h l).value ∙ sym is)

  -- one digit is read, and those left complete it
  pub one_digit_on : (acc * 10 + d) * 10 ^ (length ds - (i + 1)) + digits_value 10 (drop (i + 1) ds) ≡ total
  one_digit_on = omega (arith, all, place, digit, rest_of ds i l)

  -- what is read is no more than the whole
  pub one_digit_up_to : acc * 10 + d ≤ total
  one_digit_up_to = omega (arith, one_digit_on, mul-le-mul_left (acc * 10 + d) (ten_to_pos (length ds - (i + 1))))

-- ---- two rows as one

pub taken_past : (xs ys : List ℕ) (n : ℕ) → length xs ≤ n
    → digits_value 10 (take n (xs ++ ys)) ≡ digits_value 10 xs * 10 ^ length (take (n - length xs) ys) + digits_value 10 (take (n - length xs) ys)
taken_past xs ys n h =
    let e : n ≡ length xs + (n - length xs) = omega arith in
    ap (λ k. digits_value 10 (take k (xs ++ ys))) e ∙ ap (digits_value 10) (take-append-add xs ys (n - length xs)) ∙ digits_value-append xs (take (n - length xs) ys)

pub dropped_past : (xs ys : List ℕ) (n : ℕ) → length xs ≤ n → drop n (xs ++ ys) ≡ drop (n - length xs) ys
dropped_past xs ys n h =
    let e : n ≡ length xs + (n - length xs) = omega arith in
    ap (λ k. drop k (xs ++ ys)) e ∙ drop-append-add xs ys (n - length xs)

pub whole_rest : (xs : List ℕ) (n : ℕ) → take (length xs - n) (drop n xs) ≡ drop n xs
whole_rest xs n = take_all (length xs - n) (drop n xs) (omega (arith, length-drop n xs))

dropped_before : (xs ys : List ℕ) (n : ℕ) → n ≤ length xs → digits_value 10 (drop n (xs ++ ys)) ≡ digits_value 10 (drop n xs) * 10 ^ length ys + digits_value 10 ys
dropped_before xs ys n h = ap (digits_value 10) (drop-append-le n xs ys h) ∙ digits_value-append (drop n xs) ys

pub some_left : (xs ys : List ℕ) (n : ℕ) (b : Bool) → n ≤ length xs → b ≡ true → b ≡ nat_lt 0 (digits_value 10 (drop n xs)) → b ≡ nat_lt 0 (digits_value 10 (drop n (xs ++ ys)))
some_left xs ys n b h t e =
    let some : 0 < digits_value 10 (drop n xs) = ltb-true 0 _ (sym e ∙ t) in
    t ∙ sym (lt-ltb 0 _ (omega (arith, dropped_before xs ys n h, mul-le-mul_left (digits_value 10 (drop n xs)) (ten_to_pos (length ys)))))

pub none_left : (xs ys : List ℕ) (n : ℕ) (a b : Bool) → n ≤ length xs → a ≡ false → a ≡ nat_lt 0 (digits_value 10 (drop n xs)) → b ≡ nat_lt 0 (digits_value 10 ys) → b ≡ nat_lt 0 (digits_value 10 (drop n (xs ++ ys)))
none_left xs ys n a b h f e g =
    let none : digits_value 10 (drop n xs) ≡ 0 = omega (arith, ltb-false 0 _ (sym e ∙ f)) in
    let same : digits_value 10 (drop n (xs ++ ys)) ≡ digits_value 10 ys = omega (arith, dropped_before xs ys n h, ap (λ x. x * 10 ^ length ys) none) in
    g ∙ ap (nat_lt 0) (sym same)

-- a digit of 0 adds nothing
pub zero_more : (ds : List ℕ) (i : ℕ) → AllDigits 10 ds → i < length ds → get_or ds i 0 ≡ 48 → digits_value 10 (take i ds) ≡ 0 → digits_value 10 (take (i + 1) ds) ≡ 0
zero_more ds i h l e z =
    let none : digit_value (get_or ds i 0) ≡ 0 = (digit_byte ds i h l).value ∙ omega arith in
    let same : digit_value (get_or ds (0 + i) 0) ≡ digit_value (get_or ds i 0) = let k : 0 + i ≡ i = omega arith in ap (λ x. digit_value (get_or ds x 0)) k in
    one_more ds 0 i (omega arith) ∙ omega arith
