-- Each rank has a word that shows it: the decimal of all digits of its float.
use Rattle.std.proofs.Common.{◌≡◌, ◌<◌, ◌+◌, ◌*◌, ◌/◌, ◌%◌, ◌^◌, ◌++◌, ℕ, ℤ, zero, suc, pos, negsuc, length, Bool, true, false, List, [], ◌∷◌, All, codes, Some, refl, sym, ap, subst, inl, inr, ◌∙◌, arith, rules, pow_pos, mul-pos, mul_assoc}
use Rattle.std.proofs.Math.Nat.{one-le-pow, pow-suc}
use Rattle.std.proofs.lemmas.Nat.{mul-pow}
use Rattle.std.proofs.lemmas.Str.{digit_value-digit_char}
use Rattle.std.proofs.lemmas.Int.Digits.{digits_push, digits_value_push}
use Rattle.std.proofs.lemmas.List.{append-nil, length-append}
use Rattle.std.specs.Char.{digit_char, digit_value}
use Rattle.std.specs.Float.{Float, Format, binary64, nan, inf, fin, float_is_finite, round_to_format}
use Rattle.std.specs.Fmt.{sign_text}
use Rattle.std.specs.Str.Parse.{digits_value, AllDigits}
use Rattle.std.specs.Float.Numeral.{exponent_text, IsWellFormed, Parts, nearest_float, text_of}
use lib.Ieee.{down, is_nan, round, up}
use lib.Ieee.Bits.{of_bits-fits}
use lib.Ieee.Scale.{round_same}
use Rattle.float_codes.specs.declared.float_format.FloatFormat.{FloatFormat}
use Rattle.float_codes.specs.declared.float_format.FloatFormat.TheVariants.{Ibm32, Ieee32, Ieee64}
use Rattle.float_codes.specs.Ranks.{pattern_at, value_at}
use Rattle.float_codes.proofs.LawLemmas.{fits_stays}
use Rattle.float_text.specs.Texts.{text_format, shown, IsTextOf}
use Rattle.float_text.proofs.LawLemmas.{reads_back}
use Rattle.float_text.proofs.SignLemmas.{HasSign, sign_round}
use Rattle.float_text.proofs.TextLemmas.{nan_read, text_no_space, text_reading, text_some}
use Rattle.shown_floats.specs.Shows.{ShowsRank}

-- ---- the digits of a number

digits_by : (k n : ℕ) → List ℕ
digits_by zero n = []
digits_by (suc k) n = digits_by k (n / 10) ++ digit_char (n % 10) ∷ []

own_digit : (n : ℕ) → digit_value (digit_char (n % 10)) ≡ n % 10
own_digit n = digit_value-digit_char (n % 10) (omega arith)

are_digits : (k n : ℕ) → AllDigits 10 (digits_by k n)
unfolding digits_by
are_digits zero n = tt
are_digits (suc k) n = digits_push 10 (digits_by k (n / 10)) (digit_char (n % 10)) (are_digits k (n / 10)) (let own : digit_value (digit_char (n % 10)) ≡ n % 10 = own_digit n in omega arith)

value_by : (k n : ℕ) → n < 10 ^ k → digits_value 10 (digits_by k n) ≡ n
unfolding digits_by
value_by zero n h = let none : n ≡ 0 = omega arith in sym none
value_by (suc k) n h =
    let tens : 10 ^ suc k ≡ 10 ^ k * 10 = pow-suc 10 k in
    let front : digits_value 10 (digits_by k (n / 10)) ≡ n / 10 = value_by k (n / 10) (omega arith) in
    let own : digit_value (digit_char (n % 10)) ≡ n % 10 = own_digit n in
    let all : digits_value 10 (digits_by k (n / 10)) * 10 + digit_value (digit_char (n % 10)) ≡ n = omega arith in
    digits_value_push 10 (digits_by k (n / 10)) (digit_char (n % 10)) ∙ all

long_enough : (n : ℕ) → n < 10 ^ suc n
long_enough zero = omega arith
long_enough (suc n) =
    let before : n < 10 ^ suc n = long_enough n in
    let tens : 10 ^ suc (suc n) ≡ 10 ^ suc n * 10 = pow-suc 10 (suc n) in
    omega arith

digits : ℕ → List ℕ
digits n = digits_by (suc n) n

digits_are : (n : ℕ) → AllDigits 10 (digits n)
unfolding digits
digits_are n = are_digits (suc n) n

digits_tell : (n : ℕ) → digits_value 10 (digits n) ≡ n
unfolding digits
digits_tell n = value_by (suc n) n (long_enough n)

some_digits : (n : ℕ) → 0 < length (digits n)
unfolding digits digits_by
some_digits n = omega (arith, length-append (digits_by n (n / 10)) (digit_char (n % 10) ∷ []))

no_nothing : {A : Type 0} (n : ℕ) → digits n ≡ [] → A
no_nothing n e = absurd (let some : 0 < length (digits n) = some_digits n in let none : length (digits n) ≡ 0 = ap length e in omega arith)

-- ---- the decimal n / 10 ^ k

parts : (n k : ℕ) → Parts
parts n k = record {
  whole = digits n;
  point = false;
  fraction = [];
  exponent_negative = true;
  exponent = digits k;
  len = length (digits n ++ exponent_text true (digits k));
}

parts_formed : (n k : ℕ) → IsWellFormed (parts n k)
unfolding parts
parts_formed n k = record {
  whole_digits = digits_are n;
  fraction_digits = tt;
  exponent_digits = digits_are k;
  no_point = λ e. refl;
  no_exponent = λ e. no_nothing k e;
  len_is = refl;
}

parts_nearest : (f : Format) (s : Bool) (n k : ℕ) → nearest_float f s (parts n k) ≡ round f s n (10 ^ k)
unfolding parts
parts_nearest f s n k =
    let whole : digits_value 10 (digits n ++ []) * 10 ^ 0 ≡ n = ap (λ ds. digits_value 10 ds * 1) (append-nil (digits n)) ∙ (let one : digits_value 10 (digits n) * 1 ≡ n = omega (arith, digits_tell n) in one) in
    ap (λ a. round f s a (10 ^ (0 + digits_value 10 (digits k)))) whole ∙ ap (λ j. round f s n (10 ^ j)) (let zeros : 0 + digits_value 10 (digits k) ≡ k = omega (arith, digits_tell k) in zeros)

-- ---- the digits of a float

-- by which power of 2 the float is divided
halves : ℤ → ℕ
halves (pos k) = 0
halves (negsuc k) = suc k

divided : (e : ℤ) → down e ≡ 2 ^ halves e
unfolding halves
divided (pos k) = refl
divided (negsuc k) = refl

all_digits : (f : Format) (s : Bool) (m : ℕ) (e : ℤ) → nearest_float f s (parts (m * up e * 5 ^ halves e) (halves e)) ≡ round f s (m * up e) (down e)
all_digits f s m e =
    let k : ℕ = halves e in
    let tens : 10 ^ k ≡ 5 ^ k * 2 ^ k = mul-pow 5 2 k in
    let same : m * up e * 5 ^ k * 2 ^ k ≡ m * up e * 10 ^ k = mul_assoc (m * up e) (5 ^ k) (2 ^ k) ∙ ap (λ t. m * up e * t) (sym tens) in
    parts_nearest f s (m * up e * 5 ^ k) k
    ∙ round_same f s (m * up e * 5 ^ k) (10 ^ k) (m * up e) (2 ^ k) (subst (λ t. 0 < t) (sym tens) (mul-pos (one-le-pow k 5 (omega arith)) (pow_pos k))) (pow_pos k) same
    ∙ ap (round f s (m * up e)) (sym (divided e))

-- ---- a text of each float

abbrev Text : Format → Float → Type 0
Text f v = (text : List ℕ) × IsTextOf f v text

of_finite : (f : Format) (s : Bool) (n k : ℕ) (v : Float) → nearest_float f s (parts n k) ≡ v → float_is_finite v ≡ true → Text f v
unfolding parts
of_finite f s n k v is finite = (
  sign_text s ++ text_of (parts n k),
  inl (s, parts n k, record { is = refl; well_formed = parts_formed n k; whole = some_digits n; finite = finite; nearest_is = is }),
)

of_infinite : (f : Format) (s : Bool) → Text f (inf s)
of_infinite f s = (sign_text s ++ codes "inf", inr (s, record { is = refl; infinite = refl }))

of_rounded : (f : Format) (s : Bool) (n k : ℕ) (v : Float) → nearest_float f s (parts n k) ≡ v → is_nan v ≡ false → Text f v
unfolding is_nan float_is_finite
of_rounded f s n k nan is number = absurd cc
of_rounded f s n k (inf t) is number = of_infinite f t
of_rounded f s n k (fin t m e) is number = of_finite f s n k (fin t m e) is refl

number_of_sign : (s : Bool) (v : Float) → HasSign s v → is_nan v ≡ false
unfolding HasSign is_nan
number_of_sign s nan h = absurd h
number_of_sign s (inf t) h = refl
number_of_sign s (fin t m e) h = refl

-- of the nearest value of a format
text_in : (f : Format) (v : Float) → is_nan v ≡ false → Text f (round_to_format f v)
unfolding is_nan round_to_format
text_in f nan number = absurd cc
text_in f (inf s) number = of_infinite f s
text_in f (fin s m e) number =
    of_rounded f s (m * up e * 5 ^ halves e) (halves e) (round f s (m * up e) (down e)) (all_digits f s m e) (number_of_sign s _ (sign_round f s (m * up e) (down e)))

-- ---- a word of each rank

shown_is : (f : FloatFormat) (r : ℤ) → round_to_format (text_format f) (value_at r) ≡ shown f (value_at r)
shown_is Ibm32 r = fits_stays binary64 (value_at r) (of_bits-fits binary64 (pattern_at r))
shown_is Ieee32 r = refl
shown_is Ieee64 r = fits_stays binary64 (value_at r) (of_bits-fits binary64 (pattern_at r))

visible_nan : All (λ c. 32 < c) (codes "nan")
visible_nan = search rules

of_text : (f : FloatFormat) (r : ℤ) (text : List ℕ) → IsTextOf (text_format f) (shown f (value_at r)) text → ShowsRank f r text
of_text f r text is = record {
  reads_back = λ _. reads_back f (value_at r) text (text_reading f (shown f (value_at r)) text is);
  visible = text_no_space (text_format f) (shown f (value_at r)) text is;
  some = text_some (text_format f) (shown f (value_at r)) text is;
}

pub some_word : (f : FloatFormat) (r : ℤ) → (word : List ℕ) × ShowsRank f r word
some_word f r = by (is_nan (value_at r)) refl
  where
    by : (b : Bool) → is_nan (value_at r) ≡ b → (word : List ℕ) × ShowsRank f r word
    by true e = (
      codes "nan",
      record {
        reads_back = λ _. reads_back f (value_at r) (codes "nan") (ap Some (nan_read f (value_at r) e));
        visible = visible_nan;
        some = omega arith;
      },
    )
    by false e =
        let found : Text (text_format f) (shown f (value_at r)) = subst (Text (text_format f)) (shown_is f r) (text_in (text_format f) (value_at r) e) in
        (found.0, of_text f r found.0 found.1)
