-- How the value of digits is read one by one.
use Rattle.std.proofs.Common.{◌≡◌, ℕ, ◌+◌, ◌*◌, ◌<◌, ◌≤◌, suc, length, List, [], ◌∷◌, Bool, true, false, get_or, take, arith, refl, Some, None, ◌∙◌, sym, ap, ◌&&◌, zero, ◌-◌, lit≤}
use Rattle.std.specs.Prelude.{nat_lt, nat_le}
use Rattle.std.specs.List.{list_all}
use Rattle.std.specs.Str.{all_ascii_digits}
use Rattle.std.specs.Char.{is_ascii_digit, digit_value}
use Rattle.std.specs.Str.Parse.{digits_value}
use Rattle.std.proofs.lemmas.Int.Digits.{digits_value_more}
use Rattle.std.proofs.lemmas.Str.Parse.{digits_value-take-le}
use Rattle.std.proofs.lemmas.List.Folds.{list_all_more}
use Rattle.std.proofs.lemmas.Bool.Decides.{nat_tests}
use Rattle.script_words.specs.Numbers.{natural_up_to, is_digits}

all_digits : (word : List ℕ) → all_ascii_digits word ≡ list_all is_ascii_digit word
all_digits [] = refl
all_digits (c ∷ cs) = ap (λ b. is_ascii_digit c && b) (all_digits cs)

and_false : (a b : Bool) → b ≡ false → (a && b) ≡ false
and_false true b e = e
and_false false b e = refl

-- a word with a character that is no digit has no value
pub no_digits : (most : ℕ) (word : List ℕ) → list_all is_ascii_digit word ≡ false → None ≡ natural_up_to most word
no_digits most word e =
    let no : is_digits word ≡ false = and_false (nat_lt 0 (length word)) (all_ascii_digits word) (all_digits word ∙ e) in rw no refl

-- nor has one whose value is too large
pub too_large : (most : ℕ) (word : List ℕ) → most < digits_value 10 word → None ≡ natural_up_to most word
too_large most word h =
    let above : nat_le (digits_value 10 word) most ≡ false = grind (arith, nat_tests) in
    let no : (is_digits word && nat_le (digits_value 10 word) most) ≡ false = and_false (is_digits word) (nat_le (digits_value 10 word) most) above in rw no refl

-- the value of digits
pub value_is : (most v : ℕ) (word : List ℕ) → 0 < length word → list_all is_ascii_digit word ≡ true → v ≡ digits_value 10 word → v ≤ most → Some v ≡ natural_up_to most word
value_is most v word some digits e h =
    let all : all_ascii_digits word ≡ true = all_digits word ∙ digits in
    let more : nat_lt 0 (length word) ≡ true = grind (arith, nat_tests) in
    let below : nat_le (digits_value 10 word) most ≡ true = grind (arith, nat_tests) in
    rw (more, all, below, e) refl

-- one character more
pub one_more_digit : (word : List ℕ) (i : ℕ) → i < length word → is_ascii_digit (get_or word i 0) ≡ true
    → list_all is_ascii_digit (take i word) ≡ true → list_all is_ascii_digit (take (i + 1) word) ≡ true
one_more_digit word i h e all = rw (list_all_more is_ascii_digit word i 0 h, all) e

pub no_digit_at : (word : List ℕ) (i : ℕ) → i < length word → is_ascii_digit (get_or word i 0) ≡ false → list_all is_ascii_digit word ≡ false
no_digit_at [] i h e = absurd (omega arith)
no_digit_at (c ∷ cs) zero h e = rw e refl
no_digit_at (c ∷ cs) (suc i) h e = and_false (is_ascii_digit c) (list_all is_ascii_digit cs) (no_digit_at cs i (omega arith) e)

digit-is : (c : ℕ) → is_ascii_digit c ≡ true → digit_value c ≡ c - 48
digit-is c e = grind (arith, nat_tests)

pub value_more : (word : List ℕ) (i v d : ℕ) → i < length word → is_ascii_digit (get_or word i 0) ≡ true → d ≡ get_or word i 0 - 48
    → v ≡ digits_value 10 (take i word) → v * 10 + d ≡ digits_value 10 (take (i + 1) word)
value_more word i v d h e d_is v_is = rw (v_is, d_is, ← digit-is (get_or word i 0) e) (sym (digits_value_more 10 word i h))

-- with one character more the value is at least ten times as large
pub grows : (word : List ℕ) (i v : ℕ) → i < length word → v ≡ digits_value 10 (take i word) → v * 10 ≤ digits_value 10 word
grows word i v h e =
    let more = digits_value_more 10 word i h in
    let part = digits_value-take-le 10 word (i + 1) (lit≤ tt) in
    omega (arith, more, part)
