-- Texts that are lines none of which is empty.
use Rattle.std.proofs.Common.{◌≡◌, ℕ, ℤ, pos, negsuc, ◌+◌, ◌==◌, ◌&&◌, ◌%◌, ◌/◌, suc, zero, length, List, [], ◌∷◌, ◌++◌, map, take, Bool, true, false, not, nat_lt, cond, arith, refl, ◌∙◌, ap, sym, append-nil}
use Rattle.std.specs.Prelude.{codes, decimal}
use Rattle.std.specs.Fmt.{signed_decimal, digits, digits_onto, digit_glyph}
use Rattle.std.specs.List.{list_all}
use Rattle.std.specs.Str.{byte}
use Rattle.std.proofs.lemmas.Bool.{ne_eqb, lt-ltb}
use Rattle.std.proofs.lemmas.List.Folds.{list_all-append}
use Rattle.script_words.specs.Words.{is_line_feed}
use Rattle.line_texts.specs.Lines.{with_blanks, with_line_end, counted_lines, list_lines}
use Rattle.script_text.specs.Texts.{is_plain, is_full_line, IsFullLines}

and_both : (a b : Bool) → a ≡ true → b ≡ true → (a && b) ≡ true
and_both a b e f = cc

-- ---- plain texts

pub plain_both : (xs ys : List ℕ) → is_plain xs ≡ true → is_plain ys ≡ true → is_plain (xs ++ ys) ≡ true
plain_both xs ys e f = list_all-append (λ c. not (is_line_feed c)) xs ys ∙ and_both (is_plain xs) (is_plain ys) e f

plain_glyph : (d : ℕ) → not (is_line_feed (digit_glyph false d)) ≡ true
plain_glyph d =
    elim (nat_lt d 10) as (λ v. not (is_line_feed (cond v (48 + d) (87 + d))) ≡ true)
    [ true ↦ ap not (ne_eqb (48 + d) 10 (λ e. absurd (omega (arith, e)))) | false ↦ ap not (ne_eqb (87 + d) 10 (λ e. absurd (omega (arith, e)))) ]

plain_digits : (k n : ℕ) (acc : List ℕ) → is_plain acc ≡ true → is_plain (digits_onto k 10 false n acc) ≡ true
plain_digits zero n acc e = e
plain_digits (suc k) n acc e =
    let here : is_plain (digit_glyph false (n % 10) ∷ acc) ≡ true = and_both (not (is_line_feed (digit_glyph false (n % 10)))) (is_plain acc) (plain_glyph (n % 10)) e in
    elim (n / 10 == 0) as (λ v. is_plain (cond v (digit_glyph false (n % 10) ∷ acc) (digits_onto k 10 false (n / 10) (digit_glyph false (n % 10) ∷ acc))) ≡ true)
    [ true ↦ here | false ↦ plain_digits k (n / 10) (digit_glyph false (n % 10) ∷ acc) here ]

pub plain_decimal : (n : ℕ) → is_plain (decimal n) ≡ true
unfolding digits
plain_decimal n = plain_digits 64 n [] refl

-- the digits of a number are not empty
digits_there : (k n d : ℕ) (acc : List ℕ) → nat_lt 0 (length (digits_onto k 10 false n (d ∷ acc))) ≡ true
digits_there zero n d acc = lt-ltb 0 (suc (length acc)) (omega arith)
digits_there (suc k) n d acc =
    elim (n / 10 == 0) as (λ v. nat_lt 0 (length (cond v (digit_glyph false (n % 10) ∷ d ∷ acc) (digits_onto k 10 false (n / 10) (digit_glyph false (n % 10) ∷ d ∷ acc)))) ≡ true)
    [ true ↦ lt-ltb 0 (suc (suc (length acc))) (omega arith) | false ↦ digits_there k (n / 10) (digit_glyph false (n % 10)) (d ∷ acc) ]

pub full_decimal : (n : ℕ) → is_full_line (decimal n) ≡ true
unfolding digits
full_decimal n = and_both (is_plain (decimal n)) (nat_lt 0 (length (decimal n))) (plain_decimal n) (there n)
  where
    there : (n : ℕ) → nat_lt 0 (length (digits_onto 64 10 false n [])) ≡ true
    there n =
        elim (n / 10 == 0) as (λ v. nat_lt 0 (length (cond v (digit_glyph false (n % 10) ∷ []) (digits_onto 63 10 false (n / 10) (digit_glyph false (n % 10) ∷ [])))) ≡ true)
        [ true ↦ refl | false ↦ digits_there 63 (n / 10) (digit_glyph false (n % 10)) [] ]

pub plain_signed : (n : ℤ) → is_plain (signed_decimal n) ≡ true
plain_signed (pos n) = plain_decimal n
plain_signed (negsuc n) = plain_decimal (suc n)

pub plain_first : (n : ℕ) (xs : List ℕ) → is_plain xs ≡ true → is_plain (take n xs) ≡ true
plain_first zero xs e = refl
plain_first (suc n) [] e = refl
plain_first (suc n) (x ∷ xs) e =
    elim (is_line_feed x) as (λ v. (not v && is_plain xs) ≡ true → (not v && is_plain (take n xs)) ≡ true)
    [ true ↦ λ f. f | false ↦ λ f. plain_first n xs f ] e

-- words, each plain
pub record Plain (words : List (List ℕ)) : Type 0 where
  pub all : list_all is_plain words ≡ true

pub no_word : Plain []
no_word = record { all = refl }

pub word : (x : List ℕ) {xs : List (List ℕ)} → is_plain x ≡ true → Plain xs → Plain (x ∷ xs)
word x {xs} e p = record { all = and_both (is_plain x) (list_all is_plain xs) e p.all }

pub plain_numbers : (xs : List ℤ) → Plain (map signed_decimal xs)
plain_numbers [] = no_word
plain_numbers (x ∷ xs) = word (signed_decimal x) (plain_signed x) (plain_numbers xs)

plain_join : (words : List (List ℕ)) → list_all is_plain words ≡ true → is_plain (with_blanks words) ≡ true
plain_join [] e = refl
plain_join (x ∷ []) e = left (is_plain x) e
  where
    left : (a : Bool) → (a && true) ≡ true → a ≡ true
    left true f = refl
    left false f = cc
plain_join (x ∷ y ∷ xs) e =
    let both = parts (is_plain x) (list_all is_plain (y ∷ xs)) e in
    plain_both x (byte " " ∷ with_blanks (y ∷ xs)) both.0 (plain_join (y ∷ xs) both.1)
  where
    parts : (a b : Bool) → (a && b) ≡ true → (a ≡ true) × (b ≡ true)
    parts true b f = (refl, f)
    parts false b f = cc

pub plain_words : {words : List (List ℕ)} → Plain words → is_plain (with_blanks words) ≡ true
plain_words {words} p = plain_join words p.all

-- texts one behind the other
abbrev pub joined : List ℕ → List (List ℕ) → List ℕ
joined text [] = text
joined text (x ∷ xs) = joined (text ++ x) xs

pub plain_joined : (text : List ℕ) {xs : List (List ℕ)} → is_plain text ≡ true → Plain xs → is_plain (joined text xs) ≡ true
plain_joined text {xs} e p = each text xs e p.all
  where
    parts : (a b : Bool) → (a && b) ≡ true → (a ≡ true) × (b ≡ true)
    parts true b f = (refl, f)
    parts false b f = cc

    each : (text : List ℕ) (xs : List (List ℕ)) → is_plain text ≡ true → list_all is_plain xs ≡ true → is_plain (joined text xs) ≡ true
    each text [] e f = e
    each text (x ∷ xs) e f = let both = parts (is_plain x) (list_all is_plain xs) f in each (text ++ x) xs (plain_both text x e both.0) both.1

-- ---- full lines

pub full_line : (x : ℕ) (xs : List ℕ) → is_plain (x ∷ xs) ≡ true → is_full_line (x ∷ xs) ≡ true
full_line x xs e = and_both (is_plain (x ∷ xs)) (nat_lt 0 (length (x ∷ xs))) e (lt-ltb 0 (length (x ∷ xs)) (omega arith))

-- a line that is not empty, with more behind it
full_more : (head x : List ℕ) → is_full_line head ≡ true → is_plain x ≡ true → is_full_line (head ++ x) ≡ true
full_more [] x e f = cc
full_more (c ∷ cs) x e f = full_line c (cs ++ x) (plain_both (c ∷ cs) x (first (is_plain (c ∷ cs)) (nat_lt 0 (length (c ∷ cs))) e) f)
  where
    first : (a b : Bool) → (a && b) ≡ true → a ≡ true
    first true b g = refl
    first false b g = cc

-- texts one behind the other, the first of which is not empty
pub full_joined : (head : List ℕ) {xs : List (List ℕ)} → is_full_line head ≡ true → Plain xs → is_full_line (joined head xs) ≡ true
full_joined head {xs} e p = each head xs e p.all
  where
    parts : (a b : Bool) → (a && b) ≡ true → (a ≡ true) × (b ≡ true)
    parts true b f = (refl, f)
    parts false b f = cc

    each : (head : List ℕ) (xs : List (List ℕ)) → is_full_line head ≡ true → list_all is_plain xs ≡ true → is_full_line (joined head xs) ≡ true
    each head [] e f = e
    each head (x ∷ xs) e f = let both = parts (is_plain x) (list_all is_plain xs) f in each (head ++ x) xs (full_more head x e both.0) both.1

-- words that begin with one that is not empty
pub words_line : (head : List ℕ) {words : List (List ℕ)} → is_full_line head ≡ true → Plain words → is_full_line (with_blanks (head ∷ words)) ≡ true
words_line head {words} e p = each words p.all
  where
    each : (words : List (List ℕ)) → list_all is_plain words ≡ true → is_full_line (with_blanks (head ∷ words)) ≡ true
    each [] f = e
    each (x ∷ xs) f = full_more head (byte " " ∷ with_blanks (x ∷ xs)) e (plain_join (x ∷ xs) f)

pub one_line : (line : List ℕ) → is_full_line line ≡ true → IsFullLines (with_line_end line)
one_line line e = record { lines = line ∷ []; text_is = sym (append-nil (with_line_end line)); full = and_both (is_full_line line) true e refl }

pub counted_behind : (head : List ℕ) (n : ℕ) (lines : List (List ℕ)) → is_full_line (head ++ codes " " ++ decimal n) ≡ true → list_all is_full_line lines ≡ true → IsFullLines (counted_lines head n lines)
counted_behind head n lines e f = record {
  lines = (head ++ codes " " ++ decimal n) ∷ lines;
  text_is = refl;
  full = and_both (is_full_line (head ++ codes " " ++ decimal n)) (list_all is_full_line lines) e f;
}

pub lines_behind : (head : List ℕ) (lines : List (List ℕ)) → is_full_line (head ++ codes " " ++ decimal (length lines)) ≡ true → list_all is_full_line lines ≡ true → IsFullLines (list_lines head lines)
lines_behind head lines e f = counted_behind head (length lines) lines e f

-- each of a list of lines is full
pub each_full : {X : Type 0} (f : X → List ℕ) → ((x : X) → is_full_line (f x) ≡ true) → (xs : List X) → list_all is_full_line (map f xs) ≡ true
each_full f each [] = refl
each_full f each (x ∷ xs) = and_both (is_full_line (f x)) (list_all is_full_line (map f xs)) (each x) (each_full f each xs)

-- .. where some texts in it are plain
pub some_full : {X : Type 0} (f : X → List ℕ) (test : X → Bool) → ((x : X) → test x ≡ true → is_full_line (f x) ≡ true) → (xs : List X) → list_all test xs ≡ true → list_all is_full_line (map f xs) ≡ true
some_full f test each [] e = refl
some_full f test each (x ∷ xs) e =
    let both = parts (test x) (list_all test xs) e in
    and_both (is_full_line (f x)) (list_all is_full_line (map f xs)) (each x both.0) (some_full f test each xs both.1)
  where
    parts : (a b : Bool) → (a && b) ≡ true → (a ≡ true) × (b ≡ true)
    parts true b g = (refl, g)
    parts false b g = cc
