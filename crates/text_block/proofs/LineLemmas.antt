-- How a line is written, character by character.
use Rattle.std.proofs.Common.{◌≡◌, ℕ, ◌+◌, ◌-◌, ◌<◌, List, [], ◌∷◌, ◌++◌, Option, Some, None, take, drop, set, length, replicate, filter_map, is_none, chars, refl, ap, sym, ◌∙◌, arith, append_assoc, append-nil}
use Rattle.std.specs.List.{position_from}
use Rattle.std.proofs.lemmas.List.{take_more_set, drop-set-lt, drop-replicate, drop-drop, take-append-drop, nil_from_length}
use Rattle.std.proofs.lemmas.Str.{chars-nil}
use Rattle.text_block.specs.declared.code.Code.{Code}
use Rattle.text_block.specs.Characters.{byte_of, blank}
use Rattle.text_block.specs.Lines.{encoded_line}

-- a text of no bytes has no characters
pub chars_of_empty : (text : List ℕ) → length text ≡ 0 → chars text ≡ []
chars_of_empty text h = ap chars (nil_from_length text h) ∙ chars-nil

-- a character with a byte is passed over, and one without is found
pub column-passed : (f : ℕ → Option ℕ) (i c b : ℕ) (cs : List ℕ) → f c ≡ Some b → position_from (λ x. is_none (f x)) i (c ∷ cs) ≡ position_from (λ x. is_none (f x)) (i + 1) cs
column-passed f i c b cs h = rw h refl

pub column-found : (f : ℕ → Option ℕ) (i c : ℕ) (cs : List ℕ) → f c ≡ None → position_from (λ x. is_none (f x)) i (c ∷ cs) ≡ Some i
column-found f i c cs h = rw h refl

-- the next byte is written behind those that stand
pub front-more : (f : ℕ → Option ℕ) (line cs all : List ℕ) (i c b : ℕ) → i < length line → f c ≡ Some b → take i line ++ filter_map f (c ∷ cs) ≡ all → take (i + 1) (set line i b) ++ filter_map f cs ≡ all
front-more f line cs all i c b l h e =
    let one : filter_map f (c ∷ cs) ≡ b ∷ filter_map f cs = rw h refl in
    rw (take_more_set line i b l) (append_assoc (take i line) (b ∷ []) (filter_map f cs) ∙ ap (λ ys. take i line ++ ys) (sym one) ∙ e)

-- and the blanks behind it stay
pub behind-more : (line : List ℕ) (i b y : ℕ) → i < length line → drop i line ≡ replicate (80 - i) y → drop (i + 1) (set line i b) ≡ replicate (80 - (i + 1)) y
behind-more line i b y l e =
    drop-set-lt (i + 1) line i b (omega arith)
    ∙ sym (drop-drop 1 i line)
    ∙ ap (drop 1) e
    ∙ drop-replicate 1 (80 - i) y
    ∙ ap (λ n. replicate n y) (search arith)

-- the line once no character is left
pub line-whole : (code : Code) (line all : List ℕ) (i : ℕ) → i ≡ length all → take i line ++ [] ≡ filter_map (byte_of code) all → drop i line ≡ replicate (80 - i) (blank code) → line ≡ encoded_line code all
line-whole code line all i n front behind =
    sym (take-append-drop i line)
    ∙ ap (λ ys. take i line ++ ys) (behind ∙ ap (λ k. replicate (80 - k) (blank code)) n)
    ∙ ap (λ ys. ys ++ replicate (80 - length all) (blank code)) (sym (append-nil (take i line)) ∙ front)
