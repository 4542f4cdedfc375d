-- The tables of the code are those of the definitions: computed at each byte, and at each character below 256.
use Rattle.std.proofs.Common.{◌≡◌, ℕ, zero, suc, ◌+◌, ◌<◌, ◌≤◌, ◌==◌, Bool, true, false, List, [], ◌∷◌, Option, Some, None, find, drop, length, refl, ap, nat_eq, nat_lt, arith}
use Rattle.std.specs.Prelude.{slice_index, option_map}
use Rattle.std.specs.List.{list_all, position_from}
use Rattle.std.specs.Option.{option_eq}
use Rattle.std.proofs.lemmas.List.{drop_more}
use Rattle.std.proofs.lemmas.Bool.{agree_below_at, and_parts, false≢true, eqb-true, ltb-true, ne_eqb}
use Rattle.text_block.specs.declared.characters.TheConstants.{EBCDIC}
use Rattle.text_block.specs.declared.code.Code.{Code}
use Rattle.text_block.specs.declared.code.Code.TheVariants.{Ebcdic, Ascii}
use Rattle.text_block.specs.Characters.{character_of, byte_of, ebcdic, ascii}
use Rattle.text_block.specs.Tables.{in_table, ascii_or_zero}

-- what the test of equality tells
pub same_option : (a b : Option ℕ) → option_eq nat_eq a b ≡ true → a ≡ b
same_option None None h = refl
same_option None (Some y) h = absurd (false≢true h)
same_option (Some x) None h = absurd (false≢true h)
same_option (Some x) (Some y) h = ap Some (eqb-true x y h)

-- a byte's character is the one in the table
pub in_table-EBCDIC : (byte : ℕ) → byte < 256 → in_table (slice_index EBCDIC byte) ≡ character_of Ebcdic byte
in_table-EBCDIC byte l = same_option _ _ (agree_below_at (λ b. option_eq nat_eq (in_table (slice_index EBCDIC b)) (character_of Ebcdic b)) (λ _. true) 256 byte refl l)

pub EBCDIC-ascii : (byte : ℕ) → byte < 256 → slice_index EBCDIC byte < 128
EBCDIC-ascii byte l = ltb-true (slice_index EBCDIC byte) 128 (agree_below_at (λ b. nat_lt (slice_index EBCDIC b) 128) (λ _. true) 256 byte refl l)

pub in_table-ascii : (byte : ℕ) → byte < 256 → in_table (ascii_or_zero byte) ≡ character_of Ascii byte
in_table-ascii byte l = same_option _ _ (agree_below_at (λ b. option_eq nat_eq (in_table (ascii_or_zero b)) (character_of Ascii b)) (λ _. true) 256 byte refl l)

pub ascii-ascii : (byte : ℕ) → byte < 256 → ascii_or_zero byte < 128
ascii-ascii byte l = ltb-true (ascii_or_zero byte) 128 (agree_below_at (λ b. nat_lt (ascii_or_zero b) 128) (λ _. true) 256 byte refl l)

pub ruleset byte_tables = (in_table-EBCDIC, EBCDIC-ascii, in_table-ascii, ascii-ascii)

-- a character's byte is its first place in the table, but for 0, which stands for no character
pub position_from-EBCDIC : (character : ℕ) → 0 < character → character < 256 → position_from (λ c. c == character) 0 EBCDIC ≡ byte_of Ebcdic character
position_from-EBCDIC zero p l = absurd (omega arith)
position_from-EBCDIC (suc k) p l =
    same_option _ _ (agree_below_at (λ n. option_eq nat_eq (position_from (λ c. c == suc n) 0 EBCDIC) (byte_of Ebcdic (suc n))) (λ _. true) 255 k refl (omega arith))

-- the search goes on behind a place with another character, and ends with the last place
pub position_from-drop : (t : ℕ → Bool) (xs : List ℕ) (i : ℕ) → i < length xs → t (slice_index xs i) ≡ false → position_from t i (drop i xs) ≡ position_from t (i + 1) (drop (i + 1) xs)
position_from-drop t xs i l h = rw (drop_more xs i 0 l, h) refl

pub position_from-here : (t : ℕ → Bool) (xs : List ℕ) (i : ℕ) → i < length xs → t (slice_index xs i) ≡ true → position_from t i (drop i xs) ≡ Some i
position_from-here t xs i l h = rw (drop_more xs i 0 l, h) refl

pub no_zero : byte_of Ebcdic 0 ≡ None
no_zero = refl

pub in_table-ascii_byte : (character : ℕ) → character < 256 → in_table (ascii_or_zero character) ≡ byte_of Ascii character
in_table-ascii_byte character l = same_option _ _ (agree_below_at (λ c. option_eq nat_eq (in_table (ascii_or_zero c)) (byte_of Ascii c)) (λ _. true) 256 character refl l)

-- nothing from 256 on is found in a list of lower numbers
finds_none : (key value : ℕ × ℕ → ℕ) (n : ℕ) → 256 ≤ n → (es : List (ℕ × ℕ)) → list_all (λ e. nat_lt (key e) 256) es ≡ true → option_map value (find (λ e. key e == n) es) ≡ None
finds_none key value n l [] h = refl
finds_none key value n l (e ∷ es) h = let parts = and_parts (nat_lt (key e) 256) (list_all (λ x. nat_lt (key x) 256) es) h in rw (ne_eqb (key e) n (λ same. omega (arith, same, ltb-true (key e) 256 parts.0, l))) (finds_none key value n l es parts.1)

-- no character from 256 on has a byte
pub byte_of-above : (code : Code) (character : ℕ) → 256 ≤ character → byte_of code character ≡ None
byte_of-above Ebcdic character l = finds_none (λ e. e.1) (λ e. e.0) character l ebcdic refl
byte_of-above Ascii character l = finds_none (λ e. e.1) (λ e. e.0) character l ascii refl

pub character_of-above : (code : Code) (byte : ℕ) → 256 ≤ byte → character_of code byte ≡ None
character_of-above Ebcdic byte l = finds_none (λ e. e.0) (λ e. e.1) byte l ebcdic refl
character_of-above Ascii byte l = finds_none (λ e. e.0) (λ e. e.1) byte l ascii refl

pub ruleset character_tables = (no_zero, in_table-ascii_byte, byte_of-above)
