-- Which lines are whole ones, and how places are printed.
use Rattle.std.specs.Prelude.{ℕ, ◌≡◌, ◌==◌, ◌&&◌, Bool, true, not, List, [], ◌++◌, length, nat_lt, decimal, codes, if◌then◌else◌}
use Rattle.std.specs.List.{list_all}
use Rattle.line_texts.specs.Lines.{with_line_ends}
use Rattle.field_map.specs.declared.place.Place.{Place}
use Rattle.script_words.specs.Words.{is_line_feed}

-- without a line feed
abbrev pub is_plain : List ℕ → Bool
is_plain text = list_all (λ c. not (is_line_feed c)) text

-- a line that is not empty
abbrev pub is_full_line : List ℕ → Bool
is_full_line line = is_plain line && nat_lt 0 (length line)

-- lines with their ends, none of which is empty
pub record IsFullLines (text : List ℕ) : Type 0 where
  pub lines : List (List ℕ)
  pub text_is : text ≡ with_line_ends lines
  pub full : list_all is_full_line lines ≡ true

-- the extension of a place with a point behind it, and nothing where it is 0
abbrev pub extension_text : ℕ → List ℕ
extension_text extension = if extension == 0 then [] else decimal extension ++ codes "."

-- `u` where the number is unsigned
abbrev pub sign_letter : Bool → List ℕ
sign_letter signed = if signed then [] else codes "u"

-- a place as a script has it: without the extension where that is 0
abbrev pub place_text : Place → List ℕ
place_text place =
    codes "@" ++ extension_text place.extension ++ decimal place.byte ++ codes ":" ++ decimal place.kind.size ++ sign_letter place.kind.signed
