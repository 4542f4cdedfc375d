-- The lines of a block, and a text as the bytes of a line.
use Rattle.std.specs.Prelude.{◌≡◌, ℕ, ◌==◌, ◌-◌, ◌*◌, List, ◌++◌, length, take, drop, replicate, option_map, filter_map, is_none, nat_lt, Option, Some, None, if◌then◌else◌}
use Rattle.std.specs.List.{position_from, suffix_len}
use Rattle.std.specs.Str.{byte}
use Rattle.text_block.specs.declared.code.Code.{Code}
use Rattle.text_block.specs.declared.text_fault.TextFault.{TextFault}
use Rattle.text_block.specs.declared.text_fault.TextFault.TheVariants.{TooLong, NoCode}
use Rattle.text_block.specs.Characters.{blank, byte_of, shown_bytes}
use Rattle.text_block.specs.Blocks.{code_of}

-- the 80 bytes of line q, from 1 to 40
abbrev pub line_bytes : List ℕ → ℕ → List ℕ
line_bytes block q = take 80 (drop (80 * (q - 1)) block)

-- line q as it is shown
abbrev pub shown_line : List ℕ → ℕ → List ℕ
shown_line block q = shown_bytes (code_of block) (line_bytes block q)

-- the column of the first character without a byte in the code, counted from 1
abbrev pub column_without_byte : Code → List ℕ → Option ℕ
column_without_byte code characters = position_from (λ c. is_none (byte_of code c)) 1 characters

-- why the characters are no line, the first that holds: T01, there are more than 80; T02, one has no byte
abbrev pub text_fault : Code → List ℕ → Option TextFault
text_fault code characters =
    if nat_lt 80 (length characters) then Some TooLong
    else option_map (λ column. NoCode column) (column_without_byte code characters)

-- the bytes of characters that have one, and blanks up to 80
abbrev pub encoded_line : Code → List ℕ → List ℕ
encoded_line code characters = filter_map (byte_of code) characters ++ replicate (80 - length characters) (blank code)

-- a text without the blanks at its end
abbrev pub without_blanks : List ℕ → List ℕ
without_blanks text = take (length text - suffix_len (λ c. c == byte " ") text) text

-- what is encoded is shown as it was, but for the blanks at its end
abbrev pub ShowsEncoded : Type 0
ShowsEncoded = (code : Code) (characters : List ℕ) → text_fault code characters ≡ None →
    (shown_bytes code (encoded_line code characters) ≡ characters ++ replicate (80 - length characters) (byte " "))
    × (without_blanks (shown_bytes code (encoded_line code characters)) ≡ without_blanks characters)
