-- The code of a block, and whether it ends the extended textual headers.
use Rattle.std.specs.Prelude.{ℕ, ◌==◌, Bool, not, ◌&&◌, ◌||◌, List, [], ◌∷◌, count_by, filter, nat_eq, nat_lt, slice_index, codes, if◌then◌else◌}
use Rattle.std.specs.List.{starts_with}
use Rattle.std.specs.Str.{str_to_ascii_lowercase}
use Rattle.text_block.specs.declared.code.Code.{Code}
use Rattle.text_block.specs.declared.code.Code.TheVariants.{Ebcdic, Ascii}
use Rattle.text_block.specs.Characters.{blank, carriage_return, line_feed, shown_bytes}

-- how many of the bytes are this one
abbrev pub number_of : ℕ → List ℕ → ℕ
number_of byte bytes = count_by (λ b. b == byte) bytes

-- the code with more blanks, and with equally many EBCDIC where an EBCDIC `C` stands first
abbrev pub code_of : List ℕ → Code
code_of block =
    if nat_lt (number_of (blank Ascii) block) (number_of (blank Ebcdic) block) then Ebcdic
    else (if number_of (blank Ascii) block == number_of (blank Ebcdic) block && slice_index block 0 == 0xC3 then Ebcdic
    else Ascii)

-- the part stands somewhere in the list
abbrev pub has_part : List ℕ → List ℕ → Bool
has_part part [] = starts_with nat_eq [] part
has_part part (x ∷ xs) = starts_with nat_eq (x ∷ xs) part || has_part part xs

-- a blank, a carriage return or a line feed
abbrev pub is_space : Code → ℕ → Bool
is_space code byte = byte == blank code || byte == carriage_return code || byte == line_feed code

-- bytes as text without blanks, carriage returns and line feeds, in small letters
abbrev pub compact_text : Code → List ℕ → List ℕ
compact_text code bytes = str_to_ascii_lowercase (shown_bytes code (filter (λ b. not (is_space code b)) bytes))

-- the stanza that ends the extended textual headers, in small letters
abbrev pub end_stanza : List ℕ
end_stanza = codes "((seg:endtext))"

-- the block holds the stanza `((SEG: EndText))`, with blanks and capital letters as they may stand
abbrev pub ends_text : List ℕ → Bool
ends_text block = has_part end_stanza (compact_text (code_of block) block)
