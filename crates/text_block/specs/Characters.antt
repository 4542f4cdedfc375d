-- The characters of the two codes, and how bytes are shown.
use Rattle.std.specs.Prelude.{◌≡◌, ◌↔◌, ℕ, ◌/◌, ◌%◌, ◌==◌, List, [], ◌∷◌, ◌++◌, map, find, flat_map, Option, Some, None, option_map, codes}
use Rattle.std.specs.List.{enumerate_from, range_with_len}
use Rattle.std.specs.Char.{digit_char}
use Rattle.text_block.specs.declared.code.Code.{Code}
use Rattle.text_block.specs.declared.code.Code.TheVariants.{Ebcdic, Ascii}

-- EBCDIC: bytes, each with its character
abbrev pub ebcdic : List (ℕ × ℕ)
ebcdic =
    enumerate_from 0xC1 (codes "ABCDEFGHI")
    ++ enumerate_from 0xD1 (codes "JKLMNOPQR")
    ++ enumerate_from 0xE2 (codes "STUVWXYZ")
    ++ enumerate_from 0x81 (codes "abcdefghi")
    ++ enumerate_from 0x91 (codes "jklmnopqr")
    ++ enumerate_from 0xA2 (codes "stuvwxyz")
    ++ enumerate_from 0xF0 (codes "0123456789")
    ++ enumerate_from 0x40 (codes " ")
    ++ enumerate_from 0x4B (codes ".<(+")
    ++ enumerate_from 0x50 (codes "&")
    ++ enumerate_from 0x5B (codes "$*);")
    ++ enumerate_from 0x60 (codes "-/")
    ++ enumerate_from 0x6B (codes ",%_>?")
    ++ enumerate_from 0x7A (codes ":#@'=\"")

-- ASCII: the bytes from blank to tilde but for the backslash, each its own character
abbrev pub ascii : List (ℕ × ℕ)
ascii = map (λ b. (b, b)) (range_with_len 0x20 60 ++ range_with_len 0x5D 34)

-- the bytes that are characters, each with its character
abbrev pub characters : Code → List (ℕ × ℕ)
characters Ebcdic = ebcdic
characters Ascii = ascii

-- the character of a byte, where it has one
abbrev pub character_of : Code → ℕ → Option ℕ
character_of code byte = option_map (λ e. e.1) (find (λ e. e.0 == byte) (characters code))

-- the byte of a character, where it has one
abbrev pub byte_of : Code → ℕ → Option ℕ
byte_of code character = option_map (λ e. e.0) (find (λ e. e.1 == character) (characters code))

-- a byte gives the character that it is given for
abbrev pub GoesBothWays : Type 0
GoesBothWays = (code : Code) (byte character : ℕ) → (byte_of code character ≡ Some byte) ↔ (character_of code byte ≡ Some character)

-- the byte of a blank
abbrev pub blank : Code → ℕ
blank Ebcdic = 0x40
blank Ascii = 0x20

-- the byte of a carriage return
abbrev pub carriage_return : Code → ℕ
carriage_return Ebcdic = 0x0D
carriage_return Ascii = 0x0D

-- the byte of a line feed
abbrev pub line_feed : Code → ℕ
line_feed Ebcdic = 0x25
line_feed Ascii = 0x0A

-- a byte as a backslash and two hexadecimal digits
abbrev pub escape_of : ℕ → List ℕ
escape_of byte = codes "\\" ++ digit_char (byte / 16) ∷ digit_char (byte % 16) ∷ []

-- the character of the byte, or else the byte escaped
abbrev pub shown_as : Option ℕ → ℕ → List ℕ
shown_as (Some character) byte = character ∷ []
shown_as None byte = escape_of byte

-- a byte as it is shown
abbrev pub shown_byte : Code → ℕ → List ℕ
shown_byte code byte = shown_as (character_of code byte) byte

-- bytes as they are shown
abbrev pub shown_bytes : Code → List ℕ → List ℕ
shown_bytes code bytes = flat_map (shown_byte code) bytes
