-- Worked examples.
use Rattle.std.specs.Prelude.{◌≡◌, true, [], ◌∷◌, ◌++◌, length, replicate, codes, Some, is_some, refl}
use Rattle.std.specs.List.{list_all}
use Rattle.text_block.specs.declared.code.Code.TheVariants.{Ebcdic, Ascii}
use Rattle.text_block.specs.declared.text_fault.TextFault.TheVariants.{TooLong, NoCode}
use Rattle.text_block.specs.Characters.{byte_of, shown_bytes, ebcdic, ascii}
use Rattle.text_block.specs.Blocks.{code_of, ends_text}
use Rattle.text_block.specs.Lines.{shown_line, text_fault, encoded_line}
use Rattle.text_block.specs.Stanzas.{stanzas_in}

-- 26 capital and 26 small letters, 10 digits, the blank and 22 signs
pub ebcdic-length : length ebcdic ≡ 85
ebcdic-length = refl

pub ascii-length : length ascii ≡ 94
ascii-length = refl

-- what has a byte in EBCDIC has one in ASCII
pub ebcdic-in-ascii : list_all (λ e. is_some (byte_of Ascii e.1)) ebcdic ≡ true
ebcdic-in-ascii = refl

-- a carriage return, an ASCII backslash, the byte e0
pub shown-ascii : shown_bytes Ascii (0x41 ∷ 0x0D ∷ 0x5C ∷ 0xE0 ∷ 0x7E ∷ []) ≡ codes "A\\0d\\5c\\e0~"
shown-ascii = refl

-- as many of the one blank as of the other: EBCDIC where an EBCDIC `C` stands first
pub code-first : code_of (0xC3 ∷ 0x40 ∷ 0x20 ∷ []) ≡ Ebcdic
code-first = refl

pub code-zeros : code_of (0 ∷ 0 ∷ 0 ∷ []) ≡ Ascii
code-zeros = refl

-- the second line of two
pub second_line : shown_line (replicate 80 0x40 ++ (0xC3 ∷ 0xF2 ∷ []) ++ replicate 78 0x40) 2 ≡ codes "C2" ++ replicate 78 32
second_line = refl

-- too long is told before a character without a byte
pub too_long_first : text_fault Ebcdic (replicate 81 92) ≡ Some TooLong
too_long_first = refl

-- no code has a character above the tilde
pub no_umlaut : text_fault Ascii (codes "[ü]") ≡ Some (NoCode 2)
no_umlaut = refl

pub encoded-C1 : encoded_line Ebcdic (codes "C 1") ≡ 0xC3 ∷ 0x40 ∷ 0xF1 ∷ replicate 77 0x40
encoded-C1 = refl

pub unclosed : stanzas_in (codes "((a)b))") ≡ []
unclosed = refl

-- the search goes on one character further, and behind a stanza
pub shared_parentheses : stanzas_in (codes "(((a))b))((c))") ≡ codes "a" ∷ codes "c" ∷ []
shared_parentheses = refl

-- blanks, carriage returns and line feeds may stand anywhere in it
pub ends-spaced : ends_text (codes "( (SEG:\r\n ENDTEXT)) ") ≡ true
ends-spaced = refl
