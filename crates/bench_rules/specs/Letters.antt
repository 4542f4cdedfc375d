-- The letter C in the two codes.
use Rattle.std.specs.Prelude.{ℕ}
use Rattle.text_block.specs.declared.code.Code.{Code}
use Rattle.text_block.specs.declared.code.Code.TheVariants.{Ebcdic, Ascii}

-- the byte of the letter C
abbrev pub letter_c : Code → ℕ
letter_c Ebcdic = 0xC3
letter_c Ascii = 0x43
