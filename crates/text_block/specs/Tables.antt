-- What the tables of the program hold.
use Rattle.std.specs.Prelude.{ℕ, ◌==◌, Option, Some, None, nat_lt, if◌then◌else◌}
use Rattle.text_block.specs.declared.code.Code.{Code}
use Rattle.text_block.specs.declared.code.Code.TheVariants.{Ebcdic, Ascii}

-- a character from a table in which 0 stands for none
abbrev pub in_table : ℕ → Option ℕ
in_table character = if character == 0 then None else Some character

-- the bytes from blank to tilde but for the backslash, and 0 for the others
abbrev pub ascii_or_zero : ℕ → ℕ
ascii_or_zero byte = if nat_lt byte 0x20 then 0 else if nat_lt 0x7E byte then 0 else if byte == 0x5C then 0 else byte

-- the byte of `(`
abbrev pub open_parenthesis : Code → ℕ
open_parenthesis Ebcdic = 0x4D
open_parenthesis Ascii = 0x28
