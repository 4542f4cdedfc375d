use Rattle.std.proofs.Common.{◌≡◌, ◌==◌, drop}
use Rattle.std.specs.List.{position_from}
use Rattle.text_block.specs.declared.characters.TheConstants.{EBCDIC}
use Rattle.text_block.specs.declared.code.Code.TheVariants.{Ebcdic}
use Rattle.text_block.specs.Characters.{byte_of}
use Rattle.text_block.proofs.characters.ebcdic_byte.Given as goal

abbrev pub invariant-loop-byte : goal.invariant-loop-byte
invariant-loop-byte l = position_from (λ c. c == l.character) l.byte (drop l.byte EBCDIC) ≡ byte_of Ebcdic l.character
