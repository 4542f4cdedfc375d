use Rattle.std.proofs.Common.{rules}
use Rattle.text_block.proofs.CharacterTableLemmas.{EBCDIC-ascii}
use Rattle.text_block.proofs.characters.character_or_zero.Goals as goal

pub returns-in-Ebcdic-clause-ascii : goal.returns-in-Ebcdic-clause-ascii
returns-in-Ebcdic-clause-ascii c = search (rules, EBCDIC-ascii)
