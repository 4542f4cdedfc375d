use Rattle.std.proofs.Common.{◌==◌, sym, ◌∙◌, arith}
use Rattle.std.proofs.lemmas.Bool.{eq-eqb, ne_eqb}
use Rattle.text_block.specs.declared.characters.TheConstants.{EBCDIC}
use Rattle.text_block.proofs.CharacterTableLemmas.{position_from-EBCDIC, position_from-here, position_from-drop}
use Rattle.text_block.proofs.characters.ebcdic_byte.Goals as goal

pub loop-byte-init : goal.loop-byte-init
loop-byte-init c = position_from-EBCDIC c.args.character (omega (arith, c.if-character-eq0.false)) c.ranges.character.fits

pub returns-then-byte-character : goal.returns-then-byte-character
returns-then-byte-character c =
    sym (position_from-here (λ x. x == c.args.character) EBCDIC c.loop-byte.byte c.loop-byte-test.true (eq-eqb _ _ c.if-byte-character.true))
    ∙ c.loop-byte.invariant

pub loop-byte-preserved : goal.loop-byte-preserved
loop-byte-preserved c =
    sym (position_from-drop (λ x. x == c.args.character) EBCDIC c.loop-byte.byte c.loop-byte-test.true (ne_eqb _ _ c.if-byte-character.false))
    ∙ c.loop-byte.invariant
