use Rattle.std.proofs.Common.{sym, ◌∙◌, arith}
use Rattle.text_block.proofs.EndStanzaLemmas.{matches-next, matches-other, matches-escaped, starts_with-whole}
use Rattle.text_block.proofs.block.starts_with_end.Goals as goal

pub returns-in_default : goal.returns-in_default
returns-in_default c =
    sym (matches-escaped _ _ _ _ c.loop-byte-test.true c.loop-byte.invariant.within (sym c.if-is_space.ensures) (sym c.in_default.ensures.character))
    ∙ c.loop-byte.invariant.same

pub returns-then-to_ascii_lowercase-matched : goal.returns-then-to_ascii_lowercase-matched
returns-then-to_ascii_lowercase-matched c =
    sym (matches-other _ _ _ _ _ c.loop-byte-test.true c.loop-byte.invariant.within (sym c.if-is_space.ensures) (sym c.in-Some.ensures.character) (λ e. c.if-to_ascii_lowercase-matched.true (c.to_ascii_lowercase.ensures.value ∙ e)))
    ∙ c.loop-byte.invariant.same

pub returns-then-matched-eq15 : goal.returns-then-matched-eq15
returns-then-matched-eq15 c =
    sym (starts_with-whole _ _ c.if-matched-eq15.true)
    ∙ sym (matches-next _ _ _ _ _ c.loop-byte-test.true c.loop-byte.invariant.within (sym c.if-is_space.ensures) (sym c.in-Some.ensures.character) (sym c.to_ascii_lowercase.ensures.value ∙ c.if-to_ascii_lowercase-matched.false))
    ∙ c.loop-byte.invariant.same

pub loop-byte-preserved : goal.loop-byte-preserved
loop-byte-preserved c = record {
  within = omega (arith, c.loop-byte.invariant.within, c.if-matched-eq15.false);
  same =
      sym (matches-next _ _ _ _ _ c.loop-byte-test.true c.loop-byte.invariant.within (sym c.if-is_space.ensures) (sym c.in-Some.ensures.character) (sym c.to_ascii_lowercase.ensures.value ∙ c.if-to_ascii_lowercase-matched.false))
      ∙ c.loop-byte.invariant.same;
}
