use Rattle.std.proofs.Common.{sym, ◌∙◌, rules, false}
use Rattle.text_block.proofs.EndStanzaLemmas.{has_part-other, has_part-parenthesis}
use Rattle.text_block.proofs.block.ends_text.Goals as goal
use Rattle.text_block.proofs.block.ends_text.Goals.{else-block-at-via-then-block-at+else-starts_with_end, else-block-at-via-else-block-at}

pub loop-at-preserved : goal.loop-at-preserved
loop-at-preserved c = elim c.else-block-at.branch [
  | else-block-at-via-then-block-at+else-starts_with_end w ↦
      sym (has_part-parenthesis _ c.args.block.now 3200 c.loop-at.at false (search rules) c.loop-at-test.true (w.if-block-at.true ∙ c.open_parenthesis-parenthesis.ensures) w.if-starts_with_end.ensures)
      ∙ c.loop-at.invariant
  | else-block-at-via-else-block-at w ↦
      sym (has_part-other _ c.args.block.now c.loop-at.at (search rules) (search rules) (λ e. w.if-block-at.false (e ∙ sym c.open_parenthesis-parenthesis.ensures)))
      ∙ c.loop-at.invariant
]
