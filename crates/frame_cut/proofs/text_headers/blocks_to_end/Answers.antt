use Rattle.std.proofs.Common.{arith, [], sym, ◌∙◌}
use Rattle.frame_cut.proofs.BlockLemmas.{end_found, end_missing}
use Rattle.frame_cut.proofs.text_headers.blocks_to_end.Goals as goal

pub returns-then-ends_text-clause-blocks : goal.returns-then-ends_text-clause-blocks
returns-then-ends_text-clause-blocks c =
    sym (end_found c.args.rest.now c.as_chunks.result.0.now c.loop-i.i [] c.as_chunks.ensures.front c.loop-i-test.true c.loop-i.invariant (sym c.ends_text.ensures ∙ c.if-ends_text.true))

pub returns-clause-blocks : goal.returns-clause-blocks
returns-clause-blocks c =
    sym (end_missing c.args.rest.now c.as_chunks.result.0.now [] c.as_chunks.ensures.front (λ k h. c.loop-i.invariant k (omega arith)))
