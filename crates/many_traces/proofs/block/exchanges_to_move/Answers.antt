use Rattle.std.proofs.Common.{arith}
use Rattle.many_traces.proofs.BlockLemmas.{puts-behind, puts-in-front}
use Rattle.many_traces.proofs.SortedTraceLemmas.{if_ok}
use Rattle.many_traces.proofs.block.exchanges_to_move.Goals as goal

pub returns-then-to-a-clause-puts : goal.returns-then-to-a-clause-puts
returns-then-to-a-clause-puts c =
    if_ok c.exchanges_to_turn.result (λ pairs r. puts-in-front c.args.a c.args.b c.args.to pairs.items c.requires.first c.requires.range c.requires.place (omega (arith, c.if-to-a.true)) r) c.exchanges_to_turn.ensures.arranges

pub returns-else-to-a-clause-puts : goal.returns-else-to-a-clause-puts
returns-else-to-a-clause-puts c =
    if_ok c.exchanges_to_turn-else-to-a.result (λ pairs r. puts-behind c.args.a c.args.b c.args.to pairs.items c.requires.first c.requires.range c.requires.place (omega (arith, c.if-to-a.false)) r) c.exchanges_to_turn-else-to-a.ensures.arranges
