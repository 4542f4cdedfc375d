use Rattle.std.proofs.Common.{arith, ◌∙◌}
use Rattle.time_slice.proofs.TurnLemmas.{turn_more}
use Rattle.time_slice.proofs.slice_cache.forget_numbers.Goals as goal

pub loop-preserved : goal.loop-preserved
loop-preserved c =
    let told = c.loop.invariant in (
      turn_more c.args.k c.args.many c.loop.counter c.args.cache.now.entries c.loop.cache.entries c.turn.new.cache.entries (omega (arith, told.2, c.loop-test.true)) told.0 c.turn.ensures.turned,
      c.turn.ensures.capacity ∙ told.1,
      told.2,
    )
