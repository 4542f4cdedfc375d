use Rattle.trace_view.proofs.StepLemmas.{past_front}
use Rattle.trace_view.proofs.cursor.Cursor.skip.Goals as goal

pub loop-self-preserved : goal.loop-self-preserved
loop-self-preserved c =
    let front = c.loop-self.self-inside.front.now in
    let rest = c.loop-self.self-inside.stretches in
    let k = past_front front rest c.advance-self-inside.result.now c.advance-self-inside.new.self c.loop-self.left _ c.advance-self-inside.ensures.bytes c.loop-self-test.true c.loop-self.invariant.inside c.loop-self.invariant.skipped in
    record { inside = k.0; skipped = k.1 }
