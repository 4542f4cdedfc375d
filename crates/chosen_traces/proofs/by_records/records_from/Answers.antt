use Rattle.chosen_traces.proofs.RecordLemmas.{given_from, left_is}
use Rattle.chosen_traces.proofs.by_records.records_from.Goals as goal

pub loop-gone-preserved : goal.loop-gone-preserved
loop-gone-preserved c =
    left_is c.args.records.now c.loop-gone.gone c.next.result c.next.new.self
    (given_from c.args.records.now c.loop-gone.left c.loop-gone.gone c.next.result c.next.new.self c.loop-gone.invariant c.next.ensures.steps)
