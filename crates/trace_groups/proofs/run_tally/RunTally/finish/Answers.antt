use Rattle.trace_groups.proofs.RunLemmas.{group-made}
use Rattle.trace_groups.proofs.run_tally.RunTally.finish.Goals as goal

pub returns-clause-group : goal.returns-clause-group
returns-clause-group c marks t = rw c.in_ok-close.ensures.traces (group-made c.args.problem marks _ _ _ _ _ _ t c.if-self-eq0.false c.in_ok-close.ensures.closed c.in_ok-close.ensures.kept)
