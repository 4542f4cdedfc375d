use Rattle.std.proofs.Common.{Some, ap}
use Rattle.trace_record.specs.Facts.{facts_of}
use Rattle.fault_live.proofs.TripleLemmas.{times-alone}
use Rattle.fault_live.proofs.firsts.key_alone.Goals as goal

pub returns : goal.returns
returns c = times-alone _ (facts_of c.args.trace.now) (ap Some c.key_of.ensures)
