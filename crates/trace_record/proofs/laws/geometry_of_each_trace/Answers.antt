use Rattle.trace_record.proofs.GeometryLemmas.{geometry_of_each_trace}
use Rattle.trace_record.proofs.laws.geometry_of_each_trace.Goals as goal

pub returns : goal.returns
returns c = geometry_of_each_trace
