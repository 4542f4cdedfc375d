use Rattle.trace_record.specs.Packable.{each_fits}
use Rattle.trace_record.proofs.of_trace.record_with_samples_of.Goals as goal

pub record_with-requires : goal.record_with-requires
record_with-requires c = (each_fits _ _ _ _ c.args.samples.now.small).0
