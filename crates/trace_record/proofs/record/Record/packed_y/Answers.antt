use Rattle.trace_record.specs.Packable.{each_fits}
use Rattle.trace_record.proofs.record.Record.packed_y.Goals as goal

pub of-requires : goal.of-requires
of-requires c = (each_fits _ _ _ _ c.args.self.now.small).2
