use Rattle.std.proofs.Common.{length, ap, arith}
use Rattle.trace_view.proofs.WrittenLemmas.{length-written}
use Rattle.trace_view.proofs.lengths.overlaid_length.Goals as goal

pub extension_count-requires : goal.extension_count-requires
extension_count-requires c =
    let b = c.new-bytes.result in
    omega (arith, length-written b.base.now b.runs.now b.fit, ap length c.new-bytes.ensures.base)

pub sample_count-samples-requires : goal.sample_count-samples-requires
sample_count-samples-requires c =
    let b = c.new-bytes.result in
    omega (arith, length-written b.base.now b.runs.now b.fit, ap length c.new-bytes.ensures.base)
