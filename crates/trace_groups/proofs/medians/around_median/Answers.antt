use Rattle.std.proofs.Common.{sym}
use Rattle.trace_groups.proofs.MedianLemmas.{found_between}
use Rattle.trace_groups.proofs.medians.around_median.Goals as goal

pub returns-clause-median : goal.returns-clause-median
returns-clause-median c =
    let split = c.select_nth_unstable-front.ensures in
    sym (found_between _ c.args.numbers.now c.select_nth_unstable-front.result.0.now c.select_nth_unstable-front.result.1.now c.select_nth_unstable-front.result.2.now split.permutation split.front_len split.partitioned)
