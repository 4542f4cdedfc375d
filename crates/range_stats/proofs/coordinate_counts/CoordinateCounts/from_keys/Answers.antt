use Rattle.range_stats.proofs.UnpackedLemmas.{times_unpacked}
use Rattle.range_stats.proofs.coordinate_counts.CoordinateCounts.from_keys.Goals as goal

pub returns-clause-numbers : goal.returns-clause-numbers
returns-clause-numbers c = times_unpacked _ c.args.keys.items c.in_ok-packed.ensures.shows.counts
