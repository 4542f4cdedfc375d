use Rattle.std.proofs.Common.{arith}
use Rattle.std.proofs.lemmas.List.{length-map}
use Rattle.trace_record.specs.Facts.{facts_of}
use Rattle.range_stats.proofs.LoadLemmas.{Same-loaded_ranges}
use Rattle.range_stats.proofs.ranges.RangesRunning.from_records.Goals as goal

pub of-requires : goal.of-requires
of-requires c = let few = c.requires.records in omega (arith, length-map c.args.records.now facts_of)

pub returns-clause-same : goal.returns-clause-same
returns-clause-same c =
    Same-loaded_ranges _ c.args.records.now c.len-2.ensures c.in_ok-inlines.ensures.inlines c.in_ok-inlines.ensures.crosslines c.in_ok-inlines.ensures.offsets
    (rw c.in_ok-x.ensures.x at c.in_ok-coordinates_x.ensures.numbers) (rw c.in_ok-x.ensures.y at c.in_ok-coordinates_y.ensures.numbers)
