-- Records with the running values that have counted them.
use Rattle.std.specs.Prelude.{◌<◌, ◌≤◌, ◌^◌, List, length, map, sum_by}
use Rattle.trace_record.specs.Facts.{facts_of}
use Rattle.trace_record.specs.Tally.{tally_of, HasKeys}
use Rattle.trace_record.specs.declared.record.Record.{Record}
use Rattle.fault_live.specs.FaultKeys.{keys_of_faults}
use Rattle.grid_live.specs.GridKeys.{keys_of_grid}
use Rattle.range_stats.specs.RangeKeys.{keys_of_ranges}
use Rattle.range_stats.specs.TotalKeys.{keys_of_totals}
use Rattle.live_reports.specs.declared.values.Values.{Values}
use Rattle.live_reports.specs.Tallies.{tallies_of, tallies_of_records, SameEach}

-- fewer than 2^32 records, with at most 2^40 samples together
pub record AreFew (rs : List Record) : Type 0 where
  pub records : length rs < 2 ^ 32
  pub samples : sum_by (λ (r : Record). r.number) rs ≤ 2 ^ 40

-- the values have counted these records, each once, and no others
pub record HaveCounted (v : Values) (rs : List Record) : Type 0 where
  pub few : AreFew rs
  pub counted : SameEach (tallies_of v) (tallies_of_records (map facts_of rs))

-- whatever the record is counted under, one of the records is too
pub record HasEachKey (rs : List Record) (r : Record) : Type 0 where
  pub grid : HasKeys keys_of_grid (tally_of keys_of_grid (map facts_of rs)) (facts_of r)
  pub ranges : HasKeys keys_of_ranges (tally_of keys_of_ranges (map facts_of rs)) (facts_of r)
  pub totals : HasKeys keys_of_totals (tally_of keys_of_totals (map facts_of rs)) (facts_of r)
  pub triples : HasKeys keys_of_faults (tally_of keys_of_faults (map facts_of rs)) (facts_of r)
