-- What the four running values count together.
use Rattle.std.specs.Prelude.{List}
use Rattle.trace_record.specs.Facts.{Facts}
use Rattle.trace_record.specs.Tally.{Tally, tally_of, plus, minus, plus_beside, minus_beside, Same, HasKeys, HasKeysBeside, Holds, HoldsBeside, IsSmall}
use Rattle.fault_live.specs.FaultKeys.{keys_of_faults}
use Rattle.fault_live.specs.OfFaults.{tally_of_faults}
use Rattle.grid_live.specs.GridKeys.{keys_of_grid}
use Rattle.grid_live.specs.OfGrid.{tally_of_grid}
use Rattle.range_stats.specs.RangeKeys.{keys_of_ranges}
use Rattle.range_stats.specs.OfRanges.{tally_of_ranges}
use Rattle.range_stats.specs.TotalKeys.{keys_of_totals}
use Rattle.range_stats.specs.OfTotals.{tally_of_totals}
use Rattle.live_reports.specs.declared.values.Values.{Values}

-- the tallies of grid, ranges, totals and triples together
pub record Tallies : Type 0 where
  pub grid : Tally
  pub ranges : Tally
  pub totals : Tally
  pub triples : Tally

-- the tallies that the four values show
abbrev pub tallies_of : Values → Tallies
tallies_of v = record { grid = tally_of_grid v.grid; ranges = tally_of_ranges v.ranges; totals = tally_of_totals v.totals; triples = tally_of_faults v.triples }

-- the tallies of a list of traces
abbrev pub tallies_of_records : List Facts → Tallies
tallies_of_records fs = record { grid = tally_of keys_of_grid fs; ranges = tally_of keys_of_ranges fs; totals = tally_of keys_of_totals fs; triples = tally_of keys_of_faults fs }

-- one trace more in each of the four tallies
abbrev pub plus_each : Tallies → Facts → Tallies
plus_each t f = record { grid = plus keys_of_grid t.grid f; ranges = plus keys_of_ranges t.ranges f; totals = plus keys_of_totals t.totals f; triples = plus keys_of_faults t.triples f }

-- one trace less in each of the four tallies
abbrev pub minus_each : Tallies → Facts → Tallies
minus_each t f = record { grid = minus keys_of_grid t.grid f; ranges = minus keys_of_ranges t.ranges f; totals = minus keys_of_totals t.totals f; triples = minus keys_of_faults t.triples f }

-- one trace more in each of the four tallies beside another, for which it comes to stand
abbrev pub plus_each_beside : Tallies → Facts → Facts → Tallies
plus_each_beside t f g = record {
  grid = plus_beside keys_of_grid t.grid f g;
  ranges = plus_beside keys_of_ranges t.ranges f g;
  totals = plus_beside keys_of_totals t.totals f g;
  triples = plus_beside keys_of_faults t.triples f g;
}

-- one trace less in each of the four tallies beside another, which stands for it
abbrev pub minus_each_beside : Tallies → Facts → Facts → Tallies
minus_each_beside t f g = record {
  grid = minus_beside keys_of_grid t.grid f g;
  ranges = minus_beside keys_of_ranges t.ranges f g;
  totals = minus_beside keys_of_totals t.totals f g;
  triples = minus_beside keys_of_faults t.triples f g;
}

-- the four tallies say the same as four others
pub record SameEach (t u : Tallies) : Type 0 where
  pub grid : Same t.grid u.grid
  pub ranges : Same t.ranges u.ranges
  pub totals : Same t.totals u.totals
  pub triples : Same t.triples u.triples

-- all four tallies are small
pub record AreSmall (t : Tallies) : Type 0 where
  pub grid : IsSmall t.grid
  pub ranges : IsSmall t.ranges
  pub totals : IsSmall t.totals
  pub triples : IsSmall t.triples

-- all four tallies have the trace
pub record HoldEach (t : Tallies) (f : Facts) : Type 0 where
  pub grid : Holds keys_of_grid t.grid f
  pub ranges : Holds keys_of_ranges t.ranges f
  pub totals : Holds keys_of_totals t.totals f
  pub triples : Holds keys_of_faults t.triples f

-- all four tallies have the trace, but for the keys that the other has too
pub record HoldEachBeside (t : Tallies) (f g : Facts) : Type 0 where
  pub grid : HoldsBeside keys_of_grid t.grid f g
  pub ranges : HoldsBeside keys_of_ranges t.ranges f g
  pub totals : HoldsBeside keys_of_totals t.totals f g
  pub triples : HoldsBeside keys_of_faults t.triples f g

-- all four tallies have each key of the trace
pub record HaveKeys (t : Tallies) (f : Facts) : Type 0 where
  pub grid : HasKeys keys_of_grid t.grid f
  pub ranges : HasKeys keys_of_ranges t.ranges f
  pub totals : HasKeys keys_of_totals t.totals f
  pub triples : HasKeys keys_of_faults t.triples f

-- all four tallies have each key of the trace that the other has not
pub record HaveKeysBeside (t : Tallies) (f g : Facts) : Type 0 where
  pub grid : HasKeysBeside keys_of_grid t.grid f g
  pub ranges : HasKeysBeside keys_of_ranges t.ranges f g
  pub totals : HasKeysBeside keys_of_totals t.totals f g
  pub triples : HasKeysBeside keys_of_faults t.triples f g
