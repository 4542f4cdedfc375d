-- Records that stand in for as many others, from a place on.
use Rattle.std.specs.Prelude.{ℕ, ◌+◌, ◌≤◌, ◌^◌, ◌++◌, Bool, List, [], ◌∷◌, length, take, drop, map, sum_by}
use Rattle.std.specs.List.{list_all, zip}
use Rattle.trace_record.specs.Facts.{facts_of}
use Rattle.trace_record.specs.Keys.{Counted}
use Rattle.trace_record.specs.Tally.{Tally, tally_of, plus_beside}
use Rattle.trace_record.specs.declared.record.Record.{Record}
use Rattle.fault_live.specs.FaultKeys.{keys_of_faults}
use Rattle.grid_live.specs.GridKeys.{keys_of_grid}
use Rattle.range_stats.specs.RangeKeys.{keys_of_ranges}
use Rattle.range_stats.specs.TotalKeys.{keys_of_totals}
use Rattle.live_reports.specs.Alike.{same_cell}
use Rattle.live_reports.specs.Tallies.{Tallies}

-- the records with new ones where as many others stood, from a place on
abbrev pub with_records : List Record → ℕ → List Record → List Record
with_records rs at new = take at rs ++ new ++ drop (at + length new) rs

-- whether the records have, one by one, the inline and crossline of the others
abbrev pub same_cells : List Record → List Record → Bool
same_cells old new = list_all (λ p. same_cell p.0 p.1) (zip old new)

-- a tally with each new record counted beside the old one at its place: a key of both stays counted once
abbrev pub with_new : Counted → Tally → List Record → List Record → Tally
with_new c t [] new = t
with_new c t (o ∷ os) [] = t
with_new c t (o ∷ os) (n ∷ ns) = plus_beside c (with_new c t os ns) (facts_of n) (facts_of o)

-- the tallies while records are exchanged: of all old records, and of each new one from number k on, counted from 0, beside the one at its place
abbrev pub tallies_with_new : List Record → ℕ → List Record → ℕ → Tallies
tallies_with_new rs at new k = record {
  grid = with_new keys_of_grid (tally_of keys_of_grid (map facts_of rs)) (drop (at + k) rs) (drop k new);
  ranges = with_new keys_of_ranges (tally_of keys_of_ranges (map facts_of rs)) (drop (at + k) rs) (drop k new);
  totals = with_new keys_of_totals (tally_of keys_of_totals (map facts_of rs)) (drop (at + k) rs) (drop k new);
  triples = with_new keys_of_faults (tally_of keys_of_faults (map facts_of rs)) (drop (at + k) rs) (drop k new);
}

-- the records and the new ones are few enough to be counted together
pub record AreFewTogether (rs new : List Record) : Type 0 where
  pub records : length rs + length new ≤ 2 ^ 33
  pub samples : sum_by (λ (r : Record). r.number) rs + sum_by (λ (r : Record). r.number) new ≤ 2 ^ 41
