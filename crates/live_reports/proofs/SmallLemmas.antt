-- The tallies of few records are small, with one record more too.
use Rattle.std.specs.Prelude.{◌≤◌, ◌^◌, ℕ, List, [], ◌∷◌, ◌++◌, length, map, sum_by, Option, Some, None}
use Rattle.std.specs.Option.{option_map_or}
use Rattle.std.proofs.Common.{arith}
use Rattle.std.proofs.lemmas.List.{length-map}
use Rattle.std.proofs.lemmas.List.Sums.{sum_by-cons}
use Rattle.trace_record.specs.Facts.{facts_of, number_of_values}
use Rattle.trace_record.specs.declared.amplitudes.Amplitudes.{Amplitudes}
use Rattle.trace_record.specs.declared.record.Record.{Record}
use Rattle.trace_record.proofs.LoadLemmas.{IsSmall-uncounted}
use Rattle.trace_record.proofs.TallyLemmas.{IsSmall-tally_of, IsSmall-Same, Same-sym, Same-trans, plus-Same, tally-cons, sum-low, sum-high}
use Rattle.fault_live.specs.FaultKeys.{keys_of_faults}
use Rattle.grid_live.specs.GridKeys.{keys_of_grid}
use Rattle.range_stats.specs.RangeKeys.{keys_of_ranges}
use Rattle.range_stats.specs.TotalKeys.{keys_of_totals}
use Rattle.live_reports.specs.Reports.{AreFew}
use Rattle.live_reports.specs.Tallies.{Tallies, tallies_of_records, plus_each, SameEach, AreSmall}

valued-le : (o : Option Amplitudes) (n : ℕ) → option_map_or (λ a. n) o 0 ≤ n
valued-le None n = omega arith
valued-le (Some a) n = omega arith

-- the samples that have values are no more than all
samples-map : (rs : List Record) → sum_by number_of_values (map facts_of rs) ≤ sum_by (λ (r : Record). r.number) rs
samples-map [] = omega arith
samples-map (r ∷ rs) =
    let one = sum_by-cons number_of_values (facts_of r) (map facts_of rs) in
    let other = sum_by-cons (λ (q : Record). q.number) r rs in
    let own = valued-le r.amplitudes r.number in
    let rest = samples-map rs in
    omega arith

-- the tallies of records whose number and samples are within the bounds of a small one
pub small_within : (rs : List Record) → length rs ≤ 2 ^ 33 → sum_by (λ (r : Record). r.number) rs ≤ 2 ^ 41 → AreSmall (tallies_of_records (map facts_of rs))
small_within rs few samples =
    let n = length-map rs facts_of in
    let m = samples-map rs in
    record {
      grid = IsSmall-uncounted keys_of_grid.has (map facts_of rs) (omega arith);
      ranges = IsSmall-uncounted keys_of_ranges.has (map facts_of rs) (omega arith);
      totals = IsSmall-tally_of keys_of_totals (map facts_of rs) (omega arith) (omega arith) (sum-low rs) (sum-high rs);
      triples = IsSmall-uncounted keys_of_faults.has (map facts_of rs) (omega arith);
    }

pub small_each : (rs : List Record) → AreFew rs → AreSmall (tallies_of_records (map facts_of rs))
small_each rs few = let a = few.records in let b = few.samples in small_within rs (omega arith) (omega arith)

pub SameEach-trans : (t u v : Tallies) → SameEach t u → SameEach u v → SameEach t v
SameEach-trans t u v p q = record {
  grid = Same-trans _ _ _ p.grid q.grid;
  ranges = Same-trans _ _ _ p.ranges q.ranges;
  totals = Same-trans _ _ _ p.totals q.totals;
  triples = Same-trans _ _ _ p.triples q.triples;
}

-- tallies that say the same as small ones
pub AreSmall-Same : (t u : Tallies) → SameEach t u → AreSmall u → AreSmall t
AreSmall-Same t u s small = record {
  grid = IsSmall-Same _ _ (Same-sym _ _ s.grid) small.grid;
  ranges = IsSmall-Same _ _ (Same-sym _ _ s.ranges) small.ranges;
  totals = IsSmall-Same _ _ (Same-sym _ _ s.totals) small.totals;
  triples = IsSmall-Same _ _ (Same-sym _ _ s.triples) small.triples;
}

-- one record more, with as many samples as all may have
pub room_each : (t : Tallies) (rs : List Record) (r : Record) → SameEach t (tallies_of_records (map facts_of rs)) → AreFew rs → r.number ≤ 2 ^ 40 → AreSmall (plus_each t (facts_of r))
room_each t rs r s few own =
    let a = few.records in
    let b = few.samples in
    let step = sum_by-cons (λ (q : Record). q.number) r rs in
    let small = small_within (r ∷ rs) (omega arith) (omega arith) in
    record {
      grid = IsSmall-Same _ _ (Same-trans _ _ _ (tally-cons keys_of_grid (facts_of r) (map facts_of rs)) (plus-Same keys_of_grid _ _ (facts_of r) (Same-sym _ _ s.grid))) small.grid;
      ranges = IsSmall-Same _ _ (Same-trans _ _ _ (tally-cons keys_of_ranges (facts_of r) (map facts_of rs)) (plus-Same keys_of_ranges _ _ (facts_of r) (Same-sym _ _ s.ranges))) small.ranges;
      totals = IsSmall-Same _ _ (Same-trans _ _ _ (tally-cons keys_of_totals (facts_of r) (map facts_of rs)) (plus-Same keys_of_totals _ _ (facts_of r) (Same-sym _ _ s.totals))) small.totals;
      triples = IsSmall-Same _ _ (Same-trans _ _ _ (tally-cons keys_of_faults (facts_of r) (map facts_of rs)) (plus-Same keys_of_faults _ _ (facts_of r) (Same-sym _ _ s.triples))) small.triples;
    }

-- a record of the list has no more samples than all together
pub own_samples : (front behind : List Record) (r : Record) → r.number ≤ sum_by (λ (q : Record). q.number) (front ++ r ∷ behind)
own_samples [] behind r = let step = sum_by-cons (λ (q : Record). q.number) r behind in omega arith
own_samples (f ∷ front) behind r = let step = sum_by-cons (λ (q : Record). q.number) f (front ++ r ∷ behind) in let rest = own_samples front behind r in omega arith
