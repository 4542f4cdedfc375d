-- Traces that come in the place of one another: what a volume holds behind it, and a sort that is done.
use Rattle.std.proofs.Common.{◌≡◌, ◌⊎◌, ℕ, ◌+◌, ◌-◌, ◌<◌, Bool, List, [], map, Option, None, inl, inr, refl, sym, ap, subst, ◌∙◌, arith}
use Rattle.std.specs.Prelude.{Result, Err}
use Rattle.std.specs.List.Sorted.{IsPermutation}
use Rattle.std.proofs.lemmas.List.Sorted.{IsPermutation-map, length_permutation, sum_by-IsPermutation}
use Rattle.field_map.specs.Pairs.{Pairs}
use Rattle.frame_cut.specs.Traces.{count_of}
use Rattle.frame_cut.specs.Volume.{Volume}
use Rattle.trace_store.specs.Swapped.{with_swapped, with_places_swapped, ArePlaces}
use Rattle.trace_record.specs.Facts.{facts_of}
use Rattle.trace_record.specs.Keys.{Counted}
use Rattle.trace_record.specs.OfTrace.{record_of}
use Rattle.trace_record.specs.Tally.{Tally, tally_of, Same}
use Rattle.trace_record.specs.declared.record.Record.{Record}
use Rattle.trace_record.proofs.TallyLemmas.{Same-trans, Same-sym, tally-IsPermutation}
use Rattle.fault_live.specs.FaultKeys.{keys_of_faults}
use Rattle.grid_live.specs.GridKeys.{keys_of_grid}
use Rattle.range_stats.specs.RangeKeys.{keys_of_ranges}
use Rattle.range_stats.specs.TotalKeys.{keys_of_totals}
use Rattle.live_reports.specs.declared.values.Values.{Values}
use Rattle.live_reports.specs.Reports.{HaveCounted}
use Rattle.volume_records.specs.OfVolume.{records_of}
use Rattle.bench_rules.specs.declared.edit.Edit.TheVariants.{Sort}
use Rattle.bench_rules.specs.declared.field.Field.{Field}
use Rattle.bench_rules.specs.ManyTraces.{each_of}
use Rattle.bench_rules.specs.Places.{place_in_trace}
use Rattle.bench_rules.specs.ReadFaults.{IsReadRefusal}
use Rattle.bench_rules.specs.Refused.{first_refusal, sort_refusal}
use Rattle.bench_rules.specs.declared.refusal.Refusal.{Refusal}
use Rattle.bench_rules.specs.Looks.{looks_at}
use Rattle.bench_rules.specs.Sorted.{in_order, with_order}
use Rattle.bench_rules.specs.State.{State}
use Rattle.bench_rules.specs.Steps.{IsAfter, Step}
use Rattle.bench_rules.proofs.FirstLemmas.{AreTraces}
use Rattle.bench_rules.proofs.ManyValueLemmas.{IsRead}
use Rattle.bench_rules.proofs.SortedLemmas.{sort_accepted, sort_done, sort_first}
use Rattle.many_traces.specs.Arranged.{Puts, Sorts}
use Rattle.many_traces.specs.Formulas.{IsRefusalFor}
use Rattle.many_traces.proofs.SortedTraceLemmas.{map-swapped, swapped-puts}
use Rattle.live_volume.proofs.ComputedLemmas.{all_looks}
use Rattle.live_volume.proofs.HeldLemmas.{told_for, told_of_read}

-- the records change places as their traces do
pub records-swapped : (v : Volume) (fields : Pairs) (rs : List Record) (pairs : List (ℕ × ℕ)) → map facts_of rs ≡ records_of v fields → map facts_of (with_swapped rs pairs) ≡ records_of (with_places_swapped v pairs) fields
records-swapped v fields rs pairs e =
    sym (map-swapped facts_of rs pairs) ∙ (ap (λ fs. with_swapped fs pairs) e ∙ map-swapped (record_of v.head fields) v.traces pairs)

-- reports count records in whatever order they stand
module _ (v : Values) (rs qs : List Record) (same : IsPermutation rs qs) (is : HaveCounted v rs) where
  counts : (c : Counted) (t : Tally) → Same t (tally_of c (map facts_of rs)) → Same t (tally_of c (map facts_of qs))
  counts c t s = Same-trans t _ _ s (Same-sym _ _ (tally-IsPermutation c (map facts_of rs) (map facts_of qs) (IsPermutation-map facts_of rs qs same)))

  pub counted-permuted : HaveCounted v qs
  counted-permuted = record {
    few = record {
      records = omega (arith, is.few.records, length_permutation rs qs same);
      samples = omega (arith, is.few.samples, sum_by-IsPermutation (λ (r : Record). r.number) rs qs same);
    };
    counted = record {
      grid = counts keys_of_grid _ is.counted.grid;
      ranges = counts keys_of_ranges _ is.counted.ranges;
      totals = counts keys_of_totals _ is.counted.totals;
      triples = counts keys_of_faults _ is.counted.triples;
    };
  }

-- ---- a sort that is done

-- what is known of exchanges that sort traces which are there
pub record IsSorted (s : State) (a b : ℕ) (names : List Field) (falls : List Bool) (pairs : List (ℕ × ℕ)) : Type 0 where
  pub none : first_refusal s (Sort a b names falls) ≡ None
  pub places : ArePlaces (count_of s.volume) pairs
  pub done : IsAfter s (Sort a b names falls) (record s { volume = with_places_swapped s.volume pairs })

pub is-sorted : (s : State) (a b : ℕ) (names : List Field) (falls : List Bool) (pairs : List (ℕ × ℕ)) → IsRead s → AreTraces s.volume a b None → Sorts s.volume (each_of (place_in_trace s.fields) names) falls a b pairs
    → IsSorted s a b names falls pairs
is-sorted s a b names falls pairs cut t sorts =
    let none : first_refusal s (Sort a b names falls) ≡ None = sort_first s a b names falls t.low t.high t.last ∙ sorts.none in
    let c = sort_accepted s a b names falls none in
    let order : List ℕ = map (λ row. row.0) (in_order falls c.rows) in
    let puts : Puts a b order pairs = sorts.puts c.places order c.found (rw c.table refl) in
    let is : with_places_swapped s.volume pairs ≡ with_order s.volume a b order =
    ap (λ (ts : List (List ℕ)). let w : Volume = record s.volume { traces = ts } in w) (swapped-puts s.volume.traces [] a b order pairs puts t.low t.high t.last) in
    record {
      none = none;
      places = puts.places (count_of s.volume) t.last;
      done = sort_done s a b names falls (with_places_swapped s.volume pairs) cut c is;
    }

-- a refusal that is told is a step
pub sort_told : (T : Type 0) (s new : State) (a b : ℕ) (names : List Field) (falls : List Bool) (refusal : Refusal) → AreTraces s.volume a b None
    → (IsReadRefusal s.on_disk refusal × (0 < looks_at (each_of (place_in_trace s.fields) names) (b + 1 - a))) ⊎ IsRefusalFor refusal (sort_refusal s.volume a b (each_of (place_in_trace s.fields) names)) → new ≡ s
    → (let r : Result T Refusal = Err refusal in Step s (Sort a b names falls) r new)
sort_told T s new a b names falls refusal t (inl read) same =
    told_of_read T s new (Sort a b names falls) refusal (subst (λ (n : ℕ). 0 < looks_at (each_of (place_in_trace s.fields) names) n) (sym (all_looks s.volume a b t)) read.1) read.0 same
sort_told T s new a b names falls refusal t (inr is) same =
    told_for T s new (Sort a b names falls) refusal (record {}) (subst (λ (o : Option Refusal). IsRefusalFor refusal o) (sym (sort_first s a b names falls t.low t.high t.last)) is) same
