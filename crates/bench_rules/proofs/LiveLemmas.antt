-- What running values show is what the reports say of the volume.
use Rattle.std.proofs.Common.{inl, Bool, List, ap, sym, ◌≡◌, ◌<◌, ◌∙◌, ℕ, ℤ, [], ◌∷◌, length, inr, refl, arith}
use Rattle.std.specs.Prelude.{Option, Some, None, Ok, Err, option_map}
use Rattle.std.specs.Option.{option_map_or}
use Rattle.std.specs.Result.{IsErrAnd}
use Rattle.num_order.specs.declared.order.Order.{Order}
use Rattle.sample_codes.specs.declared.value_format.ValueFormat.{ValueFormat}
use Rattle.sample_codes.specs.Formats.{values}
use Rattle.field_map.specs.Pairs.{Pairs}
use Rattle.frame_cut.specs.declared.file_head.Head.{Head}
use Rattle.frame_cut.specs.Frames.{sample_count}
use Rattle.trace_view.specs.Values.{has_floats, samples_in, samples_of, sample_bytes}
use Rattle.trace_record.specs.OfTrace.{record_of}
use Rattle.trace_record.specs.Statistics.{least_of, greatest_sample, sample_sum, statistics_of, statistics_with, amplitudes_of}
use Rattle.trace_record.proofs.SampleLemmas.{length-samples_in}
use Rattle.trace_record.specs.declared.statistics.Statistics.{Statistics}
use Rattle.bench_rules.specs.declared.query.Query.TheVariants as queries
use Rattle.bench_rules.specs.declared.ask_fault.AskFault.{AskFault}
use Rattle.bench_rules.specs.declared.ask_fault.AskFault.TheVariants.{OutOfMemory}
use Rattle.bench_rules.specs.Answer.{Reply, IsReply}
use Rattle.bench_rules.specs.State.{State}
use Rattle.grid_live.specs.GridKeys.{keys_of_grid}
use Rattle.trace_record.specs.Tally.{tally_of}
use Rattle.grid_live.specs.OfGrid.{tally_of_grid}
use Rattle.grid_live.proofs.GridLemmas.{cells_are_shown, inlines_are_shown, crosslines_are_shown, histogram_is_shown, one_list_of_cells, one_list_of_inlines, one_list_of_crosslines, one_histogram}
use Rattle.range_stats.specs.OfRanges.{tally_of_ranges}
use Rattle.range_stats.specs.OfTotals.{tally_of_totals}
use Rattle.range_stats.proofs.TallyRangeLemmas.{range_of_tally}
use Rattle.range_stats.proofs.TotalsLemmas.{totals_of_tally}
use Rattle.trace_record.specs.Facts.{Facts, statistics_in}
use Rattle.fault_live.specs.Faults.{faults_of}
use Rattle.bench_rules.specs.Reports.{records, head_facts, cells_in, inlines_in, crosslines_in, histogram_in}
use Rattle.bench_rules.specs.Live.{ShowsTheCells, ShowsTheInlines, ShowsTheCrosslines, ShowsTheHistogram, ShowsRanges, ShowsTotals, ShowsFaults}

-- ---- the grid

pub shows_the_cells : ShowsTheCells
shows_the_cells s grid cs live shown =
    one_list_of_cells (tally_of_grid grid) (tally_of keys_of_grid (records s)) cs (cells_in s) live shown (cells_are_shown (records s))

pub shows_the_inlines : ShowsTheInlines
shows_the_inlines s grid ls live shown =
    one_list_of_inlines (tally_of_grid grid) (tally_of keys_of_grid (records s)) ls (inlines_in s) live shown (inlines_are_shown (records s))

pub shows_the_crosslines : ShowsTheCrosslines
shows_the_crosslines s grid ls live shown =
    one_list_of_crosslines (tally_of_grid grid) (tally_of keys_of_grid (records s)) ls (crosslines_in s) live shown (crosslines_are_shown (records s))

pub shows_the_histogram : ShowsTheHistogram
shows_the_histogram s grid ts live shown =
    one_histogram (tally_of_grid grid) (tally_of keys_of_grid (records s)) ts (histogram_in s) live shown (histogram_is_shown (records s))

-- ---- ranges and totals

pub shows_ranges : ShowsRanges
shows_ranges s ranges w found live is = range_of_tally w (records s) (tally_of_ranges ranges) found live is

pub shows_totals : ShowsTotals
shows_totals s totals l g live least greatest = totals_of_tally (records s) (tally_of_totals totals) l g live least greatest

-- ---- faults

pub shows_faults : ShowsFaults
shows_faults s rs live = ap (λ (fs : List Facts). faults_of (head_facts s.volume) fs) live

-- want of memory is a reply where the faults are asked for
pub wants_memory : (s : State) (r : Reply) → IsErrAnd r (λ fault. fault ≡ OutOfMemory) → IsReply s queries.Faults r
wants_memory s (Ok a) is = absurd is
wants_memory s (Err fault) is = inr (inl (ap (λ (f : AskFault). let r : Reply = Err f in r) is, (record {}, inl refl)))

-- ---- statistics of one trace

-- statistics without their number, and with it again
again : (floats : Bool) (vs : List ℤ) (n : ℕ) → (0 < length vs → length vs ≡ n) → option_map (λ a. statistics_with a n) (amplitudes_of floats vs) ≡ statistics_of floats vs
again floats [] n e = refl
again floats (v ∷ vs) n e = ap (λ (m : ℕ). let o : Option Statistics = Some (record { least = least_of (v ∷ vs); greatest = greatest_sample floats (v ∷ vs); sum = sample_sum floats (v ∷ vs); number = m }) in o) (sym (e (omega arith)))

-- where samples have values, there are as many values
all_or_none : (o : Order) (f : Option ValueFormat) (n : ℕ) (bytes : List ℕ) → 0 < length (option_map_or (λ g. samples_in o g n bytes) f []) → length (option_map_or (λ g. samples_in o g n bytes) f []) ≡ n
all_or_none o None n bytes some = absurd (omega arith)
all_or_none o (Some g) n bytes some = length-samples_in o g n bytes

-- the statistics that a record holds are those of the trace's samples
pub stat_shown : (h : Head) (fields : Pairs) (t : List ℕ) (f : Facts) → f ≡ record_of h fields t → statistics_in f ≡ statistics_of (has_floats h) (samples_of h t)
stat_shown h fields t f is =
    ap statistics_in is ∙ again (has_floats h) (samples_of h t) (sample_count h t) (all_or_none h.order (values h.format) (sample_count h t) (sample_bytes h t))
