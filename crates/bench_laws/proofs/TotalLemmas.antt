-- The totals of a volume are those of the samples of all its traces.
use Rattle.std.proofs.Common.{◌≡◌, ℕ, List, [], ◌∷◌, map, refl, sym, ap₂, ◌∙◌}
use Rattle.std.specs.List.{flat_map}
use Rattle.field_map.specs.Pairs.{Pairs}
use Rattle.frame_cut.specs.declared.file_head.Head.{Head}
use Rattle.trace_record.specs.OfTrace.{record_of}
use Rattle.trace_record.specs.Statistics.{statistics_of, statistics_of_both}
use Rattle.trace_record.proofs.StatisticsLemmas.{statistics_of_joined}
use Rattle.trace_view.specs.Values.{has_floats, samples_of}
use Rattle.range_stats.specs.Totals.{totals_of}
use Rattle.bench_rules.proofs.LiveLemmas.{stat_shown}
use Rattle.bench_laws.specs.ReportLaws.{TotalsAreOfAllSamples}

totals_of_all : (h : Head) (fields : Pairs) (ts : List (List ℕ)) → totals_of (map (record_of h fields) ts) ≡ statistics_of (has_floats h) (flat_map (samples_of h) ts)
totals_of_all h fields [] = refl
totals_of_all h fields (t ∷ ts) =
    ap₂ statistics_of_both (stat_shown h fields t (record_of h fields t) refl) (totals_of_all h fields ts)
    ∙ sym (statistics_of_joined (has_floats h) (samples_of h t) (flat_map (samples_of h) ts))

pub totals_are_of_all_samples : TotalsAreOfAllSamples
totals_are_of_all_samples s = totals_of_all s.volume.head s.fields s.volume.traces
