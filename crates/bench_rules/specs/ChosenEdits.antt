-- What is done to traces that are chosen. Traces are counted from 1.
use Rattle.std.specs.Prelude.{ℕ, ℤ, Bool, true, not, is_some, List, [], ◌∷◌, length, map, filter_map, Option, Some, None, option_map, if◌then◌else◌}
use Rattle.std.specs.List.{enumerate_from}
use Rattle.std.specs.Option.{option_or, option_map_or}
use Rattle.sample_codes.specs.Formats.{values}
use Rattle.field_map.specs.declared.place.Place.{Place}
use Rattle.field_map.specs.Pairs.{Pairs}
use Rattle.frame_cut.specs.Parts.{without}
use Rattle.frame_cut.specs.Traces.{trace_at}
use Rattle.frame_cut.specs.Volume.{Volume, bytes_of}
use Rattle.bench_rules.specs.declared.chosen.Chosen.{Chosen}
use Rattle.bench_rules.specs.declared.chosen_edit.ChosenEdit.{ChosenEdit}
use Rattle.bench_rules.specs.declared.chosen_edit.ChosenEdit.TheVariants.{Nothing, Renumber, Compute, Delete, Swap, Fill}
use Rattle.bench_rules.specs.declared.refusal.Refusal.{Refusal}
use Rattle.bench_rules.specs.declared.refusal.Refusal.TheVariants as refusals
use Rattle.bench_rules.specs.declared.test.Test.{Test}
use Rattle.bench_rules.specs.Computed.{Formula, formula_of, compute_refusal, computed_in, first_at, number_at}
use Rattle.bench_rules.specs.Conditions.{chosen, chosen_among, is_empty, lacks_values, range_of, tests_of}
use Rattle.bench_rules.specs.FilledSamples.{filled, samples_refusal, sample_value_refusal}
use Rattle.bench_rules.specs.ManyTraces.{each_of}
use Rattle.bench_rules.specs.Places.{place_in_trace}
use Rattle.bench_rules.specs.RangeRefusals.{range_refusal, first_refusal_among}
use Rattle.bench_rules.specs.SwappedFields.{changed_each, swap_refusal, swapped, two_places}
use Rattle.bench_rules.specs.TraceEdits.{counted, put_each}

-- ---- numbers for chosen traces

-- each trace with its value: the one that stands k steps behind the first, then the one that stands k + 1 behind it, and so on
abbrev pub counted_each : (first step : ℤ) (k : ℕ) → List ℕ → List (ℕ × ℤ)
counted_each first step k ps = map (λ e. (e.1, counted first step e.0)) (enumerate_from k ps)

-- those of the traces that have a number, each with it
abbrev pub computed_each : Volume → Formula → List ℕ → List (ℕ × ℤ)
computed_each v f ps = filter_map (λ p. number_at p (computed_in v.head f p (trace_at v p))) ps

-- the numbers that the edit gives one field of them, each with its trace, and the place of the field; nothing where it gives none
abbrev pub sets_of : Volume → Pairs → ChosenEdit → List ℕ → Option (Place × List (ℕ × ℤ))
sets_of v fields (Nothing names) ps = None
sets_of v fields (Renumber field first step) ps = option_map (λ place. (place, counted_each first step 0 ps)) (place_in_trace fields field)
sets_of v fields (Compute field source steps) ps = option_map (λ f. (f.place, computed_each v f ps)) (formula_of fields field source steps)
sets_of v fields Delete ps = None
sets_of v fields (Swap first second) ps = None
sets_of v fields (Fill first last x) ps = None

-- ---- refusals

-- each field of the edit has a place
abbrev pub has_fields : Pairs → ChosenEdit → Bool
has_fields fields (Nothing names) = is_some (each_of (place_in_trace fields) names)
has_fields fields (Renumber field first step) = is_some (place_in_trace fields field)
has_fields fields (Compute field source steps) = is_some (formula_of fields field source steps)
has_fields fields Delete = true
has_fields fields (Swap first second) = is_some (two_places fields first second)
has_fields fields (Fill first last x) = true

-- what the edit refuses of these traces, where its fields have places
abbrev pub refusal_of_edit : Volume → Pairs → ChosenEdit → List ℕ → Option Refusal
refusal_of_edit v fields (Nothing names) ps = None
refusal_of_edit v fields (Renumber field first step) ps = first_refusal_among v (place_in_trace fields field) (counted_each first step 0 ps)
refusal_of_edit v fields (Compute field source steps) ps = option_map_or (λ f. first_at (compute_refusal v f) ps) (formula_of fields field source steps) None
refusal_of_edit v fields Delete ps = None
refusal_of_edit v fields (Swap first second) ps =
    option_map_or (λ places. first_at (λ p. swap_refusal v.head places (trace_at v p)) ps) (two_places fields first second) None
refusal_of_edit v fields (Fill first last x) ps =
    option_or (sample_value_refusal (values v.head.format) x) (first_at (λ p. samples_refusal v.head first last (trace_at v p)) ps)

-- the refusal where these are the chosen traces: E03 where a trace of the range lacks the place of a condition
abbrev pub refusal_of_chosen : Volume → Pairs → ChosenEdit → Option (List ℕ) → Option Refusal
refusal_of_chosen v fields edit None = Some refusals.NoPlace
refusal_of_chosen v fields edit (Some ps) = refusal_of_edit v fields edit ps

-- the refusal under these conditions: E02 where a field of one has no place, E12 where one asks for values that samples have not
abbrev pub refusal_under : Volume → Pairs → Option (ℕ × ℕ) → ChosenEdit → Option (List Test) → Option Refusal
refusal_under v fields range edit None = Some refusals.NoField
refusal_under v fields range edit (Some tests) =
    if lacks_values v.head.format tests then Some refusals.NoValues else refusal_of_chosen v fields edit (chosen_among v tests (range_of range))

-- the first refusal: E01, E02, E12, E03, then what the edit refuses
abbrev pub chosen_refusal : Volume → Pairs → Chosen → ChosenEdit → Option Refusal
chosen_refusal v fields c edit =
    option_or (range_refusal v c.traces)
    (if not (has_fields fields edit) then Some refusals.NoField else refusal_under v fields c.traces edit (tests_of fields c.conditions))

-- ---- what the edit makes

-- the volume without the traces at these positions, which rise: without the last of them first
abbrev pub without_each : Volume → List ℕ → Volume
without_each v [] = v
without_each v (p ∷ ps) = without (without_each v ps) p

-- the file's bytes with each of these values over its place
abbrev pub bytes_with : Volume → Option (Place × List (ℕ × ℤ)) → List ℕ
bytes_with v None = bytes_of v
bytes_with v (Some sets) = put_each v sets.0 sets.1 (bytes_of v)

-- the file's bytes after the edit of these traces
abbrev pub bytes_after_each : Volume → Pairs → ChosenEdit → List ℕ → List ℕ
bytes_after_each v fields (Nothing names) ps = bytes_of v
bytes_after_each v fields (Renumber field first step) ps = bytes_with v (sets_of v fields (Renumber field first step) ps)
bytes_after_each v fields (Compute field source steps) ps = bytes_with v (sets_of v fields (Compute field source steps) ps)
bytes_after_each v fields Delete ps = bytes_of (without_each v ps)
bytes_after_each v fields (Swap first second) ps =
    option_map_or (λ places. bytes_of (changed_each (swapped v.head places) v ps)) (two_places fields first second) (bytes_of v)
bytes_after_each v fields (Fill first last x) ps = bytes_of (changed_each (filled v.head first last x) v ps)

-- the file's bytes after the edit of the chosen traces
abbrev pub bytes_after_chosen : Volume → Pairs → Chosen → ChosenEdit → List ℕ
bytes_after_chosen v fields c edit = option_map_or (bytes_after_each v fields edit) (chosen v fields c) (bytes_of v)

-- how many traces an edit tells that it was of: where there is a condition, those that are chosen
abbrev pub count_told : Volume → Pairs → Chosen → Option ℕ
count_told v fields c = if is_empty c.conditions then None else option_map (λ ps. length ps) (chosen v fields c)
