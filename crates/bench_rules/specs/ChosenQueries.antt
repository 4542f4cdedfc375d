-- What is told of traces that are chosen. Traces are counted from 1.
use Rattle.std.specs.Prelude.{ℕ, ℤ, Bool, true, not, is_some, List, map, filter, filter_map, length, Option, Some, None, option_map, Ok, Err, if◌then◌else◌}
use Rattle.field_map.specs.declared.place.Place.{Place}
use Rattle.field_map.specs.Pairs.{Pairs}
use Rattle.frame_cut.specs.Traces.{count_of, is_trace, trace_at}
use Rattle.frame_cut.specs.Volume.{Volume}
use Rattle.trace_view.specs.Values.{value_of}
use Rattle.bench_rules.specs.declared.answer.Answer.{Answer}
use Rattle.bench_rules.specs.declared.answer.Answer.TheVariants as answers
use Rattle.bench_rules.specs.declared.ask_fault.AskFault.{AskFault}
use Rattle.bench_rules.specs.declared.ask_fault.AskFault.TheVariants.{NoField, NoPlace, NoValues}
use Rattle.bench_rules.specs.declared.chosen.Chosen.{Chosen}
use Rattle.bench_rules.specs.declared.chosen_query.ChosenQuery.{ChosenQuery}
use Rattle.bench_rules.specs.declared.chosen_query.ChosenQuery.TheVariants.{Count, Table, Find, Extremes, Stats, Samples}
use Rattle.bench_rules.specs.declared.extremes.Extremes.{Extremes as ExtremesOfNumbers}
use Rattle.bench_rules.specs.declared.test.Test.{Test}
use Rattle.bench_rules.specs.Conditions.{chosen_among, lacks_values, range_of, tests_of}
use Rattle.bench_rules.specs.Headers.{extremes_unless_zero, named_places, with_name}
use Rattle.bench_rules.specs.ManyTraces.{each_of}
use Rattle.bench_rules.specs.Places.{place_in_trace}
use Rattle.bench_rules.specs.Replies.{Reply, of_traces, or_fault}
use Rattle.bench_rules.specs.SampleStatistics.{stats_answer_of_each}
use Rattle.bench_rules.specs.Sections.{section_answer_of_each}
use Rattle.bench_rules.specs.Tables.{is_between, row_of}

-- for each of these traces its position and its numbers at these places; nothing where one of them lacks a place
abbrev pub table_of_each : Volume → List Place → List ℕ → Option (List (ℕ × List ℤ))
table_of_each v places ps = each_of (λ p. option_map (λ xs. (p, xs)) (row_of v.head places (trace_at v p))) ps

-- for each of these traces its position and its number at the place; nothing where one of them lacks it
abbrev pub column_of_each : Volume → Place → List ℕ → Option (List (ℕ × ℤ))
column_of_each v place ps = each_of (λ p. option_map (λ x. (p, x)) (value_of v.head (trace_at v p) place)) ps

-- those whose number at the place is from low to high, each with it
abbrev pub found_of_each : Volume → Place → (low high : ℤ) → List ℕ → Option (List (ℕ × ℤ))
found_of_each v place low high ps = option_map (filter (λ e. is_between low high e.1)) (column_of_each v place ps)

-- the numbers at the place of those of these traces that have it, in order
abbrev pub numbers_of_each : Volume → Place → List ℕ → List ℤ
numbers_of_each v place ps = filter_map (λ p. value_of v.head (trace_at v p) place) ps

-- each name whose numbers in these traces are not all 0, with their extremes
abbrev pub extremes_of_each : Volume → Pairs → List ℕ → List (List ℕ × ExtremesOfNumbers)
extremes_of_each v names ps = filter_map (λ e. with_name e.0 (extremes_unless_zero (numbers_of_each v e.1 ps))) names

-- each field of the query has a place
abbrev pub asks_for_fields : Pairs → ChosenQuery → Bool
asks_for_fields fields Count = true
asks_for_fields fields (Table names) = is_some (each_of (place_in_trace fields) names)
asks_for_fields fields (Find field low high) = is_some (place_in_trace fields field)
asks_for_fields fields Extremes = true
asks_for_fields fields Stats = true
asks_for_fields fields (Samples range) = true

-- the table at the places of fields, if each has one
abbrev pub table_answer_of_each : Volume → List ℕ → Option (List Place) → Reply
table_answer_of_each v ps None = Err NoField
table_answer_of_each v ps (Some places) = or_fault (table_of_each v places ps) NoPlace answers.Table

-- what is found at the place of a field, if it has one
abbrev pub found_answer_of_each : Volume → List ℕ → (low high : ℤ) → Option Place → Reply
found_answer_of_each v ps low high None = Err NoField
found_answer_of_each v ps low high (Some place) = or_fault (found_of_each v place low high ps) NoPlace answers.Found

-- what is told of these traces, where the fields of the query have places
abbrev pub answer_of_each : Volume → Pairs → ChosenQuery → List ℕ → Reply
answer_of_each v fields Count ps = Ok (answers.Chosen (length ps))
answer_of_each v fields (Table names) ps = table_answer_of_each v ps (each_of (place_in_trace fields) names)
answer_of_each v fields (Find field low high) ps = found_answer_of_each v ps low high (place_in_trace fields field)
answer_of_each v fields Extremes ps = Ok (answers.Extremes (extremes_of_each v (named_places fields) ps))
answer_of_each v fields Stats ps = stats_answer_of_each v ps
answer_of_each v fields (Samples range) ps = section_answer_of_each v range ps

-- the same where these are the chosen traces: E03 where a trace of the range lacks the place of a condition
abbrev pub answer_of_chosen : Volume → Pairs → ChosenQuery → Option (List ℕ) → Reply
answer_of_chosen v fields query None = Err NoPlace
answer_of_chosen v fields query (Some ps) = answer_of_each v fields query ps

-- the same under these conditions: E02 where a field of one has no place, E12 where one asks for values that samples have not
abbrev pub answer_under : Volume → Pairs → Option (ℕ × ℕ) → ChosenQuery → Option (List Test) → Reply
answer_under v fields range query None = Err NoField
answer_under v fields range query (Some tests) =
    if lacks_values v.head.format tests then Err NoValues else answer_of_chosen v fields query (chosen_among v tests (range_of range))

-- the same where the traces of the range are there
abbrev pub of_range : Volume → Option (ℕ × ℕ) → Reply → Reply
of_range v None reply = reply
of_range v (Some r) reply = of_traces v r.0 r.1 reply

-- the answer, or the first refusal: E01, E02, E12, E03, then what the query refuses
abbrev pub chosen_answer : Volume → Pairs → Chosen → ChosenQuery → Reply
chosen_answer v fields c query =
    of_range v c.traces (if not (asks_for_fields fields query) then Err NoField else answer_under v fields c.traces query (tests_of fields c.conditions))
