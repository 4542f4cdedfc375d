-- How often edits and queries look at traces.
use Rattle.std.specs.Prelude.{ℕ, ◌+◌, ◌-◌, ◌*◌, ◌&&◌, nat_le, Bool, List, length, Option, Some, None, if◌then◌else◌}
use Rattle.field_map.specs.declared.place.Place.{Place}
use Rattle.field_map.specs.Binding.{is_geometry}
use Rattle.field_map.specs.Pairs.{Pairs}
use Rattle.field_map.specs.Places.{offset_of}
use Rattle.frame_cut.specs.Traces.{count_of, is_trace}
use Rattle.frame_cut.specs.Volume.{Volume}
use Rattle.trace_record.specs.Told.{tells_record}
use Rattle.bench_rules.specs.declared.edit.Edit.{Edit}
use Rattle.bench_rules.specs.declared.edit.Edit.TheVariants as edits
use Rattle.bench_rules.specs.declared.query.Query.{Query}
use Rattle.bench_rules.specs.declared.query.Query.TheVariants as queries
use Rattle.bench_rules.specs.declared.chosen.Chosen.{Chosen}
use Rattle.bench_rules.specs.declared.chosen_edit.ChosenEdit.{ChosenEdit}
use Rattle.bench_rules.specs.declared.chosen_edit.ChosenEdit.TheVariants as chosen_edits
use Rattle.bench_rules.specs.declared.chosen_query.ChosenQuery.{ChosenQuery}
use Rattle.bench_rules.specs.declared.chosen_query.ChosenQuery.TheVariants as chosen_queries
use Rattle.bench_rules.specs.Computed.{formula_of}
use Rattle.bench_rules.specs.declared.test.Test.{Test}
use Rattle.bench_rules.specs.Conditions.{asked_tests, chosen}
use Rattle.bench_rules.specs.Kept.{is_kept}
use Rattle.bench_rules.specs.ManyTraces.{each_of}
use Rattle.bench_rules.specs.Places.{place_in_trace, leaves_length}
use Rattle.bench_rules.specs.RecordNumbers.{tells_tests}
use Rattle.bench_rules.specs.State.{State}
use Rattle.sample_codes.specs.declared.value_format.ValueFormat.{ValueFormat}
use Rattle.sample_codes.specs.Formats.{values}
use Rattle.trace_view.specs.Values.{has_floats}

-- the most traces that a load looks at: each once, for its record
abbrev pub load_looks : Volume → ℕ
load_looks v = count_of v

-- so many looks, but none where the field has no place
abbrev pub looks_at : {X : Type 0} → Option X → ℕ → ℕ
looks_at None n = 0
looks_at (Some place) n = n

-- another number at the place needs no byte of its trace: it leaves the trace as long as it was, and the record that is kept tells the rest
abbrev pub is_told : Pairs → Place → Bool
is_told fields place = leaves_length place && tells_record fields (offset_of place) place.kind.size

-- so many looks, but none where the field has no place, or a number there needs none
abbrev pub put_looks : Pairs → Option Place → ℕ → ℕ
put_looks fields None n = 0
put_looks fields (Some place) n = if is_told fields place then 0 else n

-- so many looks, but none where there is no trace p
abbrev pub trace_looks : Volume → ℕ → ℕ → ℕ
trace_looks v p n = if is_trace v p then n else 0

-- so many looks, but none where the samples have no values
abbrev pub value_looks : Option ValueFormat → ℕ → ℕ
value_looks None n = 0
value_looks (Some format) n = n

-- the statistics of a trace's samples stand in its record, but for the exact sum of floats
abbrev pub stat_looks : Volume → ℕ → ℕ
stat_looks v p = if has_floats v.head then trace_looks v p 1 else 0

-- the number of traces a to b; none where a is no trace, or b is none of those from a on
abbrev pub range_looks : Volume → ℕ → ℕ → ℕ
range_looks v a b = if is_trace v a && nat_le a b && nat_le b (count_of v) then b + 1 - a else 0

-- the number of traces of a range, where they are there; of no range none
abbrev pub range_looks_of : Volume → Option (ℕ × ℕ) → ℕ
range_looks_of v None = 0
range_looks_of v (Some r) = range_looks v r.0 r.1

-- so many looks, but none where there are no such conditions, or the records tell both sides of each
abbrev pub judging_looks : Pairs → Option (List Test) → ℕ → ℕ
judging_looks fields None n = 0
judging_looks fields (Some tests) n = if tells_tests fields tests then 0 else n

-- the looks that choosing takes: one at each trace of the range, where the conditions have a field that the records do not tell, and
-- the fields of all have places, and samples the values that are asked for
abbrev pub choosing_looks : Volume → Pairs → Chosen → ℕ
choosing_looks v fields c = judging_looks fields (asked_tests v.head.format fields c.conditions) (range_looks_of v c.traces)

-- the looks of an edit of so many traces; a number that the records tell needs none
abbrev pub each_looks : Pairs → ChosenEdit → ℕ → ℕ
each_looks fields (chosen_edits.Nothing names) n = 0
each_looks fields (chosen_edits.Renumber field first step) n = put_looks fields (place_in_trace fields field) (2 * n)
each_looks fields (chosen_edits.Compute field source steps) n = 2 * n
each_looks fields chosen_edits.Delete n = 0
each_looks fields (chosen_edits.Swap first second) n = 2 * n
each_looks fields (chosen_edits.Fill first last x) n = 2 * n

-- the looks of a query about so many; samples are looked at when they are told, one trace after another
abbrev pub asking_looks : ChosenQuery → ℕ → ℕ
asking_looks chosen_queries.Count n = 0
asking_looks (chosen_queries.Table fields) n = n
asking_looks (chosen_queries.Find field low high) n = n
asking_looks chosen_queries.Extremes n = n
asking_looks chosen_queries.Stats n = n
asking_looks (chosen_queries.Samples range) n = 0

-- the looks at traces that are chosen, where they are
abbrev pub looks_at_chosen : (ℕ → ℕ) → Option (List ℕ) → ℕ
looks_at_chosen looks None = 0
looks_at_chosen looks (Some ps) = looks (length ps)

-- the looks of an edit of the traces that are chosen
abbrev pub chosen_edit_looks : Volume → Pairs → Chosen → ChosenEdit → ℕ
chosen_edit_looks v fields c edit = choosing_looks v fields c + looks_at_chosen (each_looks fields edit) (chosen v fields c)

-- the looks of a query about them
abbrev pub chosen_query_looks : Volume → Pairs → Chosen → ChosenQuery → ℕ
chosen_query_looks v fields c query = choosing_looks v fields c + looks_at_chosen (asking_looks query) (chosen v fields c)

-- no more traces are chosen than the range has, whatever is read; none, where a field of a condition has no place, or samples have no
-- values that are asked for
abbrev pub most_chosen : Volume → Pairs → Chosen → ℕ
most_chosen v fields c = looks_at (asked_tests v.head.format fields c.conditions) (range_looks_of v c.traces)

-- the most looks of an edit of chosen traces, whatever is read
abbrev pub most_edit_looks : Volume → Pairs → Chosen → ChosenEdit → ℕ
most_edit_looks v fields c edit = choosing_looks v fields c + each_looks fields edit (most_chosen v fields c)

-- the most looks of a query about them
abbrev pub most_query_looks : Volume → Pairs → Chosen → ChosenQuery → ℕ
most_query_looks v fields c query = choosing_looks v fields c + asking_looks query (most_chosen v fields c)

-- the most traces that an edit looks at; a geometry name bound anew gives each trace another record, and a field
-- without a place, a trace that is not there, or a number that the records tell, none
abbrev pub edit_looks : State → Edit → ℕ
edit_looks s (edits.Set p field x) = put_looks s.fields (place_in_trace s.fields field) (trace_looks s.volume p 2)
edit_looks s (edits.SetBin field x) = 0
edit_looks s edits.Declare = 0
edit_looks s edits.DropTail = 0
edit_looks s (edits.SetText q text) = 0
edit_looks s (edits.Map name field) = looks_at (place_in_trace s.fields field) (if is_geometry name then count_of s.volume else 0)
edit_looks s (edits.MapAs mapping) = count_of s.volume
edit_looks s (edits.Unmap name) = 0
edit_looks s (edits.Patch p k values) = trace_looks s.volume p 2
edit_looks s (edits.Blank p) = 0
edit_looks s (edits.Copy q p) = trace_looks s.volume q 2
edit_looks s (edits.Delete p) = 0
edit_looks s (edits.Move a b) = 0
edit_looks s (edits.MoveBlock a b to) = 0
edit_looks s (edits.Resize p m) = trace_looks s.volume p 2
edit_looks s (edits.Renumber a b field first step) = put_looks s.fields (place_in_trace s.fields field) (2 * range_looks s.volume a b)
edit_looks s (edits.Compute a b field source steps) = looks_at (formula_of s.fields field source steps) (2 * range_looks s.volume a b)
edit_looks s (edits.Sort a b names falls) = looks_at (each_of (place_in_trace s.fields) names) (range_looks s.volume a b)
edit_looks s (edits.OfChosen c edit) = most_edit_looks s.volume s.fields c edit

-- the most traces that a query looks at, where the slices with these numbers are kept
abbrev pub query_looks : State → List ℕ → Query → ℕ
query_looks s kept queries.Count = 0
query_looks s kept queries.Info = 0
query_looks s kept (queries.Get p field) = looks_at (place_in_trace s.fields field) (trace_looks s.volume p 1)
query_looks s kept (queries.GetBin field) = 0
query_looks s kept (queries.Line b q) = 0
query_looks s kept (queries.Lines b) = 0
query_looks s kept (queries.Code b) = 0
query_looks s kept queries.Stanzas = 0
query_looks s kept queries.Fields = 0
query_looks s kept (queries.Sample p k) = trace_looks s.volume p 1
query_looks s kept (queries.Geometry p) = 0
query_looks s kept (queries.Stat p) = stat_looks s.volume p
query_looks s kept (queries.Fold i c) = 0
query_looks s kept queries.Grid = 0
query_looks s kept queries.Inlines = 0
query_looks s kept queries.Crosslines = 0
query_looks s kept queries.Histogram = 0
query_looks s kept (queries.Range quantity) = 0
query_looks s kept queries.Totals = 0
query_looks s kept (queries.Slice k) = value_looks (values s.volume.head.format) (if is_kept k kept then 0 else count_of s.volume)
query_looks s kept queries.Faults = 0
query_looks s kept queries.Problems = count_of s.volume
query_looks s kept queries.Survey = 0
query_looks s kept (queries.Table a b fields) = looks_at (each_of (place_in_trace s.fields) fields) (range_looks s.volume a b)
query_looks s kept (queries.Find a b field low high) = looks_at (place_in_trace s.fields field) (range_looks s.volume a b)
query_looks s kept (queries.Header p) = trace_looks s.volume p 1
query_looks s kept (queries.Extremes a b) = range_looks s.volume a b
query_looks s kept (queries.OfChosen c query) = most_query_looks s.volume s.fields c query
