-- The answer to every query, from a volume and its field map.
use Rattle.std.specs.Prelude.{◌≡◌, ◌⊎◌, ◌<◌, ℕ, ℤ, ◌&&◌, nat_le, max, not, List, [], ◌++◌, length, map, flat_map, Option, Some, None, Result, Ok, Err, IsErrAnd, IsOk, if◌then◌else◌}
use Rattle.std.specs.List.{enumerate_from, range_with_len}
use Rattle.num_order.specs.Number.{num}
use Rattle.text_block.specs.Blocks.{code_of}
use Rattle.text_block.specs.Lines.{shown_line}
use Rattle.text_block.specs.Stanzas.{stanzas}
use Rattle.field_map.specs.declared.place.Place.{Place}
use Rattle.frame_cut.specs.declared.file_head.Head.{Head}
use Rattle.frame_cut.specs.Traces.{count_of, is_trace, trace_at}
use Rattle.frame_cut.specs.BinaryHeader.{bin_bytes}
use Rattle.frame_cut.specs.Frames.{sample_count}
use Rattle.frame_cut.specs.Volume.{Volume, bytes_of}
use Rattle.trace_view.specs.Values.{value_of, has_floats, sample_of, samples_of}
use Rattle.bench_rules.specs.declared.query.Query.{Query}
use Rattle.bench_rules.specs.declared.query.Query.TheVariants as queries
use Rattle.bench_rules.specs.declared.answer.Answer.{Answer}
use Rattle.bench_rules.specs.declared.answer.Answer.TheVariants as answers
use Rattle.bench_rules.specs.declared.ask_fault.AskFault.{AskFault}
use Rattle.bench_rules.specs.declared.info.Info.{Info}
use Rattle.bench_rules.specs.declared.ask_fault.AskFault.TheVariants.{NoTrace, NoField, NoPlace, NoSample, OutOfMemory}
use Rattle.bench_rules.specs.FloatStatistics.{stat_of}
use Rattle.bench_rules.specs.Places.{place_in_trace, place_in_binary, is_in_binary}
use Rattle.bench_rules.specs.Problems.{problems_in}
use Rattle.bench_rules.specs.ReadFaults.{IsReadFault}
use Rattle.bench_rules.specs.Refused.{is_line}
use Rattle.bench_rules.specs.Headers.{named_places, header_of, extremes_in}
use Rattle.bench_rules.specs.Looks.{query_looks}
use Rattle.bench_rules.specs.ManyTraces.{each_of}
use Rattle.bench_rules.specs.Tables.{table_of, found_of}
use Rattle.bench_rules.specs.Reports.{geometry_in, fold_in, cells_in, inlines_in, crosslines_in, histogram_in, survey_in, range_in, totals_in, slice_in, faults_in}
use Rattle.frame_cut.specs.Parts.{block_of}
pub use Rattle.bench_rules.specs.Replies.{Reply, or_fault, of_traces, of_values}
use Rattle.bench_rules.specs.ChosenQueries.{chosen_answer}
use Rattle.bench_rules.specs.RangeRefusals.{range_refusal}
use Rattle.bench_rules.specs.State.{State}

-- the answer of trace p, where there is one
abbrev pub of_trace : Volume → ℕ → (List ℕ → Reply) → Reply
of_trace v p f = if is_trace v p then f (trace_at v p) else Err (NoTrace p (count_of v))

-- the value of a trace at the place of a field, if the field has one
abbrev pub trace_value : Head → List ℕ → Option Place → Reply
trace_value h t None = Err NoField
trace_value h t (Some place) = or_fault (value_of h t place) NoPlace answers.Value

-- sample k of a trace; the number named is at least the number of samples
abbrev pub trace_sample : Head → List ℕ → ℕ → Reply
trace_sample h t k = of_values h (or_fault (sample_of h t k) (NoSample (max k (sample_count h t)) (sample_count h t)) answers.Value)

-- the value of the binary header at the place of a field, if the field has one
abbrev pub binary_value : Volume → Option Place → Reply
binary_value v None = Err NoField
binary_value v (Some place) =
    if is_in_binary place then Ok (answers.Value (num v.head.order place.kind (bin_bytes place.byte place.kind.size v.bin))) else Err NoPlace

-- the code of a block, where there is one
abbrev pub code_answer : Option (List ℕ) → Reply
code_answer block = or_fault block NoPlace (λ b. answers.Code (code_of b))

-- line q of a block, from 1 to 40, where there is one
abbrev pub line_answer : Option (List ℕ) → ℕ → Reply
line_answer block q = if not (is_line q) then Err NoPlace else or_fault block NoPlace (λ b. answers.Line (shown_line b q))

-- the extended textual headers, then the data trailer records
abbrev pub text_blocks : Volume → List (List ℕ)
text_blocks v = v.blocks ++ v.trailer

-- the stanzas of a block, each with the block's number
abbrev pub numbered_stanzas : ℕ → List ℕ → List (ℕ × List ℕ)
numbered_stanzas number block = map (λ name. (number, name)) (stanzas block)

-- the stanzas of blocks that are numbered from here on
abbrev pub stanzas_from : ℕ → List (List ℕ) → List (ℕ × List ℕ)
stanzas_from number blocks = flat_map (λ b. numbered_stanzas b.0 b.1) (enumerate_from number blocks)

-- the stanzas of the extended textual headers, then of the data trailer records, each with its block
abbrev pub all_stanzas : Volume → List (ℕ × List ℕ)
all_stanzas v = stanzas_from 1 (text_blocks v)

-- the answer of what trace p has, where there is such a trace
abbrev pub or_no_trace : {X : Type 0} → Volume → ℕ → Option X → (X → Answer) → Reply
or_no_trace v p x f = or_fault x (NoTrace p (count_of v)) f

-- the table at the places of fields, if each has one
abbrev pub table_answer : Volume → ℕ → ℕ → Option (List Place) → Reply
table_answer v a b None = Err NoField
table_answer v a b (Some places) = or_fault (table_of v places a b) NoPlace answers.Table

-- what is found at the place of a field, if it has one
abbrev pub found_answer : Volume → ℕ → ℕ → (low high : ℤ) → Option Place → Reply
found_answer v a b low high None = Err NoField
found_answer v a b low high (Some place) = or_fault (found_of v place low high a b) NoPlace answers.Found

-- the lines of a block, where there is one
abbrev pub lines_answer : Option (List ℕ) → Reply
lines_answer block = or_fault block NoPlace (λ t. answers.Lines (map (shown_line t) (range_with_len 1 40)))

-- what the file is: with the number of bytes of no trace where the reading keeps them
abbrev pub info_of : State → Info
info_of s = record {
  head = s.volume.head;
  traces = count_of s.volume;
  bytes = length (bytes_of s.volume);
  tail = if s.reading.tail then Some (length s.volume.tail) else None;
}

-- the answer, or the first refusal
abbrev pub answer : State → Query → Reply
answer s queries.Count = Ok (answers.Count (count_of s.volume))
answer s queries.Info = Ok (answers.Info (info_of s))
answer s (queries.Get p field) = of_trace s.volume p (λ t. trace_value s.volume.head t (place_in_trace s.fields field))
answer s (queries.GetBin field) = binary_value s.volume (place_in_binary field)
answer s (queries.Line b q) = line_answer (block_of s.volume b) q
answer s (queries.Code b) = code_answer (block_of s.volume b)
answer s queries.Stanzas = Ok (answers.Stanzas (all_stanzas s.volume))
answer s queries.Fields = Ok (answers.Fields s.fields)
answer s (queries.Sample p k) = of_trace s.volume p (λ t. trace_sample s.volume.head t k)
answer s (queries.Geometry p) = or_no_trace s.volume p (geometry_in s p) answers.Geometry
answer s (queries.Stat p) = of_trace s.volume p (λ t. of_values s.volume.head (Ok (stat_of (has_floats s.volume.head) (samples_of s.volume.head t))))
answer s (queries.Fold i c) = Ok (answers.Fold (fold_in s i c))
answer s queries.Grid = Ok (answers.Grid (cells_in s))
answer s queries.Inlines = Ok (answers.Inlines (inlines_in s))
answer s queries.Crosslines = Ok (answers.Crosslines (crosslines_in s))
answer s queries.Histogram = Ok (answers.Histogram (histogram_in s))
answer s (queries.Range quantity) = Ok (answers.Range (range_in s quantity))
answer s queries.Totals = of_values s.volume.head (Ok (answers.Totals (totals_in s)))
answer s (queries.Slice k) = of_values s.volume.head (Ok (answers.Slice (slice_in s k)))
answer s queries.Faults = Ok (answers.Faults (faults_in s))
answer s queries.Problems = Ok (answers.Problems (problems_in s))
answer s queries.Survey = Ok (answers.Survey (survey_in s))
answer s (queries.Lines b) = lines_answer (block_of s.volume b)
answer s (queries.Table a b fields) = of_traces s.volume a b (table_answer s.volume a b (each_of (place_in_trace s.fields) fields))
answer s (queries.Find a b field low high) = of_traces s.volume a b (found_answer s.volume a b low high (place_in_trace s.fields field))
answer s (queries.Header p) = of_trace s.volume p (λ t. Ok (answers.Header (header_of s.volume.head (named_places s.fields) t)))
answer s (queries.Extremes a b) = of_traces s.volume a b (Ok (answers.Extremes (extremes_in s.volume (named_places s.fields) a b)))
answer s (queries.OfChosen c query) = chosen_answer s.volume s.fields c query

-- whether a query may be refused for want of memory: its answer is a text or a list, or what it tells is counted in one
abbrev pub TakesMemory : Query → Type 0
TakesMemory queries.Count = ⊥
TakesMemory queries.Info = ⊥
TakesMemory (queries.Get p field) = ⊥
TakesMemory (queries.GetBin field) = ⊥
TakesMemory (queries.Line b q) = Unit {0}
TakesMemory (queries.Code b) = ⊥
TakesMemory queries.Stanzas = Unit {0}
TakesMemory queries.Fields = Unit {0}
TakesMemory (queries.Sample p k) = ⊥
TakesMemory (queries.Geometry p) = ⊥
TakesMemory (queries.Stat p) = ⊥
TakesMemory (queries.Fold i c) = ⊥
TakesMemory queries.Grid = Unit {0}
TakesMemory queries.Inlines = Unit {0}
TakesMemory queries.Crosslines = Unit {0}
TakesMemory queries.Histogram = Unit {0}
TakesMemory (queries.Range quantity) = ⊥
TakesMemory queries.Totals = ⊥
TakesMemory (queries.Slice k) = Unit {0}
TakesMemory queries.Faults = Unit {0}
TakesMemory queries.Problems = Unit {0}
TakesMemory queries.Survey = Unit {0}
TakesMemory (queries.Lines b) = Unit {0}
TakesMemory (queries.Table a b fields) = Unit {0}
TakesMemory (queries.Find a b field low high) = Unit {0}
TakesMemory (queries.Header p) = Unit {0}
TakesMemory (queries.Extremes a b) = Unit {0}
TakesMemory (queries.OfChosen c query) = Unit {0}

-- a query that looks at traces may be told of a read that failed
abbrev pub FailsToRead : State → Query → AskFault → Type 0
FailsToRead s query fault = (0 < query_looks s [] query) × IsReadFault s.on_disk fault

-- a query about chosen traces has to hold them before it can judge them: unless their range is refused, it may be told of want of memory first
abbrev pub WantsFirst : State → Query → Type 0
WantsFirst s (queries.OfChosen c query) = range_refusal s.volume c.traces ≡ None
WantsFirst s query = ⊥

-- a query may be told of want of memory where it takes it, and is not refused or wants it first
abbrev pub MayWant : State → Query → Type 0
MayWant s query = TakesMemory query × (IsOk (answer s query) ⊎ WantsFirst s query)

-- the reply is the answer, or want of memory where the query may be told of it, or a read that failed
abbrev pub IsReply : State → Query → Reply → Type 0
IsReply s query reply =
    (reply ≡ answer s query) ⊎ ((reply ≡ Err OutOfMemory) × MayWant s query) ⊎ IsErrAnd reply (FailsToRead s query)
