-- What edits and queries are told of reads that failed.
use Rattle.std.proofs.Common.{◌≡◌, ◌⊎◌, inl, inr, ℕ, ◌+◌, nat_abs, nat_le, nat_lt, ℤ, pos, Bool, true, false, true≢false, not, List, [], ◌∷◌, Option, Some, None, Result, Ok, Err, IfErr, refl, sym, ap, ◌∙◌}
use Rattle.std.specs.Prelude.{length, max, is_none, ◌&&◌, option_map, if◌then◌else◌}
use Rattle.std.specs.Option.{IfSome, option_map_or, option_or}
use Rattle.std.specs.List.{list_all}
use Rattle.std.specs.Ordering.{int_eq}
use Rattle.num_order.specs.Number.{fits}
use Rattle.field_map.specs.declared.place.Place.{Place}
use Rattle.field_map.specs.Binding.{bind_fault, unbind_fault}
use Rattle.field_map.specs.Pairs.{Pairs}
use Rattle.frame_cut.specs.declared.file_head.Head.{Head}
use Rattle.frame_cut.specs.declared.limits.Limits.{Limits}
use Rattle.frame_cut.specs.Frames.{sample_count}
use Rattle.frame_cut.specs.Traces.{count_of, is_trace, trace_at}
use Rattle.frame_cut.specs.Volume.{Volume, bytes_of}
use Rattle.frame_cut.specs.Parts.{block_of}
use Rattle.sample_codes.specs.declared.value_format.ValueFormat.{ValueFormat}
use Rattle.sample_codes.specs.Formats.{values, sample_fits}
use Rattle.text_block.specs.Blocks.{code_of}
use Rattle.text_block.specs.Lines.{text_fault}
use Rattle.std.specs.Str.{chars}
use Rattle.trace_view.specs.Values.{has_place, has_floats, sample_of, samples_of, value_at}
use Rattle.bench_rules.specs.FloatStatistics.{stat_of}
use Rattle.bench_rules.specs.declared.answer.Answer.{Answer}
use Rattle.bench_rules.specs.declared.answer.Answer.TheVariants as answers
use Rattle.bench_rules.specs.declared.ask_fault.AskFault.{AskFault}
use Rattle.bench_rules.specs.declared.ask_fault.AskFault.TheVariants as asks
use Rattle.bench_rules.specs.declared.edit.Edit.{Edit}
use Rattle.declared_frame.specs.Written.{can_declare}
use Rattle.bench_rules.specs.declared.edit.Edit.TheVariants as edits
use Rattle.bench_rules.specs.declared.operator.Operator.{Operator}
use Rattle.bench_rules.specs.declared.query.Query.{Query}
use Rattle.bench_rules.specs.declared.query.Query.TheVariants as queries
use Rattle.bench_rules.specs.declared.refusal.Refusal.{Refusal}
use Rattle.bench_rules.specs.declared.refusal.Refusal.TheVariants as refusals
use Rattle.bench_rules.specs.Answer.{Reply, answer, or_fault, of_trace, trace_value, trace_sample, of_values, binary_value, line_answer, of_traces, table_answer, found_answer}
use Rattle.bench_rules.specs.FilledSamples.{samples_refusal, sample_value_refusal}
use Rattle.bench_rules.specs.Computed.{Formula, formula_of, applied, divides, is_in_range, unless_refused, stepped, chained, chained_from, computed_in, term_in, steps_in, refusal_of_result, compute_refusal, first_at, compute_refusal_in}
use Rattle.bench_rules.specs.declared.chosen_edit.ChosenEdit.{ChosenEdit}
use Rattle.bench_rules.specs.declared.chosen_edit.ChosenEdit.TheVariants as each
use Rattle.bench_rules.specs.declared.chosen_query.ChosenQuery.{ChosenQuery}
use Rattle.bench_rules.specs.declared.chosen_query.ChosenQuery.TheVariants as chosen_queries
use Rattle.bench_rules.specs.declared.test.Test.{Test}
use Rattle.bench_rules.specs.ChosenEdits.{counted_each, has_fields, refusal_of_chosen, refusal_of_edit, refusal_under}
use Rattle.bench_rules.specs.ChosenQueries.{answer_of_chosen, answer_of_each, answer_under, asks_for_fields, found_answer_of_each, of_range, table_answer_of_each, table_of_each}
use Rattle.bench_rules.specs.Conditions.{chosen_among, lacks_values, range_of, tests_of}
use Rattle.bench_rules.specs.RangeRefusals.{range_refusal}
use Rattle.bench_rules.proofs.ToldLemmas.{told_is}
use Rattle.bench_rules.specs.Headers.{named_places, header_of}
use Rattle.bench_rules.specs.BlockMoves.{last_for_block}
use Rattle.bench_rules.specs.ManyTraces.{each_of, positions}
use Rattle.bench_rules.specs.Mappings.{bindings, first_bind_fault}
use Rattle.bench_rules.specs.Places.{place_in_trace, place_in_binary, is_in_binary, touches_frame}
use Rattle.bench_rules.specs.Refused.{first_refusal, is_line, is_sample_count, is_too_large, changes_length, no_trace, no_place_for_trace, room_refusal, insert_refusal, values_refusal, set_refusal, set_bin_refusal, text_refusal, map_refusal, count_refusal, no_trace_from, first_refusal_among, sort_refusal}
use Rattle.bench_rules.specs.SampleStatistics.{statistics_of_each}
use Rattle.bench_rules.specs.State.{State}
use Rattle.bench_rules.specs.SwappedFields.{half_swapped, swap_refusal, two_places}
use Rattle.bench_rules.specs.Steps.{StepUnless}
use Rattle.bench_rules.specs.Tables.{table_of}
use Rattle.bench_rules.specs.TraceEdits.{numbers}
use Rattle.bench_rules.specs.WholeTraces.{blank_trace}
use Rattle.bench_laws.specs.ReadLaws.{IsNoReadRefusal, IsNoReadFault, FirstRefusalsTellOfNoRead, AnswersTellOfNoRead, EditsInMemoryReadAll, QueriesInMemoryReadAll, RefusedEditsChangeNothing}

-- ---- refusals of edits

-- the refusal tells of a read
abbrev tells : Refusal → Bool
tells refusals.ReadFailed = true
tells refusals.FileChanged = true
tells refusal = false

-- there is no refusal that does
abbrev Silent : Option Refusal → Type 0
Silent o = IfSome o (λ r. tells r ≡ false)

no_read : (r : Refusal) → tells r ≡ false → IsNoReadRefusal r
no_read r none = (λ is. true≢false (sym (ap tells is) ∙ none), λ is. true≢false (sym (ap tells is) ∙ none))

either : (a b : Option Refusal) → Silent a → Silent b → Silent (option_or a b)
either (Some r) b x y = x
either None b x y = y

choose : (c : Bool) (a b : Option Refusal) → Silent a → Silent b → Silent (if c then a else b)
choose true a b x y = x
choose false a b x y = y

mapped : {F : Type 0} (f : F → Refusal) (o : Option F) → ((x : F) → tells (f x) ≡ false) → Silent (option_map f o)
mapped f (Some x) each = each x
mapped f None each = tt

no_trace_silent : (v : Volume) (p : ℕ) → Silent (no_trace v p)
no_trace_silent v p = choose (is_trace v p) None _ tt refl

from_silent : (v : Volume) (a b : ℕ) → Silent (no_trace_from v a b)
from_silent v a b = choose (nat_le a b && nat_le b (count_of v)) None _ tt refl

set_silent : (h : Head) (t : List ℕ) (o : Option Place) (x : ℤ) → Silent (set_refusal h t o x)
set_silent h t None x = refl
set_silent h t (Some place) x =
    choose (not (has_place h t place)) _ _ refl (choose (not (fits place.kind x)) _ _ refl (choose (changes_length h t place x) _ None refl tt))

set_bin_silent : (o : Option Place) (x : ℤ) → Silent (set_bin_refusal o x)
set_bin_silent None x = refl
set_bin_silent (Some place) x =
    choose (not (is_in_binary place)) _ _ refl (choose (not (fits place.kind x)) _ _ refl (choose (touches_frame place) _ None refl tt))

text_silent : (block : List ℕ) (q : ℕ) (text : List ℕ) → Silent (text_refusal block q text)
text_silent block q text = choose (not (is_line q)) _ _ refl (mapped refusals.Text (text_fault (code_of block) (chars text)) (λ fault. refl))

values_silent : (o : Option ValueFormat) (h : Head) (t : List ℕ) (k : ℕ) (xs : List ℤ) → Silent (values_refusal o h t k xs)
values_silent None h t k xs = refl
values_silent (Some f) h t k xs = choose (not (list_all (sample_fits f) xs)) _ _ refl (choose (nat_lt (sample_count h t) (k + length xs)) _ None refl tt)

insert_silent : (v : Volume) (limits : Limits) (p n : ℕ) → Silent (insert_refusal v limits p n)
insert_silent v limits p n =
    either (no_place_for_trace v p) (room_refusal v limits n) (choose (nat_le 1 p && nat_le p (count_of v + 1)) None _ tt refl)
    (choose (nat_lt limits.bytes (length (bytes_of v) + n)) _ _ refl (choose (nat_lt limits.traces (count_of v + 1)) _ None refl tt))

count_silent : (h : Head) (file limit : ℕ) (t : List ℕ) (m : ℤ) → Silent (count_refusal h file limit t m)
count_silent h file limit t m = choose (not (is_sample_count h m)) _ _ refl (choose h.fixed _ _ refl (choose (is_too_large h file limit t (nat_abs m)) _ None refl tt))

among_silent : (v : Volume) (o : Option Place) (ns : List (ℕ × ℤ)) → Silent (first_refusal_among v o ns)
among_silent v o [] = tt
among_silent v o (n ∷ ns) = either (set_refusal v.head (trace_at v n.0) o n.1) _ (set_silent v.head (trace_at v n.0) o n.1) (among_silent v o ns)

sort_silent : (v : Volume) (a b : ℕ) (o : Option (List Place)) → Silent (sort_refusal v a b o)
sort_silent v a b None = refl
sort_silent v a b (Some places) = choose (is_none (table_of v places a b)) _ None refl tt

-- ---- of computed numbers

abbrev SilentResult : Result ℤ Refusal → Type 0
SilentResult r = IfErr r (λ e. tells e ≡ false)

choose_result : (c : Bool) (a b : Result ℤ Refusal) → SilentResult a → SilentResult b → SilentResult (if c then a else b)
choose_result true a b x y = x
choose_result false a b x y = y

stepped_silent : (p : ℕ) (operator : Operator) (a b : ℤ) → SilentResult (stepped p operator a b)
stepped_silent p operator a b = choose_result (divides operator && int_eq b (pos 0)) _ _ refl (choose_result (is_in_range (applied operator a b)) (Ok (applied operator a b)) _ tt refl)

goes_on : (r : Result ℤ Refusal) (f : ℤ → Result ℤ Refusal) → SilentResult r → ((b : ℤ) → SilentResult (f b)) → SilentResult (unless_refused r f)
goes_on (Ok b) f x each = each b
goes_on (Err e) f x each = x

chained_silent : (p : ℕ) (a : ℤ) (ss : List (Operator × ℤ)) → SilentResult (chained p a ss)
chained_silent p a [] = tt
chained_silent p a (s ∷ ss) = goes_on (stepped p s.0 a s.1) (λ b. chained p b ss) (stepped_silent p s.0 a s.1) (λ b. chained_silent p b ss)

chained_from_silent : (p : ℕ) (o : Option ℤ) (ss : Option (List (Operator × ℤ))) → SilentResult (chained_from p o ss)
chained_from_silent p (Some a) (Some ss) = chained_silent p a ss
chained_from_silent p (Some a) None = refl
chained_from_silent p None ss = refl

computed_silent : (h : Head) (f : Formula) (p : ℕ) (t : List ℕ) → SilentResult (computed_in h f p t)
computed_silent h f p t = choose_result (not (has_place h t f.place)) _ _ refl (chained_from_silent p (term_in h t f.source) (steps_in h t f.steps))

result_silent : (h : Head) (t : List ℕ) (place : Place) (r : Result ℤ Refusal) → SilentResult r → Silent (refusal_of_result h t place r)
result_silent h t place (Ok x) silent = set_silent h t (Some place) x
result_silent h t place (Err e) silent = silent

first_at_silent : (refusal : ℕ → Option Refusal) → ((p : ℕ) → Silent (refusal p)) → (ps : List ℕ) → Silent (first_at refusal ps)
first_at_silent refusal each [] = tt
first_at_silent refusal each (p ∷ ps) = either (refusal p) (first_at refusal ps) (each p) (first_at_silent refusal each ps)

compute_silent : (v : Volume) (o : Option Formula) (a b : ℕ) → Silent (compute_refusal_in v o a b)
compute_silent v None a b = refl
compute_silent v (Some f) a b = first_at_silent (compute_refusal v f) (λ p. result_silent v.head (trace_at v p) f.place _ (computed_silent v.head f p (trace_at v p))) (positions a b)

-- ---- of chosen traces

value_silent : (o : Option ValueFormat) (x : ℤ) → Silent (sample_value_refusal o x)
value_silent None x = refl
value_silent (Some f) x = choose (sample_fits f x) None _ tt refl

samples_silent : (h : Head) (first last : ℕ) (t : List ℕ) → Silent (samples_refusal h first last t)
samples_silent h first last t = choose (nat_lt (max first last) (sample_count h t)) None _ tt refl

range_silent : (v : Volume) (range : Option (ℕ × ℕ)) → Silent (range_refusal v range)
range_silent v None = tt
range_silent v (Some r) = either (no_trace v r.0) (no_trace_from v r.0 r.1) (no_trace_silent v r.0) (from_silent v r.0 r.1)

swap_silent : (h : Head) (places : Place × Place) (t : List ℕ) → Silent (swap_refusal h places t)
swap_silent h places t =
    choose (not (has_place h t places.0 && has_place h t places.1)) _ _ refl
    (either (set_refusal h t (Some places.0) (value_at h t places.1)) (set_refusal h (half_swapped h places t) (Some places.1) (value_at h t places.0))
    (set_silent h t (Some places.0) (value_at h t places.1)) (set_silent h (half_swapped h places t) (Some places.1) (value_at h t places.0)))

each_silent : (v : Volume) (fields : Pairs) (edit : ChosenEdit) (ps : List ℕ) → Silent (refusal_of_edit v fields edit ps)
each_silent v fields (each.Nothing names) ps = tt
each_silent v fields (each.Renumber f first step) ps = among_silent v (place_in_trace fields f) (counted_each first step 0 ps)
each_silent v fields (each.Compute f source steps) ps = by (formula_of fields f source steps)
  where
    by : (o : Option Formula) → Silent (option_map_or (λ g. first_at (compute_refusal v g) ps) o None)
    by None = tt
    by (Some g) = first_at_silent (compute_refusal v g) (λ p. result_silent v.head (trace_at v p) g.place _ (computed_silent v.head g p (trace_at v p))) ps
each_silent v fields each.Delete ps = tt
each_silent v fields (each.Swap first second) ps = by (two_places fields first second)
  where
    by : (o : Option (Place × Place)) → Silent (option_map_or (λ places. first_at (λ p. swap_refusal v.head places (trace_at v p)) ps) o None)
    by None = tt
    by (Some places) = first_at_silent (λ p. swap_refusal v.head places (trace_at v p)) (λ p. swap_silent v.head places (trace_at v p)) ps
each_silent v fields (each.Fill first last x) ps =
    either (sample_value_refusal (values v.head.format) x) (first_at (λ p. samples_refusal v.head first last (trace_at v p)) ps) (value_silent (values v.head.format) x)
    (first_at_silent (λ p. samples_refusal v.head first last (trace_at v p)) (λ p. samples_silent v.head first last (trace_at v p)) ps)

of_chosen_silent : (v : Volume) (fields : Pairs) (edit : ChosenEdit) (o : Option (List ℕ)) → Silent (refusal_of_chosen v fields edit o)
of_chosen_silent v fields edit None = refl
of_chosen_silent v fields edit (Some ps) = each_silent v fields edit ps

under_silent : (v : Volume) (fields : Pairs) (range : Option (ℕ × ℕ)) (edit : ChosenEdit) (o : Option (List Test)) → Silent (refusal_under v fields range edit o)
under_silent v fields range edit None = refl
under_silent v fields range edit (Some tests) =
    choose (lacks_values v.head.format tests) (Some refusals.NoValues) (refusal_of_chosen v fields edit (chosen_among v tests (range_of range))) refl (of_chosen_silent v fields edit (chosen_among v tests (range_of range)))

-- ---- of every edit

map_silent : (s : State) (name : List ℕ) (o : Option Place) → Silent (map_refusal s name o)
map_silent s name None = refl
map_silent s name (Some place) = mapped refusals.Map (bind_fault s.volume.head.extensions s.fields name place) (λ fault. refl)

silent : (s : State) (edit : Edit) → Silent (first_refusal s edit)
silent s (edits.Set p f x) = either (no_trace s.volume p) _ (no_trace_silent s.volume p) (set_silent s.volume.head (trace_at s.volume p) (place_in_trace s.fields f) x)
silent s (edits.SetBin f x) = set_bin_silent (place_in_binary f) x
silent s edits.Declare = choose (can_declare s.reading s.volume) None _ tt refl
silent s edits.DropTail = tt
silent s (edits.SetText q text) = text_silent s.volume.text q text
silent s (edits.Map name f) = map_silent s name (place_in_trace s.fields f)
silent s (edits.MapAs mapping) = mapped refusals.Map (first_bind_fault s.volume.head.extensions s.fields (bindings mapping)) (λ fault. refl)
silent s (edits.Unmap name) = mapped refusals.Map (unbind_fault s.fields name) (λ fault. refl)
silent s (edits.Patch p k xs) = either (no_trace s.volume p) _ (no_trace_silent s.volume p) (values_silent (values s.volume.head.format) s.volume.head (trace_at s.volume p) k xs)
silent s (edits.Blank p) = insert_silent s.volume s.limits p (length (blank_trace s.volume.head))
silent s (edits.Copy q p) = either (no_trace s.volume q) _ (no_trace_silent s.volume q) (insert_silent s.volume s.limits p (length (trace_at s.volume q)))
silent s (edits.Delete p) = no_trace_silent s.volume p
silent s (edits.Move a b) = either (no_trace s.volume a) _ (no_trace_silent s.volume a) (no_trace_silent s.volume b)
silent s (edits.MoveBlock a b to) =
    either (no_trace s.volume a) _ (no_trace_silent s.volume a) (either (no_trace_from s.volume a b) _ (from_silent s.volume a b) (choose (nat_le 1 to && nat_le to (last_for_block s.volume a b)) None _ tt refl))
silent s (edits.Resize p m) = either (no_trace s.volume p) _ (no_trace_silent s.volume p) (count_silent s.volume.head (length (bytes_of s.volume)) s.limits.bytes (trace_at s.volume p) m)
silent s (edits.Renumber a b f first step) =
    either (no_trace s.volume a) _ (no_trace_silent s.volume a) (either (no_trace_from s.volume a b) _ (from_silent s.volume a b) (among_silent s.volume (place_in_trace s.fields f) (numbers a b first step)))
silent s (edits.Compute a b f source steps) =
    either (no_trace s.volume a) _ (no_trace_silent s.volume a) (either (no_trace_from s.volume a b) _ (from_silent s.volume a b) (compute_silent s.volume (formula_of s.fields f source steps) a b))
silent s (edits.Sort a b fs falls) =
    either (no_trace s.volume a) _ (no_trace_silent s.volume a) (either (no_trace_from s.volume a b) _ (from_silent s.volume a b) (sort_silent s.volume a b (each_of (place_in_trace s.fields) fs)))
silent s (edits.OfChosen c edit) =
    either (range_refusal s.volume c.traces) _ (range_silent s.volume c.traces)
    (choose (not (has_fields s.fields edit)) _ _ refl (under_silent s.volume s.fields c.traces edit (tests_of s.fields c.conditions)))

told : (o : Option Refusal) → Silent o → IfSome o IsNoReadRefusal
told (Some r) none = no_read r none
told None none = tt

pub first_refusals_tell_of_no_read : FirstRefusalsTellOfNoRead
first_refusals_tell_of_no_read s edit = told (first_refusal s edit) (silent s edit)

-- ---- edits in memory

in_memory : {X : Type 0} (on_disk : Bool) → on_disk ≡ false → on_disk ≡ true → X
in_memory on_disk memory disk = absurd (true≢false (sym disk ∙ memory))

edit_told : (o : Option Refusal) (old new : State) (edit : Edit) (reply : Result (Option ℕ) Refusal) → IfSome o IsNoReadRefusal → old.on_disk ≡ false → StepUnless o old edit reply new → IfErr reply IsNoReadRefusal
edit_told (Some r) old new edit (Ok done) first memory step = tt
edit_told (Some r) old new edit (Err e) first memory (inl is, same) = by (told_is old edit r e is)
  where
    by : (e ≡ r) ⊎ (e ≡ refusals.OutOfMemory) → IsNoReadRefusal e
    by (inl same) = rw same first
    by (inr want) = rw want (no_read refusals.OutOfMemory refl)
edit_told (Some r) old new edit (Err e) first memory (inr read, same) = in_memory old.on_disk memory read.1.0
edit_told None old new edit (Ok done) first memory step = tt
edit_told None old new edit (Err e) first memory (inl none, same) = rw none.0 (no_read refusals.OutOfMemory refl)
edit_told None old new edit (Err e) first memory (inr read, same) = in_memory old.on_disk memory read.1.0

pub edits_in_memory_read_all : EditsInMemoryReadAll
edits_in_memory_read_all old new edit reply memory step = edit_told (first_refusal old edit) old new edit reply (first_refusals_tell_of_no_read old edit) memory step

unchanged : (o : Option Refusal) (old new : State) (edit : Edit) (r : Refusal) → StepUnless {T = Option ℕ} o old edit (Err r) new → new ≡ old
unchanged (Some first) old new edit r step = step.1
unchanged None old new edit r step = step.1

pub refused_edits_change_nothing : RefusedEditsChangeNothing
refused_edits_change_nothing old new edit r step = unchanged (first_refusal old edit) old new edit r step

-- ---- queries

-- the fault tells of a read
abbrev asks_tell : AskFault → Bool
asks_tell asks.ReadFailed = true
asks_tell asks.FileChanged = true
asks_tell fault = false

abbrev SilentReply : Reply → Type 0
SilentReply r = IfErr r (λ e. asks_tell e ≡ false)

choose_reply : (c : Bool) (a b : Reply) → SilentReply a → SilentReply b → SilentReply (if c then a else b)
choose_reply true a b x y = x
choose_reply false a b x y = y

or_fault_silent : {X : Type 0} (o : Option X) (fault : AskFault) (f : X → Answer) → asks_tell fault ≡ false → SilentReply (or_fault o fault f)
or_fault_silent None fault f none = none
or_fault_silent (Some x) fault f none = tt

of_trace_silent : (v : Volume) (p : ℕ) (f : List ℕ → Reply) → ((t : List ℕ) → SilentReply (f t)) → SilentReply (of_trace v p f)
of_trace_silent v p f each = choose_reply (is_trace v p) _ _ (each (trace_at v p)) refl

of_values_silent : (h : Head) (r : Reply) → SilentReply r → SilentReply (of_values h r)
of_values_silent h r x = choose_reply (is_none (values h.format)) _ r refl x

trace_value_silent : (h : Head) (t : List ℕ) (o : Option Place) → SilentReply (trace_value h t o)
trace_value_silent h t None = refl
trace_value_silent h t (Some place) = or_fault_silent _ asks.NoPlace _ refl

binary_value_silent : (v : Volume) (o : Option Place) → SilentReply (binary_value v o)
binary_value_silent v None = refl
binary_value_silent v (Some place) = choose_reply (is_in_binary place) (Ok _) _ tt refl

of_traces_silent : (v : Volume) (a b : ℕ) (r : Reply) → SilentReply r → SilentReply (of_traces v a b r)
of_traces_silent v a b r x = choose_reply (not (is_trace v a)) _ _ refl (choose_reply (nat_le a b && nat_le b (count_of v)) r _ x refl)

table_silent : (v : Volume) (a b : ℕ) (o : Option (List Place)) → SilentReply (table_answer v a b o)
table_silent v a b None = refl
table_silent v a b (Some places) = or_fault_silent (table_of v places a b) asks.NoPlace _ refl

found_silent : (v : Volume) (a b : ℕ) (low high : ℤ) (o : Option Place) → SilentReply (found_answer v a b low high o)
found_silent v a b low high None = refl
found_silent v a b low high (Some place) = or_fault_silent _ asks.NoPlace _ refl

sample_silent : (h : Head) (t : List ℕ) (k : ℕ) → SilentReply (trace_sample h t k)
sample_silent h t k =
    let fault : AskFault = asks.NoSample (max k (sample_count h t)) (sample_count h t) in
    of_values_silent h (or_fault (sample_of h t k) fault answers.Value) (or_fault_silent (sample_of h t k) fault answers.Value refl)

stat_silent : (h : Head) (t : List ℕ) → SilentReply (of_values h (Ok (stat_of (has_floats h) (samples_of h t))))
stat_silent h t = of_values_silent h (Ok (stat_of (has_floats h) (samples_of h t))) tt

line_silent : (o : Option (List ℕ)) (q : ℕ) → SilentReply (line_answer o q)
line_silent o q = choose_reply (not (is_line q)) _ _ refl (or_fault_silent o asks.NoPlace _ refl)

of_range_silent : (v : Volume) (range : Option (ℕ × ℕ)) (r : Reply) → SilentReply r → SilentReply (of_range v range r)
of_range_silent v None r x = x
of_range_silent v (Some p) r x = of_traces_silent v p.0 p.1 r x

table_of_each_silent : (v : Volume) (ps : List ℕ) (o : Option (List Place)) → SilentReply (table_answer_of_each v ps o)
table_of_each_silent v ps None = refl
table_of_each_silent v ps (Some places) = or_fault_silent (table_of_each v places ps) asks.NoPlace _ refl

found_of_each_silent : (v : Volume) (ps : List ℕ) (low high : ℤ) (o : Option Place) → SilentReply (found_answer_of_each v ps low high o)
found_of_each_silent v ps low high None = refl
found_of_each_silent v ps low high (Some place) = or_fault_silent _ asks.NoPlace _ refl

each_answer_silent : (v : Volume) (fields : Pairs) (query : ChosenQuery) (ps : List ℕ) → SilentReply (answer_of_each v fields query ps)
each_answer_silent v fields chosen_queries.Count ps = tt
each_answer_silent v fields (chosen_queries.Table names) ps = table_of_each_silent v ps (each_of (place_in_trace fields) names)
each_answer_silent v fields (chosen_queries.Find f low high) ps = found_of_each_silent v ps low high (place_in_trace fields f)
each_answer_silent v fields chosen_queries.Extremes ps = tt
each_answer_silent v fields chosen_queries.Stats ps = of_values_silent v.head (Ok (statistics_of_each (has_floats v.head) v ps)) tt
each_answer_silent v fields (chosen_queries.Samples range) ps = of_values_silent v.head (Ok _) tt

chosen_answer_silent : (v : Volume) (fields : Pairs) (query : ChosenQuery) (o : Option (List ℕ)) → SilentReply (answer_of_chosen v fields query o)
chosen_answer_silent v fields query None = refl
chosen_answer_silent v fields query (Some ps) = each_answer_silent v fields query ps

answer_under_silent : (v : Volume) (fields : Pairs) (range : Option (ℕ × ℕ)) (query : ChosenQuery) (o : Option (List Test)) → SilentReply (answer_under v fields range query o)
answer_under_silent v fields range query None = refl
answer_under_silent v fields range query (Some tests) =
    choose_reply (lacks_values v.head.format tests) _ _ refl (chosen_answer_silent v fields query (chosen_among v tests (range_of range)))

answer_silent : (s : State) (query : Query) → SilentReply (answer s query)
answer_silent s queries.Count = tt
answer_silent s queries.Info = tt
answer_silent s (queries.Get p field) = of_trace_silent s.volume p _ (λ t. trace_value_silent s.volume.head t (place_in_trace s.fields field))
answer_silent s (queries.GetBin field) = binary_value_silent s.volume (place_in_binary field)
answer_silent s (queries.Line b q) = line_silent (block_of s.volume b) q
answer_silent s (queries.Code b) = or_fault_silent (block_of s.volume b) asks.NoPlace _ refl
answer_silent s queries.Stanzas = tt
answer_silent s queries.Fields = tt
answer_silent s (queries.Sample p k) = of_trace_silent s.volume p _ (λ t. sample_silent s.volume.head t k)
answer_silent s (queries.Geometry p) = or_fault_silent _ (asks.NoTrace p (count_of s.volume)) _ refl
answer_silent s (queries.Stat p) = of_trace_silent s.volume p _ (λ t. stat_silent s.volume.head t)
answer_silent s (queries.Fold i c) = tt
answer_silent s queries.Grid = tt
answer_silent s queries.Inlines = tt
answer_silent s queries.Crosslines = tt
answer_silent s queries.Histogram = tt
answer_silent s (queries.Range quantity) = tt
answer_silent s queries.Totals = of_values_silent s.volume.head (Ok _) tt
answer_silent s (queries.Slice k) = of_values_silent s.volume.head (Ok _) tt
answer_silent s queries.Faults = tt
answer_silent s queries.Problems = tt
answer_silent s queries.Survey = tt
answer_silent s (queries.Lines b) = or_fault_silent (block_of s.volume b) asks.NoPlace _ refl
answer_silent s (queries.Table a b fields) = of_traces_silent s.volume a b _ (table_silent s.volume a b (each_of (place_in_trace s.fields) fields))
answer_silent s (queries.Find a b field low high) = of_traces_silent s.volume a b _ (found_silent s.volume a b low high (place_in_trace s.fields field))
answer_silent s (queries.Header p) = of_trace_silent s.volume p (λ t. Ok (answers.Header (header_of s.volume.head (named_places s.fields) t))) (λ t. tt)
answer_silent s (queries.Extremes a b) = of_traces_silent s.volume a b (Ok _) tt
answer_silent s (queries.OfChosen c query) =
    of_range_silent s.volume c.traces _
    (choose_reply (not (asks_for_fields s.fields query)) _ _ refl (answer_under_silent s.volume s.fields c.traces query (tests_of s.fields c.conditions)))

no_read_fault : (r : Reply) → SilentReply r → IfErr r IsNoReadFault
no_read_fault (Ok a) none = tt
no_read_fault (Err e) none = (λ is. true≢false (sym (ap asks_tell is) ∙ none), λ is. true≢false (sym (ap asks_tell is) ∙ none))

pub answers_tell_of_no_read : AnswersTellOfNoRead
answers_tell_of_no_read s query = no_read_fault (answer s query) (answer_silent s query)

pub queries_in_memory_read_all : QueriesInMemoryReadAll
queries_in_memory_read_all s query reply memory (inl is) = inl is
queries_in_memory_read_all s query reply memory (inr (inl none)) = inr none
queries_in_memory_read_all s query (Ok a) memory (inr (inr read)) = absurd read
queries_in_memory_read_all s query (Err e) memory (inr (inr read)) = in_memory s.on_disk memory read.1.0
