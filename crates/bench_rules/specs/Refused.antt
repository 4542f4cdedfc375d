-- The first refusal that an edit meets.
use Rattle.std.specs.Prelude.{ℕ, ◌+◌, ◌-◌, ◌==◌, ◌&&◌, nat_le, nat_lt, nat_abs, int_lt, max, Bool, not, ℤ, pos, List, [], ◌∷◌, length, Option, Some, None, option_map, is_none, if◌then◌else◌}
use Rattle.std.specs.List.{list_all}
use Rattle.std.specs.Option.{option_or}
use Rattle.std.specs.Str.{chars}
use Rattle.num_order.specs.Number.{fits}
use Rattle.field_map.specs.declared.place.Place.{Place}
use Rattle.field_map.specs.Binding.{bind_fault, unbind_fault}
use Rattle.text_block.specs.Blocks.{code_of}
use Rattle.text_block.specs.Lines.{text_fault}
use Rattle.sample_codes.specs.declared.value_format.ValueFormat.{ValueFormat}
use Rattle.sample_codes.specs.Formats.{values, sample_fits}
use Rattle.frame_cut.specs.declared.file_head.Head.{Head}
use Rattle.frame_cut.specs.declared.limits.Limits.{Limits}
use Rattle.frame_cut.specs.declared.reading.Reading.{Reading}
use Rattle.frame_cut.specs.Frames.{sample_count}
use Rattle.frame_cut.specs.Traces.{count_of, is_trace, trace_at}
use Rattle.frame_cut.specs.Volume.{Volume, bytes_of}
use Rattle.declared_frame.specs.Written.{can_declare}
use Rattle.bench_rules.specs.declared.edit.Edit.{Edit}
use Rattle.bench_rules.specs.declared.edit.Edit.TheVariants.{Set, SetBin, Declare, DropTail, SetText, Map, MapAs, Unmap, Patch, Blank, Copy, Delete, Move, MoveBlock, Resize, Renumber, Compute, Sort, OfChosen}
use Rattle.bench_rules.specs.declared.refusal.Refusal.{Refusal}
use Rattle.bench_rules.specs.declared.refusal.Refusal.TheVariants as refusals
use Rattle.bench_rules.specs.Places.{place_in_trace, place_in_binary, is_in_binary, touches_frame}
pub use Rattle.bench_rules.specs.SetRefusals.{with_value, is_length, changes_length, set_refusal}
pub use Rattle.bench_rules.specs.RangeRefusals.{no_trace, no_trace_from, first_refusal_among}
use Rattle.bench_rules.specs.BlockMoves.{block_refusal}
use Rattle.bench_rules.specs.ChosenEdits.{chosen_refusal}
use Rattle.bench_rules.specs.Computed.{formula_of, compute_refusal_in}
use Rattle.bench_rules.specs.ManyTraces.{each_of}
use Rattle.bench_rules.specs.Mappings.{first_bind_fault, bindings}
use Rattle.bench_rules.specs.State.{State}
use Rattle.bench_rules.specs.Tables.{table_of}
use Rattle.bench_rules.specs.TraceEdits.{resized, numbers}
use Rattle.bench_rules.specs.WholeTraces.{blank_trace}

-- there is no place p for a trace: in front of trace p, or behind the last
abbrev pub no_place_for_trace : Volume → ℕ → Option Refusal
no_place_for_trace v p = if nat_le 1 p && nat_le p (count_of v + 1) then None else Some (refusals.NoTrace p (count_of v))

-- the refusal of one more trace of so many bytes under the limits
abbrev pub room_refusal : Volume → Limits → ℕ → Option Refusal
room_refusal v limits n =
    if nat_lt limits.bytes (length (bytes_of v) + n) then Some refusals.TooLarge else
    if nat_lt limits.traces (count_of v + 1) then Some refusals.TooManyTraces else None

-- the refusal of one more trace of so many bytes at place p
abbrev pub insert_refusal : Volume → Limits → ℕ → ℕ → Option Refusal
insert_refusal v limits p n = option_or (no_place_for_trace v p) (room_refusal v limits n)

-- so many samples from k on go past the n of the trace; the number named is the greater of k and n
abbrev pub no_samples : ℕ → ℕ → ℕ → Option Refusal
no_samples n k many = if nat_lt n (k + many) then Some (refusals.NoSample (max k n) n) else None

-- the refusal of values over samples that are read so, if they have values
abbrev pub values_refusal : Option ValueFormat → Head → List ℕ → ℕ → List ℤ → Option Refusal
values_refusal None h t k xs = Some refusals.NoValues
values_refusal (Some f) h t k xs = if not (list_all (sample_fits f) xs) then Some refusals.DoesNotFit else no_samples (sample_count h t) k (length xs)

-- the refusal of values over the samples of a trace from sample k on
abbrev pub patch_refusal : Head → List ℕ → ℕ → List ℤ → Option Refusal
patch_refusal h t k xs = values_refusal (values h.format) h t k xs

-- the refusal of a value at the place that a field of the binary header has, if it has one
abbrev pub set_bin_refusal : Option Place → ℤ → Option Refusal
set_bin_refusal None x = Some refusals.NoField
set_bin_refusal (Some place) x =
    if not (is_in_binary place) then Some refusals.NoPlace else
    if not (fits place.kind x) then Some refusals.DoesNotFit else
    if touches_frame place then Some refusals.Frame else None

-- the refusal of a name that is bound to the place of a field, if it has one
abbrev pub map_refusal : State → List ℕ → Option Place → Option Refusal
map_refusal s name None = Some refusals.NoField
map_refusal s name (Some place) = option_map (λ fault. refusals.Map fault) (bind_fault s.volume.head.extensions s.fields name place)

-- a line of a block, from 1 to 40
abbrev pub is_line : ℕ → Bool
is_line q = nat_le 1 q && nat_le q 40

-- the refusal of a text as line q of the textual header
abbrev pub text_refusal : List ℕ → ℕ → List ℕ → Option Refusal
text_refusal block q text =
    if not (is_line q) then Some refusals.NoPlace else
    option_map (λ fault. refusals.Text fault) (text_fault (code_of block) (chars text))

-- ---- another number of samples of a trace

-- the most samples that the headers of a trace can count: in two bytes, and in four where the file has header extensions
abbrev pub most_samples : Head → ℕ
most_samples h = if h.extensions == 0 then 65535 else 4294967295

-- the headers of a trace can count so many samples: 0 would stand for the binary header's number
abbrev pub is_sample_count : Head → ℤ → Bool
is_sample_count h m = int_lt (pos 0) m && nat_le (nat_abs m) (most_samples h)

-- a file of so many bytes would be longer than its limit with m samples in this trace
abbrev pub is_too_large : Head → (file limit : ℕ) → List ℕ → ℕ → Bool
is_too_large h file limit t m = nat_lt limit (file - length t + length (resized h t m))

-- the refusal of m samples in a trace of a file of so many bytes
abbrev pub count_refusal : Head → (file limit : ℕ) → List ℕ → ℤ → Option Refusal
count_refusal h file limit t m =
    if not (is_sample_count h m) then Some refusals.DoesNotFit else
    if h.fixed then Some refusals.Frame else
    if is_too_large h file limit t (nat_abs m) then Some refusals.TooLarge else None

-- ---- a field of many traces

-- the refusal of traces a to b in the order of their numbers at the places of fields, if each has one
abbrev pub sort_refusal : Volume → (a b : ℕ) → Option (List Place) → Option Refusal
sort_refusal v a b None = Some refusals.NoField
sort_refusal v a b (Some places) = if is_none (table_of v places a b) then Some refusals.NoPlace else None

-- ---- every edit

-- the refusal of the reading that is written into the file: a load of it, without its tail, would give other parts without the reading
abbrev pub declare_refusal : Reading → Volume → Option Refusal
declare_refusal reading v = if can_declare reading v then None else Some refusals.Frame

-- the first refusal of the edit, if it meets one; want of memory is none of these
abbrev pub first_refusal : State → Edit → Option Refusal
first_refusal s (Set p field x) = option_or (no_trace s.volume p) (set_refusal s.volume.head (trace_at s.volume p) (place_in_trace s.fields field) x)
first_refusal s (SetBin field x) = set_bin_refusal (place_in_binary field) x
first_refusal s Declare = declare_refusal s.reading s.volume
first_refusal s DropTail = None
first_refusal s (SetText q text) = text_refusal s.volume.text q text
first_refusal s (Map name field) = map_refusal s name (place_in_trace s.fields field)
first_refusal s (MapAs mapping) = option_map (λ fault. refusals.Map fault) (first_bind_fault s.volume.head.extensions s.fields (bindings mapping))
first_refusal s (Unmap name) = option_map (λ fault. refusals.Map fault) (unbind_fault s.fields name)
first_refusal s (Patch p k values) = option_or (no_trace s.volume p) (patch_refusal s.volume.head (trace_at s.volume p) k values)
first_refusal s (Blank p) = insert_refusal s.volume s.limits p (length (blank_trace s.volume.head))
first_refusal s (Copy q p) = option_or (no_trace s.volume q) (insert_refusal s.volume s.limits p (length (trace_at s.volume q)))
first_refusal s (Delete p) = no_trace s.volume p
first_refusal s (Move a b) = option_or (no_trace s.volume a) (no_trace s.volume b)
first_refusal s (MoveBlock a b to) = block_refusal s.volume a b to
first_refusal s (Resize p m) = option_or (no_trace s.volume p) (count_refusal s.volume.head (length (bytes_of s.volume)) s.limits.bytes (trace_at s.volume p) m)
first_refusal s (Renumber a b field first step) =
    option_or (no_trace s.volume a) (option_or (no_trace_from s.volume a b) (first_refusal_among s.volume (place_in_trace s.fields field) (numbers a b first step)))
first_refusal s (Compute a b field source steps) =
    option_or (no_trace s.volume a) (option_or (no_trace_from s.volume a b) (compute_refusal_in s.volume (formula_of s.fields field source steps) a b))
first_refusal s (Sort a b names falls) =
    option_or (no_trace s.volume a) (option_or (no_trace_from s.volume a b) (sort_refusal s.volume a b (each_of (place_in_trace s.fields) names)))
first_refusal s (OfChosen c edit) = chosen_refusal s.volume s.fields c edit
