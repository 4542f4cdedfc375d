-- How long a trace is: its main header, its header extensions and its samples.
use Rattle.std.specs.Prelude.{ℕ, ◌+◌, ◌*◌, ◌-◌, ◌==◌, nat_le, List, take, drop, Option, Some, None, option_map, unwrap_or, if◌then◌else◌}
use Rattle.num_order.specs.Number.{unsigned}
use Rattle.sample_codes.specs.Formats.{width}
use Rattle.frame_cut.specs.declared.file_head.Head.{Head}
use Rattle.field_map.specs.declared.place.TheConstants.{TRACE_HEADER_BYTES}

-- so many bytes of a trace's header, from this byte on, counted from 1; extension 0 is the main header
abbrev pub header_bytes : ℕ → ℕ → ℕ → List ℕ → List ℕ
header_bytes extension byte size t = take size (drop (TRACE_HEADER_BYTES * extension + byte - 1) t)

-- a field of a header without a sign
abbrev pub header_unsigned : Head → ℕ → ℕ → ℕ → List ℕ → ℕ
header_unsigned h extension byte size t = unsigned h.order (header_bytes extension byte size t)

-- of at most x extensions the first may say how many there are, and 0 means x
abbrev pub count_within : ℕ → ℕ → Option ℕ
count_within x count = if count == 0 then Some x else if nat_le count x then Some count else None

-- the number of a trace's header extensions whose first says this number, if it does not say too many
abbrev pub extensions_by : Head → ℕ → Option ℕ
extensions_by h count = if h.extensions == 0 then Some 0 else count_within h.extensions count

-- the number of a trace's header extensions, which its first says (bytes 157-158)
abbrev pub extension_count : Head → List ℕ → Option ℕ
extension_count h t = extensions_by h (header_unsigned h 1 157 2 t)

-- the first number that is not 0
abbrev pub or_else : ℕ → ℕ → ℕ
or_else a b = if a == 0 then b else a

-- the wide number of samples, in the first header extension (bytes 137-140), 0 where there is none
abbrev pub extension_samples : Head → List ℕ → ℕ
extension_samples h t = if h.extensions == 0 then 0 else header_unsigned h 1 137 4 t

-- the number of samples of a trace whose first header extension says `wide`, and whose main header says `short`
abbrev pub samples_by : Head → ℕ → ℕ → ℕ
samples_by h wide short = if h.fixed then h.samples else or_else wide (or_else short h.samples)

-- the number of a trace's samples (bytes 137-140 of its first header extension, bytes 115-116 of its main header)
abbrev pub sample_count : Head → List ℕ → ℕ
sample_count h t = samples_by h (extension_samples h t) (header_unsigned h 0 115 2 t)

-- the length of a trace with so many extensions and samples
abbrev pub length_with : Head → ℕ → ℕ → ℕ
length_with h extensions samples = TRACE_HEADER_BYTES * (1 + extensions) + width h.format * samples

-- the length that a trace's headers give it, if they give one
abbrev pub trace_length : Head → List ℕ → Option ℕ
trace_length h t = option_map (λ e. length_with h e (sample_count h t)) (extension_count h t)

-- how many bytes of a trace its length is read from
abbrev pub front_length : Head → ℕ
front_length h = if h.extensions == 0 then TRACE_HEADER_BYTES else 2 * TRACE_HEADER_BYTES

-- the number of a whole trace's header extensions
abbrev pub extensions_of : Head → List ℕ → ℕ
extensions_of h t = unwrap_or (extension_count h t) 0
