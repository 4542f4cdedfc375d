-- Values and samples of small traces, worked by hand.
use Rattle.std.specs.Prelude.{◌≡◌, ℕ, [], ◌∷◌, pos, negsuc, true, Some, None, refl}
use Rattle.field_map.specs.declared.place.Place.{Place}
use Rattle.frame_cut.specs.SmallFiles.{with_bytes_at, head_plain, head_extended, head_counted, head_little, head_untold, trace_plain_2, trace_extended, trace_counted, trace_little, trace_untold}
use Rattle.trace_view.specs.Runs.{bytes_with_runs}
use Rattle.trace_view.specs.Values.{value_of, sample_bytes, sample_of, samples_of}

-- the place of a signed number
abbrev place : ℕ → ℕ → ℕ → Place
place extension byte size = record { extension = extension; byte = byte; kind = record { size = size; signed = true } }

pub inline-plain : value_of head_plain trace_plain_2 (place 0 189 4) ≡ Some (pos 10)
inline-plain = refl

-- byte 240 is the last of a header
pub last_byte : value_of head_plain trace_plain_2 (place 0 240 1) ≡ Some (pos 0)
last_byte = refl

pub past_header : value_of head_plain trace_plain_2 (place 0 240 2) ≡ None
past_header = refl

pub size_5 : value_of head_plain trace_plain_2 (place 0 1 5) ≡ None
size_5 = refl

pub in_extension : value_of head_extended (with_bytes_at 241 (0xFF ∷ 0xFE ∷ []) trace_extended) (place 1 1 2) ≡ Some (negsuc 1)
in_extension = refl

-- of three header extensions the trace has two
pub extension_3 : value_of head_counted trace_counted (place 3 1 4) ≡ None
extension_3 = refl

pub samples-counted : samples_of head_counted trace_counted ≡ pos 1 ∷ pos 2 ∷ []
samples-counted = refl

pub samples-little : samples_of head_little trace_little ≡ negsuc 0 ∷ negsuc 8388607 ∷ []
samples-little = refl

pub sample-2-little : sample_of head_little trace_little 2 ≡ None
sample-2-little = refl

-- a float is bytes without a value
pub bytes-untold : sample_bytes head_untold trace_untold ≡ 0x00 ∷ 0xA0 ∷ 0x76 ∷ 0x42 ∷ []
bytes-untold = refl

pub samples-untold : samples_of head_untold trace_untold ≡ []
samples-untold = refl

pub sample-0-untold : sample_of head_untold trace_untold 0 ≡ None
sample-0-untold = refl

-- a run in place of two of five bytes
pub one_run : bytes_with_runs (1 ∷ 2 ∷ 3 ∷ 4 ∷ 5 ∷ []) (record { at = 1; bytes = record { items = 8 ∷ 9 ∷ []; capacity = 16 } } ∷ []) ≡ 1 ∷ 8 ∷ 9 ∷ 4 ∷ 5 ∷ []
one_run = refl
