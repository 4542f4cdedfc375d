-- What edits of samples and of whole traces make of a file's bytes. Traces are counted from 1, samples from 0.
use Rattle.std.specs.Prelude.{ℕ, ◌+◌, ◌-◌, ◌*◌, ℤ, List, [], length, replicate}
use Rattle.std.specs.Option.{option_map_or}
use Rattle.sample_codes.specs.declared.value_format.ValueFormat.{ValueFormat}
use Rattle.sample_codes.specs.Formats.{width, values, samples_bytes}
use Rattle.frame_cut.specs.declared.file_head.Head.{Head}
use Rattle.frame_cut.specs.Splice.{splice}
use Rattle.frame_cut.specs.Frames.{length_with}
use Rattle.frame_cut.specs.Traces.{trace_at}
use Rattle.frame_cut.specs.Volume.{Volume, bytes_of, start_of}
use Rattle.trace_view.specs.Values.{samples_at}
use Rattle.frame_cut.specs.Parts.{without}

-- where trace p begins in the file, and for p one behind the last trace, where the traces end
abbrev pub trace_start : Volume → ℕ → ℕ
trace_start v p = start_of v (p - 1)

-- where the samples of trace p begin in the file
abbrev pub samples_start : Volume → ℕ → ℕ
samples_start v p = trace_start v p + samples_at v.head (trace_at v p)

-- ---- samples

-- the file's bytes with these numbers of a format over the samples of trace p from sample k on
abbrev pub patched : Volume → ValueFormat → ℕ → ℕ → List ℤ → List ℕ
patched v f p k xs = let w = width v.head.format in
    splice (bytes_of v) (samples_start v p + w * k) (w * length xs) (samples_bytes v.head.order f xs)

-- the file's bytes with these values over the samples of trace p from sample k on, where samples have values
abbrev pub bytes_after_patch : Volume → ℕ → ℕ → List ℤ → List ℕ
bytes_after_patch v p k xs = option_map_or (λ f. patched v f p k xs) (values v.head.format) (bytes_of v)

-- ---- whole traces

-- the file's bytes with one more trace in front of trace p, or behind the last
abbrev pub bytes_after_insert : Volume → ℕ → List ℕ → List ℕ
bytes_after_insert v p trace = splice (bytes_of v) (trace_start v p) 0 trace

-- a trace of zeros, with as many header extensions and samples as the binary header gives
abbrev pub blank_trace : Head → List ℕ
blank_trace h = replicate (length_with h h.extensions h.samples) 0

-- the file's bytes with a trace of zeros in front of trace p
abbrev pub with_blank : Volume → ℕ → List ℕ
with_blank v p = bytes_after_insert v p (blank_trace v.head)

-- the file's bytes with a copy of trace q in front of trace p
abbrev pub with_copy : Volume → ℕ → ℕ → List ℕ
with_copy v q p = bytes_after_insert v p (trace_at v q)

-- the file's bytes without trace p
abbrev pub bytes_after_delete : Volume → ℕ → List ℕ
bytes_after_delete v p = splice (bytes_of v) (trace_start v p) (length (trace_at v p)) []

-- the file's bytes with trace a out, and in again so that it is trace b
abbrev pub bytes_after_move : Volume → ℕ → ℕ → List ℕ
bytes_after_move v a b = splice (bytes_after_delete v a) (trace_start (without v a) b) 0 (trace_at v a)
