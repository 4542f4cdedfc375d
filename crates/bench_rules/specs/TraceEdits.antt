-- What edits of the number of samples of a trace, and of a field of many traces, make of a file's bytes. Traces are counted from 1.
use Rattle.std.specs.Prelude.{ℕ, ◌+◌, ◌-◌, ◌*◌, nat_lt, false, ℤ, pos, ◌+ℤ◌, ◌*ℤ◌, List, [], ◌∷◌, ◌++◌, length, map, flat_map, take, replicate, if◌then◌else◌}
use Rattle.std.specs.List.{range_with_len}
use Rattle.num_order.specs.declared.kind.Kind.{Kind}
use Rattle.num_order.specs.declared.order.Order.{Order}
use Rattle.num_order.specs.Number.{bytes}
use Rattle.sample_codes.specs.Formats.{width}
use Rattle.field_map.specs.declared.place.Place.{Place}
use Rattle.field_map.specs.declared.place.TheConstants.{TRACE_HEADER_BYTES}
use Rattle.frame_cut.specs.declared.file_head.Head.{Head}
use Rattle.frame_cut.specs.Splice.{splice}
use Rattle.frame_cut.specs.Frames.{sample_count}
use Rattle.frame_cut.specs.Traces.{trace_at}
use Rattle.frame_cut.specs.Volume.{Volume, bytes_of, start_of}
use Rattle.trace_view.specs.Values.{samples_at}
use Rattle.bench_rules.specs.WholeTraces.{trace_start}

-- ---- one value

-- the value over a place of trace p
abbrev pub put_in_trace : Volume → ℕ → Place → ℤ → List ℕ → List ℕ
put_in_trace v p place x file = splice file (start_of v (p - 1) + TRACE_HEADER_BYTES * place.extension + place.byte - 1) place.kind.size (bytes v.head.order place.kind x)

-- ---- the number of samples of one trace

-- a number of samples for the two bytes 115-116 of a trace header: 0 where they cannot hold it
abbrev pub short_count : ℕ → ℕ
short_count m = if nat_lt 65535 m then 0 else m

-- the trace with the number of samples m in bytes 115-116 of its main header
abbrev pub with_short_count : Head → ℕ → List ℕ → List ℕ
with_short_count h m t = splice t 114 2 (bytes h.order (record { size = 2; signed = false }) (pos (short_count m)))

-- the trace with the number of samples m in bytes 137-140 of its first header extension, where the file has one
abbrev pub with_wide_count : Head → ℕ → List ℕ → List ℕ
with_wide_count h m t = if nat_lt 0 h.extensions then splice t 376 4 (bytes h.order (record { size = 4; signed = false }) (pos m)) else t

-- the trace with the number of samples m in its headers
abbrev pub with_count : Head → ℕ → List ℕ → List ℕ
with_count h m t = with_wide_count h m (with_short_count h m t)

-- the trace's headers and first m samples, and zeros behind them up to m
abbrev pub cut_or_filled : Head → ℕ → List ℕ → List ℕ
cut_or_filled h m t = take (samples_at h t + width h.format * m) t ++ replicate (width h.format * (m - sample_count h t)) 0

-- the trace with m samples, as its headers say: its first ones as they were, and zeros behind them
abbrev pub resized : Head → List ℕ → ℕ → List ℕ
resized h t m = with_count h m (cut_or_filled h m t)

-- the file's bytes with m samples in trace p
abbrev pub bytes_after_resize : Volume → ℕ → ℕ → List ℕ
bytes_after_resize v p m = splice (bytes_of v) (trace_start v p) (length (trace_at v p)) (resized v.head (trace_at v p) m)

-- ---- a field of many traces

-- the value that stands k steps behind the first
abbrev pub counted : ℤ → ℤ → ℕ → ℤ
counted first step k = first +ℤ step *ℤ pos k

-- the traces a to b, each with its value: first, first + step and so on
abbrev pub numbers : ℕ → ℕ → ℤ → ℤ → List (ℕ × ℤ)
numbers a b first step = map (λ p. (p, counted first step (p - a))) (range_with_len a (b + 1 - a))

-- each value over the place of its trace, in turn
abbrev pub put_each : Volume → Place → List (ℕ × ℤ) → List ℕ → List ℕ
put_each v place [] file = file
put_each v place (n ∷ ns) file = put_each v place ns (put_in_trace v n.0 place n.1 file)

-- the file's bytes with the place of traces a to b counted up from first by step
abbrev pub bytes_after_renumber : Volume → ℕ → ℕ → Place → ℤ → ℤ → List ℕ
bytes_after_renumber v a b place first step = put_each v place (numbers a b first step) (bytes_of v)

-- the bytes of n values, one after another: first, first + step and so on
abbrev pub values_bytes : Order → Kind → ℤ → ℤ → ℕ → List ℕ
values_bytes o kind first step n = flat_map (λ k. bytes o kind (counted first step k)) (range_with_len 0 n)
