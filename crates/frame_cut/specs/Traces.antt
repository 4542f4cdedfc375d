-- The traces of a volume, by their positions from 1.
use Rattle.std.specs.Prelude.{ℕ, ◌-◌, ◌&&◌, nat_le, Bool, List, [], length, slice_index_or, slice_set, Option, Some, None, if◌then◌else◌}
use Rattle.frame_cut.specs.Volume.{Volume}

-- how many traces there are
abbrev pub count_of : Volume → ℕ
count_of v = length v.traces

-- whether there is a trace p
abbrev pub is_trace : Volume → ℕ → Bool
is_trace v p = nat_le 1 p && nat_le p (count_of v)

-- the bytes of trace p
abbrev pub trace_at : Volume → ℕ → List ℕ
trace_at v p = slice_index_or v.traces (p - 1) []

-- the bytes of trace p, where there is one
abbrev pub trace_of : Volume → ℕ → Option (List ℕ)
trace_of v p = if is_trace v p then Some (trace_at v p) else None

-- the volume with these bytes as trace p
abbrev pub with_trace : Volume → ℕ → List ℕ → Volume
with_trace v p t = record v { traces = slice_set v.traces (p - 1) t }
