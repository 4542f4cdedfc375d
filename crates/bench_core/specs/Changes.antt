-- What an edit that is done leaves of the slices that are kept.
use Rattle.std.specs.Prelude.{ℕ, ℤ, ◌&&◌, Bool, not, false, [], length, Option, Some, None, option_map, if◌then◌else◌}
use Rattle.std.specs.Ordering.{int_eq}
use Rattle.field_map.specs.Binding.{is_geometry}
use Rattle.frame_cut.specs.Traces.{trace_of}
use Rattle.bench_rules.specs.KeptSlices.{Cache, cache_after_change}
use Rattle.bench_rules.specs.declared.edit.Edit.{Edit}
use Rattle.bench_rules.specs.declared.edit.Edit.TheVariants.{Set, SetBin, Declare, DropTail, SetText, Map, MapAs, Unmap, Patch, Blank, Copy, Delete, Move, MoveBlock, Resize, Renumber, Compute, Sort, OfChosen}
use Rattle.bench_rules.specs.Kept.{cell_of}
use Rattle.bench_rules.specs.State.{State}
use Rattle.live_volume.specs.Held.{any_moves}

-- the inline and the crossline of trace p
abbrev pub cell_at : State → ℕ → Option (ℤ × ℤ)
cell_at s p = option_map (cell_of s.volume.head s.fields) (trace_of s.volume p)

-- the trace has another inline or crossline than before
abbrev pub is_moved : Option (ℤ × ℤ) → Option (ℤ × ℤ) → Bool
is_moved (Some old) (Some new) = not (int_eq old.0 new.0 && int_eq old.1 new.1)
is_moved (Some old) None = false
is_moved None (Some new) = false
is_moved None None = false

-- a set gave its trace, or a field of many traces counted up or computed one of them, another inline or crossline
abbrev pub has_moved : State → Edit → State → Bool
has_moved old (Set p field x) new = is_moved (cell_at old p) (cell_at new p)
has_moved old (Renumber a b field first step) new = any_moves old new a b
has_moved old (Compute a b field source steps) new = any_moves old new a b
has_moved old (SetBin field x) new = false
has_moved old Declare new = false
has_moved old DropTail new = false
has_moved old (SetText q text) new = false
has_moved old (Map name field) new = false
has_moved old (MapAs mapping) new = false
has_moved old (Unmap name) new = false
has_moved old (Patch p k values) new = false
has_moved old (Blank p) new = false
has_moved old (Copy q p) new = false
has_moved old (Delete p) new = false
has_moved old (Move a b) new = false
has_moved old (MoveBlock a b to) new = false
has_moved old (Resize p count) new = false
has_moved old (Sort a b fields falls) new = false
has_moved old (OfChosen c edit) new = false

-- what stays of the kept slices: nothing, after a set or a field of many traces counted up or computed that gave a trace another inline or
-- crossline, a geometry name bound anew, edits of whole traces, and edits of chosen traces; after a patch all but the slices of its samples; else all
abbrev pub entries_after : Bool → Edit → Cache → Cache
entries_after moved (Set p field x) cache = if moved then [] else cache
entries_after moved (SetBin field x) cache = cache
entries_after moved Declare cache = cache
entries_after moved DropTail cache = cache
entries_after moved (SetText q text) cache = cache
entries_after moved (Map name field) cache = if is_geometry name then [] else cache
entries_after moved (MapAs mapping) cache = []
entries_after moved (Unmap name) cache = cache
entries_after moved (Patch p k values) cache = cache_after_change k (length values) cache
entries_after moved (Blank p) cache = []
entries_after moved (Copy q p) cache = []
entries_after moved (Delete p) cache = []
entries_after moved (Move a b) cache = []
entries_after moved (MoveBlock a b to) cache = []
entries_after moved (Resize p count) cache = []
entries_after moved (Renumber a b field first step) cache = if moved then [] else cache
entries_after moved (Compute a b field source steps) cache = if moved then [] else cache
entries_after moved (Sort a b fields falls) cache = []
entries_after moved (OfChosen c edit) cache = []
