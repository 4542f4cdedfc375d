-- The numbers of the slices that are kept, at most 8, the last asked first. None is kept after a load, and a refused edit or query leaves
-- them as they are.
use Rattle.std.specs.Prelude.{ℕ, ◌==◌, ◌&&◌, Bool, not, ℤ, List, [], ◌∷◌, length, take, filter, codes, Option, Some, None, if◌then◌else◌}
use Rattle.std.specs.List.{list_any}
use Rattle.std.specs.Ordering.{int_eq}
use Rattle.field_map.specs.declared.place.Place.{Place}
use Rattle.field_map.specs.Binding.{is_geometry}
use Rattle.field_map.specs.Pairs.{Pairs}
use Rattle.frame_cut.specs.declared.file_head.Head.{Head}
use Rattle.frame_cut.specs.Traces.{trace_at}
use Rattle.trace_record.specs.OfTrace.{bound_value}
use Rattle.bench_rules.specs.KeptSlices.{is_from}
use Rattle.bench_rules.specs.declared.edit.Edit.{Edit}
use Rattle.bench_rules.specs.declared.edit.Edit.TheVariants.{Set, SetBin, Declare, DropTail, SetText, Map, MapAs, Unmap, Patch, Blank, Copy, Delete, Move, MoveBlock, Resize, Renumber, Compute, Sort, OfChosen}
use Rattle.bench_rules.specs.declared.query.Query.{Query}
use Rattle.bench_rules.specs.declared.query.Query.TheVariants.{Count, Info, Get, GetBin, Line, Lines, Code, Stanzas, Fields, Sample, Geometry, Stat, Fold, Grid, Inlines, Crosslines, Histogram, Range, Totals, Slice, Faults, Problems, Survey, Table, Find, Header, Extremes, OfChosen as AskOfChosen}
use Rattle.bench_rules.specs.Computed.{Formula, formula_of, computed_numbers}
use Rattle.bench_rules.specs.Places.{place_in_trace}
use Rattle.bench_rules.specs.Refused.{with_value}
use Rattle.bench_rules.specs.State.{State}
use Rattle.bench_rules.specs.TraceEdits.{numbers}

-- the slice with the number is kept
abbrev pub is_kept : ℕ → List ℕ → Bool
is_kept k kept = list_any (λ j. j == k) kept

-- the numbers kept after a load
abbrev pub kept_after_load : List ℕ
kept_after_load = []

-- the numbers kept after slice k was answered: k comes first, and the last of nine goes
abbrev pub kept_after_slice : ℕ → List ℕ → List ℕ
kept_after_slice k kept = take 8 (k ∷ filter (λ j. not (j == k)) kept)

-- the numbers kept after a query was answered: a slice makes its number the first, and all else leaves them
abbrev pub kept_after_query : Query → List ℕ → List ℕ
kept_after_query (Slice k) kept = kept_after_slice k kept
kept_after_query Count kept = kept
kept_after_query Info kept = kept
kept_after_query (Get p field) kept = kept
kept_after_query (GetBin field) kept = kept
kept_after_query (Line b q) kept = kept
kept_after_query (Code b) kept = kept
kept_after_query Stanzas kept = kept
kept_after_query Fields kept = kept
kept_after_query (Sample p k) kept = kept
kept_after_query (Geometry p) kept = kept
kept_after_query (Stat p) kept = kept
kept_after_query (Fold i c) kept = kept
kept_after_query Grid kept = kept
kept_after_query Inlines kept = kept
kept_after_query Crosslines kept = kept
kept_after_query Histogram kept = kept
kept_after_query (Range quantity) kept = kept
kept_after_query Totals kept = kept
kept_after_query Faults kept = kept
kept_after_query Problems kept = kept
kept_after_query Survey kept = kept
kept_after_query (Lines b) kept = kept
kept_after_query (Table a b fields) kept = kept
kept_after_query (Find a b field low high) kept = kept
kept_after_query (Header p) kept = kept
kept_after_query (Extremes a b) kept = kept
kept_after_query (AskOfChosen c query) kept = kept

-- the inline and the crossline of a trace
abbrev pub cell_of : Head → Pairs → List ℕ → ℤ × ℤ
cell_of h fields t = (bound_value h fields t (codes "inline"), bound_value h fields t (codes "crossline"))

-- two traces have one value of the name
abbrev pub same_bound : Head → Pairs → List ℕ → List ℕ → List ℕ → Bool
same_bound h fields t u name = int_eq (bound_value h fields t name) (bound_value h fields u name)

-- two traces have one inline and one crossline
abbrev pub same_cell : Head → Pairs → List ℕ → List ℕ → Bool
same_cell h fields t u = same_bound h fields t u (codes "inline") && same_bound h fields t u (codes "crossline")

-- the numbers kept where trace t becomes u in its headers: all, unless its inline or crossline is another
abbrev pub kept_after_headers : Head → Pairs → List ℕ → List ℕ → List ℕ → List ℕ
kept_after_headers h fields t u kept = if same_cell h fields t u then kept else []

-- the numbers kept after the value over a place of the trace
abbrev pub kept_after_set : Head → Pairs → List ℕ → Option Place → ℤ → List ℕ → List ℕ
kept_after_set h fields t None x kept = kept
kept_after_set h fields t (Some place) x kept = kept_after_headers h fields t (with_value h t place x) kept

-- the numbers kept after each value over the place of its trace: none, where one of them changes an inline or a crossline
abbrev pub kept_after_sets : State → Option Place → List (ℕ × ℤ) → List ℕ → List ℕ
kept_after_sets s place [] kept = kept
kept_after_sets s place (n ∷ ns) kept = kept_after_sets s place ns (kept_after_set s.volume.head s.fields (trace_at s.volume n.0) place n.1 kept)

-- the numbers kept after the computed number over the field's place of each of traces a to b
abbrev pub kept_after_compute : State → Option Formula → ℕ → ℕ → List ℕ → List ℕ
kept_after_compute s None a b kept = kept
kept_after_compute s (Some f) a b kept = kept_after_sets s (Some f.place) (computed_numbers s.volume f a b) kept

-- the numbers kept after an edit that is done in this state
abbrev pub kept_after_edit : State → Edit → List ℕ → List ℕ
kept_after_edit s (Set p field x) kept = kept_after_set s.volume.head s.fields (trace_at s.volume p) (place_in_trace s.fields field) x kept
kept_after_edit s (SetBin field x) kept = kept
kept_after_edit s Declare kept = kept
kept_after_edit s DropTail kept = kept
kept_after_edit s (SetText q text) kept = kept
kept_after_edit s (Map name field) kept = if is_geometry name then [] else kept
kept_after_edit s (MapAs mapping) kept = []
kept_after_edit s (Unmap name) kept = kept
kept_after_edit s (Patch p k values) kept = filter (λ j. not (is_from k (length values) j)) kept
kept_after_edit s (Blank p) kept = []
kept_after_edit s (Copy q p) kept = []
kept_after_edit s (Delete p) kept = []
kept_after_edit s (Move a b) kept = []
kept_after_edit s (MoveBlock a b to) kept = []
kept_after_edit s (Resize p m) kept = []
kept_after_edit s (Renumber a b field first step) kept = kept_after_sets s (place_in_trace s.fields field) (numbers a b first step) kept
kept_after_edit s (Compute a b field source steps) kept = kept_after_compute s (formula_of s.fields field source steps) a b kept
kept_after_edit s (Sort a b names falls) kept = []
kept_after_edit s (OfChosen c edit) kept = []
