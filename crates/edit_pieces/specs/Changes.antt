-- What edits changed of a loaded file: the bytes that go to it, each with its place, counted from 0 in the file.
use Rattle.std.specs.Prelude.{ℕ, ◌+◌, List, [], ◌∷◌, ◌++◌, length, map, take, drop, Option, Some, None, if◌then◌else◌}
use Rattle.std.specs.List.{flat_map}
use Rattle.std.specs.Option.{option_map_or}
use Rattle.std.specs.Str.{bytes_eq}
use Rattle.slab.specs.Slab.{Slab, get}
use Rattle.journal_codes.specs.Codes.{Span}
use Rattle.text_block.specs.declared.block.TheConstants.{TEXT_BLOCK_BYTES}
use Rattle.frame_cut.specs.declared.extent.Extent.{Extent}
use Rattle.trace_view.specs.declared.run.Run.{Run}
use Rattle.trace_store.specs.declared.base.Base.TheVariants.{Loaded}
use Rattle.trace_store.specs.declared.slot.Slot.{Slot}
use Rattle.trace_store.specs.declared.store.TraceStore.{TraceStore}
use Rattle.trace_store.specs.Layers.{Layered, extent_of}

-- nothing of the file, for an id that has no slot; each id of a store has one
abbrev pub no_layers : Layered
no_layers = record { base = Loaded (record { start = 0; length = 0 }); runs = [] }

-- what the trace under an id has under its runs, and its runs
abbrev pub layers_under : {T : Type 0} → Slab (Slot T) → ℕ → Layered
layers_under slots id = option_map_or (λ slot. slot.layers) (get slots id) no_layers

-- the same of each trace, in order
abbrev pub layers_of : {T : Type 0} → TraceStore T → List Layered
layers_of s = map (layers_under s.slots) s.order.ids

-- a run, at its place in the file, where the trace's extent starts here
abbrev pub run_at : ℕ → Run → Span
run_at start r = (start + r.at, r.bytes.items)

-- the runs over an extent of the file, if it is one
abbrev pub runs_over : Option Extent → List Run → List Span
runs_over (Some e) rs = map (run_at e.start) rs
runs_over None rs = []

-- the runs of a trace
abbrev pub runs_in : Layered → List Span
runs_in l = runs_over (extent_of l.base) l.runs

-- the bytes of a header that the file does not have there: all or none
abbrev pub header_left : ℕ → List ℕ → List ℕ → List ℕ
header_left at header file = if bytes_eq header (take (length header) (drop at file)) then [] else header

-- a header at its place in the file, left out where the file has these bytes there
abbrev pub header_change : ℕ → List ℕ → List ℕ → List Span
header_change at header file = if bytes_eq header (take (length header) (drop at file)) then [] else (at, header) ∷ []

-- all that is changed: the textual header, the binary header, and the runs of each trace
abbrev pub changes_of : {T : Type 0} → List ℕ → List ℕ → TraceStore T → List Span
changes_of text bin s =
    header_change 0 text s.loaded.bytes
    ++ (header_change TEXT_BLOCK_BYTES bin s.loaded.bytes ++ flat_map runs_in (layers_of s))
