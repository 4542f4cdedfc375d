-- How the bytes of one trace are held in little.
use Rattle.std.specs.Prelude.{ℕ, List, [], Option, Some, None}
use Rattle.frame_cut.specs.declared.extent.Extent.{Extent}
use Rattle.trace_view.specs.declared.run.Run.{Run}
use Rattle.trace_store.specs.declared.base.Base.{Base}
use Rattle.trace_store.specs.declared.base.Base.TheVariants.{Loaded, Added}
use Rattle.trace_store.specs.declared.layers.Kind.{Kind}
use Rattle.trace_store.specs.declared.layers.Kind.TheVariants as kind
use Rattle.trace_store.specs.declared.layers.Under.{Under}
use Rattle.trace_store.specs.declared.layers.Under.TheVariants as under

-- what a trace has under its runs, and its runs
pub record Layered : Type 0 where
  pub base : Base
  pub runs : List Run

-- what lies under runs
abbrev pub base_of_under : Under → Base
base_of_under (under.Short length start) = Loaded (record { start = start; length = length })
base_of_under (under.Long extent) = Loaded extent.value
base_of_under (under.Added bytes) = Added bytes.value

-- what a trace that is held so has under its runs
abbrev pub base_of_kind : Kind → Base
base_of_kind (kind.Short length start) = Loaded (record { start = start; length = length })
base_of_kind (kind.Long extent) = Loaded extent.value
base_of_kind (kind.Added bytes) = Added bytes.value
base_of_kind (kind.One one) = base_of_under one.value.under
base_of_kind (kind.Many many) = base_of_under many.value.under

-- the runs of a trace that is held so
abbrev pub runs_of_kind : Kind → List Run
runs_of_kind (kind.Short length start) = []
runs_of_kind (kind.Long extent) = []
runs_of_kind (kind.Added bytes) = []
runs_of_kind (kind.One one) = one.value.run
runs_of_kind (kind.Many many) = many.value.runs.items

-- what a trace has under its runs, and its runs, as its kind holds them
abbrev pub layers_of_kind : Kind → Layered
layers_of_kind k = record { base = base_of_kind k; runs = runs_of_kind k }

-- the same base under these runs
abbrev pub laid_over : Layered → List Run → Layered
laid_over l runs = record { base = l.base; runs = runs }

-- the extent of the loaded file, if the base is one
abbrev pub extent_of : Base → Option Extent
extent_of (Loaded extent) = Some extent
extent_of (Added bytes) = None

-- the trace's own bytes, if it has some
abbrev pub added_of : Base → List ℕ
added_of (Loaded extent) = []
added_of (Added bytes) = bytes.items
