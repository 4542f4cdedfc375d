-- How the traces of a volume are held: an order of ids, and under each id a slot.
use Rattle.std.specs.Prelude.{ℕ, ◌≡◌, ◌+◌, ◌<◌, ◌≤◌, ◌^◌, List, [], length, IsSomeAnd}
use Rattle.std.specs.Option.{option_map_or}
use Rattle.slab.specs.Slab.{Slab, get, slab_len}
use Rattle.base_file.specs.HeldBytes.{HeldBytes, IsOnDisk, IsSure}
use Rattle.frame_cut.specs.declared.extent.Extent.{Extent}
use Rattle.frame_cut.specs.declared.file_head.Head.{Head}
use Rattle.frame_cut.specs.Cuts.{IsTrace}
use Rattle.frame_cut.specs.Layout.{bytes_at}
use Rattle.trace_seq.specs.Order.{times, AreDistinct}
use Rattle.trace_view.specs.Runs.{Fit, bytes_with_runs}
use Rattle.trace_store.specs.declared.base.Base.{Base}
use Rattle.trace_store.specs.declared.base.Base.TheVariants.{Loaded, Added}
use Rattle.trace_store.specs.declared.slot.Slot.{Slot}
use Rattle.trace_store.specs.Layers.{Layered}

-- the bytes under a trace's runs: a part of the loaded file, or bytes of the trace's own
abbrev pub base_of : List ℕ → Base → List ℕ
base_of loaded (Loaded extent) = bytes_at loaded extent
base_of loaded (Added bytes) = bytes.items

-- how many they are
abbrev pub size_of : Base → ℕ
size_of (Loaded extent) = extent.length
size_of (Added bytes) = length bytes.items

-- the part lies inside the loaded file
abbrev pub IsInside : List ℕ → Base → Type 0
IsInside loaded (Loaded extent) = extent.start + extent.length ≤ length loaded
IsInside loaded (Added bytes) = Unit {0}

-- the part can be read at once: on disk there is room for it, once the pass over the file has ended
abbrev pub HasRoomFor : HeldBytes → Base → Type 0
HasRoomFor loaded (Loaded extent) = IsOnDisk loaded.standing → extent.length ≤ loaded.most
HasRoomFor loaded (Added bytes) = Unit {0}

-- the bytes of a slot's trace
abbrev pub bytes_in : {T : Type 0} → List ℕ → Slot T → List ℕ
bytes_in loaded slot = bytes_with_runs (base_of loaded slot.layers.base) slot.layers.runs

-- the slot lies over the loaded bytes, and can be read at once; and if they are sure, it holds a whole trace
pub record IsSlot {T : Type 0} (loaded : HeldBytes) (h : Head) (slot : Slot T) : Type 0 where
  pub inside : IsInside loaded.bytes slot.layers.base
  pub room : HasRoomFor loaded slot.layers.base
  pub fit : Fit slot.layers.runs (length (base_of loaded.bytes slot.layers.base))
  pub whole : IsSure loaded.standing → IsTrace h (bytes_in loaded.bytes slot)

-- there are no runs, and the bytes are those of this extent of the loaded file
pub record IsWholeRange (layers : Layered) (extent : Extent) : Type 0 where
  pub base : layers.base ≡ Loaded extent
  pub plain : layers.runs ≡ []

-- the bytes of the trace under an id
abbrev pub bytes_under : {T : Type 0} → List ℕ → Slab (Slot T) → ℕ → List ℕ
bytes_under loaded slots id = option_map_or (bytes_in loaded) (get slots id) []

-- the bytes under the runs of the trace under an id
abbrev pub base_under : {T : Type 0} → List ℕ → Slab (Slot T) → ℕ → List ℕ
base_under loaded slots id = option_map_or (λ slot. base_of loaded slot.layers.base) (get slots id) []

-- the id has a slot over the loaded bytes
abbrev pub IsHeldUnder : {T : Type 0} → HeldBytes → Head → Slab (Slot T) → ℕ → Type 0
IsHeldUnder loaded h slots id = IsSomeAnd (get slots id) (IsSlot loaded h)

-- each of these ids has a slot over the loaded bytes
abbrev pub AreHeld : {T : Type 0} → HeldBytes → Head → List ℕ → Slab (Slot T) → Type 0
AreHeld loaded h ids slots = (id : ℕ) → 0 < times id ids → IsHeldUnder loaded h slots id

-- each of the ids has a slot over the loaded bytes, no id stands twice, there is no slot but theirs, and they can be
-- counted in 32 bits
pub record IsStore {T : Type 0} (loaded : HeldBytes) (h : Head) (ids : List ℕ) (slots : Slab (Slot T)) : Type 0 where
  pub held : AreHeld loaded h ids slots
  pub distinct : AreDistinct ids
  pub no_more : slab_len slots ≡ length ids
  pub few : length ids < 2 ^ 32
