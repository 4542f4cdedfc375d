-- How a bench holds its state.
use Rattle.std.specs.Prelude.{◌≡◌, ℕ, ◌+◌, ◌-◌, ◌*◌, ◌≤◌, Bool, not, List, All, length, map}
use Rattle.std.specs.List.{list_any, range_with_len}
use Rattle.text_block.specs.declared.block.TheConstants.{TEXT_BLOCK_BYTES}
use Rattle.field_map.specs.declared.place.TheConstants.{TRACE_HEADER_BYTES}
use Rattle.frame_cut.specs.declared.limits.Limits.{Limits}
use Rattle.frame_cut.specs.declared.sizes.TheConstants.{BINARY_HEADER_BYTES}
use Rattle.frame_cut.specs.Cuts.{IsCut}
use Rattle.frame_cut.specs.Traces.{count_of, trace_at}
use Rattle.frame_cut.specs.Volume.{Volume, bytes_of}
use Rattle.sample_codes.specs.Formats.{width}
use Rattle.trace_view.specs.Values.{samples_at}
use Rattle.trace_record.specs.Packed.{record_in}
use Rattle.trace_record.specs.declared.record.Record.{Record}
use Rattle.edit_overlay.specs.CountedVolume.{RisesAtMost}
use Rattle.edit_overlay.specs.Reads.{Follow, HaveAgreed}
use Rattle.bench_rules.specs.Kept.{same_cell}
use Rattle.bench_rules.specs.Live.{AreRecordsOf}
use Rattle.live_reports.specs.OfRecords.{AreReportsOf}
use Rattle.bench_rules.specs.State.{State, Session}
use Rattle.live_volume.specs.declared.live_volume.LiveVolume.TheInside.{Inside}

-- the state that is held
abbrev pub state_of : Inside → State
state_of b = record { volume = b.overlay.volume; fields = b.fields.pairs; reading = b.reading; limits = b.limits; on_disk = b.overlay.loaded.on_disk }

-- the state that is held, with the count of looks, the loaded bytes, and what is known of the reads of them
abbrev pub session_of : Inside → Session
session_of b = record { state = state_of b; looks = b.overlay.looks; loaded = b.overlay.loaded.bytes; reads = b.overlay.reads }

-- the records that stand beside the traces
abbrev pub records_in : Inside → List Record
records_in b = map record_in b.overlay.payloads

-- the parts that no trace tells are as the file's head says, and the whole is within the limits
pub record HasFrame (limits : Limits) (v : Volume) : Type 0 where
  pub text : length v.text ≡ TEXT_BLOCK_BYTES
  pub bin : length v.bin ≡ BINARY_HEADER_BYTES
  pub blocks : length v.blocks ≡ v.head.blocks
  pub trailer : length v.trailer ≡ v.head.trailer
  pub few : count_of v ≤ limits.traces
  pub small : length (bytes_of v) ≤ limits.bytes

-- there are as many records as traces, none tells more samples than its trace has bytes, and each trace has a main header
pub record AreMeasured (rs : List Record) (ts : List (List ℕ)) : Type 0 where
  pub sizes : List (ℕ × ℕ)
  pub numbers : map (λ s. s.0) sizes ≡ map (λ r. r.number) rs
  pub lengths : map (λ s. s.1) sizes ≡ map (λ t. length t) ts
  pub within : All (λ s. (s.0 ≤ s.1) × (TRACE_HEADER_BYTES ≤ s.1)) sizes

-- nothing is prepared over the volume, the field map is that of a file with as many header extensions for a trace, and the
-- reports have counted the records that stand beside the traces. Where each read of the loaded bytes agreed, the parts are
-- the one cut of their bytes, and the records are those of the traces; whatever was read, the lengths and numbers on which
-- no call may fail stand: the frame, and as many records as traces, of no more samples than those have bytes
pub record IsHeld (b : Inside) : Type 0 where
  pub cut : HaveAgreed b.overlay.reads → IsCut (bytes_of b.overlay.volume) b.reading b.limits b.overlay.volume
  pub frame : HasFrame b.limits b.overlay.volume
  pub prepared : b.overlay.prepared ≡ b.overlay.volume
  pub extensions : b.fields.extensions ≡ b.overlay.volume.head.extensions
  pub records : HaveAgreed b.overlay.reads → AreRecordsOf (state_of b) (records_in b)
  pub measured : AreMeasured (records_in b) b.overlay.volume.traces
  pub reports : AreReportsOf b.reports (records_in b)

-- the same state over the same loaded bytes after so many looks more at most; what did not agree does not agree now
pub record OnlyLooks (old new : Session) (n : ℕ) : Type 0 where
  pub state : new.state ≡ old.state
  pub looks : RisesAtMost old.looks new.looks n
  pub loaded : new.loaded ≡ old.loaded
  pub reads : Follow old.reads new.reads

-- both were read in the same way, under the same limits, from the same place
pub record IsReadAs (old new : State) : Type 0 where
  pub reading : new.reading ≡ old.reading
  pub limits : new.limits ≡ old.limits
  pub on_disk : new.on_disk ≡ old.on_disk

-- the state with another volume, read in the same way
abbrev pub with_volume : State → Volume → State
with_volume s v = record s { volume = v }

-- the volume is the cut of its own bytes, read as the state's
abbrev pub IsCutAs : State → Volume → Type 0
IsCutAs s v = IsCut (bytes_of v) s.reading s.limits v

-- where sample k of trace p begins in the trace
abbrev pub sample_start : Volume → ℕ → ℕ → ℕ
sample_start v p k = samples_at v.head (trace_at v p) + width v.head.format * k

-- trace p of the new state has another inline or crossline than that of the old one, both under the old field map
abbrev pub moves : State → State → ℕ → Bool
moves old new p = not (same_cell old.volume.head old.fields (trace_at old.volume p) (trace_at new.volume p))

-- one of traces a to b has
abbrev pub any_moves : State → State → ℕ → ℕ → Bool
any_moves old new a b = list_any (moves old new) (range_with_len a (b + 1 - a))
