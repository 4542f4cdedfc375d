-- The records of the traces of a volume.
use Rattle.std.specs.Prelude.{◌≡◌, ℕ, ◌+◌, ◌-◌, ◌/◌, ◌%◌, ◌<◌, ◌≤◌, List, [], length, map, slice_index_or, All}
use Rattle.std.specs.List.{zip}
use Rattle.field_map.specs.Pairs.{Pairs}
use Rattle.frame_cut.specs.declared.limits.Limits.{Limits}
use Rattle.frame_cut.specs.declared.reading.Reading.{Reading}
use Rattle.frame_cut.specs.Cuts.{IsTrace, IsCut}
use Rattle.frame_cut.specs.Frames.{extensions_of}
use Rattle.frame_cut.specs.Splice.{splice}
use Rattle.frame_cut.specs.Traces.{count_of}
use Rattle.frame_cut.specs.Volume.{Volume, bytes_of}
use Rattle.trace_store.specs.Each.{part_of}
use Rattle.trace_view.specs.Values.{samples_at}
use Rattle.trace_record.specs.Facts.{Facts, with_samples_of}
use Rattle.trace_record.specs.OfTrace.{record_of}
use Rattle.trace_record.specs.Packed.{record_in}
use Rattle.trace_record.specs.declared.packed_record.PackedRecord.{PackedRecord}

-- the record of each trace, in order
abbrev pub records_of : Volume → Pairs → List Facts
records_of v fields = map (record_of v.head fields) v.traces

-- the record of each trace, but for the statistics of its samples, which are those of the facts at its place
abbrev pub headers_of : Volume → Pairs → List Facts → List Facts
headers_of v fields known = map (λ p. with_samples_of (record_of v.head fields p.0) p.1) (zip v.traces known)

-- how many samples each record tells
abbrev pub numbers_of : List PackedRecord → List ℕ
numbers_of ps = map (λ p. (record_in p).number) ps

-- under some reading and limits the volume is the cut of its own bytes
abbrev pub IsOfFile : Volume → Type 0
IsOfFile v = (reading : Reading) × (limits : Limits) × IsCut (bytes_of v) reading limits v

-- the bytes are cut into parts, and each part may be laid over the headers of its trace: it leaves the trace whole, with as many header
-- extensions
pub record AreHeaderParts (v : Volume) (a at size : ℕ) (bytes : List ℕ) : Type 0 where
  pub some : 0 < size
  pub exact : length bytes % size ≡ 0
  pub last : a - 1 + length bytes / size ≤ count_of v
  pub traces : All (IsTrace v.head) v.traces
  pub front : (k : ℕ) → k < length bytes / size → at + size ≤ samples_at v.head (slice_index_or v.traces (a - 1 + k) [])
  pub whole : (k : ℕ) → k < length bytes / size → IsTrace v.head (splice (slice_index_or v.traces (a - 1 + k) []) at size (part_of bytes size k))
  pub kept : (k : ℕ) → k < length bytes / size → extensions_of v.head (splice (slice_index_or v.traces (a - 1 + k) []) at size (part_of bytes size k)) ≡ extensions_of v.head (slice_index_or v.traces (a - 1 + k) [])
