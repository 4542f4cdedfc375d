-- Bytes laid over traces whose records are known.
use Rattle.std.specs.Prelude.{◌≡◌, ℕ, ◌+◌, ◌-◌, ◌<◌, ◌≤◌, ℤ, List, [], length, map, slice_index_or}
use Rattle.num_order.specs.declared.order.Order.{Order}
use Rattle.field_map.specs.declared.place.Place.{Place}
use Rattle.field_map.specs.Pairs.{Pairs}
use Rattle.frame_cut.specs.declared.file_head.Head.{Head}
use Rattle.frame_cut.specs.Parts.{with_each}
use Rattle.frame_cut.specs.Splice.{splice}
use Rattle.frame_cut.specs.Traces.{trace_at}
use Rattle.frame_cut.specs.Volume.{Volume}
use Rattle.trace_view.specs.Values.{value_at}
use Rattle.key_counts.specs.Coordinates.{under_scalar}
use Rattle.key_counts.specs.declared.ratio.Ratio.{Ratio}
use Rattle.trace_record.specs.Facts.{facts_of, with_samples_of}
use Rattle.trace_record.specs.OfTrace.{record_of}
use Rattle.trace_record.specs.Packed.{record_in}
use Rattle.trace_record.specs.declared.packed_record.PackedRecord.{PackedRecord}
use Rattle.trace_record.specs.declared.record.Record.{Record}
use Rattle.edit_overlay.specs.CountedVolume.{CountedVolume}
use Rattle.volume_records.specs.OfVolume.{records_of}

-- whatever trace has the bytes laid over it from place `at` on, it has the number at the place then
abbrev pub IsNumberLaid : Order → Place → ℕ → List ℕ → ℤ → Type 0
IsNumberLaid order place at bytes new =
    (h : Head) (t : List ℕ) → h.order ≡ order → at + length bytes ≤ length t
    → new ≡ value_at h (splice t at (length bytes) bytes) place

-- the same, of a trace that had a known number there
abbrev pub IsNumberAfter : Order → Place → ℕ → List ℕ → ℤ → ℤ → Type 0
IsNumberAfter order place at bytes known new =
    (h : Head) (t : List ℕ) → h.order ≡ order → at + length bytes ≤ length t → known ≡ value_at h t place
    → new ≡ value_at h (splice t at (length bytes) bytes) place

-- the same of a coordinate under a scalar that stays
abbrev pub IsCoordinateAfter : Order → Place → ℕ → List ℕ → ℤ → Ratio → Ratio → Type 0
IsCoordinateAfter order place at bytes scalar known new =
    (h : Head) (t : List ℕ) → h.order ≡ order → at + length bytes ≤ length t → known ≡ under_scalar (value_at h t place) scalar
    → new ≡ under_scalar (value_at h (splice t at (length bytes) bytes) place) scalar

-- whatever trace had the known record, it has the new one with the bytes laid over it from place `at` on, but for its samples, which are
-- the known record's
abbrev pub IsRecordAfter : Order → Pairs → ℕ → List ℕ → Record → Record → Type 0
IsRecordAfter order fields at bytes known new =
    (h : Head) (t : List ℕ) → h.order ≡ order → at + length bytes ≤ length t → facts_of known ≡ record_of h fields t
    → facts_of new ≡ with_samples_of (record_of h fields (splice t at (length bytes) bytes)) (facts_of known)

-- the record has the statistics of the trace's samples
abbrev pub HasSamplesOf : Head → Pairs → List ℕ → Record → Type 0
HasSamplesOf h fields t r = with_samples_of (record_of h fields t) (facts_of r) ≡ record_of h fields t

-- trace p, which has the known record, gets the bytes laid over it from place `at` on
pub record IsLaid (v prepared : Volume) (fields : Pairs) (p at : ℕ) (bytes : List ℕ) (known_record : Record) : Type 0 where
  pub head : prepared.head ≡ v.head
  pub inside : at + length bytes ≤ length (trace_at v p)
  pub laid : trace_at prepared p ≡ splice (trace_at v p) at (length bytes) bytes
  pub known : facts_of known_record ≡ record_of v.head fields (trace_at v p)

-- so many traces from trace a on get the bytes laid over them, `size` of them over each, and the records beside the traces are theirs
pub record AreLaid (o : CountedVolume PackedRecord) (fields : Pairs) (a count at size : ℕ) (bytes : List ℕ) : Type 0 where
  pub prepared : o.prepared ≡ with_each o.volume a at size bytes
  pub inside : (k : ℕ) → k < count → at + size ≤ length (slice_index_or o.volume.traces (a - 1 + k) [])
  pub records : map facts_of (map record_in o.payloads) ≡ records_of o.volume fields
