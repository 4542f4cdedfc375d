-- The records of the traces of a file that is passed.
use Rattle.std.specs.Prelude.{◌≡◌, map}
use Rattle.field_map.specs.Pairs.{Pairs}
use Rattle.trace_record.specs.Facts.{facts_of}
use Rattle.trace_record.specs.OfTrace.{record_of}
use Rattle.trace_record.specs.Packed.{record_in}
use Rattle.trace_record.specs.declared.packed_record.PackedRecord.{PackedRecord}
use Rattle.volume_loading.specs.PassedFile.{PassedFile}

-- each trace so far has its record
abbrev pub HasRecords : Pairs → PassedFile PackedRecord → Type 0
HasRecords fields p = map facts_of (map record_in p.payloads) ≡ map (record_of p.head fields) p.traces

-- the same file, read in the same way and within the same limits
pub record IsSameFile (old new : PassedFile PackedRecord) : Type 0 where
  pub head : new.head ≡ old.head
  pub reading : new.reading ≡ old.reading
  pub limits : new.limits ≡ old.limits
  pub size : new.size ≡ old.size
