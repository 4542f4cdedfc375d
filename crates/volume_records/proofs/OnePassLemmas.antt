-- The records of a file that is passed.
use Rattle.std.proofs.Common.{◌≡◌, ℕ, ◌+◌, List, [], ◌∷◌, ◌++◌, length, take, sym, ap, ap₂, ◌∙◌, arith}
use Rattle.std.specs.Prelude.{map}
use Rattle.std.proofs.lemmas.Bool.Decides.{nat_tests}
use Rattle.std.proofs.lemmas.List.{map-append, take-take}
use Rattle.field_map.specs.Pairs.{Pairs}
use Rattle.frame_cut.specs.declared.file_head.Head.{Head}
use Rattle.frame_cut.specs.Volume.{Volume}
use Rattle.trace_record.specs.Facts.{Facts, facts_of}
use Rattle.trace_record.specs.OfTrace.{record_of}
use Rattle.trace_record.specs.Packed.{record_in}
use Rattle.trace_record.specs.declared.packed_record.PackedRecord.{PackedRecord}
use Rattle.trace_record.specs.declared.record.Record.{Record}
use Rattle.trace_store.proofs.GrownLemmas.{no_fewer}
use Rattle.edit_overlay.specs.CountedVolume.{one_more, RisesAtMost}
use Rattle.volume_loading.specs.PassedFile.{PassedFile, with_passed, HasReadOn}
use Rattle.volume_records.specs.OfPass.{HasRecords}
use Rattle.volume_records.specs.OfVolume.{records_of}

-- ---- the traces and their records

-- one trace more, with its record
pub record_passed : (fields : Pairs) (p : PassedFile PackedRecord) (packed : PackedRecord) (r : Record) → HasRecords fields p → record_in packed ≡ r → facts_of r ≡ record_of p.head fields p.shown → HasRecords fields (with_passed p packed)
record_passed fields p packed r has packs is =
    let f = record_of p.head fields in
    ap (map facts_of) (map-append record_in p.payloads (packed ∷ []))
    ∙ map-append facts_of (map record_in p.payloads) (record_in packed ∷ [])
    ∙ ap₂ (λ (fs : List Facts) (x : Facts). fs ++ x ∷ []) has (ap facts_of packs ∙ is)
    ∙ sym (map-append f p.traces (p.shown ∷ []))

-- all of them are those of the volume
pub records_passed : (fields : Pairs) (p : PassedFile PackedRecord) (v : Volume) (ps : List PackedRecord) → HasRecords fields p → v.head ≡ p.head → v.traces ≡ p.traces → ps ≡ p.payloads → map facts_of (map record_in ps) ≡ records_of v fields
records_passed fields p v ps has head traces payloads =
    ap (λ (xs : List PackedRecord). map facts_of (map record_in xs)) payloads
    ∙ has
    ∙ ap₂ (λ (h : Head) (ts : List (List ℕ)). map (record_of h fields) ts) (sym head) (sym traces)

-- ---- looks

-- one look more at the next trace, so that there is one at most for each
pub looks_rise : (first old new count : ℕ) → RisesAtMost first old count → new ≡ one_more old → RisesAtMost first new (count + 1)
looks_rise first old new count looks is = (grind (arith, nat_tests, looks.0), grind (arith, nat_tests, looks.1))

-- ---- the bytes that were read

-- read on, and on again
pub read_on_again : (old now new : List ℕ) → HasReadOn old now → HasReadOn now new → HasReadOn old new
read_on_again old now new on again = sym (take-take (length old) (length now) new (no_fewer old now on)) ∙ (ap (take (length old)) again ∙ on)
