-- The records of a volume after an edit: each edit of the traces is one of the records too.
use Rattle.std.proofs.Common.{◌≡◌, ℕ, ◌-◌, ◌≤◌, List, sym, ap, ap₂, ◌∙◌}
use Rattle.std.specs.Prelude.{map, slice_set}
use Rattle.std.specs.List.{insert, remove}
use Rattle.std.proofs.lemmas.List.{map-set}
use Rattle.trace_store.specs.Moved.{put_back, with_moved as records_moved}
use Rattle.field_map.specs.Pairs.{Pairs}
use Rattle.frame_cut.specs.Parts.{with_inserted, without, with_moved}
use Rattle.frame_cut.specs.Traces.{count_of, trace_at, with_trace}
use Rattle.frame_cut.specs.Volume.{Volume}
use Rattle.trace_record.specs.Facts.{Facts, facts_of}
use Rattle.trace_record.specs.OfTrace.{record_of}
use Rattle.trace_record.specs.declared.record.Record.{Record}
use Rattle.volume_records.specs.OfVolume.{records_of}
use Rattle.record_table.proofs.ListLemmas.{map-insert, map-remove}
use Rattle.volume_records.proofs.RecordLemmas.{has_record}

-- with another trace p
pub records-with_trace : (v : Volume) (fields : Pairs) (rs : List Record) (p : ℕ) (t : List ℕ) (r : Record) → map facts_of rs ≡ records_of v fields → facts_of r ≡ record_of v.head fields t
    → map facts_of (slice_set rs (p - 1) r) ≡ records_of (with_trace v p t) fields
records-with_trace v fields rs p t r e is =
    map-set facts_of rs (p - 1) r
    ∙ ap₂ (λ (fs : List Facts) (f : Facts). slice_set fs (p - 1) f) e is
    ∙ sym (map-set (record_of v.head fields) v.traces (p - 1) t)

-- with a trace more, in front of trace p or behind the last
pub records-with_inserted : (v : Volume) (fields : Pairs) (rs : List Record) (p : ℕ) (t : List ℕ) (r : Record) → map facts_of rs ≡ records_of v fields → facts_of r ≡ record_of v.head fields t
    → map facts_of (insert rs (p - 1) r) ≡ records_of (with_inserted v p t) fields
records-with_inserted v fields rs p t r e is =
    map-insert facts_of rs (p - 1) r
    ∙ ap₂ (λ (fs : List Facts) (f : Facts). insert fs (p - 1) f) e is
    ∙ sym (map-insert (record_of v.head fields) v.traces (p - 1) t)

-- without trace p
pub records-without : (v : Volume) (fields : Pairs) (rs : List Record) (p : ℕ) → map facts_of rs ≡ records_of v fields → map facts_of (remove rs (p - 1)) ≡ records_of (without v p) fields
records-without v fields rs p e =
    map-remove facts_of rs (p - 1)
    ∙ ap (λ (fs : List Facts). remove fs (p - 1)) e
    ∙ sym (map-remove (record_of v.head fields) v.traces (p - 1))

-- with trace a taken out, and put in again as trace b
pub records-with_moved : (v : Volume) (fields : Pairs) (rs : List Record) (a b : ℕ) → 1 ≤ a → a ≤ count_of v → map facts_of rs ≡ records_of v fields
    → map facts_of (records_moved rs (a - 1) (b - 1)) ≡ records_of (with_moved v a b) fields
records-with_moved v fields rs a b first last e =
    let i = has_record v fields rs a first last e in
    ap (λ o. map facts_of (put_back o (remove rs (a - 1)) (b - 1))) i.is
    ∙ records-with_inserted (without v a) fields (remove rs (a - 1)) b (trace_at v a) i.held (records-without v fields rs a e) i.facts
