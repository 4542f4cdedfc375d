-- The record at a position of a volume.
use Rattle.std.proofs.Common.{◌≡◌, ℕ, ◌-◌, ◌<◌, ◌≤◌, List, [], length, Option, Some, sym, ap, ◌∙◌, arith}
use Rattle.std.specs.Prelude.{map, slice_get, option_map}
use Rattle.std.proofs.lemmas.List.{length-map}
use Rattle.std.proofs.lemmas.Option.{slice_get-map, slice_get-get_or}
use Rattle.field_map.specs.Pairs.{Pairs}
use Rattle.frame_cut.specs.Traces.{count_of, trace_at}
use Rattle.frame_cut.specs.Volume.{Volume}
use Rattle.trace_record.specs.Facts.{Facts, facts_of}
use Rattle.trace_record.specs.OfTrace.{record_of}
use Rattle.trace_record.specs.Packed.{record_in}
use Rattle.trace_record.specs.declared.packed_record.PackedRecord.{PackedRecord}
use Rattle.trace_record.specs.declared.record.Record.{Record}
use Rattle.live_reports.proofs.ListLemmas.{item_at}
use Rattle.volume_records.specs.OfVolume.{records_of}

-- there are as many records as traces
pub length-records : (v : Volume) (fields : Pairs) (rs : List Record) → map facts_of rs ≡ records_of v fields → length rs ≡ count_of v
length-records v fields rs e = sym (length-map rs facts_of) ∙ ap (λ (fs : List Facts). length fs) e ∙ length-map v.traces (record_of v.head fields)

some_is : (f g : Facts) → let a : Option Facts = Some f in let b : Option Facts = Some g in a ≡ b → f ≡ g
some_is f g e = cc

-- the record at a position holds the facts of the trace there
pub record_at : (v : Volume) (fields : Pairs) (rs : List Record) (p : ℕ) (r : Record) → 1 ≤ p → p ≤ count_of v → map facts_of rs ≡ records_of v fields → slice_get rs (p - 1) ≡ Some r
    → facts_of r ≡ record_of v.head fields (trace_at v p)
record_at v fields rs p r first last e is =
    let there : p - 1 < length v.traces = omega arith in
    some_is (facts_of r) (record_of v.head fields (trace_at v p))
    (sym (slice_get-map facts_of rs (p - 1) ∙ ap (option_map facts_of) is)
    ∙ ap (λ (fs : List Facts). slice_get fs (p - 1)) e
    ∙ slice_get-map (record_of v.head fields) v.traces (p - 1)
    ∙ ap (option_map (record_of v.head fields)) (slice_get-get_or v.traces (p - 1) [] there))

-- there is a record at the position, which holds the facts of the trace there
pub record HasRecord (v : Volume) (fields : Pairs) (rs : List Record) (p : ℕ) : Type 0 where
  pub held : Record
  pub is : slice_get rs (p - 1) ≡ Some held
  pub facts : facts_of held ≡ record_of v.head fields (trace_at v p)

-- each trace has a record
pub has_record : (v : Volume) (fields : Pairs) (rs : List Record) (p : ℕ) → 1 ≤ p → p ≤ count_of v → map facts_of rs ≡ records_of v fields → HasRecord v fields rs p
has_record v fields rs p first last e =
    let there : p - 1 < length rs = omega (arith, length-records v fields rs e) in
    let i = item_at rs (p - 1) there in
    record { held = i.item; is = i.is; facts = record_at v fields rs p i.item first last e i.is }

-- the record that stands beside a trace as its payload
pub record_beside : (ps qs : List PackedRecord) (i j : ℕ) (packed : PackedRecord) (r : Record) → qs ≡ ps → j ≡ i → slice_get qs j ≡ Some packed → r ≡ record_in packed → slice_get (map record_in ps) i ≡ Some r
record_beside ps qs i j packed r same place found is =
    let here : slice_get ps i ≡ Some packed = ap (λ (xs : List PackedRecord). slice_get xs i) (sym same) ∙ (ap (λ (k : ℕ). slice_get qs k) (sym place) ∙ found) in
    slice_get-map record_in ps i ∙ (ap (option_map record_in) here ∙ ap (λ (x : Record). let o : Option Record = Some x in o) (sym is))
