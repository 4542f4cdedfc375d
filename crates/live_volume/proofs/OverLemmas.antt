-- The same bytes laid over many traces, over each at a place of its own: the records that then stand beside the traces, and what a bench holds.
use Rattle.std.proofs.Common.{◌≡◌, ◌∙◌, ℕ, zero, suc, ◌+◌, ◌-◌, ◌<◌, ◌≤◌, ◌^◌, ◌++◌, List, [], ◌∷◌, length, map, take, drop, get_or, refl, sym, ap, ap₂, subst, arith}
use Rattle.std.specs.Prelude.{slice_set, Bool, IsTrue, Result, Ok, Err, IfErr, OnOk}
use Rattle.std.proofs.lemmas.List.{append-nil, drop-map, length-map, set-get_or, take-append-drop, take-map}
use Rattle.field_map.specs.Pairs.{Pairs}
use Rattle.frame_cut.specs.Cuts.{IsCut}
use Rattle.frame_cut.specs.Traces.{count_of, trace_at}
use Rattle.frame_cut.specs.Volume.{Volume, bytes_of}
use Rattle.frame_cut.proofs.EditLemmas.{length-splice}
use Rattle.trace_record.specs.Facts.{Facts, facts_of}
use Rattle.trace_record.specs.OfTrace.{record_of}
use Rattle.trace_record.specs.Packed.{record_in}
use Rattle.trace_record.specs.declared.packed_record.PackedRecord.{PackedRecord}
use Rattle.trace_record.specs.declared.record.Record.{Record}
use Rattle.trace_store.specs.Each.{put_over}
use Rattle.edit_overlay.specs.CountedVolume.{CountedVolume, with_over, with_prepared, IsSeen}
use Rattle.edit_overlay.specs.Reads.{Reads, Follow, HaveAgreed}
use Rattle.live_reports.specs.declared.live_reports.LiveReports.{LiveReports}
use Rattle.live_reports.specs.Exchanged.{with_records}
use Rattle.live_reports.specs.OfRecords.{AreReportsOf}
use Rattle.live_reports.specs.Reports.{AreFew}
use Rattle.volume_records.specs.OfVolume.{records_of}
use Rattle.volume_records.proofs.EachLemmas.{map-with_records, part-again}
use Rattle.bench_rules.specs.declared.refusal.Refusal.{Refusal}
use Rattle.bench_rules.specs.State.{State}
use Rattle.live_volume.specs.Held.{records_in, with_volume, AreMeasured, HasFrame, IsHeld}
use Rattle.live_volume.specs.Refusals.{IsOfMachine}
use Rattle.live_volume.specs.declared.live_volume.LiveVolume.TheInside.{Inside}
use Rattle.live_volume.proofs.EditLemmas.{held_edited}
use Rattle.live_volume.proofs.MeasuredLemmas.{as_many, few_measured, frame_again, has_header, measured_again, measured_set}

-- ---- the traces that stay, and those that are changed

-- there are as many
pub length-put_over : (ts : List (List ℕ)) (p : ℕ) (places bytes : List ℕ) → length (put_over ts p places bytes) ≡ length ts
length-put_over [] p places bytes = refl
length-put_over (t ∷ ts) (suc p) places bytes = ap suc (length-put_over ts p places bytes)
length-put_over (t ∷ ts) zero [] bytes = refl
length-put_over (t ∷ ts) zero (at ∷ places) bytes = ap suc (length-put_over ts zero places bytes)

-- bytes laid over traces leave as many of them
pub over_either : {T : Type 0} (r : Result T Refusal) (on_disk : Bool) (old new : State) (a : ℕ) (places bytes : List ℕ)
    → OnOk r (new ≡ with_volume old (with_over old.volume a places bytes)) → IfErr r (λ refusal. IsOfMachine on_disk refusal × (new ≡ old)) → count_of new.volume ≡ count_of old.volume
over_either (Ok x) on_disk old new a places bytes ok err = ap (λ (s : State). count_of s.volume) ok ∙ length-put_over old.volume.traces (a - 1) places bytes
over_either (Err e) on_disk old new a places bytes ok err = ap (λ (s : State). count_of s.volume) err.1

-- those in front of the first one stay
put_over-front : (ts : List (List ℕ)) (p : ℕ) (places bytes : List ℕ) → take p (put_over ts p places bytes) ≡ take p ts
put_over-front [] p places bytes = refl
put_over-front (t ∷ ts) zero places bytes = refl
put_over-front (t ∷ ts) (suc p) places bytes = ap (λ (l : List (List ℕ)). t ∷ l) (put_over-front ts p places bytes)

-- those behind the last one stay
put_over-behind : (ts : List (List ℕ)) (p n : ℕ) (places bytes : List ℕ) → n ≡ p + length places → drop n (put_over ts p places bytes) ≡ drop n ts
put_over-behind [] p n places bytes e = refl
put_over-behind (t ∷ ts) (suc p) zero places bytes e = absurd (omega (arith, e))
put_over-behind (t ∷ ts) (suc p) (suc n) places bytes e = put_over-behind ts p n places bytes (omega (arith, e))
put_over-behind (t ∷ ts) zero n [] bytes e = refl
put_over-behind (t ∷ ts) zero zero (at ∷ places) bytes e = absurd (omega (arith, e))
put_over-behind (t ∷ ts) zero (suc n) (at ∷ places) bytes e = put_over-behind ts zero n places bytes (omega (arith, e))

-- all are as long as they were
lengths_put_over : (ts : List (List ℕ)) (p : ℕ) (places bytes : List ℕ) → ((k i : ℕ) → k < length places → i ≡ p + k → get_or places k 0 + length bytes ≤ length (get_or ts i []))
    → map (λ (t : List ℕ). length t) (put_over ts p places bytes) ≡ map (λ (t : List ℕ). length t) ts
lengths_put_over [] p places bytes inside = refl
lengths_put_over (t ∷ ts) (suc p) places bytes inside =
    ap (λ (ns : List ℕ). length t ∷ ns) (lengths_put_over ts p places bytes (λ k i less is. inside k (suc i) less (omega (arith, is))))
lengths_put_over (t ∷ ts) zero [] bytes inside = refl
lengths_put_over (t ∷ ts) zero (at ∷ places) bytes inside =
    ap₂ (λ (n : ℕ) (ns : List ℕ). n ∷ ns) (length-splice t at bytes (inside 0 0 (omega arith) (omega arith)))
    (lengths_put_over ts zero places bytes (λ k i less is. inside (suc k) (suc i) (omega (arith, less)) (omega (arith, is))))

-- ---- the records

module _ (v : Volume) (fields : Pairs) (a : ℕ) (places bytes : List ℕ) (rs new : List Record) (many : length new ≡ length places) (e : map facts_of rs ≡ records_of v fields)
    (made : map facts_of new ≡ take (length places) (drop (a - 1) (records_of (with_over v a places bytes) fields))) where
  -- the new records stand in for the old ones
  records-with_over : map facts_of (with_records rs (a - 1) new) ≡ records_of (with_over v a places bytes) fields
  records-with_over =
      let p : ℕ = a - 1 in
      let count : ℕ = length places in
      let made_of = record_of v.head fields in
      let us : List (List ℕ) = put_over v.traces p places bytes in
      let w : List Facts = map made_of us in
      let before : take p (map facts_of rs) ≡ take p w =
      ap (λ (fs : List Facts). take p fs) e ∙ take-map made_of p v.traces ∙ ap (λ (ts : List (List ℕ)). map made_of ts) (sym (put_over-front v.traces p places bytes)) ∙ sym (take-map made_of p us) in
      let after : drop (p + count) (map facts_of rs) ≡ drop (p + count) w =
      ap (λ (fs : List Facts). drop (p + count) fs) e ∙ drop-map made_of (p + count) v.traces
      ∙ ap (λ (ts : List (List ℕ)). map made_of ts) (sym (put_over-behind v.traces p (p + count) places bytes refl)) ∙ sym (drop-map made_of (p + count) us) in
      map-with_records facts_of rs p count new many
      ∙ ap₂ (λ (l m : List Facts). l ++ map facts_of new ++ m) before after
      ∙ ap (λ (l : List Facts). take p w ++ l ++ drop (p + count) w) made
      ∙ part-again w p count

-- ---- records that are measured, with new ones in the place of some

-- with none new
with_none : (rs : List Record) (p : ℕ) → with_records rs p [] ≡ rs
with_none rs p =
    let here : p + 0 ≡ p = omega arith in
    ap (λ (n : ℕ). take p rs ++ [] ++ drop n rs) here ∙ ap (λ (l : List Record). l ++ drop p rs) (append-nil (take p rs)) ∙ take-append-drop p rs

-- the first new one, and then the others
with_first : (rs new : List Record) (p : ℕ) (r : Record) → p < length rs → with_records rs p (r ∷ new) ≡ with_records (slice_set rs p r) (suc p) new
with_first [] new p r within = absurd (omega (arith, within))
with_first (q ∷ rs) new zero r within =
    let one : 0 + length (r ∷ new) ≡ suc (length new) = omega arith in
    let two : 1 + length new ≡ suc (length new) = omega arith in
    ap (λ (n : ℕ). r ∷ (new ++ drop n (q ∷ rs))) one ∙ sym (ap (λ (n : ℕ). r ∷ (new ++ drop n (r ∷ rs))) two)
with_first (q ∷ rs) new (suc p) r within =
    let one : suc p + length (r ∷ new) ≡ suc (p + length (r ∷ new)) = omega arith in
    let two : suc (suc p) + length new ≡ suc (suc p + length new) = omega arith in
    ap (λ (n : ℕ). q ∷ (take p rs ++ (r ∷ new) ++ drop n (q ∷ rs))) one
    ∙ ap (λ (l : List Record). q ∷ l) (with_first rs new p r (omega (arith, within)))
    ∙ sym (ap (λ (n : ℕ). q ∷ (take (suc p) (slice_set rs p r) ++ new ++ drop n (q ∷ slice_set rs p r))) two)

over_measured : (rs new : List Record) (ts : List (List ℕ)) (p : ℕ) → AreMeasured rs ts → p + length new ≤ length ts
    → ((k : ℕ) → k < length new → get_or (map (λ (r : Record). r.number) new) k 0 ≤ length (get_or ts (p + k) [])) → AreMeasured (with_records rs p new) ts
over_measured rs [] ts p m room few = subst (λ (qs : List Record). AreMeasured qs ts) (sym (with_none rs p)) m
over_measured rs (r ∷ new) ts p m room few =
    let t : List ℕ = get_or ts p [] in
    let there : p < length ts = omega (arith, room) in
    let place : p + 0 ≡ p = omega arith in
    let own : r.number ≤ length t = subst (λ (i : ℕ). r.number ≤ length (get_or ts i [])) place (few 0 (omega arith)) in
    let set : AreMeasured (slice_set rs p r) (slice_set ts p t) = measured_set rs ts p r t own (has_header rs ts p m there) m in
    let next : AreMeasured (slice_set rs p r) ts = subst (AreMeasured (slice_set rs p r)) (set-get_or ts p []) set in
    subst (λ (qs : List Record). AreMeasured qs ts) (sym (with_first rs new p r (omega (arith, there, as_many rs ts m))))
    (over_measured (slice_set rs p r) new ts (suc p) next (omega (arith, room))
    (λ k less. let far : p + suc k ≡ suc p + k = omega arith in subst (λ (i : ℕ). get_or (map (λ (q : Record). q.number) new) k 0 ≤ length (get_or ts i [])) far (few (suc k) (omega (arith, less)))))

-- ---- bytes laid over many traces, whose new records were read

module _ (b : Inside) (h : IsHeld b) (a count : ℕ) (places bytes : List ℕ) (mid o : CountedVolume PackedRecord) (new : List Record) (first : 1 ≤ a) (number : length places ≡ count) (last : a - 1 + length places ≤ count_of b.overlay.volume)
    (inside : (k : ℕ) → k < length places → get_or places k 0 + length bytes ≤ length (get_or b.overlay.volume.traces (a - 1 + k) [])) (ready : mid ≡ with_prepared b.overlay (with_over b.overlay.volume a places bytes)) (seen : IsSeen mid o count)
    (many : length new ≡ count) (few : (k : ℕ) → k < count → get_or (map (λ (r : Record). r.number) new) k 0 ≤ length (trace_at mid.prepared (a + k))) where
  abbrev after : Volume
  after = with_over b.overlay.volume a places bytes

  over_volume : o.volume ≡ b.overlay.volume
  over_volume = seen.volume ∙ ap (λ (x : CountedVolume PackedRecord). x.volume) ready

  pub over_prepared : o.prepared ≡ after
  over_prepared = seen.prepared ∙ ap (λ (x : CountedVolume PackedRecord). x.prepared) ready

  pub over_payloads : o.payloads ≡ b.overlay.payloads
  over_payloads = seen.payloads ∙ ap (λ (x : CountedVolume PackedRecord). x.payloads) ready

  pub over_stay : o.payloads_prepared ≡ o.payloads
  over_stay = seen.payloads_prepared ∙ ap (λ (x : CountedVolume PackedRecord). x.payloads_prepared) ready ∙ sym over_payloads

  records_many : length (records_in b) ≡ count_of b.overlay.volume
  records_many = as_many (records_in b) b.overlay.volume.traces h.measured

  pub over_last : a - 1 + length new ≤ count_of o.prepared
  over_last = omega (arith, last, many, number, ap (λ (u : Volume). count_of u) over_prepared, length-put_over b.overlay.volume.traces (a - 1) places bytes)

  pub over_held : a - 1 + length new ≤ length o.payloads
  over_held = omega (arith, last, many, number, records_many, length-map b.overlay.payloads record_in, ap (λ (ps : List PackedRecord). length ps) over_payloads)

  pub over_counted : AreReportsOf b.reports (map record_in o.payloads)
  over_counted = subst (λ (ps : List PackedRecord). AreReportsOf b.reports (map record_in ps)) (sym over_payloads) h.reports

  lengths : map (λ (t : List ℕ). length t) after.traces ≡ map (λ (t : List ℕ). length t) b.overlay.volume.traces
  lengths =
      lengths_put_over b.overlay.volume.traces (a - 1) places bytes
      (λ k i less is. subst (λ (j : ℕ). get_or places k 0 + length bytes ≤ length (get_or b.overlay.volume.traces j [])) (sym is) (inside k less))

  frame : HasFrame b.limits after
  frame = frame_again b.limits b.overlay.volume after.traces h.frame lengths

  measured : AreMeasured (with_records (records_in b) (a - 1) new) after.traces
  measured =
      over_measured (records_in b) new after.traces (a - 1) (measured_again (records_in b) (records_in b) b.overlay.volume.traces after.traces refl lengths h.measured)
      (omega (arith, last, many, number, length-put_over b.overlay.volume.traces (a - 1) places bytes))
      (λ k less.
      let place : a + k - 1 ≡ a - 1 + k = omega (arith, first) in
      let own : get_or (map (λ (r : Record). r.number) new) k 0 ≤ length (trace_at after (a + k)) =
      subst (λ (x : CountedVolume PackedRecord). get_or (map (λ (r : Record). r.number) new) k 0 ≤ length (trace_at x.prepared (a + k))) ready (few k (omega (arith, less, many))) in
      subst (λ (i : ℕ). get_or (map (λ (r : Record). r.number) new) k 0 ≤ length (get_or after.traces i [])) place own)

  pub over_few : b.limits.traces < 2 ^ 32 → AreFew (with_records (map record_in o.payloads) (a - 1) new)
  over_few counted =
      subst (λ (ps : List PackedRecord). AreFew (with_records (map record_in ps) (a - 1) new)) (sym over_payloads) (few_measured b.limits after (with_records (records_in b) (a - 1) new) frame counted measured)

  -- the edit is done
  pub over_done : (e : CountedVolume PackedRecord) (reports : LiveReports) → e.volume ≡ o.prepared → e.prepared ≡ e.volume → map record_in e.payloads ≡ with_records (map record_in o.payloads) (a - 1) new → e.reads ≡ o.reads
      → (HaveAgreed b.overlay.reads → IsCut (bytes_of after) b.reading b.limits after) → (HaveAgreed o.reads → map facts_of new ≡ take count (drop (a - 1) (records_of mid.prepared b.fields.pairs))) → AreReportsOf reports (map record_in e.payloads)
      → IsHeld (record b { overlay = e; reports = reports })
  over_done e reports is prepared records same cut facts counted =
      let put : map record_in e.payloads ≡ with_records (records_in b) (a - 1) new = records ∙ ap (λ (ps : List PackedRecord). with_records (map record_in ps) (a - 1) new) over_payloads in
      let before : Follow b.overlay.reads o.reads = subst (λ (r : Reads). Follow r o.reads) (ap (λ (x : CountedVolume PackedRecord). x.reads) ready) seen.reads in
      let made : HaveAgreed o.reads → map facts_of new ≡ take (length places) (drop (a - 1) (records_of after b.fields.pairs)) =
      λ sure. facts sure ∙ ap (λ (x : CountedVolume PackedRecord). take count (drop (a - 1) (records_of x.prepared b.fields.pairs))) ready ∙ ap (λ (n : ℕ). take n (drop (a - 1) (records_of after b.fields.pairs))) (sym number) in
      held_edited b e reports after (with_records (records_in b) (a - 1) new) h (is ∙ over_prepared) prepared put refl frame measured (λ sure. cut (before.agreed (subst HaveAgreed same sure)))
      (λ sure.
      let read : HaveAgreed o.reads = subst HaveAgreed same sure in
      records-with_over b.overlay.volume b.fields.pairs a places bytes (records_in b) new (many ∙ sym number) (h.records (before.agreed read)) (made read))
      (subst (λ (l : List Record). AreReportsOf reports l) put counted)
