-- What a bench holds once its volume, its records and its reports are edited together.
use Rattle.std.proofs.Common.{◌≡◌, ◌∙◌, ℕ, ◌+◌, ◌*◌, ◌-◌, ◌/◌, ◌%◌, ◌<◌, ◌≤◌, ◌^◌, ◌++◌, List, [], length, map, take, drop, get_or, refl, sym, ap, subst, arith}
use Rattle.std.specs.Prelude.{slice_set, IfSome, Option}
use Rattle.std.proofs.Math.Nat.{mod-eq-sub-div-mul, div-mul-le_self}
use Rattle.std.proofs.lemmas.List.{length-map, map-append, drop-map, take-map, drop-drop, take-append-drop, append_assoc}
use Rattle.frame_cut.specs.declared.file_head.Head.{Head}
use Rattle.frame_cut.specs.Cuts.{IsCut}
use Rattle.frame_cut.specs.Parts.{with_each}
use Rattle.frame_cut.specs.Splice.{splice}
use Rattle.frame_cut.specs.Traces.{count_of, trace_at, with_trace}
use Rattle.frame_cut.specs.Volume.{Volume, bytes_of}
use Rattle.frame_cut.proofs.EditLemmas.{length-splice}
use Rattle.trace_record.specs.Facts.{facts_of}
use Rattle.trace_record.specs.OfTrace.{record_of}
use Rattle.trace_record.specs.Packed.{record_in}
use Rattle.trace_record.specs.declared.packed_record.PackedRecord.{PackedRecord}
use Rattle.trace_record.specs.declared.record.Record.{Record}
use Rattle.edit_overlay.specs.CountedVolume.{CountedVolume, with_prepared, IsSeen}
use Rattle.edit_overlay.specs.Loaded.{Loaded}
use Rattle.edit_overlay.specs.Reads.{Follow, HaveAgreed}
use Rattle.live_reports.specs.declared.live_reports.LiveReports.{LiveReports}
use Rattle.live_reports.specs.Exchanged.{with_records}
use Rattle.live_reports.specs.OfRecords.{AreReportsOf}
use Rattle.live_reports.specs.Reports.{AreFew}
use Rattle.volume_records.specs.Laid.{AreLaid, IsLaid}
use Rattle.volume_records.specs.OfVolume.{records_of}
use Rattle.volume_records.proofs.EachLemmas.{length-put_each}
use Rattle.volume_records.proofs.EditLemmas.{records-with_trace}
use Rattle.volume_records.proofs.LaidLemmas.{if_some}
use Rattle.bench_rules.specs.State.{State}
use Rattle.live_volume.specs.Held.{state_of, records_in, with_volume, AreMeasured, HasFrame, IsHeld}
use Rattle.live_volume.specs.declared.live_volume.LiveVolume.TheInside.{Inside}
use Rattle.live_volume.proofs.HeldLemmas.{trace_again}
use Rattle.live_volume.proofs.MeasuredLemmas.{as_many, few_measured, frame_again, has_header, lengths_put, lengths_put_each, measured_again, measured_set}

-- an edit is done
pub held_edited : (b : Inside) (e : CountedVolume PackedRecord) (reports : LiveReports) (w : Volume) (qs : List Record) → IsHeld b → e.volume ≡ w → e.prepared ≡ e.volume → map record_in e.payloads ≡ qs → w.head ≡ b.overlay.volume.head
    → HasFrame b.limits w → AreMeasured qs w.traces → (HaveAgreed e.reads → IsCut (bytes_of w) b.reading b.limits w) → (HaveAgreed e.reads → map facts_of qs ≡ records_of w b.fields.pairs) → AreReportsOf reports qs
    → IsHeld (record b { overlay = e; reports = reports })
held_edited b e reports w qs h is prepared records head frame measured cut facts counted = record {
  cut = λ sure. subst (λ (u : Volume). IsCut (bytes_of u) b.reading b.limits u) (sym is) (cut sure);
  frame = subst (HasFrame b.limits) (sym is) frame;
  prepared = prepared;
  extensions = h.extensions ∙ ap (λ (g : Head). g.extensions) (sym head) ∙ ap (λ (u : Volume). u.head.extensions) (sym is);
  records = λ sure. ap (map facts_of) records ∙ facts sure ∙ ap (λ (u : Volume). records_of u b.fields.pairs) (sym is);
  measured = subst (λ (rs : List Record). AreMeasured rs e.volume.traces) (sym records) (subst (λ (u : Volume). AreMeasured qs u.traces) (sym is) measured);
  reports = subst (λ (rs : List Record). AreReportsOf reports rs) (sym records) counted;
}

-- an edit is refused
pub held_unedited : (b : Inside) (e : CountedVolume PackedRecord) (reports : LiveReports) → IsHeld b → e.volume ≡ b.overlay.volume → e.prepared ≡ e.volume → e.payloads ≡ b.overlay.payloads → Follow b.overlay.reads e.reads
    → AreReportsOf reports (records_in b) → IsHeld (record b { overlay = e; reports = reports })
held_unedited b e reports h is prepared payloads fell counted =
    held_edited b e reports b.overlay.volume (records_in b) h is prepared (ap (λ (ps : List PackedRecord). map record_in ps) payloads) refl h.frame h.measured (λ sure. h.cut (fell.agreed sure)) (λ sure. h.records (fell.agreed sure)) counted

-- the state behind an overlay
pub state_with : (b : Inside) (e : CountedVolume PackedRecord) (w : Volume) → e.volume ≡ w → e.loaded ≡ b.overlay.loaded → state_of (record b { overlay = e }) ≡ with_volume (state_of b) w
state_with b e w is loaded =
    ap (λ (u : Volume). let s : State = record (state_of b) { volume = u; on_disk = e.loaded.on_disk } in s) is
    ∙ ap (λ (l : Loaded). let s : State = record (state_of b) { volume = w; on_disk = l.on_disk } in s) loaded

-- ---- bytes laid over trace p, whose new record was made in one look at most

-- the record that the trace had is known, and the bytes are laid over that trace
pub put_laid : (b : Inside) (p at : ℕ) (bytes : List ℕ) (mid : CountedVolume PackedRecord) (known : Option Record) → 1 ≤ p → p ≤ count_of b.overlay.volume → at + length bytes ≤ length (trace_at b.overlay.volume p)
    → mid ≡ with_prepared b.overlay (with_trace b.overlay.volume p (splice (trace_at b.overlay.volume p) at (length bytes) bytes))
    → IfSome known (λ r. facts_of r ≡ record_of b.overlay.volume.head b.fields.pairs (trace_at b.overlay.volume p)) → IfSome known (IsLaid mid.volume mid.prepared b.fields.pairs p at bytes)
put_laid b p at bytes mid known first last inside ready is =
    let v : Volume = b.overlay.volume in
    let t : List ℕ = splice (trace_at v p) at (length bytes) bytes in
    let laid : IfSome known (IsLaid v (with_trace v p t) b.fields.pairs p at bytes) =
    if_some known is (λ r e. record { head = refl; inside = inside; laid = trace_again v p t first last; known = e }) in
    subst (λ (o : CountedVolume PackedRecord). IfSome known (IsLaid o.volume o.prepared b.fields.pairs p at bytes)) (sym ready) laid

module _ (b : Inside) (h : IsHeld b) (p at : ℕ) (bytes : List ℕ) (mid o : CountedVolume PackedRecord) (first : 1 ≤ p) (last : p ≤ count_of b.overlay.volume) (inside : at + length bytes ≤ length (trace_at b.overlay.volume p))
    (ready : mid ≡ with_prepared b.overlay (with_trace b.overlay.volume p (splice (trace_at b.overlay.volume p) at (length bytes) bytes))) (seen : IsSeen mid o 1) where
  abbrev laid : List ℕ
  laid = splice (trace_at b.overlay.volume p) at (length bytes) bytes

  abbrev behind : Volume
  behind = with_trace b.overlay.volume p laid

  pub put_volume : o.volume ≡ b.overlay.volume
  put_volume = seen.volume ∙ ap (λ (x : CountedVolume PackedRecord). x.volume) ready

  pub put_prepared : o.prepared ≡ behind
  put_prepared = seen.prepared ∙ ap (λ (x : CountedVolume PackedRecord). x.prepared) ready

  pub put_payloads : o.payloads ≡ b.overlay.payloads
  put_payloads = seen.payloads ∙ ap (λ (x : CountedVolume PackedRecord). x.payloads) ready

  pub put_stay : o.payloads_prepared ≡ o.payloads
  put_stay = seen.payloads_prepared ∙ ap (λ (x : CountedVolume PackedRecord). x.payloads_prepared) ready ∙ sym put_payloads

  pub put_loaded : o.loaded ≡ b.overlay.loaded
  put_loaded = seen.loaded ∙ ap (λ (x : CountedVolume PackedRecord). x.loaded) ready

  pub put_last : p ≤ count_of o.volume
  put_last = omega (arith, last, ap (λ (u : Volume). count_of u) put_volume)

  pub put_held : p ≤ length o.payloads
  put_held = omega (arith, last, as_many (records_in b) b.overlay.volume.traces h.measured, length-map b.overlay.payloads record_in, ap (λ (ps : List PackedRecord). length ps) put_payloads)

  pub put_counted : AreReportsOf b.reports (map record_in o.payloads)
  put_counted = subst (λ (ps : List PackedRecord). AreReportsOf b.reports (map record_in ps)) (sym put_payloads) h.reports

  lengths : map (λ (t : List ℕ). length t) behind.traces ≡ map (λ (t : List ℕ). length t) b.overlay.volume.traces
  lengths = lengths_put b.overlay.volume.traces (p - 1) at bytes inside

  pub put_long : length laid ≡ length (trace_at b.overlay.volume p)
  put_long = length-splice (trace_at b.overlay.volume p) at bytes inside

  pub put_frame : HasFrame b.limits behind
  put_frame = frame_again b.limits b.overlay.volume behind.traces h.frame lengths

  pub put_measured : (r : Record) → r.number ≤ length (trace_at behind p) → AreMeasured (slice_set (records_in b) (p - 1) r) behind.traces
  put_measured r few =
      let same : trace_at behind p ≡ laid = trace_again b.overlay.volume p laid first last in
      let header : 240 ≤ length (trace_at b.overlay.volume p) = has_header (records_in b) b.overlay.volume.traces (p - 1) h.measured (omega (arith, first, last)) in
      measured_set (records_in b) b.overlay.volume.traces (p - 1) r laid (omega (arith, few, ap (λ (t : List ℕ). length t) same)) (omega (arith, header, put_long)) h.measured

  pub put_few : (r : Record) → b.limits.traces < 2 ^ 32 → r.number ≤ length (trace_at o.prepared p) → AreFew (slice_set (map record_in o.payloads) (p - 1) r)
  put_few r counted few =
      let small : r.number ≤ length (trace_at behind p) = subst (λ (u : Volume). r.number ≤ length (trace_at u p)) put_prepared few in
      subst (λ (ps : List PackedRecord). AreFew (slice_set (map record_in ps) (p - 1) r)) (sym put_payloads) (few_measured b.limits behind (slice_set (records_in b) (p - 1) r) put_frame counted (put_measured r small))

  -- the edit is done
  pub put_done : (e : CountedVolume PackedRecord) (reports : LiveReports) (r : Record) → e.volume ≡ o.prepared → e.prepared ≡ e.volume → map record_in e.payloads ≡ slice_set (map record_in o.payloads) (p - 1) r → e.reads ≡ o.reads
      → Follow b.overlay.reads o.reads → (HaveAgreed b.overlay.reads → IsCut (bytes_of behind) b.reading b.limits behind) → (HaveAgreed o.reads → facts_of r ≡ record_of o.prepared.head b.fields.pairs (trace_at o.prepared p))
      → r.number ≤ length (trace_at o.prepared p) → AreReportsOf reports (map record_in e.payloads) → IsHeld (record b { overlay = e; reports = reports })
  put_done e reports r is prepared records same fell cut facts few counted =
      let rs : List Record = records_in b in
      let put : map record_in e.payloads ≡ slice_set rs (p - 1) r = records ∙ ap (λ (ps : List PackedRecord). slice_set (map record_in ps) (p - 1) r) put_payloads in
      let small : r.number ≤ length (trace_at behind p) = subst (λ (u : Volume). r.number ≤ length (trace_at u p)) put_prepared few in
      held_edited b e reports behind (slice_set rs (p - 1) r) h (is ∙ put_prepared) prepared put refl put_frame (put_measured r small) (λ sure. cut (fell.agreed (subst HaveAgreed same sure)))
      (λ sure.
      let before : HaveAgreed o.reads = subst HaveAgreed same sure in
      let own : facts_of r ≡ record_of b.overlay.volume.head b.fields.pairs laid =
      facts before ∙ ap (λ (u : Volume). record_of u.head b.fields.pairs (trace_at u p)) put_prepared ∙ ap (record_of b.overlay.volume.head b.fields.pairs) (trace_again b.overlay.volume p laid first last) in
      records-with_trace b.overlay.volume b.fields.pairs rs p laid r (h.records (fell.agreed before)) own)
      (subst (λ (l : List Record). AreReportsOf reports l) put counted)

-- ---- bytes laid over many traces, whose new records were read

-- the records beside the traces are theirs, and the bytes are laid over those traces
pub each_laid : (b : Inside) (a count at size : ℕ) (bytes : List ℕ) (mid : CountedVolume PackedRecord) → length bytes / size ≡ count
    → ((k : ℕ) → k < length bytes / size → at + size ≤ length (get_or b.overlay.volume.traces (a - 1 + k) [])) → mid ≡ with_prepared b.overlay (with_each b.overlay.volume a at size bytes)
    → map facts_of (records_in b) ≡ records_of b.overlay.volume b.fields.pairs → AreLaid mid b.fields.pairs a count at size bytes
each_laid b a count at size bytes mid number inside ready records =
    subst (λ (o : CountedVolume PackedRecord). AreLaid o b.fields.pairs a count at size bytes) (sym ready)
    (record { prepared = refl; inside = λ k less. inside k (omega (arith, less, number)); records = records })

-- records that stand in for others of the same numbers of samples leave the numbers
numbers_stay : (rs new : List Record) (p n : ℕ) → length new ≡ n → map (λ (r : Record). r.number) new ≡ take n (drop p (map (λ (r : Record). r.number) rs)) → map (λ (r : Record). r.number) (with_records rs p new) ≡ map (λ (r : Record). r.number) rs
numbers_stay rs new p n many e =
    let number : Record → ℕ = λ r. r.number in
    let ns : List ℕ = map number rs in
    map-append number (take p rs ++ new) (drop (p + length new) rs)
    ∙ ap (λ (l : List ℕ). l ++ map number (drop (p + length new) rs)) (map-append number (take p rs) new)
    ∙ ap (λ (l : List ℕ). l ++ map number new ++ map number (drop (p + length new) rs)) (sym (take-map number p rs))
    ∙ ap (λ (l : List ℕ). take p ns ++ map number new ++ l) (sym (drop-map number (p + length new) rs))
    ∙ ap (λ (k : ℕ). take p ns ++ map number new ++ drop (p + k) ns) many
    ∙ ap (λ (l : List ℕ). take p ns ++ l ++ drop (p + n) ns) e
    ∙ append_assoc (take p ns) (take n (drop p ns)) (drop (p + n) ns)
    ∙ ap (λ (l : List ℕ). take p ns ++ (take n (drop p ns) ++ l)) (sym (drop-drop n p ns))
    ∙ ap (λ (l : List ℕ). take p ns ++ l) (take-append-drop n (drop p ns))
    ∙ take-append-drop p ns

module _ (b : Inside) (h : IsHeld b) (a count at size : ℕ) (bytes : List ℕ) (mid o : CountedVolume PackedRecord) (new : List Record) (first : 1 ≤ a) (some : 0 < size) (exact : length bytes % size ≡ 0) (number : length bytes / size ≡ count)
    (last : a - 1 + count ≤ count_of b.overlay.volume) (inside : (k : ℕ) → k < length bytes / size → at + size ≤ length (get_or b.overlay.volume.traces (a - 1 + k) []))
    (ready : mid ≡ with_prepared b.overlay (with_each b.overlay.volume a at size bytes)) (seen : IsSeen mid o count) (many : length new ≡ count)
    (numbers : map (λ (r : Record). r.number) new ≡ take count (drop (a - 1) (map (λ (r : Record). r.number) (map record_in mid.payloads)))) where
  abbrev after : Volume
  after = with_each b.overlay.volume a at size bytes

  pub each_volume : o.volume ≡ b.overlay.volume
  each_volume = seen.volume ∙ ap (λ (x : CountedVolume PackedRecord). x.volume) ready

  pub each_prepared : o.prepared ≡ after
  each_prepared = seen.prepared ∙ ap (λ (x : CountedVolume PackedRecord). x.prepared) ready

  pub each_payloads : o.payloads ≡ b.overlay.payloads
  each_payloads = seen.payloads ∙ ap (λ (x : CountedVolume PackedRecord). x.payloads) ready

  pub each_stay : o.payloads_prepared ≡ o.payloads
  each_stay = seen.payloads_prepared ∙ ap (λ (x : CountedVolume PackedRecord). x.payloads_prepared) ready ∙ sym each_payloads

  pub each_loaded : o.loaded ≡ b.overlay.loaded
  each_loaded = seen.loaded ∙ ap (λ (x : CountedVolume PackedRecord). x.loaded) ready

  records_many : length (records_in b) ≡ count_of b.overlay.volume
  records_many = as_many (records_in b) b.overlay.volume.traces h.measured

  pub each_room : a - 1 + length new ≤ length (records_in b)
  each_room = omega (arith, last, many, records_many)

  pub each_last : a - 1 + length new ≤ count_of o.prepared
  each_last = omega (arith, last, many, ap (λ (u : Volume). count_of u) each_prepared, length-put_each b.overlay.volume.traces (a - 1) at size bytes)

  pub each_held : a - 1 + length new ≤ length o.payloads
  each_held = omega (arith, each_room, length-map b.overlay.payloads record_in, ap (λ (ps : List PackedRecord). length ps) each_payloads)

  pub each_counted : AreReportsOf b.reports (map record_in o.payloads)
  each_counted = subst (λ (ps : List PackedRecord). AreReportsOf b.reports (map record_in ps)) (sym each_payloads) h.reports

  each_lengths : map (λ (t : List ℕ). length t) after.traces ≡ map (λ (t : List ℕ). length t) b.overlay.volume.traces
  each_lengths =
      let whole : length bytes ≡ count * size = rw (← number) (omega (arith, exact, mod-eq-sub-div-mul (length bytes) size, div-mul-le_self (length bytes) size)) in
      lengths_put_each b.overlay.volume.traces (a - 1) at size count bytes whole
      (λ k i less is. subst (λ (j : ℕ). at + size ≤ length (get_or b.overlay.volume.traces j [])) (sym is) (inside k (omega (arith, less, number))))

  pub each_frame : HasFrame b.limits after
  each_frame = frame_again b.limits b.overlay.volume after.traces h.frame each_lengths

  pub each_measured : AreMeasured (with_records (records_in b) (a - 1) new) after.traces
  each_measured =
      let own : map (λ (r : Record). r.number) new ≡ take count (drop (a - 1) (map (λ (r : Record). r.number) (records_in b))) =
      numbers ∙ ap (λ (x : CountedVolume PackedRecord). take count (drop (a - 1) (map (λ (r : Record). r.number) (map record_in x.payloads)))) ready in
      measured_again (records_in b) (with_records (records_in b) (a - 1) new) b.overlay.volume.traces after.traces (numbers_stay (records_in b) new (a - 1) count many own) each_lengths h.measured

  pub each_few : b.limits.traces < 2 ^ 32 → AreFew (with_records (map record_in o.payloads) (a - 1) new)
  each_few counted =
      subst (λ (ps : List PackedRecord). AreFew (with_records (map record_in ps) (a - 1) new)) (sym each_payloads) (few_measured b.limits after (with_records (records_in b) (a - 1) new) each_frame counted each_measured)

  -- the edit is done
  pub each_done : (e : CountedVolume PackedRecord) (reports : LiveReports) → e.volume ≡ o.prepared → e.prepared ≡ e.volume → map record_in e.payloads ≡ with_records (map record_in o.payloads) (a - 1) new → e.reads ≡ o.reads
      → (HaveAgreed o.reads → IsCut (bytes_of after) b.reading b.limits after) → (HaveAgreed o.reads → map facts_of (with_records (records_in b) (a - 1) new) ≡ records_of after b.fields.pairs) → AreReportsOf reports (map record_in e.payloads)
      → IsHeld (record b { overlay = e; reports = reports })
  each_done e reports is prepared records same cut facts counted =
      let put : map record_in e.payloads ≡ with_records (records_in b) (a - 1) new = records ∙ ap (λ (ps : List PackedRecord). with_records (map record_in ps) (a - 1) new) each_payloads in
      held_edited b e reports after (with_records (records_in b) (a - 1) new) h (is ∙ each_prepared) prepared put refl each_frame each_measured (λ sure. cut (subst HaveAgreed same sure)) (λ sure. facts (subst HaveAgreed same sure))
      (subst (λ (l : List Record). AreReportsOf reports l) put counted)
