use Rattle.std.proofs.Common.{◌≡◌, ◌∙◌, ◌-◌, ℕ, List, Vec, Global, length, map, ap, sym, arith, subst, rules, refl}
use Rattle.std.specs.Prelude.{slice_set}
use Rattle.std.proofs.lemmas.List.{map-set}
use Rattle.frame_cut.specs.Cuts.{IsCut}
use Rattle.frame_cut.specs.Traces.{with_trace}
use Rattle.frame_cut.specs.Volume.{Volume, bytes_of}
use Rattle.edit_overlay.specs.CountedVolume.{CountedVolume}
use Rattle.edit_overlay.specs.Reads.{HaveAgreed}
use Rattle.trace_record.specs.Packed.{record_in}
use Rattle.trace_record.specs.declared.packed_record.PackedRecord.{PackedRecord}
use Rattle.trace_record.specs.declared.record.Record.{Record}
use Rattle.live_reports.specs.OfRecords.{AreReportsOf}
use Rattle.live_reports.specs.Reports.{AreFew}
use Rattle.volume_records.proofs.EditLemmas.{records-with_trace}
use Rattle.live_volume.specs.Held.{records_in, state_of}
use Rattle.live_volume.specs.Places.{MayReplace}
use Rattle.live_volume.proofs.EditLemmas.{held_edited}
use Rattle.live_volume.proofs.MeasuredLemmas.{as_many, few_measured, frame_replaced, header_of_trace, measured_set}
use Rattle.live_volume.proofs.live_volume.LiveVolume.replace.Goals as goal

pub exchange-requires-clause-counted : goal.exchange-requires-clause-counted
exchange-requires-clause-counted c =
    let same : c.new.result ≡ records_in c.self.inside = c.new.ensures ∙ ap (λ (ps : List PackedRecord). map record_in ps) c.payloads.ensures in
    subst (λ (l : List Record). AreReportsOf c.self.inside.reports l) (sym same) c.self.invariant.reports

pub exchange-requires-clause-place : goal.exchange-requires-clause-place
exchange-requires-clause-place c =
    let same : c.new.result ≡ records_in c.self.inside = c.new.ensures ∙ ap (λ (ps : List PackedRecord). map record_in ps) c.payloads.ensures in
    let many = as_many (records_in c.self.inside) c.self.inside.overlay.volume.traces c.self.invariant.measured in
    let may : MayReplace (state_of c.self.inside) c.args.p c.args.bytes.items = rw (← c.self.view_is) at c.requires.fits in
    rw same (omega (arith, many, may.first, may.last))

pub exchange-requires-clause-few : goal.exchange-requires-clause-few
exchange-requires-clause-few c =
    let b = c.self.inside in
    let v : Volume = b.overlay.volume in
    let rs : List Record = records_in b in
    let t = c.args.bytes.items in
    let same : c.new.result ≡ rs = c.new.ensures ∙ ap (λ (ps : List PackedRecord). map record_in ps) c.payloads.ensures in
    let may : MayReplace (state_of b) c.args.p t = rw (← c.self.view_is) at c.requires.fits in
    subst (λ (l : List Record). AreFew (slice_set l (c.args.p - 1) c.args.trace.now)) (sym same)
    (few_measured b.limits (with_trace v c.args.p t) (slice_set rs (c.args.p - 1) c.args.trace.now) (frame_replaced b.limits v c.args.p t c.self.invariant.frame may.first may.last may.small) (search rules)
    (measured_set rs v.traces (c.args.p - 1) c.args.trace.now t c.requires.number (header_of_trace v.head t may.whole) c.self.invariant.measured))

pub replace-requires-clause-first : goal.replace-requires-clause-first
replace-requires-clause-first c = c.requires.fits.first

pub replace-requires-clause-last : goal.replace-requires-clause-last
replace-requires-clause-last c =
    let may : MayReplace (state_of c.self.inside) c.args.p c.args.bytes.items = rw (← c.self.view_is) at c.requires.fits in
    may.last

pub replace-requires-clause-whole : goal.replace-requires-clause-whole
replace-requires-clause-whole c =
    let may : MayReplace (state_of c.self.inside) c.args.p c.args.bytes.items = rw (← c.self.view_is) at c.requires.fits in
    rw c.in_ok-bytes.ensures.bytes may.whole

pub replace-requires-clause-small : goal.replace-requires-clause-small
replace-requires-clause-small c =
    let may : MayReplace (state_of c.self.inside) c.args.p c.args.bytes.items = rw (← c.self.view_is) at c.requires.fits in
    let size : length c.in_ok-bytes.bytes.value.items ≡ length c.args.bytes.items = ap (λ (v : Vec ℕ Global). length v.items) c.in_ok-bytes.ensures.bytes in
    omega (arith, size, may.small, c.self.invariant.frame.small, c.self.inside.limits.small)

pub invariant_of-self-2 : goal.invariant_of-self-2
invariant_of-self-2 c =
    let b = c.self.inside in
    let v : Volume = b.overlay.volume in
    let rs : List Record = records_in b in
    let i = c.args.p - 1 in
    let t = c.args.bytes.items in
    let same : c.new.result ≡ rs = c.new.ensures ∙ ap (λ (ps : List PackedRecord). map record_in ps) c.payloads.ensures in
    let may : MayReplace (state_of b) c.args.p t = rw (← c.self.view_is) at c.requires.fits in
    let w : Volume = with_trace v c.args.p t in
    let e : CountedVolume PackedRecord = c.replace.new.self in
    let placed : with_trace v c.args.p c.in_ok-bytes.bytes.value.items ≡ w = ap (λ (bs : Vec ℕ Global). with_trace v c.args.p bs.items) c.in_ok-bytes.ensures.bytes in
    let is : e.volume ≡ w = ap (λ (o : CountedVolume PackedRecord). o.volume) c.replace.ensures ∙ placed in
    let put : map record_in e.payloads ≡ slice_set rs i c.args.trace.now =
    ap (λ (o : CountedVolume PackedRecord). map record_in o.payloads) c.replace.ensures ∙ (map-set record_in b.overlay.payloads i c.of.result ∙ ap (λ (r : Record). slice_set rs i r) c.of.ensures) in
    let stays : e.reads ≡ b.overlay.reads = ap (λ (o : CountedVolume PackedRecord). o.reads) c.replace.ensures in
    let cut : HaveAgreed b.overlay.reads → IsCut (bytes_of w) b.reading b.limits w = rw (← c.self.view_is) at c.requires.cut in
    let own = rw (← c.self.view_is) at c.requires.record in
    held_edited b e c.exchange.new.self w (slice_set rs i c.args.trace.now) c.self.invariant is (ap (λ (o : CountedVolume PackedRecord). o.prepared) c.replace.ensures ∙ (placed ∙ sym is)) put refl
    (frame_replaced b.limits v c.args.p t c.self.invariant.frame may.first may.last may.small)
    (measured_set rs v.traces i c.args.trace.now t c.requires.number (header_of_trace v.head t may.whole) c.self.invariant.measured)
    (λ sure. cut (subst HaveAgreed stays sure))
    (λ sure. records-with_trace v b.fields.pairs rs c.args.p t c.args.trace.now (c.self.invariant.records (subst HaveAgreed stays sure)) (own (subst HaveAgreed stays sure)))
    (subst (λ (l : List Record). AreReportsOf c.exchange.new.self (slice_set l i c.args.trace.now)) same c.in-Ok.ensures.ok)
