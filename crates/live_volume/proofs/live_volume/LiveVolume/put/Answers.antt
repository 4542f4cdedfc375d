use Rattle.std.proofs.Common.{◌≡◌, ◌∙◌, ◌+◌, ◌≤◌, ℕ, List, ap, sym, subst, length, true, rules}
use Rattle.std.specs.Prelude.{IfSome}
use Rattle.field_map.specs.Pairs.{Pairs}
use Rattle.frame_cut.specs.Splice.{splice}
use Rattle.frame_cut.specs.Traces.{trace_at, is_trace, with_trace, count_of}
use Rattle.frame_cut.specs.Cuts.{IsCut}
use Rattle.frame_cut.specs.Volume.{Volume, bytes_of}
use Rattle.trace_record.specs.Facts.{facts_of}
use Rattle.trace_record.specs.OfTrace.{record_of}
use Rattle.trace_record.specs.declared.record.Record.{Record}
use Rattle.trace_record.specs.declared.packed_record.PackedRecord.{PackedRecord}
use Rattle.edit_overlay.specs.CountedVolume.{CountedVolume}
use Rattle.edit_overlay.specs.Reads.{Reads, Follow, HaveAgreed}
use Rattle.frame_cut.proofs.EditLemmas.{length-splice}
use Rattle.volume_records.specs.Laid.{HasSamplesOf}
use Rattle.live_volume.proofs.HeldLemmas.{trace_again, is_trace_with}
use Rattle.live_volume.proofs.EditLemmas as edit
use Rattle.live_volume.proofs.live_volume.LiveVolume.put.Goals as goal

pub record_after-requires-clause-trace : goal.record_after-requires-clause-trace
record_after-requires-clause-trace c =
    let v : Volume = c.self.inside.overlay.volume in
    let t : List ℕ = splice (trace_at v c.args.p) c.args.at (length c.args.bytes.now) c.args.bytes.now in
    let last : c.args.p ≤ count_of v = rw (← c.self.view_is) at c.requires.last in
    let prep : c.prepare_put.new.self.prepared ≡ with_trace v c.args.p t = ap (λ (o : CountedVolume PackedRecord). o.prepared) c.in_ok-prepare_put.ensures.ok in
    subst (λ (u : Volume). is_trace u c.args.p ≡ true) (sym prep) (is_trace_with v c.args.p t c.requires.first last)

pub record_after-requires-clause-samples : goal.record_after-requires-clause-samples
record_after-requires-clause-samples c =
    let v : Volume = c.self.inside.overlay.volume in
    let fields : Pairs = c.self.inside.fields.pairs in
    let t : List ℕ = splice (trace_at v c.args.p) c.args.at (length c.args.bytes.now) c.args.bytes.now in
    let last : c.args.p ≤ count_of v = rw (← c.self.view_is) at c.requires.last in
    let prep : c.prepare_put.new.self.prepared ≡ with_trace v c.args.p t = ap (λ (o : CountedVolume PackedRecord). o.prepared) c.in_ok-prepare_put.ensures.ok in
    let known : HaveAgreed c.self.inside.overlay.reads → IfSome c.args.known (HasSamplesOf v.head fields t) = rw (← c.self.view_is) at c.requires.samples in
    let same : c.prepare_put.new.self.reads ≡ c.self.inside.overlay.reads = ap (λ (o : CountedVolume PackedRecord). o.reads) c.in_ok-prepare_put.ensures.ok in
    λ sure. subst (λ (u : Volume). IfSome c.args.known (HasSamplesOf u.head fields (trace_at u c.args.p))) (sym prep)
    (subst (λ (u : List ℕ). IfSome c.args.known (HasSamplesOf v.head fields u)) (sym (trace_again v c.args.p t c.requires.first last)) (known (subst HaveAgreed same sure)))

pub record_after-requires-clause-laid : goal.record_after-requires-clause-laid
record_after-requires-clause-laid c =
    let last : c.args.p ≤ count_of c.self.inside.overlay.volume = rw (← c.self.view_is) at c.requires.last in
    let inside : c.args.at + length c.args.bytes.now ≤ length (trace_at c.self.inside.overlay.volume c.args.p) = rw (← c.self.view_is) at c.requires.inside in
    let held : HaveAgreed c.self.inside.overlay.reads → IfSome c.args.known (λ r. facts_of r ≡ record_of c.self.inside.overlay.volume.head c.self.inside.fields.pairs (trace_at c.self.inside.overlay.volume c.args.p)) = rw (← c.self.view_is) at c.requires.known in
    let same : c.prepare_put.new.self.reads ≡ c.self.inside.overlay.reads = ap (λ (o : CountedVolume PackedRecord). o.reads) c.in_ok-prepare_put.ensures.ok in
    λ sure. edit.put_laid c.self.inside c.args.p c.args.at c.args.bytes.now c.prepare_put.new.self c.args.known c.requires.first last inside c.in_ok-prepare_put.ensures.ok (held (subst HaveAgreed same sure))

pub record_after-requires-clause-few : goal.record_after-requires-clause-few
record_after-requires-clause-few c =
    let v : Volume = c.self.inside.overlay.volume in
    let t : List ℕ = splice (trace_at v c.args.p) c.args.at (length c.args.bytes.now) c.args.bytes.now in
    let last : c.args.p ≤ count_of v = rw (← c.self.view_is) at c.requires.last in
    let inside : c.args.at + length c.args.bytes.now ≤ length (trace_at v c.args.p) = rw (← c.self.view_is) at c.requires.inside in
    let prep : c.prepare_put.new.self.prepared ≡ with_trace v c.args.p t = ap (λ (o : CountedVolume PackedRecord). o.prepared) c.in_ok-prepare_put.ensures.ok in
    let few : IfSome c.args.known (λ r. r.number ≤ length (trace_at v c.args.p)) = rw (← c.self.view_is) at c.requires.few in
    let long : length (trace_at v c.args.p) ≡ length (trace_at (with_trace v c.args.p t) c.args.p) =
    sym (ap (λ (u : List ℕ). length u) (trace_again v c.args.p t c.requires.first last) ∙ length-splice (trace_at v c.args.p) c.args.at c.args.bytes.now inside) in
    subst (λ (u : Volume). IfSome c.args.known (λ (r : Record). r.number ≤ length (trace_at u c.args.p))) (sym prep) (subst (λ (n : ℕ). IfSome c.args.known (λ (r : Record). r.number ≤ n)) long few)

pub commit_with_record-requires-clause-last : goal.commit_with_record-requires-clause-last
commit_with_record-requires-clause-last c =
    let last : c.args.p ≤ count_of c.self.inside.overlay.volume = rw (← c.self.view_is) at c.requires.last in
    let inside : c.args.at + length c.args.bytes.now ≤ length (trace_at c.self.inside.overlay.volume c.args.p) = rw (← c.self.view_is) at c.requires.inside in
    edit.put_last c.self.inside c.self.invariant c.args.p c.args.at c.args.bytes.now c.prepare_put.new.self c.record_after.new.overlay c.requires.first last inside c.in_ok-prepare_put.ensures.ok c.record_after.ensures.seen

pub commit_with_record-requires-clause-held : goal.commit_with_record-requires-clause-held
commit_with_record-requires-clause-held c =
    let last : c.args.p ≤ count_of c.self.inside.overlay.volume = rw (← c.self.view_is) at c.requires.last in
    let inside : c.args.at + length c.args.bytes.now ≤ length (trace_at c.self.inside.overlay.volume c.args.p) = rw (← c.self.view_is) at c.requires.inside in
    edit.put_held c.self.inside c.self.invariant c.args.p c.args.at c.args.bytes.now c.prepare_put.new.self c.record_after.new.overlay c.requires.first last inside c.in_ok-prepare_put.ensures.ok c.record_after.ensures.seen

pub commit_with_record-requires-clause-stay : goal.commit_with_record-requires-clause-stay
commit_with_record-requires-clause-stay c =
    let last : c.args.p ≤ count_of c.self.inside.overlay.volume = rw (← c.self.view_is) at c.requires.last in
    let inside : c.args.at + length c.args.bytes.now ≤ length (trace_at c.self.inside.overlay.volume c.args.p) = rw (← c.self.view_is) at c.requires.inside in
    edit.put_stay c.self.inside c.self.invariant c.args.p c.args.at c.args.bytes.now c.prepare_put.new.self c.record_after.new.overlay c.requires.first last inside c.in_ok-prepare_put.ensures.ok c.record_after.ensures.seen

pub commit_with_record-requires-clause-counted : goal.commit_with_record-requires-clause-counted
commit_with_record-requires-clause-counted c =
    let last : c.args.p ≤ count_of c.self.inside.overlay.volume = rw (← c.self.view_is) at c.requires.last in
    let inside : c.args.at + length c.args.bytes.now ≤ length (trace_at c.self.inside.overlay.volume c.args.p) = rw (← c.self.view_is) at c.requires.inside in
    edit.put_counted c.self.inside c.self.invariant c.args.p c.args.at c.args.bytes.now c.prepare_put.new.self c.record_after.new.overlay c.requires.first last inside c.in_ok-prepare_put.ensures.ok c.record_after.ensures.seen

pub commit_with_record-requires-clause-few : goal.commit_with_record-requires-clause-few
commit_with_record-requires-clause-few c =
    let last : c.args.p ≤ count_of c.self.inside.overlay.volume = rw (← c.self.view_is) at c.requires.last in
    let inside : c.args.at + length c.args.bytes.now ≤ length (trace_at c.self.inside.overlay.volume c.args.p) = rw (← c.self.view_is) at c.requires.inside in
    let small : c.in-Ok.record.number ≤ length (trace_at c.record_after.new.overlay.prepared c.args.p) =
    subst (λ (u : Volume). c.in-Ok.record.number ≤ length (trace_at u c.args.p)) (sym c.record_after.ensures.seen.prepared) c.in-Ok.ensures.few in
    edit.put_few c.self.inside c.self.invariant c.args.p c.args.at c.args.bytes.now c.prepare_put.new.self c.record_after.new.overlay c.requires.first last inside c.in_ok-prepare_put.ensures.ok c.record_after.ensures.seen c.in-Ok.record (search rules) small

pub invariant_of-self-in-Ok : goal.invariant_of-self-in-Ok
invariant_of-self-in-Ok c =
    let v : Volume = c.self.inside.overlay.volume in
    let w : Volume = with_trace v c.args.p (splice (trace_at v c.args.p) c.args.at (length c.args.bytes.now) c.args.bytes.now) in
    let last : c.args.p ≤ count_of v = rw (← c.self.view_is) at c.requires.last in
    let inside : c.args.at + length c.args.bytes.now ≤ length (trace_at v c.args.p) = rw (← c.self.view_is) at c.requires.inside in
    let cut : HaveAgreed c.self.inside.overlay.reads → IsCut (bytes_of w) c.self.inside.reading c.self.inside.limits w = rw (← c.self.view_is) at c.requires.cut in
    let same : c.prepare_put.new.self.reads ≡ c.self.inside.overlay.reads = ap (λ (o : CountedVolume PackedRecord). o.reads) c.in_ok-prepare_put.ensures.ok in
    let prep : c.record_after.new.overlay.prepared ≡ c.prepare_put.new.self.prepared = c.record_after.ensures.seen.prepared in
    let facts = subst (λ (u : Volume). HaveAgreed c.record_after.new.overlay.reads → facts_of c.in-Ok.record ≡ record_of u.head c.self.inside.fields.pairs (trace_at u c.args.p)) (sym prep) c.in-Ok.ensures.record in
    let small : c.in-Ok.record.number ≤ length (trace_at c.record_after.new.overlay.prepared c.args.p) = subst (λ (u : Volume). c.in-Ok.record.number ≤ length (trace_at u c.args.p)) (sym prep) c.in-Ok.ensures.few in
    edit.put_done c.self.inside c.self.invariant c.args.p c.args.at c.args.bytes.now c.prepare_put.new.self c.record_after.new.overlay c.requires.first last inside c.in_ok-prepare_put.ensures.ok c.record_after.ensures.seen c.commit_with_record.new.overlay c.commit_with_record.new.reports c.in-Ok.record
    c.in-Ok-commit_with_record.ensures.volume c.commit_with_record.ensures.prepared c.in-Ok-commit_with_record.ensures.records c.commit_with_record.ensures.reads (subst (λ (r : Reads). Follow r c.record_after.new.overlay.reads) same c.record_after.ensures.seen.reads) cut facts small
    c.in-Ok-commit_with_record.ensures.reports
