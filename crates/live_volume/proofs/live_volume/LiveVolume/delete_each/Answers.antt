use Rattle.std.proofs.Common.{◌≡◌, ◌∙◌, ℕ, ◌≤◌, List, length, map, ap, sym, subst, arith}
use Rattle.frame_cut.specs.Traces.{count_of}
use Rattle.frame_cut.specs.Volume.{Volume}
use Rattle.trace_seq.specs.Without.{taken_out}
use Rattle.edit_overlay.specs.CountedVolume.{with_traces, CountedVolume}
use Rattle.edit_overlay.specs.Reads.{HaveAgreed}
use Rattle.trace_record.specs.Packed.{record_in}
use Rattle.trace_record.specs.declared.packed_record.PackedRecord.{PackedRecord}
use Rattle.trace_record.specs.declared.record.Record.{Record}
use Rattle.live_reports.specs.OfRecords.{AreReportsOf}
use Rattle.bench_rules.specs.ChosenEdits.{without_each}
use Rattle.bench_rules.specs.Conditions.{AreRising}
use Rattle.bench_rules.proofs.ChosenLemmas.{without_cut}
use Rattle.live_volume.specs.Held.{state_of, records_in, AreMeasured}
use Rattle.live_volume.proofs.EditLemmas.{held_edited, state_with}
use Rattle.live_volume.proofs.MeasuredLemmas.{as_many}
use Rattle.live_volume.proofs.TakenLemmas.{all_there, frame_out, map_out, measured_out, records_out, up_from, without_traces}
use Rattle.live_volume.proofs.live_volume.LiveVolume.delete_each.Goals as goal

pub remove_each-requires-clause-counted : goal.remove_each-requires-clause-counted
remove_each-requires-clause-counted c =
    let same : c.new.result ≡ records_in c.self.inside = c.new.ensures ∙ ap (λ (ps : List PackedRecord). map record_in ps) c.payloads.ensures in
    subst (λ (l : List Record). AreReportsOf c.self.inside.reports l) (sym same) c.self.invariant.reports

pub remove_each-requires-clause-rising : goal.remove_each-requires-clause-rising
remove_each-requires-clause-rising c = up_from 1 _ c.args.traces.now c.requires

pub remove_each-requires-clause-last : goal.remove_each-requires-clause-last
remove_each-requires-clause-last c =
    let b = c.self.inside in
    let up : AreRising 1 (count_of b.overlay.volume) c.args.traces.now = rw (← c.self.view_is) at c.requires in
    let same : c.new.result ≡ records_in b = c.new.ensures ∙ ap (λ (ps : List PackedRecord). map record_in ps) c.payloads.ensures in
    let many : length (records_in b) ≡ count_of b.overlay.volume = as_many (records_in b) b.overlay.volume.traces c.self.invariant.measured in
    rw (same, many) (all_there 1 (count_of b.overlay.volume) c.args.traces.now up)

pub delete_each-requires-clause-rising : goal.delete_each-requires-clause-rising
delete_each-requires-clause-rising c = up_from 1 _ c.args.traces.now c.requires

pub delete_each-requires-clause-last : goal.delete_each-requires-clause-last
delete_each-requires-clause-last c =
    let b = c.self.inside in
    all_there 1 (count_of b.overlay.volume) c.args.traces.now (rw (← c.self.view_is) at c.requires)

pub invariant_of-self : goal.invariant_of-self
invariant_of-self c =
    let b = c.self.inside in
    let v : Volume = b.overlay.volume in
    let rs : List Record = records_in b in
    let ps = c.args.traces.now in
    let up : AreRising 1 (count_of v) ps = rw (← c.self.view_is) at c.requires in
    let e : CountedVolume PackedRecord = c.delete_each.new.self in
    let after = c.delete_each.ensures.after in
    let same : c.new.result ≡ rs = c.new.ensures ∙ ap (λ (qs : List PackedRecord). map record_in qs) c.payloads.ensures in
    let made = ap (λ (o : CountedVolume PackedRecord). o.volume) after in
    let is : e.volume ≡ without_each v ps = made ∙ (ap (λ (ts : List (List ℕ)). with_traces v ts) c.delete_each.ensures.one_by_one ∙ sym (without_traces v ps)) in
    let gone : map record_in e.payloads ≡ taken_out rs ps = ap (λ (o : CountedVolume PackedRecord). map record_in o.payloads) after ∙ (ap (λ (qs : List PackedRecord). map record_in qs) c.delete_each.ensures.payloads_one_by_one ∙ map_out record_in b.overlay.payloads ps) in
    let stays : e.reads ≡ b.overlay.reads = ap (λ (o : CountedVolume PackedRecord). o.reads) after in
    let traces = ap (λ (w : Volume). w.traces) (without_traces v ps) in
    held_edited b e c.remove_each.new.self (without_each v ps) (taken_out rs ps) c.self.invariant is (ap (λ (o : CountedVolume PackedRecord). o.prepared) after ∙ sym made) gone (ap (λ (w : Volume). w.head) (without_traces v ps))
    (frame_out b.limits (state_of b) 1 ps c.self.invariant.frame (omega arith) up)
    (subst (λ (ts : List (List ℕ)). AreMeasured (taken_out rs ps) ts) (sym traces) (measured_out rs v.traces ps c.self.invariant.measured))
    (λ sure. (without_cut (state_of b) 1 ps (omega arith) up).cut (c.self.invariant.cut (subst HaveAgreed stays sure)))
    (λ sure. records_out v b.fields.pairs rs ps (c.self.invariant.records (subst HaveAgreed stays sure)))
    (subst (λ (l : List Record). AreReportsOf c.remove_each.new.self (taken_out l ps)) same c.remove_each.ensures)

pub returns-clause-volume : goal.returns-clause-volume
returns-clause-volume c =
    let b = c.self.inside in
    let v : Volume = b.overlay.volume in
    let ps = c.args.traces.now in
    let after = c.delete_each.ensures.after in
    let is : c.delete_each.new.self.volume ≡ without_each v ps = ap (λ (o : CountedVolume PackedRecord). o.volume) after ∙ (ap (λ (ts : List (List ℕ)). with_traces v ts) c.delete_each.ensures.one_by_one ∙ sym (without_traces v ps)) in
    rw (← c.self.view_is) (state_with b c.delete_each.new.self (without_each v ps) is (ap (λ (o : CountedVolume PackedRecord). o.loaded) after))
