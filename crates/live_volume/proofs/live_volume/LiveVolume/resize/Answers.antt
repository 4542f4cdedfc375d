use Rattle.std.proofs.Common.{◌≡◌, ◌∙◌, None, sym, ap, subst, refl, rules, arith, List, ℕ}
use Rattle.std.specs.Prelude.{nat_abs, IfErr, OnErr}
use Rattle.std.proofs.lemmas.Int.{to_z-of_z}
use Rattle.std.specs.Int.{w128}
use Rattle.edit_overlay.specs.Reads.{Follow, HaveAgreed}
use mir.Val.{SFits}
use Rattle.room.proofs.RiseLemmas.{risen}
use Rattle.field_map.specs.Pairs.{Pairs}
use Rattle.frame_cut.specs.declared.file_head.Head.{Head}
use Rattle.frame_cut.specs.Traces.{trace_at, with_trace}
use Rattle.frame_cut.specs.Volume.{Volume}
use Rattle.trace_record.specs.OfTrace.{record_of}
use Rattle.bench_rules.specs.declared.edit.Edit.TheVariants.{Resize}
use Rattle.bench_rules.specs.declared.refusal.Refusal.TheVariants.{OutOfMemory}
use Rattle.bench_rules.specs.Refused.{first_refusal}
use Rattle.bench_rules.specs.State.{State, Session}
use Rattle.bench_rules.specs.Steps.{IsAfter}
use Rattle.bench_rules.specs.TraceEdits.{resized}
use Rattle.bench_rules.proofs.HeaderEditLemmas.{after_cut}
use Rattle.bench_rules.proofs.ReadTellLemmas.{edit_before}
use Rattle.bench_rules.proofs.ResizeLemmas.{resize_done}
use Rattle.live_volume.specs.Held.{state_of, with_volume, IsCutAs}
use Rattle.live_volume.specs.Places.{MayReplace}
use Rattle.live_volume.proofs.HeldLemmas.{if_err, is_there, left_as_it_was, on_ok, read_as_either, read_as_through, refused_so, stepped_by_memory, told_under}
use Rattle.live_volume.proofs.MeasuredLemmas.{number_of_trace}
use Rattle.live_volume.proofs.live_volume.LiveVolume.resize.Goals as goal

pub record_of_bytes-trace-requires-clause-whole : goal.record_of_bytes-trace-requires-clause-whole
record_of_bytes-trace-requires-clause-whole c =
    let f : MayReplace (state_of c.self.inside) c.args.p c.in_ok-bytes.bytes.items = rw (← c.self.view_is) at c.in_ok-bytes.ensures.fits in
    rw (c.head-head.ensures, c.as_slice.ensures.value) f.whole

pub replace-requires-clause-fits : goal.replace-requires-clause-fits
replace-requires-clause-fits c =
    subst (λ (u : State). MayReplace u c.args.p c.in_ok-bytes.bytes.items) (sym c.resized_bytes.ensures.seen.state) c.in_ok-bytes.ensures.fits

pub replace-requires-clause-number : goal.replace-requires-clause-number
replace-requires-clause-number c =
    let f : MayReplace (state_of c.self.inside) c.args.p c.in_ok-bytes.bytes.items = rw (← c.self.view_is) at c.in_ok-bytes.ensures.fits in
    number_of_trace c.self.inside.overlay.volume.head c.self-2.inside.fields.pairs c.in_ok-bytes.bytes.items c.record_of_bytes-trace.result f.whole
    (c.record_of_bytes-trace.ensures ∙ ap (λ (h : Head). record_of h c.self-2.inside.fields.pairs c.as_slice.result.now) c.head-head.ensures
    ∙ ap (record_of c.self.inside.overlay.volume.head c.self-2.inside.fields.pairs) c.as_slice.ensures.value)

pub replace-requires-clause-cut : goal.replace-requires-clause-cut
replace-requires-clause-cut c =
    let s = state_of c.self.inside in
    let fit : SFits w128 c.args.count = search rules in
    let st : c.resized_bytes.new.self.state ≡ s = c.resized_bytes.ensures.seen.state ∙ sym (ap (λ (x : Session). x.state) c.self.view_is) in
    let none : HaveAgreed c.resized_bytes.new.self.reads → first_refusal s (Resize c.args.p c.args.count) ≡ None = rw (← c.self.view_is, to_z-of_z) at c.in_ok-bytes.ensures.none in
    let made : HaveAgreed c.resized_bytes.new.self.reads → c.in_ok-bytes.bytes.items ≡ resized s.volume.head (trace_at s.volume c.args.p) (nat_abs c.args.count) = rw (← c.self.view_is, to_z-of_z) at c.in_ok-bytes.ensures.bytes in
    let before : Follow c.self.inside.overlay.reads c.resized_bytes.new.self.reads = rw (← c.self.view_is) at c.resized_bytes.ensures.seen.reads in
    let w : Volume = with_trace s.volume c.args.p c.in_ok-bytes.bytes.items in
    λ sure. subst (λ (u : State). IsCutAs u (with_trace u.volume c.args.p c.in_ok-bytes.bytes.items)) (sym st)
    (after_cut s (Resize c.args.p c.args.count) w (resize_done s c.args.p c.args.count w c.in_ok-bytes.bytes.items (c.self.invariant.cut (before.agreed sure)) (none sure) (made sure) refl))

pub replace-requires-clause-record : goal.replace-requires-clause-record
replace-requires-clause-record c =
    let s = state_of c.self.inside in
    let u : State = c.resized_bytes.new.self.state in
    let st : u ≡ s = c.resized_bytes.ensures.seen.state ∙ sym (ap (λ (x : Session). x.state) c.self.view_is) in
    let t : List ℕ = c.as_slice.result.now in
    λ sure. c.record_of_bytes-trace.ensures
    ∙ ap (λ (h : Head). record_of h c.self-2.inside.fields.pairs t) (c.head-head.ensures ∙ sym (ap (λ (x : State). x.volume.head) st))
    ∙ ap (λ (ps : Pairs). record_of u.volume.head ps t) (ap (λ (x : Session). x.state.fields) c.self-2.view_is)
    ∙ ap (λ (t : List ℕ). record_of u.volume.head u.fields t) c.as_slice.ensures.value

pub returns-in_err-bytes-clause-step : goal.returns-in_err-bytes-clause-step
returns-in_err-bytes-clause-step c =
    let fit : SFits w128 c.args.count = search rules in
    let told = rw (to_z-of_z w128 c.args.count fit) at c.in_err-bytes.ensures.err in
    λ sure. refused_so c.args.self.now.state c.resized_bytes.new.self.state (Resize c.args.p c.args.count) c.in_err-bytes.field-0.0 c.from_residual.result c.from_residual.ensures.0 c.from_residual.ensures.1 (record {})
    (told_under c.args.self.now.state (Resize c.args.p c.args.count) c.in_err-bytes.field-0.0 sure (λ there. rw there (omega arith)) told) c.resized_bytes.ensures.seen.state

pub returns-clause-step : goal.returns-clause-step
returns-clause-step c =
    let s = state_of c.self.inside in
    let fit : SFits w128 c.args.count = search rules in
    let st : c.resized_bytes.new.self.state ≡ s = c.resized_bytes.ensures.seen.state ∙ sym (ap (λ (x : Session). x.state) c.self.view_is) in
    let none : HaveAgreed c.resized_bytes.new.self.reads → first_refusal s (Resize c.args.p c.args.count) ≡ None = rw (← c.self.view_is, to_z-of_z) at c.in_ok-bytes.ensures.none in
    let made : HaveAgreed c.resized_bytes.new.self.reads → c.in_ok-bytes.bytes.items ≡ resized s.volume.head (trace_at s.volume c.args.p) (nat_abs c.args.count) = rw (← c.self.view_is, to_z-of_z) at c.in_ok-bytes.ensures.bytes in
    let before : Follow c.self.inside.overlay.reads c.resized_bytes.new.self.reads = rw (← c.self.view_is) at c.resized_bytes.ensures.seen.reads in
    let w : Volume = with_trace s.volume c.args.p c.in_ok-bytes.bytes.items in
    rw (← c.self.view_is) (λ sure.
    let mid = c.replace.ensures.reads.agreed sure in
    let done = resize_done s c.args.p c.args.count w c.in_ok-bytes.bytes.items (c.self.invariant.cut (before.agreed mid)) (none mid) (made mid) refl in
    stepped_by_memory s c.replace.new.self.state (Resize c.args.p c.args.count) c.replace.result (none mid) (record {})
    (on_ok c.replace.result (λ e. subst (λ (u : State). IsAfter s (Resize c.args.p c.args.count) u) (sym e)
    (subst (λ (u : State). IsAfter s (Resize c.args.p c.args.count) (with_volume u (with_trace u.volume c.args.p c.in_ok-bytes.bytes.items))) (sym st) done)) c.replace.ensures.ok)
    (subst (λ (u : State). IfErr c.replace.result (λ refusal. (refusal ≡ OutOfMemory) × (c.replace.new.self.state ≡ u))) st c.replace.ensures.err))

pub returns-clause-err : goal.returns-clause-err
returns-clause-err c =
    subst (λ (u : State). OnErr c.replace.result (c.replace.new.self.state ≡ u)) c.resized_bytes.ensures.seen.state (left_as_it_was _ c.replace.result _ _ c.replace.ensures.err)

pub returns-clause-same : goal.returns-clause-same
returns-clause-same c = read_as_through _ _ _ c.resized_bytes.ensures.seen.state (read_as_either _ c.replace.result _ _ _ c.replace.ensures.ok c.replace.ensures.err)

pub returns-clause-looks : goal.returns-clause-looks
returns-clause-looks c =
    let fits = c.in_ok-bytes.ensures.fits in
    let there = is_there c.args.self.now.state.volume c.args.p fits.first fits.last in
    let one = rw there at c.resized_bytes.ensures.seen.looks in
    rw there (omega (arith, one.0, c.replace.ensures.looks), omega (arith, one.1, c.replace.ensures.looks))

pub returns-clause-memory : goal.returns-clause-memory
returns-clause-memory c = risen _ _ c.resized_bytes.new.room _ c.in_ok-bytes.ensures.memory.never_falls c.replace.ensures.memory

pub returns-clause-reads : goal.returns-clause-reads
returns-clause-reads c =
    let first = c.resized_bytes.ensures.seen.reads in
    let on = c.replace.ensures.reads in
    record { agreed = λ sure. first.agreed (on.agreed sure); failures = omega (arith, first.failures, on.failures) }

pub returns-clause-reads_tell : goal.returns-clause-reads_tell
returns-clause-reads_tell c =
    if_err c.replace.result (λ refusal told. edit_before c.args.self.now.reads c.resized_bytes.new.self.reads c.replace.new.self.reads refusal c.resized_bytes.ensures.seen.reads told) c.replace.ensures.reads_tell
