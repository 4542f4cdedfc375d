use Rattle.std.proofs.Common.{◌≡◌, ◌∙◌, ℕ, List, ap, sym, subst, refl, length, arith}
use Rattle.std.specs.Prelude.{Option, Some, unwrap_or}
use Rattle.sample_codes.specs.declared.value_format.ValueFormat.{ValueFormat}
use Rattle.sample_codes.specs.Formats.{values as read_as, samples_bytes, sample_fits}
use Rattle.std.specs.List.{list_all}
use Rattle.edit_overlay.specs.Reads.{Follow, HaveAgreed}
use Rattle.frame_cut.specs.declared.file_head.Head.{Head}
use Rattle.frame_cut.specs.Splice.{splice}
use Rattle.frame_cut.specs.Traces.{trace_at, with_trace}
use Rattle.bench_rules.specs.declared.edit.Edit.TheVariants.{Patch}
use Rattle.bench_rules.specs.State.{State}
use Rattle.bench_rules.specs.Steps.{IsAfter}
use Rattle.bench_rules.proofs.HeaderEditLemmas.{after_cut}
use Rattle.bench_rules.proofs.PatchLemmas.{length-values}
use Rattle.bench_rules.proofs.TraceStepLemmas.{patch_done, patch_fits}
use Rattle.volume_answers.specs.Rooms.{HasSampleRoom}
use Rattle.live_volume.specs.Held.{state_of, sample_start}
use Rattle.live_volume.proofs.HeldLemmas.{on_ok, read_as_either}
use Rattle.live_volume.proofs.live_volume.LiveVolume.put_values.Goals as goal

pub unreachable-requires : goal.unreachable-requires
unreachable-requires c =
    let room : HasSampleRoom c.self.inside.overlay.volume c.args.p c.args.at c.args.values.now = rw (← c.self.view_is) at c.requires.room in
    c.in_default.not-Some room.format (c.values.ensures.values ∙ ap (λ (h : Head). read_as h.format) c.head-head.ensures ∙ room.reads)

pub samples_bytes-requires-clause-few : goal.samples_bytes-requires-clause-few
samples_bytes-requires-clause-few c = omega (arith, c.requires.room.few)

pub samples_bytes-requires-clause-fit : goal.samples_bytes-requires-clause-fit
samples_bytes-requires-clause-fit c =
    let s = state_of c.self.inside in
    let a : HasSampleRoom s.volume c.args.p c.args.at c.args.values.now = rw (← c.self.view_is) at c.requires.room in
    let reads : read_as s.volume.head.format ≡ Some c.in-Some.format = ap (λ (h : Head). read_as h.format) (sym c.head-head.ensures) ∙ sym c.values.ensures.values ∙ c.in-Some.is in
    let same : a.format ≡ c.in-Some.format = ap (λ (o : Option ValueFormat). unwrap_or o a.format) (sym a.reads ∙ reads) in
    ap (λ (f : ValueFormat). list_all (sample_fits f) c.args.values.now) (sym same) ∙ a.fit

-- how the samples are read
reads : (c : goal.After-as_slice) → read_as (state_of c.self.inside).volume.head.format ≡ Some c.in-Some.format
reads c = ap (λ (h : Head). read_as h.format) (sym c.head-head.ensures) ∙ sym c.values.ensures.values ∙ c.in-Some.is

-- the bytes are those of the values
bytes_are : (c : goal.After-as_slice) → c.as_slice.result.now ≡ samples_bytes (state_of c.self.inside).volume.head.order c.in-Some.format c.args.values.now
bytes_are c = c.as_slice.ensures.value ∙ c.in_ok-bytes.ensures.ok ∙ ap (λ (h : Head). samples_bytes h.order c.in-Some.format c.args.values.now) c.head-head.ensures

pub put-requires-clause-first : goal.put-requires-clause-first
put-requires-clause-first c = c.requires.room.first

pub put-requires-clause-last : goal.put-requires-clause-last
put-requires-clause-last c = c.requires.room.last

pub put-requires-clause-inside : goal.put-requires-clause-inside
put-requires-clause-inside c =
    let s = state_of c.self.inside in
    let a : HasSampleRoom s.volume c.args.p c.args.at c.args.values.now = rw (← c.self.view_is) at c.requires.room in
    rw (← c.self.view_is) (omega (arith, a.inside, ap (λ (l : List ℕ). length l) (bytes_are c), length-values s.volume.head c.in-Some.format c.args.values.now (reads c)))

pub put-requires-clause-whole : goal.put-requires-clause-whole
put-requires-clause-whole c =
    let s = state_of c.self.inside in
    let none = rw (← c.self.view_is) at c.requires.none in
    let at : HaveAgreed c.self.inside.overlay.reads → c.args.at ≡ sample_start s.volume c.args.p c.args.k = rw (← c.self.view_is) at c.requires.place in
    rw (← c.self.view_is) (λ sure. (patch_fits s c.in-Some.format c.args.p c.args.k c.args.values.now c.args.at c.as_slice.result.now (reads c) (c.self.invariant.cut sure) (none sure) (at sure) (bytes_are c)).whole)

-- the volume with them is the one behind the edit
done : (c : goal.After-as_slice) → HaveAgreed c.self.inside.overlay.reads → (let s : State = state_of c.self.inside in IsAfter s (Patch c.args.p c.args.k c.args.values.now)
    (record s { volume = with_trace s.volume c.args.p (splice (trace_at s.volume c.args.p) c.args.at (length c.as_slice.result.now) c.as_slice.result.now) }))
done c sure =
    let s = state_of c.self.inside in
    let none = rw (← c.self.view_is) at c.requires.none in
    let at : HaveAgreed c.self.inside.overlay.reads → c.args.at ≡ sample_start s.volume c.args.p c.args.k = rw (← c.self.view_is) at c.requires.place in
    patch_done s c.in-Some.format c.args.p c.args.k c.args.values.now _ c.args.at c.as_slice.result.now (reads c) (c.self.invariant.cut sure) (none sure) (at sure) (bytes_are c) refl

pub put-requires-clause-cut : goal.put-requires-clause-cut
put-requires-clause-cut c =
    rw (← c.self.view_is) (λ sure. after_cut (state_of c.self.inside) (Patch c.args.p c.args.k c.args.values.now) _ (done c sure))

pub returns-clause-ok : goal.returns-clause-ok
returns-clause-ok c =
    let held : Follow c.self.inside.overlay.reads c.put.new.self.reads = rw (← c.self.view_is) at c.put.ensures.reads in
    on_ok c.put.result (λ e sure. subst (λ (u : State). IsAfter c.args.self.now.state (Patch c.args.p c.args.k c.args.values.now) u) (sym e)
    (rw (← c.self.view_is) (done c.before.before (held.agreed sure)))) c.put.ensures.ok

pub returns-clause-same : goal.returns-clause-same
returns-clause-same c = read_as_either _ c.put.result _ _ _ c.put.ensures.ok c.put.ensures.err
