use Rattle.std.proofs.Common.{◌≡◌, sym, subst, refl, arith}
use Rattle.frame_cut.specs.Volume.{Volume}
use Rattle.bench_rules.specs.declared.edit.Edit.TheVariants.{Patch}
use Rattle.bench_rules.specs.State.{State}
use Rattle.volume_answers.specs.Rooms.{HasSampleRoom}
use Rattle.live_volume.specs.Held.{state_of, sample_start}
use Rattle.live_volume.proofs.HeldLemmas.{looked_at, on_ok, refused_so, stepped, told_so}
use Rattle.live_volume.proofs.live_volume.LiveVolume.patch.Goals as goal

pub put_values-requires-clause-room : goal.put_values-requires-clause-room
put_values-requires-clause-room c =
    subst (λ (v : Volume). HasSampleRoom v c.args.p c.in_ok-at.at c.args.values.now) (sym c.patch_place.ensures.seen.volume) c.in_ok-at.ensures.room

pub put_values-requires-clause-none : goal.put_values-requires-clause-none
put_values-requires-clause-none c =
    let now : State = record (state_of c.self.inside) { volume = c.patch_place.new.overlay.volume; on_disk = c.patch_place.new.overlay.loaded.on_disk } in
    c.in_ok-at.ensures.ok now c.patch_place.ensures.seen.volume

pub put_values-requires-clause-place : goal.put_values-requires-clause-place
put_values-requires-clause-place c = λ sure.
    subst (λ (v : Volume). c.in_ok-at.at ≡ sample_start v c.args.p c.args.k) (sym c.patch_place.ensures.seen.volume) (c.in_ok-at.ensures.place sure)

pub returns-clause-step : goal.returns-clause-step
returns-clause-step c =
    let s = state_of c.self.inside in
    let look = looked_at c.self.inside c.patch_place.new.overlay _ c.patch_place.ensures.seen in
    rw (← c.self.view_is) (λ sure.
    let mid = c.put_values.ensures.reads.agreed sure in
    stepped s _ c.put_values.new.self.state (Patch c.args.p c.args.k c.args.values.now) c.put_values.result (c.in_ok-at.ensures.ok s refl mid) look.state (record {}) (rw c.in_ok-at.ensures.there (omega arith))
    (on_ok c.put_values.result (λ f. f sure) c.put_values.ensures.ok) c.put_values.ensures.err)

pub returns-in_err-at-clause-step : goal.returns-in_err-at-clause-step
returns-in_err-at-clause-step c =
    let s = state_of c.self.inside in
    let look = looked_at c.self.inside c.patch_place.new.overlay _ c.patch_place.ensures.seen in
    rw (← c.self.view_is)
    (λ sure. refused_so s _ (Patch c.args.p c.args.k c.args.values.now) c.in_err-at.field-0.0 c.from_residual.result c.from_residual.ensures.0 c.from_residual.ensures.1 (record {})
    (told_so s (Patch c.args.p c.args.k c.args.values.now) c.in_err-at.field-0.0 sure (λ there. rw there (omega arith)) c.in_err-at.ensures.err) look.state)
