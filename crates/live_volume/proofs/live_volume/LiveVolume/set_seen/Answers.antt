use Rattle.std.proofs.Common.{◌≡◌, ◌∙◌, true, false, sym, subst, refl, rules}
use Rattle.std.proofs.lemmas.Int.{to_z-of_z}
use Rattle.std.specs.Int.{w128}
use mir.Val.{SFits}
use Rattle.frame_cut.specs.Traces.{is_trace}
use Rattle.frame_cut.specs.Volume.{Volume}
use Rattle.bench_rules.specs.declared.edit.Edit.TheVariants.{Set}
use Rattle.bench_rules.specs.declared.field.Field.TheVariants as field
use Rattle.bench_rules.specs.Places.{leaves_length}
use Rattle.bench_rules.specs.State.{State}
use Rattle.volume_answers.specs.Rooms.{HasRoom}
use Rattle.live_volume.specs.Held.{state_of}
use Rattle.live_volume.proofs.CountedLemmas.{set_looks, untold}
use Rattle.live_volume.proofs.HeldLemmas.{is_there, looked_at, on_ok, read_refused, stepped, told_first}
use Rattle.live_volume.proofs.live_volume.LiveVolume.set_seen.Goals as goal

pub put_value-requires-clause-room : goal.put_value-requires-clause-room
put_value-requires-clause-room c =
    let fit : SFits w128 c.args.value = search rules in
    let room : HasRoom c.self.inside.overlay.volume c.args.p c.args.place c.args.value = rw (to_z-of_z w128 c.args.value fit) at (c.in_ok-refusal.ensures.room c.in-None.is) in
    rw (to_z-of_z w128 c.args.value fit) (subst (λ (v : Volume). HasRoom v c.args.p c.args.place c.args.value) (sym c.value_refusal.ensures.seen.volume) room)

pub put_value-requires-clause-none : goal.put_value-requires-clause-none
put_value-requires-clause-none c =
    let now : State = record (state_of c.self.inside) { volume = c.value_refusal.new.overlay.volume; on_disk = c.value_refusal.new.overlay.loaded.on_disk } in
    let fit : SFits w128 c.args.value = search rules in
    let told = rw (to_z-of_z w128 c.args.value fit) at (c.in_ok-refusal.ensures.refusal now c.value_refusal.ensures.seen.volume) in
    rw (to_z-of_z w128 c.args.value fit) (λ sure. sym (told sure) ∙ c.in-None.is)

pub returns-in-Some-clause-step : goal.returns-in-Some-clause-step
returns-in-Some-clause-step c =
    let look = looked_at c.self.inside c.value_refusal.new.overlay _ c.value_refusal.ensures.seen in
    let fit : SFits w128 c.args.value = search rules in
    let told = rw (to_z-of_z w128 c.args.value fit) at (c.in_ok-refusal.ensures.refusal (state_of c.self.inside) refl) in
    rw (← c.self.view_is) (λ sure. told_first _ (state_of c.self.inside) _ (Set c.args.p (field.Place c.args.place) c.args.value) c.in-Some.refusal (sym (told sure) ∙ c.in-Some.is) look.state)

pub returns-in-None-clause-step : goal.returns-in-None-clause-step
returns-in-None-clause-step c =
    let s = state_of c.self.inside in
    let look = looked_at c.self.inside c.value_refusal.new.overlay _ c.value_refusal.ensures.seen in
    let fit : SFits w128 c.args.value = search rules in
    let told = rw (to_z-of_z w128 c.args.value fit) at (c.in_ok-refusal.ensures.refusal s refl) in
    let room = c.in_ok-refusal.ensures.room c.in-None.is in
    let done = rw (to_z-of_z w128 c.args.value fit) at c.put_value.ensures.ok in
    let bound : is_trace s.volume c.args.p ≡ true → leaves_length c.args.place ≡ false = rw (← c.self.view_is) at c.requires in
    let there : is_trace s.volume c.args.p ≡ true = is_there s.volume c.args.p room.first room.last in
    rw (← c.self.view_is) (λ sure.
    let mid = c.put_value.ensures.reads.agreed sure in
    stepped s _ c.put_value.new.self.state (Set c.args.p (field.Place c.args.place) c.args.value) c.put_value.result (sym (told mid) ∙ c.in-None.is) look.state (record {})
    (set_looks s c.args.p c.args.place c.args.value there (untold s.fields c.args.place (bound there)))
    (on_ok c.put_value.result (λ f. f sure) done) c.put_value.ensures.err)

pub returns-in_err-refusal-clause-step : goal.returns-in_err-refusal-clause-step
returns-in_err-refusal-clause-step c =
    let look = looked_at c.self.inside c.value_refusal.new.overlay _ c.value_refusal.ensures.seen in
    let s = state_of c.self.inside in
    let bound : is_trace s.volume c.args.p ≡ true → leaves_length c.args.place ≡ false = rw (← c.self.view_is) at c.requires in
    let there : is_trace s.volume c.args.p ≡ true = c.in_err-refusal.ensures.read.0 in
    rw (← c.self.view_is)
    (λ sure. read_refused s _ (Set c.args.p (field.Place c.args.place) c.args.value) c.in_err-refusal.field-0.0 c.from_residual.result c.from_residual.ensures.0 c.from_residual.ensures.1
    (set_looks s c.args.p c.args.place c.args.value there (untold s.fields c.args.place (bound there))) c.in_err-refusal.ensures.read.1 look.state)
