use Rattle.std.proofs.Common.{◌≡◌, ◌∙◌, true, sym, refl, rules}
use Rattle.std.proofs.lemmas.Int.{to_z-of_z}
use Rattle.std.specs.Int.{w128}
use mir.Val.{SFits}
use Rattle.num_order.specs.Number.{fits}
use Rattle.frame_cut.specs.Traces.{is_trace}
use Rattle.bench_rules.specs.declared.edit.Edit.TheVariants.{Set}
use Rattle.bench_rules.specs.declared.field.Field.TheVariants as field
use Rattle.bench_rules.specs.Looks.{is_told}
use Rattle.bench_rules.specs.Places.{leaves_length}
use Rattle.bench_rules.proofs.SetLemmas.{both}
use Rattle.live_volume.proofs.CountedLemmas.{none_refuses_it, room_there, set_looks, set_once, unfit_refused}
use Rattle.live_volume.proofs.HeldLemmas.{on_ok, stepped_unless, told_first}
use Rattle.live_volume.proofs.live_volume.LiveVolume.set.Goals.{After-fits}
use Rattle.live_volume.proofs.live_volume.LiveVolume.set.Goals as goal

-- the trace is there, and its length stays
there : (c : After-fits) → is_trace c.args.self.now.state.volume c.args.p ≡ true
there c = sym c.has_trace.ensures ∙ c.if-not-has_trace.false

free : (c : After-fits) → leaves_length c.args.place ≡ true
free c = sym c.leaves_length.ensures.place ∙ c.if-not-leaves_length.false

-- the test of the value
fit : (c : After-fits) → c.fits.result ≡ fits c.args.place.kind c.args.value
fit c = let wide : SFits w128 c.args.value = search rules in rw (to_z-of_z w128 c.args.value wide) at c.fits.ensures

pub returns-then-not-fits-clause-step : goal.returns-then-not-fits-clause-step
returns-then-not-fits-clause-step c = λ sure.
    told_first _ c.args.self.now.state _ (Set c.args.p (field.Place c.args.place) c.args.value) _ (unfit_refused c.args.self.now.state c.args.p c.args.place c.args.value (there c.before) (free c.before) (sym (fit c.before) ∙ c.if-not-fits.true)) refl

pub put_value-requires-clause-room : goal.put_value-requires-clause-room
put_value-requires-clause-room c =
    let wide : SFits w128 c.args.value = search rules in
    rw (to_z-of_z w128 c.args.value wide) (room_there c.args.self.now.state.volume c.args.p c.args.place c.args.value (there c.before.before.before) c.stands.ensures.headers (free c.before.before.before) (sym (fit c.before.before.before) ∙ c.if-not-fits.false))

pub put_value-requires-clause-none : goal.put_value-requires-clause-none
put_value-requires-clause-none c =
    let wide : SFits w128 c.args.value = search rules in
    rw (to_z-of_z w128 c.args.value wide) (λ sure. none_refuses_it c.args.self.now.state c.args.p c.args.place c.args.value (c.stands.ensures.cut sure) (there c.before.before.before) (free c.before.before.before) (sym (fit c.before.before.before) ∙ c.if-not-fits.false))

pub returns-clause-step : goal.returns-clause-step
returns-clause-step c =
    let s = c.args.self.now.state in
    let wide : SFits w128 c.args.value = search rules in
    let done = rw (to_z-of_z w128 c.args.value wide) at c.put_value.ensures.ok in
    λ sure.
    stepped_unless (is_told s.fields c.args.place) s s c.put_value.new.self.state (Set c.args.p (field.Place c.args.place) c.args.value) c.put_value.result
    (none_refuses_it s c.args.p c.args.place c.args.value (c.stands.ensures.cut (c.put_value.ensures.reads.agreed sure)) (there c.before.before.before.before) (free c.before.before.before.before) (sym (fit c.before.before.before.before) ∙ c.if-not-fits.false)) refl (record {})
    (set_looks s c.args.p c.args.place c.args.value (there c.before.before.before.before)) (on_ok c.put_value.result (λ f. f sure) done) c.put_value.ensures.err (λ told. (c.put_value.ensures.told (both _ _ told).1).1)

pub returns-clause-looks : goal.returns-clause-looks
returns-clause-looks c =
    set_once c.args.self.now.state.volume c.args.self.now.state.fields c.args.p c.args.place c.args.self.now.looks c.put_value.new.self.looks (there c.before.before.before.before) c.put_value.ensures.looks (λ tells. (c.put_value.ensures.told tells).0)
