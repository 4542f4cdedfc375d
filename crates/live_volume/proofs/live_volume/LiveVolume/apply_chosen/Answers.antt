use Rattle.std.proofs.Common.{◌≡◌, ◌∙◌, ℕ, true, List, length, None, sym, subst}
use Rattle.edit_overlay.specs.CountedVolume.{RisesAtMost}
use Rattle.bench_rules.specs.ChosenEdits.{has_fields}
use Rattle.bench_rules.specs.Looks.{each_looks}
use Rattle.bench_rules.specs.RangeRefusals.{range_refusal}
use Rattle.bench_rules.specs.State.{State}
use Rattle.live_volume.specs.Chosen.{IsRefusedFor}
use Rattle.live_volume.specs.Held.{state_of}
use Rattle.live_volume.proofs.ChosenEachLemmas.{all_looked, choice_told, each_refused}
use Rattle.live_volume.proofs.HeldLemmas.{looked_at}
use Rattle.live_volume.proofs.live_volume.LiveVolume.apply_chosen.Goals as goal

pub returns-in-Err-clause-step : goal.returns-in-Err-clause-step
returns-in-Err-clause-step c =
    let s : State = state_of c.self.inside in
    let look = looked_at c.self.inside c.choose.new.overlay _ c.choose.ensures.seen in
    let free : range_refusal s.volume c.args.chosen.now.traces ≡ None = rw (← c.self.view_is) at (sym c.no_range.ensures.refusal ∙ c.in_default.is) in
    let has : has_fields s.fields c.args.edit.now ≡ true = rw (← c.self.view_is) at (sym c.if-not-has_fields.ensures) in
    rw (← c.self.view_is, c.refusal_for.ensures) (λ sure. choice_told s c.args.chosen.now c.args.edit.now free has _ _ c.in-Err.fault sure look.state c.in-Err.ensures.err)

pub returns-in_err-edit_each-clause-step : goal.returns-in_err-edit_each-clause-step
returns-in_err-edit_each-clause-step c =
    let s : State = state_of c.self.inside in
    let look = looked_at c.self.inside c.choose.new.overlay _ c.choose.ensures.seen in
    let free : range_refusal s.volume c.args.chosen.now.traces ≡ None = rw (← c.self.view_is) at (sym c.no_range.ensures.refusal ∙ c.in_default.is) in
    let has : has_fields s.fields c.args.edit.now ≡ true = rw (← c.self.view_is) at (sym c.if-not-has_fields.ensures) in
    rw (← c.self.view_is) (λ sure.
    each_refused s c.args.chosen.now c.args.edit.now free has c.in-Ok.traces.items (c.in-Ok.ensures.ok (c.edit_each.ensures.reads.agreed sure) (c.self.invariant.records (c.choose.ensures.seen.reads.agreed (c.edit_each.ensures.reads.agreed sure)))) _ c.in_err-edit_each.field-0.0 c.from_residual.result
    c.from_residual.ensures.0 c.from_residual.ensures.1 c.in-Ok.ensures.few (c.in_err-edit_each.ensures.unchanged ∙ look.state)
    (subst (λ (u : State). IsRefusedFor u c.args.edit.now c.in-Ok.traces.items c.in_err-edit_each.field-0.0) look.state (rw c.as_slice.ensures.value at (c.in_err-edit_each.ensures.err sure))))

pub returns-in_err-edit_each-clause-looks : goal.returns-in_err-edit_each-clause-looks
returns-in_err-edit_each-clause-looks c =
    rw (← c.self.view_is)
    (all_looked (state_of c.self.inside) c.args.chosen.now c.args.edit.now (length c.in-Ok.traces.items) c.self.inside.overlay.looks c.choose.new.overlay.looks c.edit_each.new.self.looks c.in-Ok.ensures.few c.choose.ensures.seen.looks
    (subst (λ (ps : List ℕ). RisesAtMost c.choose.new.overlay.looks c.edit_each.new.self.looks (each_looks c.self.inside.fields.pairs c.args.edit.now (length ps))) c.as_slice.ensures.value c.edit_each.ensures.looks))

pub returns-then-is_empty-clause-looks : goal.returns-then-is_empty-clause-looks
returns-then-is_empty-clause-looks c =
    rw (← c.self.view_is)
    (all_looked (state_of c.self.inside) c.args.chosen.now c.args.edit.now (length c.in-Ok.traces.items) c.self.inside.overlay.looks c.choose.new.overlay.looks c.edit_each.new.self.looks c.in-Ok.ensures.few c.choose.ensures.seen.looks
    (subst (λ (ps : List ℕ). RisesAtMost c.choose.new.overlay.looks c.edit_each.new.self.looks (each_looks c.self.inside.fields.pairs c.args.edit.now (length ps))) c.as_slice.ensures.value c.edit_each.ensures.looks))

pub returns-clause-looks : goal.returns-clause-looks
returns-clause-looks c =
    rw (← c.self.view_is)
    (all_looked (state_of c.self.inside) c.args.chosen.now c.args.edit.now (length c.in-Ok.traces.items) c.self.inside.overlay.looks c.choose.new.overlay.looks c.edit_each.new.self.looks c.in-Ok.ensures.few c.choose.ensures.seen.looks
    (subst (λ (ps : List ℕ). RisesAtMost c.choose.new.overlay.looks c.edit_each.new.self.looks (each_looks c.self.inside.fields.pairs c.args.edit.now (length ps))) c.as_slice.ensures.value c.edit_each.ensures.looks))
