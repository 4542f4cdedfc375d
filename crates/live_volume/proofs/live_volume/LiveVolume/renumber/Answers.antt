use Rattle.std.proofs.Common.{◌≡◌, ◌∙◌, ◌+◌, ◌-◌, true, Some, None, refl, sym, subst, rules, arith}
use Rattle.std.proofs.lemmas.Int.{to_z-of_z}
use Rattle.std.specs.Int.{w128}
use mir.Val.{SFits}
use Rattle.field_map.specs.Places.{offset_of}
use Rattle.trace_record.specs.Told.{tells_record}
use Rattle.bench_rules.specs.declared.edit.Edit.TheVariants.{Renumber}
use Rattle.bench_rules.specs.declared.refusal.Refusal.TheVariants.{OutOfMemory}
use Rattle.bench_rules.specs.Looks.{is_told}
use Rattle.bench_rules.specs.Places.{place_in_trace}
use Rattle.bench_rules.specs.State.{State}
use Rattle.bench_rules.proofs.FirstLemmas.{AreTraces}
use Rattle.bench_rules.proofs.SetLemmas.{both}
use Rattle.live_volume.specs.Places.{EachHolds}
use Rattle.live_volume.proofs.ComputedLemmas.{in_range}
use Rattle.live_volume.proofs.HeldLemmas.{on_ok, stepped_unless}
use Rattle.live_volume.proofs.ManyTracesLemmas.{renumber_first, renumber_looks, renumber_same, renumber_twice}
use Rattle.live_volume.proofs.live_volume.LiveVolume.renumber.Goals.{After-count_up}
use Rattle.live_volume.proofs.live_volume.LiveVolume.renumber.Goals as goal

-- the traces are there
range : (c : After-count_up) → AreTraces c.args.self.now.state.volume c.args.a c.args.b None
range c = in_range c.args.self.now.state.volume c.args.a c.args.b (sym c.in_default.is ∙ c.range_refusal.ensures.refusal)

-- the field has the place
place : (c : After-count_up) → Some c.in-Some-place_in_trace.place ≡ place_in_trace c.args.self.now.state.fields c.args.field.now
place c = sym c.in-Some-place_in_trace.is ∙ c.place_in_trace.ensures

-- what the records tell before the values are judged they tell then
tells : (c : After-count_up) → tells_record c.args.self.now.state.fields (offset_of c.in-Some-place_in_trace.place) c.in-Some-place_in_trace.place.kind.size ≡ true
    → tells_record c.values_refusal.new.self.state.fields (offset_of c.in-Some-place_in_trace.place) c.in-Some-place_in_trace.place.kind.size ≡ true
tells c = subst (λ (s : State). tells_record s.fields (offset_of c.in-Some-place_in_trace.place) c.in-Some-place_in_trace.place.kind.size ≡ true) (sym c.values_refusal.ensures.seen.state)

pub returns-in-Some-2-clause-looks : goal.returns-in-Some-2-clause-looks
returns-in-Some-2-clause-looks c =
    let t : AreTraces c.args.self.now.state.volume c.args.a c.args.b None = in_range c.args.self.now.state.volume c.args.a c.args.b (sym c.in_default.is ∙ c.range_refusal.ensures.refusal) in
    let e : Some c.in-Some-place_in_trace.place ≡ place_in_trace c.args.self.now.state.fields c.args.field.now = sym c.in-Some-place_in_trace.is ∙ c.place_in_trace.ensures in
    let seen = c.values_refusal.ensures.seen.looks in
    renumber_twice c.args.self.now.state c.args.a c.args.b c.args.field.now c.in-Some-place_in_trace.place c.args.first c.args.step c.args.self.now.looks c.values_refusal.new.self.looks c.values_refusal.new.self.looks t e seen
    (omega arith, omega arith) (λ is. refl)

pub count_up-requires-clause-each : goal.count_up-requires-clause-each
count_up-requires-clause-each c =
    subst (λ (s : State). EachHolds s.volume c.args.a (c.args.b + 1 - c.args.a) c.in-Some-place_in_trace.place) (sym c.values_refusal.ensures.seen.state) (c.in_ok-refusal.ensures.each c.in_default-2.is)

pub returns-clause-step : goal.returns-clause-step
returns-clause-step c =
    let old : State = c.args.self.now.state in
    let mid : State = c.values_refusal.new.self.state in
    let new : State = c.count_up.new.self.state in
    let p = c.in-Some-place_in_trace.place in
    let first : SFits w128 c.args.first = search rules in
    let step : SFits w128 c.args.step = search rules in
    let told = rw (to_z-of_z w128 c.args.first first, to_z-of_z w128 c.args.step step) at c.in_ok-refusal.ensures.refusal in
    let done = rw (to_z-of_z w128 c.args.first first, to_z-of_z w128 c.args.step step) at c.count_up.ensures.ok in
    let there : Some p ≡ place_in_trace mid.fields c.args.field.now = subst (λ (s : State). Some p ≡ place_in_trace s.fields c.args.field.now) (sym c.values_refusal.ensures.seen.state) (place c) in
    λ sure.
    stepped_unless (is_told old.fields p) old mid new (Renumber c.args.a c.args.b c.args.field.now c.args.first c.args.step) c.count_up.result
    (renumber_first old c.args.a c.args.b c.args.field.now p c.args.first c.args.step (range c) (place c) ∙ sym (told (c.count_up.ensures.reads.agreed sure)) ∙ c.in_default-2.is) c.values_refusal.ensures.seen.state (record {})
    (renumber_looks old c.args.a c.args.b c.args.field.now p c.args.first c.args.step (range c) (place c))
    (on_ok c.count_up.result (λ f. renumber_same mid new c.args.a c.args.b c.args.field.now p c.args.first c.args.step there (f sure)) done) c.count_up.ensures.err
    (λ is. (c.count_up.ensures.told (tells c (both _ _ is).1)).1)

pub returns-clause-looks : goal.returns-clause-looks
returns-clause-looks c =
    renumber_twice c.args.self.now.state c.args.a c.args.b c.args.field.now c.in-Some-place_in_trace.place c.args.first c.args.step c.args.self.now.looks c.values_refusal.new.self.looks c.count_up.new.self.looks (range c) (place c)
    c.values_refusal.ensures.seen.looks c.count_up.ensures.looks (λ is. (c.count_up.ensures.told (tells c is)).0)

pub returns-in-Some-2-clause-memory : goal.returns-in-Some-2-clause-memory
returns-in-Some-2-clause-memory c = record {
  never_falls = omega arith;
  rose = λ e.
      let other = rw c.in-Some-2.is at c.in_ok-refusal.ensures.other in
      let same : c.in-Some-2.refusal ≡ OutOfMemory = cc in
      absurd (other same);
}
