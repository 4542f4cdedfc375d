use Rattle.std.proofs.Common.{◌≡◌, ◌∙◌, ℕ, ◌+◌, ◌-◌, List, length, None, sym, ap, subst, refl, rules, arith}
use Rattle.std.proofs.lemmas.Int.{to_z-of_z}
use Rattle.std.specs.Int.{w128}
use Rattle.edit_overlay.specs.Reads.{Follow, HaveAgreed}
use mir.Val.{SFits}
use Rattle.frame_cut.specs.Parts.{with_each}
use Rattle.bench_rules.specs.declared.edit.Edit.TheVariants.{Renumber}
use Rattle.bench_rules.specs.declared.field.Field.TheVariants as field
use Rattle.bench_rules.specs.Refused.{first_refusal}
use Rattle.bench_rules.specs.State.{State}
use Rattle.bench_rules.specs.Steps.{IsAfter}
use Rattle.bench_rules.specs.TraceEdits.{values_bytes}
use Rattle.bench_rules.proofs.HeaderEditLemmas.{after_cut}
use Rattle.bench_rules.proofs.ManyValueLemmas.{ValuesFitIn}
use Rattle.bench_rules.proofs.RenumberLemmas.{renumber_fits, renumber_done}
use Rattle.live_volume.specs.Held.{state_of}
use Rattle.live_volume.proofs.ChosenLemmas.{counted_either}
use Rattle.live_volume.proofs.HeldLemmas.{on_ok, read_as_either}
use Rattle.live_volume.proofs.RoomLemmas.{ArePartsOf, each_inside, length-counted, parts_of}
use Rattle.live_volume.proofs.live_volume.LiveVolume.count_up.Goals as goal

pub values_bytes-requires-clause-size : goal.values_bytes-requires-clause-size
values_bytes-requires-clause-size c = (c.requires.each 0 (omega (arith, c.requires.range))).size

pub values_bytes-requires-clause-fit : goal.values_bytes-requires-clause-fit
values_bytes-requires-clause-fit c =
    let first : SFits w128 c.args.first = search rules in
    let step : SFits w128 c.args.step = search rules in
    rw (to_z-of_z w128 c.args.first first, to_z-of_z w128 c.args.step step) (λ k less. c.requires.fit k (omega (arith, less, c.requires.range)))

pub offset-requires : goal.offset-requires
offset-requires c = (c.requires.each 0 (omega (arith, c.requires.range))).first

-- nothing refuses the values
none_refused : (c : goal.After-as_slice) → HaveAgreed c.self.inside.overlay.reads → first_refusal (state_of c.self.inside) (Renumber c.args.a c.args.b (field.Place c.args.place) c.args.first c.args.step) ≡ None
none_refused c = rw (← c.self.view_is) at c.requires.none

-- there are as many as traces
as_many : (c : goal.After-as_slice) → c.args.b - c.args.a + 1 ≡ c.args.b + 1 - c.args.a
as_many c = omega (arith, c.requires.range)

-- the bytes that are laid over the traces are theirs
bytes_are : (c : goal.After-as_slice) → c.as_slice.result.now ≡ values_bytes (state_of c.self.inside).volume.head.order c.args.place.kind c.args.first c.args.step (c.args.b + 1 - c.args.a)
bytes_are c =
    let first : SFits w128 c.args.first = search rules in
    let step : SFits w128 c.args.step = search rules in
    c.as_slice.ensures.value ∙ (rw (to_z-of_z w128 c.args.first first, to_z-of_z w128 c.args.step step, c.head-order.ensures, as_many c) at c.in_ok-bytes.ensures.ok)

-- they are as many parts
parts : (c : goal.After-as_slice) → ArePartsOf c.from.result (c.args.b + 1 - c.args.a) (length c.as_slice.result.now)
parts c =
    subst (λ (n : ℕ). ArePartsOf n (c.args.b + 1 - c.args.a) (length c.as_slice.result.now)) (sym c.from.ensures)
    (parts_of c.args.place.kind.size (c.args.b + 1 - c.args.a) (length c.as_slice.result.now) (c.requires.each 0 (omega (arith, c.requires.range))).size
    (ap (λ (l : List ℕ). length l) (bytes_are c) ∙ length-counted (state_of c.self.inside).volume.head.order c.args.place.kind c.args.first c.args.step (c.args.b + 1 - c.args.a)))

-- and they fit there
fit : (c : goal.After-as_slice) → HaveAgreed c.self.inside.overlay.reads → ValuesFitIn (state_of c.self.inside) c.args.a (c.args.b + 1 - c.args.a) c.from-at.result c.from.result c.as_slice.result.now
fit c sure =
    renumber_fits (state_of c.self.inside) c.args.a c.args.b (field.Place c.args.place) c.args.first c.args.step c.args.place c.from-at.result c.from.result c.as_slice.result.now
    (c.self.invariant.cut sure) refl (none_refused c sure) (c.from-at.ensures ∙ c.offset.ensures) c.from.ensures (bytes_are c)

-- the volume with them is the one behind the edit
done : (c : goal.After-as_slice) → HaveAgreed c.self.inside.overlay.reads → IsAfter (state_of c.self.inside) (Renumber c.args.a c.args.b (field.Place c.args.place) c.args.first c.args.step)
    (record (state_of c.self.inside) { volume = with_each (state_of c.self.inside).volume c.args.a c.from-at.result c.from.result c.as_slice.result.now })
done c sure =
    renumber_done (state_of c.self.inside) c.args.a c.args.b (field.Place c.args.place) c.args.first c.args.step c.args.place c.from-at.result c.from.result c.as_slice.result.now
    (with_each (state_of c.self.inside).volume c.args.a c.from-at.result c.from.result c.as_slice.result.now)
    (c.self.invariant.cut sure) refl (none_refused c sure) (c.from-at.ensures ∙ c.offset.ensures) c.from.ensures (bytes_are c) refl

pub put_each-requires-clause-some : goal.put_each-requires-clause-some
put_each-requires-clause-some c = (parts c).some

pub put_each-requires-clause-exact : goal.put_each-requires-clause-exact
put_each-requires-clause-exact c = (parts c).exact

pub put_each-requires-clause-count : goal.put_each-requires-clause-count
put_each-requires-clause-count c = (parts c).number ∙ sym (as_many c)

pub put_each-requires-clause-last : goal.put_each-requires-clause-last
put_each-requires-clause-last c = omega (arith, c.requires.first, c.requires.range, c.requires.last)

pub put_each-requires-clause-inside : goal.put_each-requires-clause-inside
put_each-requires-clause-inside c = λ k less.
    each_inside c.args.self.now.state.volume c.args.place c.args.a (c.args.b + 1 - c.args.a) c.from-at.result c.from.result c.requires.first c.requires.each (c.from-at.ensures ∙ c.offset.ensures) c.from.ensures k
    (omega (arith, less, (parts c).number))

pub put_each-requires-clause-parts : goal.put_each-requires-clause-parts
put_each-requires-clause-parts c =
    rw (← c.self.view_is) (λ sure. let f = fit c sure in record {
      some = f.some;
      exact = f.exact;
      last = f.last;
      traces = (c.self.invariant.cut sure).parts.traces;
      front = f.front;
      whole = f.whole;
      kept = f.kept;
    })

pub put_each-requires-clause-cut : goal.put_each-requires-clause-cut
put_each-requires-clause-cut c =
    rw (← c.self.view_is) (λ sure. after_cut (state_of c.self.inside) (Renumber c.args.a c.args.b (field.Place c.args.place) c.args.first c.args.step) _ (done c sure))

pub returns-clause-ok : goal.returns-clause-ok
returns-clause-ok c =
    let held : Follow c.self.inside.overlay.reads c.put_each.new.self.reads = rw (← c.self.view_is) at c.put_each.ensures.reads in
    on_ok c.put_each.result (λ e sure. subst (λ (u : State). IsAfter c.args.self.now.state (Renumber c.args.a c.args.b (field.Place c.args.place) c.args.first c.args.step) u) (sym e)
    (rw (← c.self.view_is) (done c.before.before (held.agreed sure)))) c.put_each.ensures.ok

pub returns-clause-same : goal.returns-clause-same
returns-clause-same c = read_as_either _ c.put_each.result _ _ _ c.put_each.ensures.ok c.put_each.ensures.err

pub returns-clause-count : goal.returns-clause-count
returns-clause-count c =
    counted_either c.put_each.result _ _ _ c.args.a c.from-at.result c.from.result c.as_slice.result.now c.put_each.ensures.ok c.put_each.ensures.err
