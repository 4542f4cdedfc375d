use Rattle.std.proofs.Common.{◌≡◌, ◌∙◌, ◌+◌, ◌-◌, List, ℕ, length, None, ap, sym, subst, arith}
use Rattle.edit_overlay.specs.Reads.{HaveAgreed}
use Rattle.frame_cut.specs.Parts.{with_each}
use Rattle.bench_rules.specs.declared.edit.Edit.{Edit}
use Rattle.bench_rules.specs.declared.edit.Edit.TheVariants.{Compute}
use Rattle.bench_rules.specs.State.{State}
use Rattle.bench_rules.specs.Steps.{IsAfter}
use Rattle.bench_rules.proofs.FirstLemmas.{AreTraces}
use Rattle.bench_rules.proofs.HeaderEditLemmas.{after_cut}
use Rattle.frame_cut.specs.Traces.{count_of}
use Rattle.live_volume.proofs.ChosenLemmas.{counted_either}
use Rattle.live_volume.proofs.ComputedLemmas.{Lays, compute_told, computed_looks, computed_twice, in_range, lays}
use Rattle.live_volume.proofs.HeldLemmas.{on_ok, read_as_either, read_as_through, stepped, under}
use Rattle.live_volume.proofs.RoomLemmas.{ArePartsOf, each_inside, parts_of}
use Rattle.live_volume.proofs.live_volume.LiveVolume.compute.Goals as goal

pub offset-requires : goal.offset-requires
offset-requires c =
    let t : AreTraces c.args.self.now.state.volume c.args.a c.args.b None = in_range c.args.self.now.state.volume c.args.a c.args.b (sym c.in_default.is ∙ c.range_refusal.ensures.refusal) in
    (c.in-Ok.ensures.each 0 (omega (arith, t.high))).first

-- the traces are there
range : (c : goal.After-as_slice) → AreTraces c.args.self.now.state.volume c.args.a c.args.b None
range c = in_range c.args.self.now.state.volume c.args.a c.args.b (sym c.in_default.is ∙ c.range_refusal.ensures.refusal)

-- the bytes fit over the traces, and the volume with them is the one behind the edit
laid : (c : goal.After-as_slice) → HaveAgreed c.computed.new.self.reads
    → Lays c.args.self.now.state c.args.a c.args.b c.args.field.now c.args.source.now c.args.steps.now c.in-Some-place_in_trace.place c.from-at.result c.from.result c.as_slice.result.now
laid c sure =
    lays c.args.self.now.state c.args.a c.args.b c.args.field.now c.args.source.now c.args.steps.now c.in-Some-place_in_trace.place c.from-at.result c.from.result c.as_slice.result.now
    (c.stands.ensures.cut (c.computed.ensures.seen.reads.agreed sure)) (range c) (sym c.in-Some-place_in_trace.is ∙ c.place_in_trace.ensures) (c.in-Ok.ensures.none sure)
    (c.from-at.ensures ∙ c.offset.ensures) c.from.ensures (c.as_slice.ensures.value ∙ c.in-Ok.ensures.bytes sure)

-- they are as many parts
parts : (c : goal.After-as_slice) → ArePartsOf c.from.result (c.args.b + 1 - c.args.a) (length c.as_slice.result.now)
parts c =
    subst (λ (n : ℕ). ArePartsOf n (c.args.b + 1 - c.args.a) (length c.as_slice.result.now)) (sym c.from.ensures)
    (parts_of c.in-Some-place_in_trace.place.kind.size (c.args.b + 1 - c.args.a) (length c.as_slice.result.now) (c.in-Ok.ensures.each 0 (omega (arith, (range c).high))).size
    (ap (λ (l : List ℕ). length l) c.as_slice.ensures.value ∙ c.in-Ok.ensures.count))

-- there are as many as traces
as_many : (c : goal.After-as_slice) → c.args.b - c.args.a + 1 ≡ c.args.b + 1 - c.args.a
as_many c = omega (arith, (range c).high)

pub put_each-requires-clause-some : goal.put_each-requires-clause-some
put_each-requires-clause-some c = (parts c).some

pub put_each-requires-clause-exact : goal.put_each-requires-clause-exact
put_each-requires-clause-exact c = (parts c).exact

pub put_each-requires-clause-count : goal.put_each-requires-clause-count
put_each-requires-clause-count c = (parts c).number ∙ sym (as_many c)

pub put_each-requires-clause-first : goal.put_each-requires-clause-first
put_each-requires-clause-first c = (range c).low

pub put_each-requires-clause-last : goal.put_each-requires-clause-last
put_each-requires-clause-last c = rw (c.computed.ensures.seen.state) (omega (arith, (range c).low, (range c).high, (range c).last))

pub put_each-requires-clause-inside : goal.put_each-requires-clause-inside
put_each-requires-clause-inside c =
    rw (c.computed.ensures.seen.state) (λ k less.
    each_inside c.args.self.now.state.volume c.in-Some-place_in_trace.place c.args.a (c.args.b + 1 - c.args.a) c.from-at.result c.from.result (range c).low c.in-Ok.ensures.each (c.from-at.ensures ∙ c.offset.ensures) c.from.ensures k
    (omega (arith, less, (parts c).number)))

pub put_each-requires-clause-parts : goal.put_each-requires-clause-parts
put_each-requires-clause-parts c = λ sure.
    let f = (laid c sure).fits in
    rw (c.computed.ensures.seen.state) (record {
      some = f.some;
      exact = f.exact;
      last = f.last;
      traces = (c.stands.ensures.cut (c.computed.ensures.seen.reads.agreed sure)).parts.traces;
      front = f.front;
      whole = f.whole;
      kept = f.kept;
    })

pub put_each-requires-clause-cut : goal.put_each-requires-clause-cut
put_each-requires-clause-cut c = λ sure.
    rw (c.computed.ensures.seen.state) (after_cut c.args.self.now.state (Compute c.args.a c.args.b c.args.field.now c.args.source.now c.args.steps.now) _ (laid c sure).done)

pub returns-in-Err-clause-step : goal.returns-in-Err-clause-step
returns-in-Err-clause-step c = λ sure.
    compute_told _ c.args.self.now.state c.computed.new.self.state c.args.a c.args.b c.args.field.now c.args.source.now c.args.steps.now c.in-Some-place_in_trace.place c.in-Err.refusal
    (in_range c.args.self.now.state.volume c.args.a c.args.b (sym c.in_default.is ∙ c.range_refusal.ensures.refusal)) (sym c.in-Some-place_in_trace.is ∙ c.place_in_trace.ensures) (under sure c.in-Err.ensures.err) c.computed.ensures.seen.state

pub returns-clause-step : goal.returns-clause-step
returns-clause-step c = λ sure.
    let edit : Edit = Compute c.args.a c.args.b c.args.field.now c.args.source.now c.args.steps.now in
    let old : State = c.args.self.now.state in
    let mid : State = c.computed.new.self.state in
    let l = laid c.before.before (c.put_each.ensures.reads.agreed sure) in
    let done : IsAfter mid edit (record mid { volume = with_each mid.volume c.args.a c.from-at.result c.from.result c.as_slice.result.now }) =
    subst (λ (u : State). IsAfter u edit (record u { volume = with_each u.volume c.args.a c.from-at.result c.from.result c.as_slice.result.now })) (sym c.computed.ensures.seen.state) l.done in
    stepped old mid c.put_each.new.self.state edit c.put_each.result l.none c.computed.ensures.seen.state (record {})
    (computed_looks old c.args.a c.args.b c.args.field.now c.args.source.now c.args.steps.now (range c.before.before) l.none)
    (on_ok c.put_each.result (λ e. subst (λ (u : State). IsAfter mid edit u) (sym e) done) c.put_each.ensures.ok) c.put_each.ensures.err

pub returns-clause-same : goal.returns-clause-same
returns-clause-same c = read_as_through _ _ _ c.computed.ensures.seen.state (read_as_either _ c.put_each.result _ _ _ c.put_each.ensures.ok c.put_each.ensures.err)

pub returns-clause-looks : goal.returns-clause-looks
returns-clause-looks c =
    computed_twice c.args.self.now.state c.args.a c.args.b c.args.field.now c.args.source.now c.args.steps.now c.in-Some-place_in_trace.place c.args.self.now.looks c.computed.new.self.looks c.put_each.new.self.looks
    (range c.before.before) (sym c.in-Some-place_in_trace.is ∙ c.place_in_trace.ensures) c.in-Ok.ensures.looked c.computed.ensures.seen.looks c.put_each.ensures.looks

pub returns-clause-count : goal.returns-clause-count
returns-clause-count c =
    counted_either c.put_each.result _ _ _ c.args.a c.from-at.result c.from.result c.as_slice.result.now c.put_each.ensures.ok c.put_each.ensures.err
    ∙ ap (λ (s : State). count_of s.volume) c.computed.ensures.seen.state
