use Rattle.std.proofs.Common.{◌≡◌, ◌∙◌, ℕ, ◌+◌, ◌-◌, Bool, List, None, ap, sym, subst, arith}
use Rattle.frame_cut.specs.Traces.{count_of}
use Rattle.trace_store.specs.Swapped.{with_places_swapped, ArePlaces}
use Rattle.edit_overlay.specs.CountedVolume.{RisesAtMost}
use Rattle.bench_rules.specs.declared.edit.Edit.{Edit}
use Rattle.bench_rules.specs.declared.edit.Edit.TheVariants.{Sort}
use Rattle.bench_rules.specs.declared.field.Field.{Field}
use Rattle.bench_rules.specs.Looks.{looks_at, edit_looks}
use Rattle.bench_rules.specs.ManyTraces.{each_of}
use Rattle.bench_rules.specs.Places.{place_in_trace}
use Rattle.bench_rules.specs.State.{State, Session}
use Rattle.bench_rules.specs.Steps.{IsAfter}
use Rattle.bench_rules.proofs.FirstLemmas.{AreTraces}
use Rattle.live_volume.specs.Held.{session_of}
use Rattle.live_volume.proofs.ComputedLemmas.{all_looks, in_range}
use Rattle.live_volume.proofs.HeldLemmas.{held_again, looked_as, looked_at, read_as, read_as_before, read_as_through, under}
use Rattle.live_volume.proofs.SortLemmas.{is-sorted, sort_told}
use Rattle.live_volume.proofs.live_volume.LiveVolume.sort.Goals as goal

-- all traces of the range are there, so as many looks as they are granted
granted : (held shown : Session) (new a b : ℕ) (names : List Field) (falls : List Bool) → held ≡ shown → AreTraces shown.state.volume a b None
    → RisesAtMost held.looks new (looks_at (each_of (place_in_trace held.state.fields) names) (b + 1 - a)) → RisesAtMost shown.looks new (edit_looks shown.state (Sort a b names falls))
granted held shown new a b names falls view t rises =
    subst (λ (n : ℕ). RisesAtMost shown.looks new (looks_at (each_of (place_in_trace shown.state.fields) names) n)) (sym (all_looks shown.state.volume a b t))
    (subst (λ (s : Session). RisesAtMost s.looks new (looks_at (each_of (place_in_trace s.state.fields) names) (b + 1 - a))) view rises)

pub invariant_of-self-2 : goal.invariant_of-self-2
invariant_of-self-2 c = held_again c.self.inside c.exchanges_to_sort.new.overlay _ c.exchanges_to_sort.ensures.seen c.self.invariant

pub returns-in-Err-clause-step : goal.returns-in-Err-clause-step
returns-in-Err-clause-step c =
    let look = looked_at c.self.inside c.exchanges_to_sort.new.overlay _ c.exchanges_to_sort.ensures.seen in
    rw (← c.self.view_is) (λ sure.
    sort_told _ (session_of c.self.inside).state _ c.args.a c.args.b c.args.fields.now c.args.falling.now c.in-Err.refusal
    (rw (← c.self.view_is) at (in_range c.args.self.now.state.volume c.args.a c.args.b (sym c.in_default.is ∙ c.range_refusal.ensures.refusal))) (under sure c.in-Err.ensures.err) look.state)

pub returns-in-Err-clause-err : goal.returns-in-Err-clause-err
returns-in-Err-clause-err c =
    rw (← c.self.view_is) (looked_at c.self.inside c.exchanges_to_sort.new.overlay _ c.exchanges_to_sort.ensures.seen).state

pub returns-in-Err-clause-same : goal.returns-in-Err-clause-same
returns-in-Err-clause-same c =
    rw (← c.self.view_is) (read_as_before _ _ (looked_at c.self.inside c.exchanges_to_sort.new.overlay _ c.exchanges_to_sort.ensures.seen).state)

pub returns-in-Err-clause-looks : goal.returns-in-Err-clause-looks
returns-in-Err-clause-looks c =
    granted (session_of c.self.inside) c.args.self.now c.exchanges_to_sort.new.overlay.looks c.args.a c.args.b c.args.fields.now c.args.falling.now c.self.view_is
    (in_range c.args.self.now.state.volume c.args.a c.args.b (sym c.in_default.is ∙ c.range_refusal.ensures.refusal)) c.exchanges_to_sort.ensures.seen.looks

pub invariant_of-self : goal.invariant_of-self
invariant_of-self c = held_again c.self.inside c.exchanges_to_sort.new.overlay _ c.exchanges_to_sort.ensures.seen c.self.invariant

pub exchange_pairs-requires : goal.exchange_pairs-requires
exchange_pairs-requires c =
    subst (λ (s : State). ArePlaces (count_of s.volume) c.in-Ok.pairs.items) (sym (looked_at c.self.inside c.exchanges_to_sort.new.overlay _ c.exchanges_to_sort.ensures.seen).state) c.in-Ok.ensures.places

pub returns-clause-step : goal.returns-clause-step
returns-clause-step c =
    let old : State = c.args.self.now.state in
    let edit : Edit = Sort c.args.a c.args.b c.args.fields.now c.args.falling.now in
    let look = looked_as c.self.inside c.exchanges_to_sort.new.overlay _ c.args.self.now c.self.view_is c.exchanges_to_sort.ensures.seen in
    let is : c.exchange_pairs.new.self.state ≡ record old { volume = with_places_swapped old.volume c.in-Ok.pairs.items } =
    c.exchange_pairs.ensures.state ∙ ap (λ (s : State). let u : State = record s { volume = with_places_swapped s.volume c.in-Ok.pairs.items } in u) look.state in
    λ sure.
    let mid = c.exchange_pairs.ensures.reads.agreed sure in
    let l =
    is-sorted old c.args.a c.args.b c.args.fields.now c.args.falling.now c.in-Ok.pairs.items (c.stands.ensures.cut (look.reads.agreed mid))
    (in_range old.volume c.args.a c.args.b (sym c.in_default.is ∙ c.range_refusal.ensures.refusal)) (rw (← c.self.view_is) (c.in-Ok.ensures.ok mid)) in
    rw l.none (subst (λ (s : State). IsAfter old edit s) (sym is) l.done)

pub returns-clause-same : goal.returns-clause-same
returns-clause-same c =
    let look = looked_as c.self.inside c.exchanges_to_sort.new.overlay _ c.args.self.now c.self.view_is c.exchanges_to_sort.ensures.seen in
    read_as_through _ _ _ look.state (read_as _ _ _ c.exchange_pairs.ensures.state)

pub returns-clause-reads : goal.returns-clause-reads
returns-clause-reads c =
    let look = looked_as c.self.inside c.exchanges_to_sort.new.overlay _ c.args.self.now c.self.view_is c.exchanges_to_sort.ensures.seen in
    let on = c.exchange_pairs.ensures.reads in
    record { agreed = λ sure. look.reads.agreed (on.agreed sure); failures = omega (arith, look.reads.failures, on.failures) }

pub returns-in-Err-clause-reads_tell : goal.returns-in-Err-clause-reads_tell
returns-in-Err-clause-reads_tell c = rw (← c.self.view_is) c.in-Err.ensures.reads_tell

pub returns-clause-looks : goal.returns-clause-looks
returns-clause-looks c =
    subst (λ (n : ℕ). RisesAtMost c.args.self.now.looks n (edit_looks c.args.self.now.state (Sort c.args.a c.args.b c.args.fields.now c.args.falling.now))) (sym c.exchange_pairs.ensures.looks)
    (granted (session_of c.self.inside) c.args.self.now c.exchanges_to_sort.new.overlay.looks c.args.a c.args.b c.args.fields.now c.args.falling.now c.self.view_is
    (in_range c.args.self.now.state.volume c.args.a c.args.b (sym c.in_default.is ∙ c.range_refusal.ensures.refusal)) c.exchanges_to_sort.ensures.seen.looks)
