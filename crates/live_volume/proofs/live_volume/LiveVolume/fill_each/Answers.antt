use Rattle.std.proofs.Common.{◌≡◌, ◌∙◌, ◌<◌, ℕ, List, ap, inr, sym, subst, arith, rules}
use Rattle.std.proofs.lemmas.Int.{to_z-of_z}
use Rattle.std.specs.Int.{w128}
use mir.Val.{SFits}
use Rattle.frame_cut.specs.Cuts.{IsCut}
use Rattle.frame_cut.specs.Volume.{Volume, bytes_of}
use Rattle.bench_rules.specs.declared.chosen_edit.ChosenEdit.TheVariants.{Fill}
use Rattle.bench_rules.specs.ChosenEdits.{bytes_after_each}
use Rattle.bench_rules.specs.FilledSamples.{filled}
use Rattle.bench_rules.specs.State.{State}
use Rattle.bench_rules.specs.SwappedFields.{changed_each}
use Rattle.live_volume.specs.Held.{with_volume}
use Rattle.live_volume.specs.Refusals.{IsOfMachine}
use Rattle.live_volume.proofs.FillLemmas.{fill_cut, fill_failed, fill_free, fill_told, unfilled, value_told}
use Rattle.live_volume.proofs.HeldLemmas.{err_back, if_err, left_as_it_was, on_ok, read_as_through}
use Rattle.live_volume.proofs.SwapLemmas.{looked_once, looked_twice}
use Rattle.live_volume.proofs.live_volume.LiveVolume.fill_each.Goals as goal

pub returns-in-Some-clause-err : goal.returns-in-Some-clause-err
returns-in-Some-clause-err c = λ sure.
    let fit : SFits w128 c.args.value = search rules in
    inr (inr (value_told c.args.self.now.state c.args.first c.args.last c.args.value c.args.traces.now c.in-Some.refusal (rw (to_z-of_z w128 c.args.value fit) at (sym c.sample_value_refusal.ensures.refusal ∙ c.in-Some.is))))

pub returns-in-Err-clause-err : goal.returns-in-Err-clause-err
returns-in-Err-clause-err c = λ sure.
    let fit : SFits w128 c.args.value = search rules in
    fill_told c.args.self.now.state c.args.first c.args.last c.args.value c.args.traces.now (rw (to_z-of_z w128 c.args.value fit) at (sym c.sample_value_refusal.ensures.refusal ∙ c.in_default.is)) c.in-Err.refusal c.requires.some sure c.in-Err.ensures.err

pub returns-in-Err-clause-looks : goal.returns-in-Err-clause-looks
returns-in-Err-clause-looks c = looked_once _ _ _ c.sample_places.ensures.seen.looks

-- no sample lies there
pub returns-then-first-last-clause-cut : goal.returns-then-first-last-clause-cut
returns-then-first-last-clause-cut c = λ sure.
    let s : State = c.args.self.now.state in
    let ps : List ℕ = c.args.traces.now in
    let less : c.args.last < c.args.first = omega (arith, c.if-first-last.true) in
    let same = unfilled s.volume.head c.args.first c.args.last c.args.value s.volume ps less in
    subst (λ (u : State). IsCut (bytes_after_each s.volume s.fields (Fill c.args.first c.args.last c.args.value) ps) s.reading s.limits u.volume) (sym c.sample_places.ensures.seen.state)
    (subst (λ (w : Volume). IsCut (bytes_of w) s.reading s.limits s.volume) (sym same) (c.stands.ensures.cut (c.sample_places.ensures.seen.reads.agreed sure)))

pub put_filled-requires-clause-rising : goal.put_filled-requires-clause-rising
put_filled-requires-clause-rising c = rw c.sample_places.ensures.seen.state c.requires.rising

pub put_filled-requires-clause-fits : goal.put_filled-requires-clause-fits
put_filled-requires-clause-fits c = rw c.sample_places.ensures.seen.state (sym c.sample_value_refusal.ensures.refusal ∙ c.in_default.is)

pub put_filled-requires-clause-none : goal.put_filled-requires-clause-none
put_filled-requires-clause-none c = rw c.sample_places.ensures.seen.state c.in-Ok.ensures.none

pub put_filled-requires-clause-places : goal.put_filled-requires-clause-places
put_filled-requires-clause-places c = rw (c.sample_places.ensures.seen.state, c.as_slice.ensures.value) c.in-Ok.ensures.places

pub put_filled-requires-clause-room : goal.put_filled-requires-clause-room
put_filled-requires-clause-room c = rw (c.sample_places.ensures.seen.state, c.as_slice.ensures.value) c.in-Ok.ensures.room

pub returns-clause-none : goal.returns-clause-none
returns-clause-none c =
    let fit : SFits w128 c.args.value = search rules in
    let s : State = c.args.self.now.state in
    on_ok c.put_filled.result
    (λ done sure. fill_free s c.args.first c.args.last c.args.value c.args.traces.now (rw (to_z-of_z w128 c.args.value fit) at (sym c.sample_value_refusal.ensures.refusal ∙ c.in_default.is)) (c.in-Ok.ensures.none (c.put_filled.ensures.reads.agreed sure))) c.put_filled.ensures.ok

pub returns-clause-cut : goal.returns-clause-cut
returns-clause-cut c =
    let fit : SFits w128 c.args.value = search rules in
    let s : State = c.args.self.now.state in
    let ps : List ℕ = c.args.traces.now in
    let mid : c.sample_places.new.self.state ≡ s = c.sample_places.ensures.seen.state in
    on_ok c.put_filled.result
    (λ done sure.
    let before = c.put_filled.ensures.reads.agreed sure in
    let is : c.put_filled.new.self.state ≡ with_volume s (changed_each (filled s.volume.head c.args.first c.args.last c.args.value) s.volume ps) =
    done sure ∙ ap (λ (u : State). with_volume u (changed_each (filled u.volume.head c.args.first c.args.last c.args.value) u.volume ps)) mid in
    subst (λ (u : State). IsCut (bytes_after_each s.volume s.fields (Fill c.args.first c.args.last c.args.value) ps) s.reading s.limits u.volume) (sym is)
    (fill_cut s c.args.first c.args.last c.args.value ps (rw (to_z-of_z w128 c.args.value fit) at (sym c.sample_value_refusal.ensures.refusal ∙ c.in_default.is)) (c.stands.ensures.cut (c.sample_places.ensures.seen.reads.agreed before)) c.requires.rising (c.in-Ok.ensures.none before)))
    (rw (to_z-of_z w128 c.args.value fit) at c.put_filled.ensures.ok)

pub returns-clause-fields : goal.returns-clause-fields
returns-clause-fields c =
    let mid : c.sample_places.new.self.state ≡ c.args.self.now.state = c.sample_places.ensures.seen.state in
    on_ok c.put_filled.result (λ done sure. ap (λ (u : State). u.fields) (done sure) ∙ ap (λ (u : State). u.fields) mid) c.put_filled.ensures.ok

pub returns-clause-err : goal.returns-clause-err
returns-clause-err c =
    let fit : SFits w128 c.args.value = search rules in
    let s : State = c.args.self.now.state in
    let mid : c.sample_places.new.self.state ≡ s = c.sample_places.ensures.seen.state in
    if_err c.put_filled.result
    (λ r told sure.
    fill_failed s c.args.first c.args.last c.args.value c.args.traces.now (rw (to_z-of_z w128 c.args.value fit) at (sym c.sample_value_refusal.ensures.refusal ∙ c.in_default.is)) r c.requires.some (subst (λ (u : State). IsOfMachine u.on_disk r) mid told.0))
    c.put_filled.ensures.err

pub returns-clause-unchanged : goal.returns-clause-unchanged
returns-clause-unchanged c =
    let s : State = c.args.self.now.state in
    let mid : c.sample_places.new.self.state ≡ s = c.sample_places.ensures.seen.state in
    left_as_it_was (IsOfMachine s.on_disk) c.put_filled.result c.put_filled.new.self.state s (err_back c.put_filled.result c.put_filled.new.self.state c.sample_places.new.self.state s mid c.put_filled.ensures.err)

pub returns-clause-same : goal.returns-clause-same
returns-clause-same c = read_as_through _ _ _ c.sample_places.ensures.seen.state c.put_filled.ensures.same

pub returns-clause-looks : goal.returns-clause-looks
returns-clause-looks c = looked_twice _ _ _ _ c.sample_places.ensures.seen.looks c.put_filled.ensures.looks
