use Rattle.std.proofs.Common.{◌≡◌, ◌∙◌, ℕ, List, ap, sym, subst}
use Rattle.field_map.specs.declared.place.Place.{Place}
use Rattle.frame_cut.specs.Cuts.{IsCut}
use Rattle.bench_rules.specs.declared.chosen_edit.ChosenEdit.TheVariants.{Swap}
use Rattle.bench_rules.specs.ChosenEdits.{bytes_after_each}
use Rattle.bench_rules.specs.State.{State}
use Rattle.bench_rules.specs.SwappedFields.{changed_each, swapped}
use Rattle.live_volume.specs.Held.{with_volume}
use Rattle.live_volume.specs.Refusals.{IsOfMachine}
use Rattle.live_volume.proofs.HeldLemmas.{err_back, if_err, left_as_it_was, on_ok, read_as_through}
use Rattle.live_volume.proofs.SwapLemmas.{both_places, looked_once, looked_twice, machine_told, swap_cut, swap_free, swap_told}
use Rattle.live_volume.proofs.live_volume.LiveVolume.swap_each.Goals as goal

pub returns-in-Err-clause-err : goal.returns-in-Err-clause-err
returns-in-Err-clause-err c = λ sure.
    let s : State = c.args.self.now.state in
    let ps : List ℕ = c.args.traces.now in
    let a : Place = c.in-Some.first in
    let b : Place = c.in-Some-place_in_trace.second in
    let found = both_places s.fields c.args.first.now c.args.second.now a b (sym c.in-Some.is ∙ c.place_in_trace.ensures) (sym c.in-Some-place_in_trace.is ∙ c.place_in_trace-2.ensures) in
    swap_told s c.args.first.now c.args.second.now a b ps found c.in-Err.refusal c.requires.some sure c.in-Err.ensures.err

pub returns-in-Err-clause-looks : goal.returns-in-Err-clause-looks
returns-in-Err-clause-looks c =
    looked_once _ _ _ c.swapped.ensures.seen.looks

pub put_swapped-requires-clause-rising : goal.put_swapped-requires-clause-rising
put_swapped-requires-clause-rising c =
    rw (c.swapped.ensures.seen.state) c.requires.rising

pub put_swapped-requires-clause-none : goal.put_swapped-requires-clause-none
put_swapped-requires-clause-none c =
    rw (c.swapped.ensures.seen.state) c.in-Ok.ensures.none

pub put_swapped-requires-clause-parts : goal.put_swapped-requires-clause-parts
put_swapped-requires-clause-parts c =
    rw (c.swapped.ensures.seen.state, c.as_slice.ensures.value) c.in-Ok.ensures.parts

pub put_swapped-requires-clause-inside : goal.put_swapped-requires-clause-inside
put_swapped-requires-clause-inside c =
    rw (c.swapped.ensures.seen.state) c.in-Ok.ensures.inside

pub returns-clause-none : goal.returns-clause-none
returns-clause-none c =
    let s : State = c.args.self.now.state in
    let ps : List ℕ = c.args.traces.now in
    let a : Place = c.in-Some.first in
    let b : Place = c.in-Some-place_in_trace.second in
    let found = both_places s.fields c.args.first.now c.args.second.now a b (sym c.in-Some.is ∙ c.place_in_trace.ensures) (sym c.in-Some-place_in_trace.is ∙ c.place_in_trace-2.ensures) in
    on_ok c.put_swapped.result (λ done sure. swap_free s c.args.first.now c.args.second.now a b ps found (c.in-Ok.ensures.none (c.put_swapped.ensures.reads.agreed sure))) c.put_swapped.ensures.ok

pub returns-clause-cut : goal.returns-clause-cut
returns-clause-cut c =
    let s : State = c.args.self.now.state in
    let ps : List ℕ = c.args.traces.now in
    let a : Place = c.in-Some.first in
    let b : Place = c.in-Some-place_in_trace.second in
    let found = both_places s.fields c.args.first.now c.args.second.now a b (sym c.in-Some.is ∙ c.place_in_trace.ensures) (sym c.in-Some-place_in_trace.is ∙ c.place_in_trace-2.ensures) in
    let mid : c.swapped.new.self.state ≡ s = c.swapped.ensures.seen.state in
    on_ok c.put_swapped.result
    (λ done sure.
    let before = c.put_swapped.ensures.reads.agreed sure in
    let is : c.put_swapped.new.self.state ≡ with_volume s (changed_each (swapped s.volume.head (a, b)) s.volume ps) =
    done sure ∙ ap (λ (u : State). with_volume u (changed_each (swapped u.volume.head (a, b)) u.volume ps)) mid in
    subst (λ (u : State). IsCut (bytes_after_each s.volume s.fields (Swap c.args.first.now c.args.second.now) ps) s.reading s.limits u.volume) (sym is)
    (swap_cut s c.args.first.now c.args.second.now a b ps found (c.stands.ensures.cut (c.swapped.ensures.seen.reads.agreed before)) c.requires.rising (c.in-Ok.ensures.none before)))
    c.put_swapped.ensures.ok

pub returns-clause-fields : goal.returns-clause-fields
returns-clause-fields c =
    let s : State = c.args.self.now.state in
    let ps : List ℕ = c.args.traces.now in
    let mid : c.swapped.new.self.state ≡ s = c.swapped.ensures.seen.state in
    on_ok c.put_swapped.result (λ done sure. ap (λ (u : State). u.fields) (done sure) ∙ ap (λ (u : State). u.fields) mid) c.put_swapped.ensures.ok

pub returns-clause-err : goal.returns-clause-err
returns-clause-err c =
    let s : State = c.args.self.now.state in
    let ps : List ℕ = c.args.traces.now in
    let a : Place = c.in-Some.first in
    let b : Place = c.in-Some-place_in_trace.second in
    let found = both_places s.fields c.args.first.now c.args.second.now a b (sym c.in-Some.is ∙ c.place_in_trace.ensures) (sym c.in-Some-place_in_trace.is ∙ c.place_in_trace-2.ensures) in
    let mid : c.swapped.new.self.state ≡ s = c.swapped.ensures.seen.state in
    if_err c.put_swapped.result
    (λ r told sure. machine_told s c.args.first.now c.args.second.now a b ps found r c.requires.some (subst (λ (u : State). IsOfMachine u.on_disk r) mid told.0))
    c.put_swapped.ensures.err

pub returns-clause-unchanged : goal.returns-clause-unchanged
returns-clause-unchanged c =
    let s : State = c.args.self.now.state in
    let ps : List ℕ = c.args.traces.now in
    let mid : c.swapped.new.self.state ≡ s = c.swapped.ensures.seen.state in
    left_as_it_was (IsOfMachine s.on_disk) c.put_swapped.result c.put_swapped.new.self.state s (err_back c.put_swapped.result c.put_swapped.new.self.state c.swapped.new.self.state s mid c.put_swapped.ensures.err)

pub returns-clause-same : goal.returns-clause-same
returns-clause-same c =
    read_as_through _ _ _ c.swapped.ensures.seen.state c.put_swapped.ensures.same

pub returns-clause-looks : goal.returns-clause-looks
returns-clause-looks c =
    looked_twice _ _ _ _ c.swapped.ensures.seen.looks c.put_swapped.ensures.looks
