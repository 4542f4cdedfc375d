use Rattle.std.proofs.Common.{◌≡◌, ◌∙◌, ℕ, ◌+◌, ◌<◌, ◌≤◌, ◌^◌, List, length, Ok, ap, sym, subst, arith, rules}
use Rattle.frame_cut.specs.Cuts.{IsCut}
use Rattle.frame_cut.specs.Traces.{count_of}
use Rattle.trace_store.specs.Swapped.{with_places_swapped, ArePlaces}
use Rattle.edit_overlay.specs.CountedVolume.{RisesAtMost}
use Rattle.bench_rules.specs.ChosenEdits.{bytes_after_each}
use Rattle.bench_rules.specs.declared.chosen_edit.ChosenEdit.TheVariants.{Compute}
use Rattle.bench_rules.specs.declared.refusal.Refusal.{Refusal}
use Rattle.bench_rules.specs.Looks.{each_looks}
use Rattle.live_volume.specs.Chosen.{IsRefusedFor}
use Rattle.bench_rules.specs.State.{State}
use Rattle.bench_rules.proofs.ChosenLemmas.{rising-few}
use Rattle.chosen_traces.specs.Gathered.{pairs_from, pairs_back}
use Rattle.chosen_traces.proofs.FrontLemmas.{places-front, places-back, front-count, with_front}
use Rattle.live_volume.proofs.ChosenLemmas.{back_again, back_is, front_is, risen, compute_done, compute_looks, compute_told}
use Rattle.live_volume.proofs.live_volume.LiveVolume.compute_each.Goals as goal

-- the traces are no more than a number of 32 bits counts
pub exchanges_to_front-requires : goal.exchanges_to_front-requires
exchanges_to_front-requires c =
    let few = rising-few 1 (count_of c.args.self.now.state.volume) c.args.traces.now (omega arith) c.requires.rising in
    let counted : c.count-count.result ≡ count_of c.args.self.now.state.volume = c.count-count.ensures in
    let small : c.count-count.result < 2 ^ 32 = search rules in
    omega (arith, few, counted, small)

pub exchanges_back-requires : goal.exchanges_back-requires
exchanges_back-requires c =
    let few = rising-few 1 (count_of c.args.self.now.state.volume) c.args.traces.now (omega arith) c.requires.rising in
    let counted : c.count-count.result ≡ count_of c.args.self.now.state.volume = c.count-count.ensures in
    let small : c.count-count.result < 2 ^ 32 = search rules in
    omega (arith, few, counted, small)

pub exchange_pairs-requires : goal.exchange_pairs-requires
exchange_pairs-requires c =
    subst (λ (pairs : List (ℕ × ℕ)). ArePlaces (count_of c.args.self.now.state.volume) pairs) (sym c.in_ok-forth.ensures.pairs)
    (places-front 1 (count_of c.args.self.now.state.volume) c.args.traces.now (omega arith) c.requires.rising)

pub overflow_cast-traces : goal.overflow_cast-traces
overflow_cast-traces c =
    let few = rising-few 1 (count_of c.args.self.now.state.volume) c.args.traces.now (omega arith) c.requires.rising in
    let counted : c.count-count.result ≡ count_of c.args.self.now.state.volume = c.count-count.ensures in
    let small : c.count-count.result < 2 ^ 32 = search rules in
    let less : length c.args.traces.now < 2 ^ 32 = omega (arith, few, counted, small) in
    search rules

-- as many traces stand there still
pub exchange_pairs-requires-2 : goal.exchange_pairs-requires-2
exchange_pairs-requires-2 c =
    let s : State = c.args.self.now.state in
    let front = front_is s c.exchange_pairs.new.self.state c.args.traces.now c.in_ok-forth.forth.items c.exchange_pairs.ensures.state c.in_ok-forth.ensures.pairs in
    let count : count_of c.compute-done.new.self.state.volume ≡ count_of s.volume =
    c.compute-done.ensures.count ∙ ap (λ (u : State). count_of u.volume) front ∙ front-count s c.args.traces.now c.requires.rising c.requires.some in
    subst (λ (pairs : List (ℕ × ℕ)). ArePlaces (count_of c.compute-done.new.self.state.volume) pairs) (sym c.in_ok-back.ensures.pairs)
    (subst (λ (n : ℕ). ArePlaces n (pairs_back 1 c.args.traces.now)) (sym count) (places-back 1 (count_of s.volume) c.args.traces.now (omega arith) c.requires.rising))

pub returns-in-Ok-clause-none : goal.returns-in-Ok-clause-none
returns-in-Ok-clause-none c = λ sure.
    let s : State = c.args.self.now.state in
    let front = front_is s c.exchange_pairs.new.self.state c.args.traces.now c.in_ok-forth.forth.items c.exchange_pairs.ensures.state c.in_ok-forth.ensures.pairs in
    let mid = c.exchange_pairs-2.ensures.reads.agreed sure in
    (compute_done s c.exchange_pairs.new.self.state c.compute-done.new.self.state c.args.traces.now c.requires.rising c.requires.some front c.args.field.now c.args.source.now c.args.steps.now c.requires.fields c.in-Ok.field-0
    (c.stands.ensures.cut (c.exchange_pairs.ensures.reads.agreed (c.in-Ok.ensures.reads.agreed mid))) (c.in-Ok.ensures.step mid)).0

pub returns-in-Ok-clause-cut : goal.returns-in-Ok-clause-cut
returns-in-Ok-clause-cut c = λ sure.
    let s : State = c.args.self.now.state in
    let front = front_is s c.exchange_pairs.new.self.state c.args.traces.now c.in_ok-forth.forth.items c.exchange_pairs.ensures.state c.in_ok-forth.ensures.pairs in
    let back = back_is c.compute-done.new.self.state c.exchange_pairs-2.new.self.state c.args.traces.now c.in_ok-back.back.items c.exchange_pairs-2.ensures.state c.in_ok-back.ensures.pairs in
    let mid = c.exchange_pairs-2.ensures.reads.agreed sure in
    subst (λ (u : State). IsCut (bytes_after_each s.volume s.fields (Compute c.args.field.now c.args.source.now c.args.steps.now) c.args.traces.now) s.reading s.limits u.volume) (sym back)
    (compute_done s c.exchange_pairs.new.self.state c.compute-done.new.self.state c.args.traces.now c.requires.rising c.requires.some front c.args.field.now c.args.source.now c.args.steps.now c.requires.fields c.in-Ok.field-0
    (c.stands.ensures.cut (c.exchange_pairs.ensures.reads.agreed (c.in-Ok.ensures.reads.agreed mid))) (c.in-Ok.ensures.step mid)).1

pub returns-in-Ok-clause-fields : goal.returns-in-Ok-clause-fields
returns-in-Ok-clause-fields c = λ sure.
    let s : State = c.args.self.now.state in
    let front = front_is s c.exchange_pairs.new.self.state c.args.traces.now c.in_ok-forth.forth.items c.exchange_pairs.ensures.state c.in_ok-forth.ensures.pairs in
    let back = back_is c.compute-done.new.self.state c.exchange_pairs-2.new.self.state c.args.traces.now c.in_ok-back.back.items c.exchange_pairs-2.ensures.state c.in_ok-back.ensures.pairs in
    let mid = c.exchange_pairs-2.ensures.reads.agreed sure in
    ap (λ (u : State). u.fields) back
    ∙ (compute_done s c.exchange_pairs.new.self.state c.compute-done.new.self.state c.args.traces.now c.requires.rising c.requires.some front c.args.field.now c.args.source.now c.args.steps.now c.requires.fields c.in-Ok.field-0
    (c.stands.ensures.cut (c.exchange_pairs.ensures.reads.agreed (c.in-Ok.ensures.reads.agreed mid))) (c.in-Ok.ensures.step mid)).2

pub returns-in-Ok-clause-looks : goal.returns-in-Ok-clause-looks
returns-in-Ok-clause-looks c =
    let s : State = c.args.self.now.state in
    let front = front_is s c.exchange_pairs.new.self.state c.args.traces.now c.in_ok-forth.forth.items c.exchange_pairs.ensures.state c.in_ok-forth.ensures.pairs in
    risen c.args.self.now.looks c.exchange_pairs.new.self.looks c.compute-done.new.self.looks c.exchange_pairs-2.new.self.looks _ _ c.exchange_pairs.ensures.looks c.exchange_pairs-2.ensures.looks
    (compute_looks s c.exchange_pairs.new.self.state c.compute-done.new.self.state c.args.traces.now c.requires.rising c.requires.some front c.args.field.now c.args.source.now c.args.steps.now c.requires.fields) c.compute-done.ensures.looks

pub returns-in-Err-clause-err : goal.returns-in-Err-clause-err
returns-in-Err-clause-err c = λ sure.
    let s : State = c.args.self.now.state in
    let front = front_is s c.exchange_pairs.new.self.state c.args.traces.now c.in_ok-forth.forth.items c.exchange_pairs.ensures.state c.in_ok-forth.ensures.pairs in
    subst (λ (r : Refusal). IsRefusedFor s (Compute c.args.field.now c.args.source.now c.args.steps.now) c.args.traces.now r) (sym c.retold.ensures)
    (compute_told s c.exchange_pairs.new.self.state c.compute-done.new.self.state c.args.traces.now c.requires.rising c.requires.some front c.args.field.now c.args.source.now c.args.steps.now c.requires.fields _ c.in-Err.refusal (c.in-Err.ensures.step (c.exchange_pairs-2.ensures.reads.agreed sure)))

pub returns-in-Err-clause-unchanged : goal.returns-in-Err-clause-unchanged
returns-in-Err-clause-unchanged c =
    let s : State = c.args.self.now.state in
    let front = front_is s c.exchange_pairs.new.self.state c.args.traces.now c.in_ok-forth.forth.items c.exchange_pairs.ensures.state c.in_ok-forth.ensures.pairs in
    let back = back_is c.compute-done.new.self.state c.exchange_pairs-2.new.self.state c.args.traces.now c.in_ok-back.back.items c.exchange_pairs-2.ensures.state c.in_ok-back.ensures.pairs in
    back_again s c.exchange_pairs.new.self.state c.compute-done.new.self.state c.exchange_pairs-2.new.self.state c.args.traces.now c.requires.rising front c.in-Err.ensures.err back

pub returns-in-Err-clause-looks : goal.returns-in-Err-clause-looks
returns-in-Err-clause-looks c =
    let s : State = c.args.self.now.state in
    let front = front_is s c.exchange_pairs.new.self.state c.args.traces.now c.in_ok-forth.forth.items c.exchange_pairs.ensures.state c.in_ok-forth.ensures.pairs in
    risen c.args.self.now.looks c.exchange_pairs.new.self.looks c.compute-done.new.self.looks c.exchange_pairs-2.new.self.looks _ _ c.exchange_pairs.ensures.looks c.exchange_pairs-2.ensures.looks
    (compute_looks s c.exchange_pairs.new.self.state c.compute-done.new.self.state c.args.traces.now c.requires.rising c.requires.some front c.args.field.now c.args.source.now c.args.steps.now c.requires.fields) c.compute-done.ensures.looks
