use Rattle.std.proofs.Common.{◌≡◌, ◌∙◌, ℕ, ◌+◌, ◌-◌, ◌*◌, ◌<◌, ◌≤◌, ◌^◌, List, length, ap, sym, subst, arith, rules}
use Rattle.std.proofs.lemmas.Int.{to_z-of_z}
use Rattle.std.specs.Int.{w128}
use mir.Val.{SFits}
use Rattle.std.specs.Prelude.{IfSome}
use Rattle.edit_overlay.specs.Reads.{HaveAgreed}
use Rattle.sample_codes.specs.Formats.{samples_bytes, values, width}
use Rattle.frame_cut.specs.Traces.{count_of, trace_at}
use Rattle.trace_store.specs.Swapped.{ArePlaces}
use Rattle.bench_rules.specs.FilledSamples.{range_values, samples_refusal}
use Rattle.bench_rules.specs.State.{State}
use Rattle.bench_rules.proofs.ChosenLemmas.{rising-few}
use Rattle.bench_rules.proofs.SwapLemmas.{listed_none}
use Rattle.chosen_traces.specs.Gathered.{pairs_back}
use Rattle.chosen_traces.proofs.FrontLemmas.{front-count, places-back, places-front, with_front}
use Rattle.live_volume.specs.Refusals.{IsOfMachine}
use Rattle.live_volume.proofs.ChosenLemmas.{back_again, back_is, front_is, risen}
use Rattle.live_volume.proofs.FillLemmas as fill
use Rattle.live_volume.proofs.HeldLemmas.{read_as_before}
use Rattle.live_volume.proofs.OverLemmas.{over_either}
use Rattle.live_volume.proofs.SwapLemmas.{read_through}
use Rattle.live_volume.proofs.live_volume.LiveVolume.put_filled.Goals as goal

pub exchanges_to_front-requires : goal.exchanges_to_front-requires
exchanges_to_front-requires c =
    let few = rising-few 1 (count_of c.args.self.now.state.volume) c.args.traces.now (omega arith) c.requires.rising in
    let counted : c.count-count.result ≡ count_of c.args.self.now.state.volume = c.count-count.ensures in
    let small : c.count-count.result < 2 ^ 32 = search rules in
    omega (arith, few, counted, small)

pub exchanges_back-requires : goal.exchanges_back-requires
exchanges_back-requires c =
    let few = rising-few 1 (count_of c.args.self.now.state.volume) c.args.traces.now (omega arith) c.requires.rising in
    let counted : c.count-count.result ≡ count_of c.args.self.now.state.volume = c.count-count.ensures in
    let small : c.count-count.result < 2 ^ 32 = search rules in
    omega (arith, few, counted, small)

pub exchange_pairs-requires : goal.exchange_pairs-requires
exchange_pairs-requires c =
    subst (λ (pairs : List (ℕ × ℕ)). ArePlaces (count_of c.args.self.now.state.volume) pairs) (sym c.in_ok-forth.ensures.pairs)
    (places-front 1 (count_of c.args.self.now.state.volume) c.args.traces.now (omega arith) c.requires.rising)

pub put_over-done-requires-clause-some : goal.put_over-done-requires-clause-some
put_over-done-requires-clause-some c = rw c.as_slice.ensures.value c.in_ok-bytes.ensures.some

-- not more bytes than the samples have
long : (c : goal.After-as_slice) → length c.as_slice.result.now ≤ width c.args.self.now.state.volume.head.format * (c.args.last + 1 - c.args.first)
long c = rw c.as_slice.ensures.value c.in_ok-bytes.ensures.long

-- the traces in front
front : (c : goal.After-as_slice) → c.exchange_pairs.new.self.state ≡ with_front c.args.self.now.state c.args.traces.now
front c = front_is c.args.self.now.state c.exchange_pairs.new.self.state c.args.traces.now c.in_ok-forth.forth.items c.exchange_pairs.ensures.state c.in_ok-forth.ensures.pairs

-- the value's bytes, where each read agreed
written : (c : goal.After-as_slice) → HaveAgreed c.args.self.now.reads
    → IfSome (values c.args.self.now.state.volume.head.format) (λ f. c.as_slice.result.now ≡ samples_bytes c.args.self.now.state.volume.head.order f (range_values c.args.first c.args.last c.args.value))
written c was =
    let fit : SFits w128 c.args.value = search rules in
    let none = listed_none (λ p. samples_refusal c.args.self.now.state.volume.head c.args.first c.args.last (trace_at c.args.self.now.state.volume p)) c.args.traces.now (c.requires.none was) 0 c.requires.some in
    rw c.as_slice.ensures.value (rw (to_z-of_z w128 c.args.value fit) at (c.in_ok-bytes.ensures.bytes was none))

pub put_over-done-requires-clause-last : goal.put_over-done-requires-clause-last
put_over-done-requires-clause-last c =
    rw (front c) (fill.over_last c.args.self.now.state c.args.first c.args.last c.args.value c.args.traces.now c.args.places.now c.as_slice.result.now c.requires.rising c.requires.some c.requires.count (long c) c.requires.room)

pub put_over-done-requires-clause-inside : goal.put_over-done-requires-clause-inside
put_over-done-requires-clause-inside c =
    rw (front c) (fill.over_inside c.args.self.now.state c.args.first c.args.last c.args.value c.args.traces.now c.args.places.now c.as_slice.result.now c.requires.rising c.requires.some c.requires.count (long c) c.requires.room)

pub put_over-done-requires-clause-whole : goal.put_over-done-requires-clause-whole
put_over-done-requires-clause-whole c = rw (front c) (λ k less sure.
    let was : HaveAgreed c.args.self.now.reads = c.exchange_pairs.ensures.reads.agreed sure in
    fill.over_whole c.args.self.now.state c.args.first c.args.last c.args.value c.args.traces.now c.args.places.now c.as_slice.result.now c.requires.rising c.requires.some c.requires.count (long c) c.requires.room
    (c.stands.ensures.cut was) c.requires.fits (c.requires.none was) (c.requires.places was) (written c was) k less)

pub put_over-done-requires-clause-cut : goal.put_over-done-requires-clause-cut
put_over-done-requires-clause-cut c = rw (front c) (λ sure.
    let was : HaveAgreed c.args.self.now.reads = c.exchange_pairs.ensures.reads.agreed sure in
    fill.over_cut c.args.self.now.state c.args.first c.args.last c.args.value c.args.traces.now c.args.places.now c.as_slice.result.now c.requires.rising c.requires.some c.requires.count (long c) c.requires.room
    (c.stands.ensures.cut was) c.requires.fits (c.requires.none was) (c.requires.places was) (written c was))

-- as many traces stand there still
pub exchange_pairs-requires-2 : goal.exchange_pairs-requires-2
exchange_pairs-requires-2 c =
    let s : State = c.args.self.now.state in
    let ps : List ℕ = c.args.traces.now in
    let first = front_is s c.exchange_pairs.new.self.state ps c.in_ok-forth.forth.items c.exchange_pairs.ensures.state c.in_ok-forth.ensures.pairs in
    let count : count_of c.put_over-done.new.self.state.volume ≡ count_of s.volume =
    over_either c.put_over-done.result _ _ _ 1 c.args.places.now c.as_slice.result.now c.put_over-done.ensures.ok c.put_over-done.ensures.err
    ∙ ap (λ (u : State). count_of u.volume) first ∙ front-count s ps c.requires.rising c.requires.some in
    subst (λ (pairs : List (ℕ × ℕ)). ArePlaces (count_of c.put_over-done.new.self.state.volume) pairs) (sym c.in_ok-back.ensures.pairs)
    (subst (λ (n : ℕ). ArePlaces n (pairs_back 1 ps)) (sym count) (places-back 1 (count_of s.volume) ps (omega arith) c.requires.rising))

pub returns-in-Ok-clause-ok : goal.returns-in-Ok-clause-ok
returns-in-Ok-clause-ok c = λ sure.
    let fit : SFits w128 c.args.value = search rules in
    let s : State = c.args.self.now.state in
    let ps : List ℕ = c.args.traces.now in
    let first = front_is s c.exchange_pairs.new.self.state ps c.in_ok-forth.forth.items c.exchange_pairs.ensures.state c.in_ok-forth.ensures.pairs in
    let back = back_is c.put_over-done.new.self.state c.exchange_pairs-2.new.self.state ps c.in_ok-back.back.items c.exchange_pairs-2.ensures.state c.in_ok-back.ensures.pairs in
    let was : HaveAgreed c.args.self.now.reads = c.exchange_pairs.ensures.reads.agreed (c.put_over-done.ensures.reads.agreed (c.exchange_pairs-2.ensures.reads.agreed sure)) in
    let none = listed_none (λ p. samples_refusal s.volume.head c.args.first c.args.last (trace_at s.volume p)) ps (c.requires.none was) 0 c.requires.some in
    fill.filled_state s c.args.first c.args.last c.args.value ps c.args.places.now c.as_slice.result.now c.requires.rising c.requires.some c.requires.count (rw c.as_slice.ensures.value c.in_ok-bytes.ensures.long) c.requires.room
    (c.stands.ensures.cut was) c.requires.fits (c.requires.none was) (c.requires.places was) (rw c.as_slice.ensures.value (rw (to_z-of_z w128 c.args.value fit) at (c.in_ok-bytes.ensures.bytes was none)))
    c.exchange_pairs.new.self.state c.put_over-done.new.self.state c.exchange_pairs-2.new.self.state first c.in-Ok.ensures.ok back

pub returns-in-Ok-clause-same : goal.returns-in-Ok-clause-same
returns-in-Ok-clause-same c =
    let s : State = c.args.self.now.state in
    let ps : List ℕ = c.args.traces.now in
    let first = front_is s c.exchange_pairs.new.self.state ps c.in_ok-forth.forth.items c.exchange_pairs.ensures.state c.in_ok-forth.ensures.pairs in
    let back = back_is c.put_over-done.new.self.state c.exchange_pairs-2.new.self.state ps c.in_ok-back.back.items c.exchange_pairs-2.ensures.state c.in_ok-back.ensures.pairs in
    read_through s c.exchange_pairs.new.self.state c.put_over-done.new.self.state c.exchange_pairs-2.new.self.state _ ps first c.in-Ok.ensures.ok back

pub returns-in-Ok-clause-looks : goal.returns-in-Ok-clause-looks
returns-in-Ok-clause-looks c =
    risen c.args.self.now.looks c.exchange_pairs.new.self.looks c.put_over-done.new.self.looks c.exchange_pairs-2.new.self.looks _ _ c.exchange_pairs.ensures.looks c.exchange_pairs-2.ensures.looks c.requires.count c.put_over-done.ensures.looks

pub returns-clause-err : goal.returns-clause-err
returns-clause-err c =
    let s : State = c.args.self.now.state in
    let ps : List ℕ = c.args.traces.now in
    let first = front_is s c.exchange_pairs.new.self.state ps c.in_ok-forth.forth.items c.exchange_pairs.ensures.state c.in_ok-forth.ensures.pairs in
    let back = back_is c.put_over-done.new.self.state c.exchange_pairs-2.new.self.state ps c.in_ok-back.back.items c.exchange_pairs-2.ensures.state c.in_ok-back.ensures.pairs in
    let same = back_again s c.exchange_pairs.new.self.state c.put_over-done.new.self.state c.exchange_pairs-2.new.self.state ps c.requires.rising first c.in-Err.ensures.err.1 back in
    (subst (λ (u : State). IsOfMachine u.on_disk c.in-Err.refusal) first c.in-Err.ensures.err.0, same)

pub returns-clause-same : goal.returns-clause-same
returns-clause-same c =
    let s : State = c.args.self.now.state in
    let ps : List ℕ = c.args.traces.now in
    let first = front_is s c.exchange_pairs.new.self.state ps c.in_ok-forth.forth.items c.exchange_pairs.ensures.state c.in_ok-forth.ensures.pairs in
    let back = back_is c.put_over-done.new.self.state c.exchange_pairs-2.new.self.state ps c.in_ok-back.back.items c.exchange_pairs-2.ensures.state c.in_ok-back.ensures.pairs in
    let same = back_again s c.exchange_pairs.new.self.state c.put_over-done.new.self.state c.exchange_pairs-2.new.self.state ps c.requires.rising first c.in-Err.ensures.err.1 back in
    read_as_before s c.exchange_pairs-2.new.self.state same

pub returns-clause-looks : goal.returns-clause-looks
returns-clause-looks c =
    risen c.args.self.now.looks c.exchange_pairs.new.self.looks c.put_over-done.new.self.looks c.exchange_pairs-2.new.self.looks _ _ c.exchange_pairs.ensures.looks c.exchange_pairs-2.ensures.looks c.requires.count c.put_over-done.ensures.looks
