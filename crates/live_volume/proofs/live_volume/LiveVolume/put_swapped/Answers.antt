use Rattle.std.proofs.Common.{◌≡◌, ◌∙◌, ℕ, ◌+◌, ◌<◌, ◌≤◌, ◌^◌, List, length, refl, ap, sym, subst, arith, rules}
use Rattle.edit_overlay.specs.Reads.{HaveAgreed}
use Rattle.field_map.specs.declared.place.Place.{Place}
use Rattle.frame_cut.specs.Traces.{count_of}
use Rattle.trace_store.specs.Swapped.{ArePlaces}
use Rattle.bench_rules.specs.State.{State}
use Rattle.bench_rules.proofs.ChosenLemmas.{rising-few}
use Rattle.chosen_traces.specs.Gathered.{pairs_back}
use Rattle.chosen_traces.proofs.FrontLemmas.{front-count, places-back, places-front}
use Rattle.live_volume.specs.Refusals.{IsOfMachine}
use Rattle.live_volume.proofs.ChosenLemmas.{back_again, back_is, counted_either, front_is, risen}
use Rattle.live_volume.proofs.HeldLemmas.{read_as_before}
use Rattle.live_volume.proofs.SwapLemmas.{front_cut, header_parts, parts_exact, parts_inside, parts_last, parts_many, read_through, some_bytes, swapped_state}
use Rattle.live_volume.proofs.live_volume.LiveVolume.put_swapped.Goals as goal

pub exchanges_to_front-requires : goal.exchanges_to_front-requires
exchanges_to_front-requires c =
    let few = rising-few 1 (count_of c.args.self.now.state.volume) c.args.traces.now (omega arith) c.requires.rising in
    let counted : c.count-count.result ≡ count_of c.args.self.now.state.volume = c.count-count.ensures in
    let small : c.count-count.result < 2 ^ 32 = search rules in
    omega (arith, few, counted, small)

pub exchanges_back-requires : goal.exchanges_back-requires
exchanges_back-requires c =
    let few = rising-few 1 (count_of c.args.self.now.state.volume) c.args.traces.now (omega arith) c.requires.rising in
    let counted : c.count-count.result ≡ count_of c.args.self.now.state.volume = c.count-count.ensures in
    let small : c.count-count.result < 2 ^ 32 = search rules in
    omega (arith, few, counted, small)

pub exchange_pairs-requires : goal.exchange_pairs-requires
exchange_pairs-requires c =
    subst (λ (pairs : List (ℕ × ℕ)). ArePlaces (count_of c.args.self.now.state.volume) pairs) (sym c.in_ok-forth.ensures.pairs)
    (places-front 1 (count_of c.args.self.now.state.volume) c.args.traces.now (omega arith) c.requires.rising)

pub overflow_cast-traces : goal.overflow_cast-traces
overflow_cast-traces c =
    let few = rising-few 1 (count_of c.args.self.now.state.volume) c.args.traces.now (omega arith) c.requires.rising in
    let counted : c.count-count.result ≡ count_of c.args.self.now.state.volume = c.count-count.ensures in
    let small : c.count-count.result < 2 ^ 32 = search rules in
    let less : length c.args.traces.now < 2 ^ 32 = omega (arith, few, counted, small) in
    search rules

pub put_each-done-requires-clause-some : goal.put_each-done-requires-clause-some
put_each-done-requires-clause-some c =
    let s : State = c.args.self.now.state in
    let ps : List ℕ = c.args.traces.now in
    let bs : List ℕ = c.args.bytes.now in
    let places : Place × Place = (c.args.first, c.args.second) in
    rw (c.span-at.ensures.size) (some_bytes s places ps bs c.requires.rising c.requires.some c.requires.count c.requires.inside)

pub put_each-done-requires-clause-exact : goal.put_each-done-requires-clause-exact
put_each-done-requires-clause-exact c =
    let s : State = c.args.self.now.state in
    let ps : List ℕ = c.args.traces.now in
    let bs : List ℕ = c.args.bytes.now in
    let places : Place × Place = (c.args.first, c.args.second) in
    rw (c.span-at.ensures.size) (parts_exact s places ps bs c.requires.rising c.requires.some c.requires.count c.requires.inside)

pub put_each-done-requires-clause-count : goal.put_each-done-requires-clause-count
put_each-done-requires-clause-count c =
    let s : State = c.args.self.now.state in
    let ps : List ℕ = c.args.traces.now in
    let bs : List ℕ = c.args.bytes.now in
    let places : Place × Place = (c.args.first, c.args.second) in
    rw (c.span-at.ensures.size) (parts_many s places ps bs c.requires.rising c.requires.some c.requires.count c.requires.inside)

pub put_each-done-requires-clause-last : goal.put_each-done-requires-clause-last
put_each-done-requires-clause-last c =
    let s : State = c.args.self.now.state in
    let ps : List ℕ = c.args.traces.now in
    let bs : List ℕ = c.args.bytes.now in
    let places : Place × Place = (c.args.first, c.args.second) in
    let front = front_is s c.exchange_pairs.new.self.state ps c.in_ok-forth.forth.items c.exchange_pairs.ensures.state c.in_ok-forth.ensures.pairs in
    rw front (parts_last s places ps bs c.requires.rising c.requires.some c.requires.count c.requires.inside)

pub put_each-done-requires-clause-inside : goal.put_each-done-requires-clause-inside
put_each-done-requires-clause-inside c =
    let s : State = c.args.self.now.state in
    let ps : List ℕ = c.args.traces.now in
    let bs : List ℕ = c.args.bytes.now in
    let places : Place × Place = (c.args.first, c.args.second) in
    let front = front_is s c.exchange_pairs.new.self.state ps c.in_ok-forth.forth.items c.exchange_pairs.ensures.state c.in_ok-forth.ensures.pairs in
    rw (front, c.from.ensures, c.span-at.ensures.start, c.span-at.ensures.size) (parts_inside s places ps bs c.requires.rising c.requires.some c.requires.count c.requires.inside)

pub put_each-done-requires-clause-parts : goal.put_each-done-requires-clause-parts
put_each-done-requires-clause-parts c = λ sure.
    let s : State = c.args.self.now.state in
    let ps : List ℕ = c.args.traces.now in
    let bs : List ℕ = c.args.bytes.now in
    let places : Place × Place = (c.args.first, c.args.second) in
    let front = front_is s c.exchange_pairs.new.self.state ps c.in_ok-forth.forth.items c.exchange_pairs.ensures.state c.in_ok-forth.ensures.pairs in
    let was : HaveAgreed c.args.self.now.reads = c.exchange_pairs.ensures.reads.agreed sure in
    rw (front, c.from.ensures, c.span-at.ensures.start, c.span-at.ensures.size) (header_parts s places ps bs c.requires.rising c.requires.some c.requires.count c.requires.inside (c.stands.ensures.cut was) (c.requires.parts was) (c.requires.none was))

pub put_each-done-requires-clause-cut : goal.put_each-done-requires-clause-cut
put_each-done-requires-clause-cut c = λ sure.
    let s : State = c.args.self.now.state in
    let ps : List ℕ = c.args.traces.now in
    let bs : List ℕ = c.args.bytes.now in
    let places : Place × Place = (c.args.first, c.args.second) in
    let front = front_is s c.exchange_pairs.new.self.state ps c.in_ok-forth.forth.items c.exchange_pairs.ensures.state c.in_ok-forth.ensures.pairs in
    let was : HaveAgreed c.args.self.now.reads = c.exchange_pairs.ensures.reads.agreed sure in
    rw (front, c.from.ensures, c.span-at.ensures.start, c.span-at.ensures.size) (front_cut s places ps bs c.requires.rising c.requires.some c.requires.count c.requires.inside (c.stands.ensures.cut was) (c.requires.parts was) (c.requires.none was))

-- as many traces stand there still
pub exchange_pairs-requires-2 : goal.exchange_pairs-requires-2
exchange_pairs-requires-2 c =
    let s : State = c.args.self.now.state in
    let ps : List ℕ = c.args.traces.now in
    let bs : List ℕ = c.args.bytes.now in
    let places : Place × Place = (c.args.first, c.args.second) in
    let front = front_is s c.exchange_pairs.new.self.state ps c.in_ok-forth.forth.items c.exchange_pairs.ensures.state c.in_ok-forth.ensures.pairs in
    let count : count_of c.put_each-done.new.self.state.volume ≡ count_of s.volume =
    counted_either c.put_each-done.result _ _ _ 1 c.from.result c.span-at.result.1 bs c.put_each-done.ensures.ok c.put_each-done.ensures.err
    ∙ ap (λ (u : State). count_of u.volume) front ∙ front-count s ps c.requires.rising c.requires.some in
    subst (λ (pairs : List (ℕ × ℕ)). ArePlaces (count_of c.put_each-done.new.self.state.volume) pairs) (sym c.in_ok-back.ensures.pairs)
    (subst (λ (n : ℕ). ArePlaces n (pairs_back 1 ps)) (sym count) (places-back 1 (count_of s.volume) ps (omega arith) c.requires.rising))

pub returns-in-Ok-clause-ok : goal.returns-in-Ok-clause-ok
returns-in-Ok-clause-ok c = λ sure.
    let s : State = c.args.self.now.state in
    let ps : List ℕ = c.args.traces.now in
    let bs : List ℕ = c.args.bytes.now in
    let places : Place × Place = (c.args.first, c.args.second) in
    let front = front_is s c.exchange_pairs.new.self.state ps c.in_ok-forth.forth.items c.exchange_pairs.ensures.state c.in_ok-forth.ensures.pairs in
    let back = back_is c.put_each-done.new.self.state c.exchange_pairs-2.new.self.state ps c.in_ok-back.back.items c.exchange_pairs-2.ensures.state c.in_ok-back.ensures.pairs in
    let was : HaveAgreed c.args.self.now.reads = c.exchange_pairs.ensures.reads.agreed (c.put_each-done.ensures.reads.agreed (c.exchange_pairs-2.ensures.reads.agreed sure)) in
    swapped_state s places ps bs c.requires.rising c.requires.some c.requires.count c.requires.inside (c.stands.ensures.cut was) (c.requires.parts was) (c.requires.none was)
    c.exchange_pairs.new.self.state c.put_each-done.new.self.state c.exchange_pairs-2.new.self.state c.from.result c.span-at.result.1 front c.in-Ok.ensures.ok (c.from.ensures ∙ c.span-at.ensures.start) c.span-at.ensures.size back

pub returns-in-Ok-clause-same : goal.returns-in-Ok-clause-same
returns-in-Ok-clause-same c =
    let s : State = c.args.self.now.state in
    let ps : List ℕ = c.args.traces.now in
    let bs : List ℕ = c.args.bytes.now in
    let places : Place × Place = (c.args.first, c.args.second) in
    let front = front_is s c.exchange_pairs.new.self.state ps c.in_ok-forth.forth.items c.exchange_pairs.ensures.state c.in_ok-forth.ensures.pairs in
    let back = back_is c.put_each-done.new.self.state c.exchange_pairs-2.new.self.state ps c.in_ok-back.back.items c.exchange_pairs-2.ensures.state c.in_ok-back.ensures.pairs in
    read_through s c.exchange_pairs.new.self.state c.put_each-done.new.self.state c.exchange_pairs-2.new.self.state _ ps front c.in-Ok.ensures.ok back

pub returns-in-Ok-clause-looks : goal.returns-in-Ok-clause-looks
returns-in-Ok-clause-looks c =
    risen c.args.self.now.looks c.exchange_pairs.new.self.looks c.put_each-done.new.self.looks c.exchange_pairs-2.new.self.looks _ _ c.exchange_pairs.ensures.looks c.exchange_pairs-2.ensures.looks refl c.put_each-done.ensures.looks

pub returns-in-Err-clause-err : goal.returns-in-Err-clause-err
returns-in-Err-clause-err c =
    let s : State = c.args.self.now.state in
    let ps : List ℕ = c.args.traces.now in
    let bs : List ℕ = c.args.bytes.now in
    let places : Place × Place = (c.args.first, c.args.second) in
    let front = front_is s c.exchange_pairs.new.self.state ps c.in_ok-forth.forth.items c.exchange_pairs.ensures.state c.in_ok-forth.ensures.pairs in
    let back = back_is c.put_each-done.new.self.state c.exchange_pairs-2.new.self.state ps c.in_ok-back.back.items c.exchange_pairs-2.ensures.state c.in_ok-back.ensures.pairs in
    let same = back_again s c.exchange_pairs.new.self.state c.put_each-done.new.self.state c.exchange_pairs-2.new.self.state ps c.requires.rising front c.in-Err.ensures.err.1 back in
    (subst (λ (u : State). IsOfMachine u.on_disk c.in-Err.refusal) front c.in-Err.ensures.err.0, same)

pub returns-in-Err-clause-same : goal.returns-in-Err-clause-same
returns-in-Err-clause-same c =
    let s : State = c.args.self.now.state in
    let ps : List ℕ = c.args.traces.now in
    let bs : List ℕ = c.args.bytes.now in
    let places : Place × Place = (c.args.first, c.args.second) in
    let front = front_is s c.exchange_pairs.new.self.state ps c.in_ok-forth.forth.items c.exchange_pairs.ensures.state c.in_ok-forth.ensures.pairs in
    let back = back_is c.put_each-done.new.self.state c.exchange_pairs-2.new.self.state ps c.in_ok-back.back.items c.exchange_pairs-2.ensures.state c.in_ok-back.ensures.pairs in
    let same = back_again s c.exchange_pairs.new.self.state c.put_each-done.new.self.state c.exchange_pairs-2.new.self.state ps c.requires.rising front c.in-Err.ensures.err.1 back in
    read_as_before s c.exchange_pairs-2.new.self.state same

pub returns-in-Err-clause-looks : goal.returns-in-Err-clause-looks
returns-in-Err-clause-looks c =
    risen c.args.self.now.looks c.exchange_pairs.new.self.looks c.put_each-done.new.self.looks c.exchange_pairs-2.new.self.looks _ _ c.exchange_pairs.ensures.looks c.exchange_pairs-2.ensures.looks refl c.put_each-done.ensures.looks
