-- A block of traces that is moved by exchanges of two traces.
use Rattle.std.proofs.Common.{◌≡◌, ℕ, List, [], Option, None, sym, ap, arith}
use Rattle.frame_cut.specs.Traces.{count_of}
use Rattle.frame_cut.specs.Volume.{Volume}
use Rattle.trace_store.specs.Swapped.{with_places_swapped, ArePlaces}
use Rattle.bench_rules.specs.BlockMoves.{block_order, block_refusal, first_moved, last_moved}
use Rattle.bench_rules.specs.declared.edit.Edit.TheVariants.{MoveBlock}
use Rattle.bench_rules.specs.declared.refusal.Refusal.{Refusal}
use Rattle.bench_rules.specs.Sorted.{with_order}
use Rattle.bench_rules.specs.State.{State}
use Rattle.bench_rules.specs.Steps.{IsAfter}
use Rattle.bench_rules.proofs.BlockMoveLemmas.{block_accepted, block_done}
use Rattle.bench_rules.proofs.ManyValueLemmas.{IsRead}
use Rattle.many_traces.specs.Arranged.{Puts}
use Rattle.many_traces.proofs.SortedTraceLemmas.{swapped-puts}

-- the exchanges of a block that nothing refuses are of traces that are there
pub block_places : (v : Volume) (a b to : ℕ) (pairs : List (ℕ × ℕ)) → block_refusal v a b to ≡ None → Puts (first_moved a to) (last_moved a b to) (block_order a b to) pairs → ArePlaces (count_of v) pairs
block_places v a b to pairs none puts =
    let c = block_accepted v a b to none in
    puts.places (count_of v) (omega (arith, c.last, c.room))

-- and they move it
pub block_moved : (s : State) (a b to : ℕ) (pairs : List (ℕ × ℕ)) → IsRead s → block_refusal s.volume a b to ≡ None → Puts (first_moved a to) (last_moved a b to) (block_order a b to) pairs
    → IsAfter s (MoveBlock a b to) (record s { volume = with_places_swapped s.volume pairs })
block_moved s a b to pairs cut none puts =
    let c = block_accepted s.volume a b to none in
    let from : ℕ = first_moved a to in
    let until : ℕ = last_moved a b to in
    let order : List ℕ = block_order a b to in
    let is : with_places_swapped s.volume pairs ≡ with_order s.volume from until order =
    ap (λ (ts : List (List ℕ)). let w : Volume = record s.volume { traces = ts } in w)
    (swapped-puts s.volume.traces [] from until order pairs puts (omega (arith, c.low, c.first)) (omega (arith, c.high)) (omega (arith, c.last, c.room))) in
    block_done s a b to (with_places_swapped s.volume pairs) cut c is
