use Rattle.std.proofs.Common.{◌≡◌, ◌+◌, ◌++◌, ◌∷◌, [], arith}
use Rattle.std.specs.Prelude.{slice_index}
use Rattle.chosen_traces.proofs.ChoosingLemmas.{one_exchange}
use Rattle.chosen_traces.proofs.exchanges.exchanges_to_front.Goals as goal

pub loop-k-preserved : goal.loop-k-preserved
loop-k-preserved c =
    let pushed : c.push.new.self.items ≡ c.loop-k.pairs.items ++ (c.loop-k.k + 1, slice_index c.args.traces.now c.loop-k.k) ∷ [] = rw c.in_ok-told_back.ensures.ok at c.push.ensures.items in
    (one_exchange c.args.traces.now c.loop-k.k 0 c.loop-k.pairs.items c.push.new.self.items c.loop-k-test.true c.loop-k.invariant.0 pushed, grind arith)
