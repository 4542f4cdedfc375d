use Rattle.window_counts.proofs.PlaceLemmas.{apart-none}
use Rattle.window_counts.proofs.window_counts.WindowCounts.in_order.Goals as goal

pub invariant_of-result : goal.invariant_of-result
invariant_of-result g c =
    let w = c.none.result in
    rw c.empty.ensures (apart-none g.K.Ord.cmp (g.W.Window.size w) (g.W.Window.place w) (g.W.Window.key_of w) (g.met.W.Window.placed w) c.none.ensures c.in_ok-outside.outside)
