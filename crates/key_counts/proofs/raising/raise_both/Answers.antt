use Rattle.key_counts.proofs.RaisedLemmas.{raised_held}
use Rattle.key_counts.proofs.raising.raise_both.Goals as goal

pub lower_any-requires : goal.lower_any-requires
lower_any-requires g c = raised_held g.F.Counter.cmp g.met.F.Counter.total g.F.Counter.seen (g.F.Counter.number c.args.first.now) (g.F.Counter.number c.raise_any.new.counter) _ c.in_ok-raise_any.ensures.ok
