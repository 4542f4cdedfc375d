use Rattle.key_counts.specs.Counts.{count_of}
use Rattle.window_counts.specs.Window.{number_in}
use Rattle.window_counts.proofs.PlaceLemmas.{seen}
use Rattle.window_counts.proofs.SpanLemmas.{greatest-first, greatest-second, greatest-both, last-held, none-held}
use Rattle.window_counts.proofs.window_counts.WindowCounts.greatest.Goals as goal

pub returns-in_default : goal.returns-in_default
returns-in_default g c =
    let w = c.self.inside.window in
    greatest-second g.K.Ord.cmp g.met.K.Ord.total (λ k. number_in c.self.inside.slots (g.W.Window.place w k)) (count_of g.K.Ord.cmp c.self.inside.outside) (count_of g.K.Ord.cmp c.args.self.now) (seen g.K.Ord.cmp g.met.K.Ord.total (g.W.Window.size w) (g.W.Window.place w) (g.W.Window.key_of w) (g.met.W.Window.placed w) c.self.inside.slots c.self.inside.outside c.self.invariant c.args.self.now c.self.view_is)
    c.greatest.result (none-held g.K.Ord.cmp g.met.K.Ord.total (g.W.Window.size w) (g.W.Window.place w) (g.W.Window.key_of w) (g.met.W.Window.placed w) c.self.inside.slots c.self.invariant.places c.in_default.ensures) c.greatest.ensures.greatest

pub returns-in-Some-greatest : goal.returns-in-Some-greatest
returns-in-Some-greatest g c =
    let w = c.self.inside.window in
    let found = last-held g.K.Ord.cmp g.met.K.Ord.total (g.W.Window.size w) (g.W.Window.place w) (g.W.Window.key_of w) (g.met.W.Window.placed w) c.self.inside.slots c.self.invariant.places c.in-Some.place c.in-Some.ensures in
    rw (c.max.ensures, c.key_at-key.ensures) (greatest-both g.K.Ord.cmp g.met.K.Ord.total (λ k. number_in c.self.inside.slots (g.W.Window.place w k)) (count_of g.K.Ord.cmp c.self.inside.outside) (count_of g.K.Ord.cmp c.args.self.now) (seen g.K.Ord.cmp g.met.K.Ord.total (g.W.Window.size w) (g.W.Window.place w) (g.W.Window.key_of w) (g.met.W.Window.placed w) c.self.inside.slots c.self.inside.outside c.self.invariant c.args.self.now c.self.view_is)
    (g.W.Window.key_of w c.in-Some.place) c.in-Some-greatest.other found c.in-Some-greatest.ensures.greatest)

pub returns-in-None : goal.returns-in-None
returns-in-None g c =
    let w = c.self.inside.window in
    let found = last-held g.K.Ord.cmp g.met.K.Ord.total (g.W.Window.size w) (g.W.Window.place w) (g.W.Window.key_of w) (g.met.W.Window.placed w) c.self.inside.slots c.self.invariant.places c.in-Some.place c.in-Some.ensures in
    rw c.key_at-key.ensures (greatest-first g.K.Ord.cmp g.met.K.Ord.total (λ k. number_in c.self.inside.slots (g.W.Window.place w k)) (count_of g.K.Ord.cmp c.self.inside.outside) (count_of g.K.Ord.cmp c.args.self.now) (seen g.K.Ord.cmp g.met.K.Ord.total (g.W.Window.size w) (g.W.Window.place w) (g.W.Window.key_of w) (g.met.W.Window.placed w) c.self.inside.slots c.self.inside.outside c.self.invariant c.args.self.now c.self.view_is)
    (g.W.Window.key_of w c.in-Some.place) found c.in-None.ensures.greatest)
