use Rattle.std.proofs.Common.{◌<◌, sym, ap, subst, arith, slice_index}
use Rattle.key_counts.specs.Counts.{count_of}
use Rattle.window_counts.proofs.PlaceLemmas.{number-inside, number-outside, lowered-inside, lowered-outside}
use Rattle.window_counts.proofs.window_counts.WindowCounts.lower.Goals as goal

pub lower-requires-clause-within : goal.lower-requires-clause-within
lower-requires-clause-within g c =
    let w = c.self.inside.window in
    subst (λ n. c.in-Some.place < n) (sym c.self.invariant.places) ((g.met.W.Window.placed w).within c.args.key c.in-Some.place (sym c.in-Some.ensures)).0

pub lower-requires-clause-held : goal.lower-requires-clause-held
lower-requires-clause-held g c =
    let w = c.self.inside.window in
    let is = number-inside g.K.Ord.cmp g.met.K.Ord.total (g.W.Window.size w) (g.W.Window.place w) (g.W.Window.key_of w) (g.met.W.Window.placed w) c.self.inside.slots c.self.inside.outside c.self.invariant c.args.key c.in-Some.place (sym c.in-Some.ensures) in
    let seen = ap (λ es. count_of g.K.Ord.cmp es c.args.key) c.self.view_is in
    omega arith

pub lower-requires-in-None : goal.lower-requires-in-None
lower-requires-in-None g c =
    let w = c.self.inside.window in
    let is = number-outside g.K.Ord.cmp g.met.K.Ord.total (g.W.Window.size w) (g.W.Window.place w) (g.W.Window.key_of w) (g.met.W.Window.placed w) c.self.inside.slots c.self.inside.outside c.self.invariant c.args.key (sym c.in-None.ensures) in
    let seen = ap (λ es. count_of g.K.Ord.cmp es c.args.key) c.self.view_is in
    omega arith

pub returns-in-Some : goal.returns-in-Some
returns-in-Some g c =
    let w = c.self.inside.window in
    let is = number-inside g.K.Ord.cmp g.met.K.Ord.total (g.W.Window.size w) (g.W.Window.place w) (g.W.Window.key_of w) (g.met.W.Window.placed w) c.self.inside.slots c.self.inside.outside c.self.invariant c.args.key c.in-Some.place (sym c.in-Some.ensures) in
    let seen = ap (λ es. count_of g.K.Ord.cmp es c.args.key) c.self.view_is in
    let held : 0 < slice_index c.self.inside.slots c.in-Some.place = omega arith in
    rw (← c.self.view_is, c.lower.ensures) (lowered-inside g.K.Ord.cmp g.met.K.Ord.total (g.W.Window.size w) (g.W.Window.place w) (g.W.Window.key_of w) (g.met.W.Window.placed w) c.self.inside.slots c.self.inside.outside c.self.invariant c.args.key c.in-Some.place (sym c.in-Some.ensures) held)

pub returns-in-None : goal.returns-in-None
returns-in-None g c =
    let w = c.self.inside.window in
    rw (← c.self.view_is) (lowered-outside g.K.Ord.cmp g.met.K.Ord.total (g.W.Window.size w) (g.W.Window.place w) (g.W.Window.key_of w) (g.met.W.Window.placed w) c.self.inside.slots c.self.inside.outside c.lower-in-None.new.self c.args.key c.self.invariant c.lower-in-None.ensures.each)
