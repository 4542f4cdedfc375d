use Rattle.std.proofs.Common.{◌<◌, ◌∙◌, sym, ap, subst, arith}
use Rattle.key_counts.specs.Counts.{count_of}
use Rattle.window_counts.proofs.PlaceLemmas.{number-inside, number-outside, raised-inside, raised-tried, apart-tried}
use Rattle.window_counts.proofs.window_counts.WindowCounts.raise.Goals as goal

pub raise-requires-clause-within : goal.raise-requires-clause-within
raise-requires-clause-within g c =
    let w = c.self.inside.window in
    subst (λ n. c.in-Some.place < n) (sym c.self.invariant.places) ((g.met.W.Window.placed w).within c.args.key c.in-Some.place (sym c.in-Some.ensures)).0

pub raise-requires-clause-room : goal.raise-requires-clause-room
raise-requires-clause-room g c =
    let w = c.self.inside.window in
    let is = number-inside g.K.Ord.cmp g.met.K.Ord.total (g.W.Window.size w) (g.W.Window.place w) (g.W.Window.key_of w) (g.met.W.Window.placed w) c.self.inside.slots c.self.inside.outside c.self.invariant c.args.key c.in-Some.place (sym c.in-Some.ensures) in
    let seen = ap (λ es. count_of g.K.Ord.cmp es c.args.key) (c.self.view_is ∙ c.make_room.ensures.same) in
    omega arith

pub raise-requires-in-None : goal.raise-requires-in-None
raise-requires-in-None g c =
    let w = c.self.inside.window in
    let is = number-outside g.K.Ord.cmp g.met.K.Ord.total (g.W.Window.size w) (g.W.Window.place w) (g.W.Window.key_of w) (g.met.W.Window.placed w) c.self.inside.slots c.self.inside.outside c.self.invariant c.args.key (sym c.in-None.ensures) in
    let seen = ap (λ es. count_of g.K.Ord.cmp es c.args.key) (c.self.view_is ∙ c.make_room.ensures.same) in
    omega arith

pub invariant_of-self-in-None : goal.invariant_of-self-in-None
invariant_of-self-in-None g c =
    let w = c.self.inside.window in
    apart-tried g.K.Ord.cmp g.met.K.Ord.total (g.W.Window.size w) (g.W.Window.place w) (g.W.Window.key_of w) (g.met.W.Window.placed w) c.self.inside.slots c.self.inside.outside c.raise-in-None.new.self c.args.key c.raise-in-None.result c.self.invariant (sym c.in-None.ensures) c.raise-in-None.ensures.each c.raise-in-None.ensures.err

pub returns-in-Some-clause-ok : goal.returns-in-Some-clause-ok
returns-in-Some-clause-ok g c =
    let w = c.self.inside.window in
    rw (← (c.self.view_is ∙ c.make_room.ensures.same), c.raise.ensures) (raised-inside g.K.Ord.cmp g.met.K.Ord.total (g.W.Window.size w) (g.W.Window.place w) (g.W.Window.key_of w) (g.met.W.Window.placed w) c.self.inside.slots c.self.inside.outside c.self.invariant c.args.key c.in-Some.place (sym c.in-Some.ensures))

pub returns-in-None-clause-ok : goal.returns-in-None-clause-ok
returns-in-None-clause-ok g c =
    let w = c.self.inside.window in
    rw (← (c.self.view_is ∙ c.make_room.ensures.same)) (raised-tried g.K.Ord.cmp g.met.K.Ord.total (g.W.Window.size w) (g.W.Window.place w) (g.W.Window.key_of w) (g.met.W.Window.placed w) c.self.inside.slots c.self.inside.outside c.raise-in-None.new.self c.args.key c.raise-in-None.result c.self.invariant (sym c.in-None.ensures) c.raise-in-None.ensures.each)

pub returns-in-None-clause-held : goal.returns-in-None-clause-held
returns-in-None-clause-held g c held =
    let w = c.self.inside.window in
    let is = number-outside g.K.Ord.cmp g.met.K.Ord.total (g.W.Window.size w) (g.W.Window.place w) (g.W.Window.key_of w) (g.met.W.Window.placed w) c.self.inside.slots c.self.inside.outside c.self.invariant c.args.key (sym c.in-None.ensures) in
    let seen = ap (λ es. count_of g.K.Ord.cmp es c.args.key) (c.self.view_is ∙ c.make_room.ensures.same) in
    c.raise-in-None.ensures.held (omega arith)
