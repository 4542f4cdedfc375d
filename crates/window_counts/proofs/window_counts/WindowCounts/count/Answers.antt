use Rattle.std.proofs.Common.{◌∙◌, sym, ap, subst, ◌<◌}
use Rattle.key_counts.specs.Counts.{count_of}
use Rattle.window_counts.proofs.PlaceLemmas.{number-inside, number-outside}
use Rattle.window_counts.proofs.window_counts.WindowCounts.count.Goals as goal

pub number-requires : goal.number-requires
number-requires g c =
    let w = c.self.inside.window in
    subst (λ n. c.in-Some.place < n) (sym c.self.invariant.places) ((g.met.W.Window.placed w).within c.args.key c.in-Some.place (sym c.in-Some.ensures)).0

pub returns-in-Some : goal.returns-in-Some
returns-in-Some g c =
    let w = c.self.inside.window in
    c.number.ensures
    ∙ sym (number-inside g.K.Ord.cmp g.met.K.Ord.total (g.W.Window.size w) (g.W.Window.place w) (g.W.Window.key_of w) (g.met.W.Window.placed w) c.self.inside.slots c.self.inside.outside c.self.invariant c.args.key c.in-Some.place (sym c.in-Some.ensures))
    ∙ ap (λ es. count_of g.K.Ord.cmp es c.args.key) c.self.view_is

pub returns-in-None : goal.returns-in-None
returns-in-None g c =
    let w = c.self.inside.window in
    c.count.ensures
    ∙ sym (number-outside g.K.Ord.cmp g.met.K.Ord.total (g.W.Window.size w) (g.W.Window.place w) (g.W.Window.key_of w) (g.met.W.Window.placed w) c.self.inside.slots c.self.inside.outside c.self.invariant c.args.key (sym c.in-None.ensures))
    ∙ ap (λ es. count_of g.K.Ord.cmp es c.args.key) c.self.view_is
