use Rattle.std.proofs.Common.{ap₂, ◌∙◌, sym, subst, map, ◌≡◌}
use Rattle.std.proofs.lemmas.Result.{IfOk-weaker}
use Rattle.std.proofs.lemmas.List.{map-id}
use Rattle.key_counts.specs.Counts.{count_of}
use Rattle.key_counts.specs.Rising.{Shows}
use Rattle.window_counts.specs.Window.{entries, merge}
use Rattle.window_counts.proofs.PlaceLemmas.{Shows-alone, Shows-inside, never_both, number-parts}
use Rattle.window_counts.proofs.MergeLemmas.{Shows-merge}
use Rattle.window_counts.proofs.window_counts.WindowCounts.list.Goals as goal

pub returns-then-is_empty-clause-shows : goal.returns-then-is_empty-clause-shows
returns-then-is_empty-clause-shows g c =
    let w = c.self.inside.window in
    IfOk-weaker c.listed.result _ _
    (λ list e. Shows-alone g.K.Ord.cmp g.met.K.Ord.total (g.W.Window.size w) (g.W.Window.place w) (g.W.Window.key_of w) (g.met.W.Window.placed w) c.self.inside.slots c.self.inside.outside c.self.invariant c.args.self.now (map g.T.FromCount.count list.items) c.self.view_is (sym c.is_empty.ensures ∙ c.if-is_empty.true) e)
    c.listed.ensures.items

pub returns-clause-shows : goal.returns-clause-shows
returns-clause-shows g c =
    let w = c.self.inside.window in
    let inside : c.deref.result.now ≡ entries (g.W.Window.key_of w) c.self.inside.slots = c.deref.ensures.value ∙ sym (map-id c.in_ok-inside.inside.items) ∙ c.in_ok-inside.ensures.items in
    let outside : c.deref-2.result.now ≡ c.self.inside.outside = c.deref-2.ensures.value ∙ sym (map-id c.in_ok-outside.outside.items) ∙ c.in_ok-outside.ensures.items in
    let shown : Shows g.K.Ord.cmp (count_of g.K.Ord.cmp c.self.inside.outside) c.self.inside.outside = subst (λ l. Shows g.K.Ord.cmp (count_of g.K.Ord.cmp c.self.inside.outside) l) c.in_ok-outside.ensures.items c.in_ok-outside.ensures.shows in
    IfOk-weaker c.merged.result _ _
    (λ list e. subst (λ l. Shows g.K.Ord.cmp (count_of g.K.Ord.cmp c.args.self.now) l) (sym (e ∙ ap₂ (merge g.K.Ord.cmp) inside outside))
    (Shows-merge g.K.Ord.cmp g.met.K.Ord.total (count_of g.K.Ord.cmp (entries (g.W.Window.key_of w) c.self.inside.slots)) (count_of g.K.Ord.cmp c.self.inside.outside) (count_of g.K.Ord.cmp c.args.self.now)
    (entries (g.W.Window.key_of w) c.self.inside.slots) c.self.inside.outside
    (Shows-inside g.K.Ord.cmp g.met.K.Ord.total (g.W.Window.size w) (g.W.Window.place w) (g.W.Window.key_of w) (g.met.W.Window.placed w) c.self.inside.slots c.self.inside.outside c.self.invariant) shown
    (never_both g.K.Ord.cmp g.met.K.Ord.total (g.W.Window.size w) (g.W.Window.place w) (g.W.Window.key_of w) (g.met.W.Window.placed w) c.self.inside.slots c.self.inside.outside c.self.invariant)
    (number-parts g.K.Ord.cmp g.met.K.Ord.total (g.W.Window.size w) (g.W.Window.place w) (g.W.Window.key_of w) (g.met.W.Window.placed w) c.self.inside.slots c.self.inside.outside c.self.invariant c.args.self.now c.self.view_is)))
    c.merged.ensures.items
