use Rattle.std.proofs.Common.{◌≡◌, ◌++◌, ◌∙◌, ap, arith, rules, replicate}
use Rattle.window_counts.specs.Window.{entries}
use Rattle.window_counts.proofs.PlaceLemmas.{entries-grown}
use Rattle.window_counts.proofs.window_counts.WindowCounts.make_room.Goals as goal

pub returns-then-is_ok-clause-same : goal.returns-then-is_ok-clause-same
returns-then-is_ok-clause-same g c =
    let w = c.self.inside.window in
    let new = c.grow-then-is_ok.new.self in
    let slots = c.self.inside.slots in
    let places = c.self.invariant.places in
    let grown : c.grow.new.self ≡ slots ++ replicate c.row_len.result 0 = search rules in
    ap (λ ns. entries (g.W.Window.key_of new) ns ++ c.self.inside.outside) grown
    ∙ ap (λ es. es ++ c.self.inside.outside) (entries-grown slots (g.W.Window.key_of w) (g.W.Window.key_of new) c.row_len.result (λ p h. c.grow-then-is_ok.ensures.kept p (omega arith)))
    ∙ c.self.view_is
