use Rattle.std.proofs.Common.{◌≡◌, ℤ, ap₂, ◌∙◌, sym, subst, FitsSigned}
use mir.Syntax.{w32, w128}
use mir.Val.{to_z, of_z}
use Rattle.std.proofs.lemmas.Int.{to_z-of_z}
use Rattle.key_counts.specs.Counts.{count_of}
use Rattle.window_counts.specs.Places.{cell_cmp}
use Rattle.grid_live.proofs.grid.Grid.fold.Goals as goal

-- a number that was found to fit 32 bits is the one that was passed
kept : (given found : ℤ) → FitsSigned w128 given → FitsSigned w32 (to_z w128 (of_z w128 given)) → found ≡ to_z w128 (of_z w128 given) → to_z w32 (of_z w32 found) ≡ given
kept given found wide fit same = to_z-of_z w32 found (subst (λ z. FitsSigned w32 z) (sym same) fit) ∙ same ∙ to_z-of_z w128 given wide

pub returns : goal.returns
returns c =
    c.count.ensures
    ∙ ap₂ (λ i x. count_of cell_cmp c.args.self.now.cells (i, x))
    (kept c.args.inline c.in-Ok.inline c.ranges.inline c.in-Ok.ensures.0 c.in-Ok.ensures.1)
    (kept c.args.crossline c.in-Ok-try_from.crossline c.ranges.crossline c.in-Ok-try_from.ensures.0 c.in-Ok-try_from.ensures.1)
