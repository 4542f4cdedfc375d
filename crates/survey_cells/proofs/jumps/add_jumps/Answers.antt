use Rattle.std.specs.Prelude.{◌≡◌, ℕ, false, ◌++◌}
use Rattle.std.specs.List.{list_any}
use Rattle.std.proofs.Common.{sym, ap, ◌∙◌, List}
use Rattle.std.proofs.lemmas.List.{append-nil}
use Rattle.position_differences.specs.declared.difference.Difference.{Difference}
use Rattle.position_differences.specs.Differences.{is_far}
use Rattle.cell_positions.specs.declared.trace_pair.TracePair.{TracePair}
use Rattle.survey_cells.proofs.FarLemmas.{none_jump}
use Rattle.survey_cells.proofs.jumps.add_jumps.Goals as goal

pub returns-then-not-any_far-clause-jumps : goal.returns-then-not-any_far-clause-jumps
returns-then-not-any_far-clause-jumps c =
    let before = c.args.traces.now.items in
    let usual = c.args.usual.now in
    let none : list_any (λ e. is_far e.0 usual) c.args.counts.now ≡ false
    = ap (λ (es : List (Difference × ℕ)). list_any (λ e. is_far e.0 usual) es) (sym c.pairs.ensures.rest) ∙ sym c.any_far.ensures ∙ c.if-not-any_far.true in
    sym (ap (λ (l : List TracePair). before ++ l) (none_jump usual c.args.counts.now c.args.cells.now c.args.apart c.requires.counted none) ∙ append-nil before)
