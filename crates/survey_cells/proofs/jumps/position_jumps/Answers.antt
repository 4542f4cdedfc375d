use Rattle.std.specs.Prelude.{◌≡◌, ℤ, List, Option, None, IfOk, option_map, option_and_then, if◌then◌else◌}
use Rattle.std.proofs.Common.{ap, ◌∙◌, subst}
use Rattle.line_problems.specs.LineSpans.{span_of}
use Rattle.grid_live.specs.declared.line.Line.{Line}
use Rattle.cell_positions.specs.Jumps.{JumpsTold, crossline_step, told}
use Rattle.cell_positions.specs.Steps.{inlines_apart, crosslines_apart, inline_span_of, crossline_span_of}
use Rattle.survey_cells.proofs.WholeLemmas.{jumps_are}
use Rattle.survey_cells.proofs.jumps.position_jumps.Goals as goal

pub returns-clause-jumps : goal.returns-clause-jumps
unfolding inline_span_of crossline_span_of
returns-clause-jumps c = λ fs are inlines crosslines.
    let one : c.in_ok-inlines.inlines ≡ option_and_then inlines_apart (inline_span_of fs) = c.in_ok-inlines.ensures.step ∙ ap (λ (ls : List Line). option_and_then inlines_apart (span_of ls)) inlines in
    let other : c.in_ok-crosslines.crosslines ≡ crossline_step c.args.shots fs
    = c.in_ok-crosslines.ensures.step ∙ ap (λ (ls : List Line). let o : Option (ℤ × ℤ) = if c.args.shots then None else option_and_then crosslines_apart (span_of ls) in o) crosslines in
    subst (λ (t : Option JumpsTold). IfOk c.find_jumps.result (λ jumps. option_map told jumps ≡ t)) (jumps_are fs c.args.cells.now are c.args.shots c.in_ok-inlines.inlines c.in_ok-crosslines.crosslines one other) c.find_jumps.ensures.jumps
