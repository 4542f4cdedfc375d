use Rattle.std.proofs.Common.{◌≡◌, ◌∙◌, List, ◌++◌, map, sym, ap, subst}
use Rattle.std.specs.Prelude.{Option}
use Rattle.trace_record.specs.Facts.{Facts, facts_of}
use Rattle.cell_positions.specs.Jumps.{JumpsTold, jumps_of}
use Rattle.cell_positions.specs.Shared.{SharedTold, shared_of}
use Rattle.survey_cells.specs.declared.cells.SurveyCell.{SurveyCell}
use Rattle.survey_cells.specs.Held.{AreCellsOf}
use Rattle.bench_rules.specs.Problems.{jump_lines, shared_lines}
use Rattle.problem_answers.proofs.LineLemmas.{position_lines}
use Rattle.problem_answers.proofs.positions.push_of_positions.Goals as goal

pub returns-clause-ok : goal.returns-clause-ok
returns-clause-ok c =
    let fs : List Facts = map facts_of c.args.records.now in
    let lent : AreCellsOf fs c.as_slice.result.now = subst (λ (l : List SurveyCell). AreCellsOf fs l) (sym c.as_slice.ensures.value) c.in_ok-cells.ensures.cells in
    let jumps = c.in_ok-jumps.ensures.jumps fs lent c.requires.inlines c.requires.crosslines in
    let one : c.push_jumps.new.lines.items ≡ c.args.lines.now.items ++ jump_lines (jumps_of c.args.shots fs)
    = c.in_ok-push_jumps.ensures.items ∙ ap (λ (j : Option JumpsTold). c.args.lines.now.items ++ jump_lines j) jumps in
    let shared = c.in_ok-found.ensures.shared fs c.in_ok-cells.ensures.cells in
    let two : c.push_shared.new.lines.items ≡ c.push_jumps.new.lines.items ++ shared_lines (shared_of c.args.shots fs)
    = c.in_ok-push_shared.ensures.items ∙ ap (λ (s : Option SharedTold). c.push_jumps.new.lines.items ++ shared_lines s) shared in
    rw (c.if-is_lone.false) (position_lines c.args.shots fs c.args.lines.now.items c.push_jumps.new.lines.items c.push_shared.new.lines.items one two)
