use Rattle.std.proofs.Common.{◌≡◌, ◌≤◌, count_by, take}
use Rattle.script_text.specs.ProblemTexts.{begins_problem}
use Rattle.script_text.proofs.problem_texts.problems_in.Given as goal

-- the problems of the lines so far, which are no more than these
abbrev pub invariant-loop-line : goal.invariant-loop-line
invariant-loop-line l = record {
  count : l.count ≡ count_by begins_problem (take l.line-index l.lines);
  few : l.count ≤ l.line-index;
}
