use Rattle.std.proofs.Common.{◌≡◌, ◌≤◌, count_by, take}
use Rattle.script_text.specs.ProblemTexts.{begins_problem}
use Rattle.script_text.proofs.float_problem_texts.problems_in.Given as goal

-- the problems of the lines so far, which are no more than these
abbrev pub invariant-loop-shown : goal.invariant-loop-shown
invariant-loop-shown l = record {
  count : l.count ≡ count_by (λ p. begins_problem p.line) (take l.shown-index l.lines);
  few : l.count ≤ l.shown-index;
}
