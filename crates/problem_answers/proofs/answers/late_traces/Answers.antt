use Rattle.std.proofs.Common.{◌∙◌, ℤ, List, ◌++◌, ap}
use Rattle.std.specs.Prelude.{Option, option_map}
use Rattle.trace_groups.specs.Groups.{Group, group_in}
use Rattle.bench_rules.specs.declared.problem_line.ProblemLine.{ProblemLine}
use Rattle.bench_rules.specs.Problems.{group_lines}
use Rattle.problem_answers.specs.Parts.{late_of}
use Rattle.problem_answers.proofs.answers.late_traces.Goals as goal

pub returns-clause-ok : goal.returns-clause-ok
returns-clause-ok c = λ sure.
    c.in_ok-push_group.ensures.items
    ∙ ap (λ (l : List ProblemLine). l ++ group_lines (option_map group_in c.in_ok-found.found)) c.new-lines.ensures.items
    ∙ ap (λ (g : Option Group). group_lines g) c.in_ok-found.ensures.group
    ∙ ap (λ (ds : List ℤ). late_of ds) (c.as_slice.ensures.value ∙ c.in_ok-delays.ensures.ok sure)
