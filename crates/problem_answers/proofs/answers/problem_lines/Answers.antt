use Rattle.std.proofs.Common.{◌≡◌, ◌∙◌, Bool, List, ◌++◌, [], map, ap, ap₂}
use Rattle.std.specs.Prelude.{Option, is_some, if◌then◌else◌}
use Rattle.trace_record.specs.Facts.{Facts, facts_of}
use Rattle.fault_live.specs.Faults.{faults_of}
use Rattle.fault_live.specs.declared.fault.Fault.{Fault}
use Rattle.grid_live.specs.Cells.{crosslines, inlines}
use Rattle.grid_live.specs.declared.line.Line.{Line}
use Rattle.line_problems.specs.LineProblems.{no_survey_of}
use Rattle.line_problems.specs.declared.survey_numbers.NoSurvey.{NoSurvey}
use Rattle.bench_rules.specs.declared.problem_line.ProblemLine.{ProblemLine}
use Rattle.bench_rules.specs.Problems.{fault_problems, no_survey_lines, position_problems, survey_problems, value_problems}
use Rattle.problem_answers.proofs.LineLemmas.{all_lines}
use Rattle.problem_answers.proofs.SurveyLemmas.{crosslines_are, inlines_are}
use Rattle.problem_answers.proofs.answers.problem_lines.Goals as goal

pub push_of_survey-requires-clause-inlines : goal.push_of_survey-requires-clause-inlines
push_of_survey-requires-clause-inlines c =
    c.as_slice-3.ensures.value ∙ inlines_are c.args.grid.now (map facts_of c.args.records.now) c.requires.grid c.in_ok-inlines.inlines.items c.in_ok-inlines.ensures.inlines

pub push_of_survey-requires-clause-crosslines : goal.push_of_survey-requires-clause-crosslines
push_of_survey-requires-clause-crosslines c =
    c.as_slice-4.ensures.value ∙ crosslines_are c.args.grid.now (map facts_of c.args.records.now) c.requires.grid c.in_ok-crosslines.crosslines.items c.in_ok-crosslines.ensures.crosslines

pub returns-clause-ok : goal.returns-clause-ok
returns-clause-ok c = λ delays shots late doubts.
    let fs : List Facts = map facts_of c.args.records.now in
    let faults : List Fault = faults_of c.args.head.now fs in
    let lone : Option NoSurvey = no_survey_of (inlines fs) (crosslines fs) in
    let is : c.no_survey-lone.result ≡ lone = c.no_survey-lone.ensures
    ∙ ap₂ (λ (a b : List Line). no_survey_of a b)
    (c.as_slice.ensures.value ∙ inlines_are c.args.grid.now fs c.requires.grid c.in_ok-inlines.inlines.items c.in_ok-inlines.ensures.inlines)
    (c.as_slice-2.ensures.value ∙ crosslines_are c.args.grid.now fs c.requires.grid c.in_ok-crosslines.crosslines.items c.in_ok-crosslines.ensures.crosslines) in
    let first : List ProblemLine = fault_problems faults (is_some lone) in
    let second : List ProblemLine = no_survey_lines lone in
    let third : List ProblemLine = value_problems fs delays (is_some lone) in
    let fourth : List ProblemLine = if is_some lone then [] else survey_problems fs in
    let one : c.push_faults.new.lines.items ≡ c.new-lines.result.items ++ first = c.in_ok-push_faults.ensures.ok
    ∙ ap (λ (b : Bool). c.new-lines.result.items ++ fault_problems faults b) (c.is_some.ensures ∙ ap (λ (o : Option NoSurvey). is_some o) is) in
    let two : c.push_no_survey.new.lines.items ≡ c.push_faults.new.lines.items ++ second = c.in_ok-push_no_survey.ensures.items
    ∙ ap (λ (o : Option NoSurvey). c.push_faults.new.lines.items ++ no_survey_lines o) is in
    let three : c.push_of_headers.new.lines.items ≡ c.push_no_survey.new.lines.items ++ third = c.in_ok-push_of_headers.ensures.ok delays late
    ∙ ap (λ (b : Bool). c.push_no_survey.new.lines.items ++ value_problems fs delays b) (c.is_some-2.ensures ∙ ap (λ (o : Option NoSurvey). is_some o) is) in
    let four : c.push_of_survey.new.lines.items ≡ c.push_of_headers.new.lines.items ++ fourth = c.in_ok-push_of_survey.ensures.ok
    ∙ ap (λ (b : Bool). c.push_of_headers.new.lines.items ++ (if b then [] else survey_problems fs)) (c.is_some-3.ensures ∙ ap (λ (o : Option NoSurvey). is_some o) is) in
    let five : c.push_lines.new.lines.items ≡ c.push_of_survey.new.lines.items ++ (if is_some lone then [] else position_problems shots fs) = c.in_ok-push_lines.ensures.items
    ∙ ap (λ (l : List ProblemLine). c.push_of_survey.new.lines.items ++ l) doubts in
    all_lines c.args.head.now fs delays shots c.args.floats c.new-lines.result.items c.push_faults.new.lines.items c.push_no_survey.new.lines.items c.push_of_headers.new.lines.items c.push_of_survey.new.lines.items c.push_lines.new.lines.items c.push_of_samples.new.lines.items
    c.new-lines.ensures.items one two three four five c.in_ok-push_of_samples.ensures.ok
