use Rattle.std.proofs.Common.{◌≡◌, ◌∙◌, Bool, List, ◌++◌, [], map, sym, ap, ap₂}
use Rattle.std.specs.Prelude.{Option, is_some, if◌then◌else◌}
use Rattle.trace_record.specs.Facts.{Facts, facts_of}
use Rattle.trace_record.specs.Packed.{record_in}
use Rattle.trace_record.specs.declared.packed_record.PackedRecord.{PackedRecord}
use Rattle.trace_record.specs.declared.record.Record.{Record}
use Rattle.grid_live.specs.Cells.{crosslines, inlines}
use Rattle.grid_live.specs.declared.line.Line.{Line}
use Rattle.line_problems.specs.LineProblems.{no_survey_of}
use Rattle.line_problems.specs.declared.survey_numbers.NoSurvey.{NoSurvey}
use Rattle.bench_rules.specs.declared.problem_line.ProblemLine.{ProblemLine}
use Rattle.bench_rules.specs.Problems.{position_problems}
use Rattle.problem_answers.proofs.SurveyLemmas.{crosslines_are, inlines_are}
use Rattle.problem_answers.proofs.answers.doubts.Goals as goal

pub push_of_positions-requires-clause-inlines : goal.push_of_positions-requires-clause-inlines
push_of_positions-requires-clause-inlines c =
    let rs : List Record = map record_in c.args.overlay.now.payloads in
    let records : c.new-records.result ≡ rs = c.new-records.ensures ∙ ap (λ (ps : List PackedRecord). map record_in ps) c.payloads.ensures in
    c.as_slice-3.ensures.value ∙ inlines_are c.args.grid.now (map facts_of rs) c.requires.grid c.in_ok-inlines.inlines.items c.in_ok-inlines.ensures.inlines ∙ ap (λ (l : List Record). inlines (map facts_of l)) (sym records)

pub push_of_positions-requires-clause-crosslines : goal.push_of_positions-requires-clause-crosslines
push_of_positions-requires-clause-crosslines c =
    let rs : List Record = map record_in c.args.overlay.now.payloads in
    let records : c.new-records.result ≡ rs = c.new-records.ensures ∙ ap (λ (ps : List PackedRecord). map record_in ps) c.payloads.ensures in
    c.as_slice-4.ensures.value ∙ crosslines_are c.args.grid.now (map facts_of rs) c.requires.grid c.in_ok-crosslines.crosslines.items c.in_ok-crosslines.ensures.crosslines
    ∙ ap (λ (l : List Record). crosslines (map facts_of l)) (sym records)

pub returns-clause-ok : goal.returns-clause-ok
returns-clause-ok c =
    let rs : List Record = map record_in c.args.overlay.now.payloads in
    let fs : List Facts = map facts_of rs in
    let records : c.new-records.result ≡ rs = c.new-records.ensures ∙ ap (λ (ps : List PackedRecord). map record_in ps) c.payloads.ensures in
    let lone : Option NoSurvey = no_survey_of (inlines fs) (crosslines fs) in
    let is : c.no_survey-lone.result ≡ lone = c.no_survey-lone.ensures
    ∙ ap₂ (λ (a b : List Line). no_survey_of a b)
    (c.as_slice.ensures.value ∙ inlines_are c.args.grid.now fs c.requires.grid c.in_ok-inlines.inlines.items c.in_ok-inlines.ensures.inlines)
    (c.as_slice-2.ensures.value ∙ crosslines_are c.args.grid.now fs c.requires.grid c.in_ok-crosslines.crosslines.items c.in_ok-crosslines.ensures.crosslines) in
    c.in_ok-push_of_positions.ensures.ok
    ∙ ap (λ (l : List ProblemLine). l ++ (if c.is_some.result then [] else position_problems c.args.shots (map facts_of c.new-records.result))) c.new-lines.ensures.items
    ∙ ap (λ (b : Bool). if b then [] else position_problems c.args.shots (map facts_of c.new-records.result)) (c.is_some.ensures ∙ ap (λ (o : Option NoSurvey). is_some o) is)
    ∙ ap (λ (l : List Record). if is_some lone then [] else position_problems c.args.shots (map facts_of l)) records
