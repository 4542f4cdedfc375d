use Rattle.std.proofs.Common.{◌≡◌, ◌∙◌, List, map, sym, ap, subst, inl}
use Rattle.std.specs.Prelude.{Ok, Option}
use Rattle.trace_record.specs.Facts.{Facts, facts_of}
use Rattle.trace_record.specs.Packed.{record_in}
use Rattle.trace_record.specs.declared.packed_record.PackedRecord.{PackedRecord}
use Rattle.trace_record.specs.declared.record.Record.{Record}
use Rattle.cell_positions.specs.Survey.{survey_of}
use Rattle.cell_positions.specs.declared.survey.SurveyGrid.{SurveyGrid}
use Rattle.survey_cells.specs.declared.cells.SurveyCell.{SurveyCell}
use Rattle.survey_cells.specs.Held.{AreCellsOf}
use Rattle.bench_rules.specs.declared.answer.Answer.TheVariants as answers
use Rattle.bench_rules.specs.Answer.{Reply}
use Rattle.problem_answers.proofs.SurveyLemmas.{crosslines_are, inlines_are}
use Rattle.problem_answers.proofs.positions.survey_answer.Goals as goal

pub returns-clause-reply : goal.returns-clause-reply
returns-clause-reply c = λ s are.
    let rs : List Record = map record_in c.args.overlay.now.payloads in
    let fs : List Facts = map facts_of rs in
    let records : c.new-records.result ≡ rs = c.new-records.ensures ∙ ap (λ (ps : List PackedRecord). map record_in ps) c.payloads.ensures in
    let found : AreCellsOf fs c.in_ok-cells.cells.items = subst (λ (l : List Record). AreCellsOf (map facts_of l) c.in_ok-cells.cells.items) records c.in_ok-cells.ensures.cells in
    let lent : AreCellsOf fs c.as_slice-cells.result.now = subst (λ (l : List SurveyCell). AreCellsOf fs l) (sym c.as_slice-cells.ensures.value) found in
    let inlines = c.as_slice.ensures.value ∙ inlines_are c.args.grid.now fs c.requires.grid c.in_ok-inlines.inlines.items c.in_ok-inlines.ensures.inlines in
    let crosslines = c.as_slice-2.ensures.value ∙ crosslines_are c.args.grid.now fs c.requires.grid c.in_ok-crosslines.crosslines.items c.in_ok-crosslines.ensures.crosslines in
    inl (ap (λ (g : Option SurveyGrid). let r : Reply = Ok (answers.Survey g) in r)
    (c.in_ok-grid.ensures.grid fs lent inlines crosslines ∙ ap (λ (l : List Facts). survey_of l) are))
