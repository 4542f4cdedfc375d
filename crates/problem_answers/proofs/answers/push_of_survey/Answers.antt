use Rattle.std.proofs.Common.{◌≡◌, ◌∙◌, List, ◌++◌, map, ap, sym, subst, arith}
use Rattle.std.specs.Prelude.{ℤ, Option}
use Rattle.std.proofs.lemmas.List.{length-map}
use Rattle.trace_record.specs.Facts.{Facts, facts_of}
use Rattle.trace_groups.specs.Groups.{Group, group_of}
use Rattle.trace_groups.specs.Suspects.{far_crosslines, far_inlines}
use Rattle.trace_groups.specs.declared.problem.TraceProblem.TheVariants.{FarCrossline, FarInline}
use Rattle.grid_live.specs.Cells.{crosslines, histogram, inlines}
use Rattle.grid_live.specs.declared.fold_count.FoldCount.{FoldCount}
use Rattle.grid_live.specs.declared.line.Line.{Line}
use Rattle.line_problems.specs.FoldProblems.{uneven_fold_of}
use Rattle.line_problems.specs.LineProblems.{LinesRise}
use Rattle.line_problems.specs.MissingLines.{Missing, missing_of}
use Rattle.line_problems.specs.declared.folds.UnevenFold.{UnevenFold}
use Rattle.line_problems.specs.NearLines.{near_of}
use Rattle.bench_rules.specs.declared.problem_line.ProblemLine.{ProblemLine}
use Rattle.bench_rules.specs.declared.problem_line.ProblemLine.TheVariants.{MissingCrosslines, MissingInlines}
use Rattle.bench_rules.specs.Problems.{fold_lines, group_lines, missing_lines}
use Rattle.problem_answers.proofs.LineLemmas.{survey_lines}
use Rattle.problem_answers.proofs.RisingLemmas.{crosslines_rise, inlines_rise}
use Rattle.problem_answers.proofs.SurveyLemmas.{few_folds, folds_are}
use Rattle.problem_answers.proofs.answers.push_of_survey.Goals as goal

pub missing_lines-requires : goal.missing_lines-requires
missing_lines-requires c = subst (λ (l : List Line). LinesRise l) (sym c.requires.inlines) (inlines_rise (map facts_of c.args.records.now))

pub missing_lines-requires-2 : goal.missing_lines-requires-2
missing_lines-requires-2 c = subst (λ (l : List Line). LinesRise l) (sym c.requires.crosslines) (crosslines_rise (map facts_of c.args.records.now))

pub uneven_fold-requires : goal.uneven_fold-requires
uneven_fold-requires c =
    let fs : List Facts = map facts_of c.args.records.now in
    let same = length-map c.args.records.now facts_of in
    rw (c.as_slice.ensures.value) (few_folds c.args.grid.now fs c.requires.grid c.in_ok-folds.folds.items c.in_ok-folds.ensures.histogram (omega (arith, same, c.requires.few)))

pub returns-clause-ok : goal.returns-clause-ok
returns-clause-ok c =
    let fs : List Facts = map facts_of c.args.records.now in
    let start : List ProblemLine = c.args.lines.now.items in
    let first : List ProblemLine = group_lines (group_of FarInline (far_inlines (near_of (inlines fs)) fs)) in
    let second : List ProblemLine = group_lines (group_of FarCrossline (far_crosslines (near_of (crosslines fs)) fs)) in
    let third : List ProblemLine = missing_lines MissingInlines (missing_of (inlines fs)) in
    let fourth : List ProblemLine = missing_lines MissingCrosslines (missing_of (crosslines fs)) in
    let fifth : List ProblemLine = fold_lines (uneven_fold_of (histogram fs)) in
    let one : c.push_group.new.lines.items ≡ start ++ first = c.in_ok-push_group.ensures.items
    ∙ ap (λ (g : Option Group). start ++ group_lines g) (c.in_ok-found.ensures.group
    ∙ ap (λ (n : Option (ℤ × ℤ)). group_of FarInline (far_inlines n fs)) (c.in_ok-near.ensures.near ∙ ap (λ (l : List Line). near_of l) c.requires.inlines)) in
    let two : c.push_group-2.new.lines.items ≡ c.push_group.new.lines.items ++ second = c.in_ok-push_group-2.ensures.items
    ∙ ap (λ (g : Option Group). c.push_group.new.lines.items ++ group_lines g) (c.in_ok-found-2.ensures.group
    ∙ ap (λ (n : Option (ℤ × ℤ)). group_of FarCrossline (far_crosslines n fs)) (c.in_ok-near-2.ensures.near ∙ ap (λ (l : List Line). near_of l) c.requires.crosslines)) in
    let three : c.push_missing_inlines.new.lines.items ≡ c.push_group-2.new.lines.items ++ third = c.in_ok-push_missing_inlines.ensures.items
    ∙ ap (λ (m : Option Missing). c.push_group-2.new.lines.items ++ missing_lines MissingInlines m) (c.in_ok-found-3.ensures.missing ∙ ap (λ (l : List Line). missing_of l) c.requires.inlines) in
    let four : c.push_missing_crosslines.new.lines.items ≡ c.push_missing_inlines.new.lines.items ++ fourth = c.in_ok-push_missing_crosslines.ensures.items
    ∙ ap (λ (m : Option Missing). c.push_missing_inlines.new.lines.items ++ missing_lines MissingCrosslines m) (c.in_ok-found-4.ensures.missing ∙ ap (λ (l : List Line). missing_of l) c.requires.crosslines) in
    let five : c.push_fold.new.lines.items ≡ c.push_missing_crosslines.new.lines.items ++ fifth = c.in_ok-push_fold.ensures.items
    ∙ ap (λ (u : Option UnevenFold). c.push_missing_crosslines.new.lines.items ++ fold_lines u) (c.uneven_fold.ensures
    ∙ ap (λ (l : List FoldCount). uneven_fold_of l) (c.as_slice.ensures.value ∙ folds_are c.args.grid.now fs c.requires.grid c.in_ok-folds.folds.items c.in_ok-folds.ensures.histogram)) in
    rw (c.if-is_lone.false) (survey_lines fs start c.push_group.new.lines.items c.push_group-2.new.lines.items c.push_missing_inlines.new.lines.items c.push_missing_crosslines.new.lines.items c.push_fold.new.lines.items one two three four five)
