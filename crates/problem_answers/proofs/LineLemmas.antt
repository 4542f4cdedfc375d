-- The lines of problems, put behind one another part by part.
use Rattle.std.proofs.Common.{◌≡◌, ◌∙◌, Bool, ℤ, List, ◌++◌, [], ap, append_assoc}
use Rattle.std.specs.Prelude.{Option, is_some, if◌then◌else◌}
use Rattle.trace_record.specs.Facts.{Facts}
use Rattle.fault_live.specs.Faults.{faults_of}
use Rattle.fault_live.specs.declared.head_facts.HeadFacts.{HeadFacts}
use Rattle.grid_live.specs.Cells.{crosslines, histogram, inlines}
use Rattle.line_problems.specs.FoldProblems.{uneven_fold_of}
use Rattle.line_problems.specs.LineProblems.{no_survey_of}
use Rattle.line_problems.specs.MissingLines.{missing_of}
use Rattle.line_problems.specs.declared.survey_numbers.NoSurvey.{NoSurvey}
use Rattle.line_problems.specs.NearLines.{near_of}
use Rattle.trace_groups.specs.Groups.{group_of}
use Rattle.trace_groups.specs.Suspects.{far_crosslines, far_inlines}
use Rattle.trace_groups.specs.declared.problem.TraceProblem.TheVariants.{FarCrossline, FarInline}
use Rattle.cell_positions.specs.Jumps.{jumps_of}
use Rattle.cell_positions.specs.Shared.{shared_of}
use Rattle.bench_rules.specs.declared.problem_line.ProblemLine.{ProblemLine}
use Rattle.bench_rules.specs.declared.problem_line.ProblemLine.TheVariants.{MissingCrosslines, MissingInlines}
use Rattle.bench_rules.specs.Problems.{fault_problems, fold_lines, group_lines, header_problems, jump_lines, missing_lines, no_survey_lines, position_problems, problems_with, sample_problems, shared_lines, survey_problems, value_problems}

-- what grew by one list and then by another grew by both
then_more : (a b c x y : List ProblemLine) → b ≡ a ++ x → c ≡ b ++ y → c ≡ a ++ (x ++ y)
then_more a b c x y first second = second ∙ ap (λ (l : List ProblemLine). l ++ y) first ∙ append_assoc a x y

-- S5 to S9
pub survey_lines : (fs : List Facts) (s a b c d e : List ProblemLine)
    → a ≡ s ++ group_lines (group_of FarInline (far_inlines (near_of (inlines fs)) fs))
    → b ≡ a ++ group_lines (group_of FarCrossline (far_crosslines (near_of (crosslines fs)) fs))
    → c ≡ b ++ missing_lines MissingInlines (missing_of (inlines fs))
    → d ≡ c ++ missing_lines MissingCrosslines (missing_of (crosslines fs))
    → e ≡ d ++ fold_lines (uneven_fold_of (histogram fs))
    → e ≡ s ++ survey_problems fs
survey_lines fs s a b c d e one two three four five = then_more s d e _ _ (then_more s c d _ _ (then_more s b c _ _ (then_more s a b _ _ one two) three) four) five

-- S10 and S11
pub position_lines : (shots : Bool) (fs : List Facts) (s a b : List ProblemLine)
    → a ≡ s ++ jump_lines (jumps_of shots fs)
    → b ≡ a ++ shared_lines (shared_of shots fs)
    → b ≡ s ++ position_problems shots fs
position_lines shots fs s a b one two = then_more s a b _ _ one two

-- all problems
pub all_lines : (h : HeadFacts) (fs : List Facts) (delays : List ℤ) (shots floats : Bool) (n a b c d e f : List ProblemLine)
    → n ≡ []
    → a ≡ n ++ fault_problems (faults_of h fs) (is_some (no_survey_of (inlines fs) (crosslines fs)))
    → b ≡ a ++ no_survey_lines (no_survey_of (inlines fs) (crosslines fs))
    → c ≡ b ++ value_problems fs delays (is_some (no_survey_of (inlines fs) (crosslines fs)))
    → d ≡ c ++ (if is_some (no_survey_of (inlines fs) (crosslines fs)) then [] else survey_problems fs)
    → e ≡ d ++ (if is_some (no_survey_of (inlines fs) (crosslines fs)) then [] else position_problems shots fs)
    → f ≡ e ++ sample_problems floats fs
    → f ≡ problems_with h fs delays shots floats
all_lines h fs delays shots floats n a b c d e f none one two three four five six =
    let lone : Option NoSurvey = no_survey_of (inlines fs) (crosslines fs) in
    let first : a ≡ fault_problems (faults_of h fs) (is_some lone) = one ∙ ap (λ (l : List ProblemLine). l ++ fault_problems (faults_of h fs) (is_some lone)) none in
    let second : b ≡ fault_problems (faults_of h fs) (is_some lone) ++ no_survey_lines lone = two ∙ ap (λ (l : List ProblemLine). l ++ no_survey_lines lone) first in
    let third : c ≡ fault_problems (faults_of h fs) (is_some lone) ++ no_survey_lines lone ++ value_problems fs delays (is_some lone) = three ∙ ap (λ (l : List ProblemLine). l ++ value_problems fs delays (is_some lone)) second in
    let fourth : d ≡ fault_problems (faults_of h fs) (is_some lone) ++ no_survey_lines lone ++ value_problems fs delays (is_some lone) ++ (if is_some lone then [] else survey_problems fs) = four ∙ ap (λ (l : List ProblemLine). l ++ (if is_some lone then [] else survey_problems fs)) third in
    let fifth : e ≡ header_problems h fs delays shots lone = five ∙ ap (λ (l : List ProblemLine). l ++ (if is_some lone then [] else position_problems shots fs)) fourth in
    six ∙ ap (λ (l : List ProblemLine). l ++ sample_problems floats fs) fifth
