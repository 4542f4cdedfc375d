-- All that is wrong or doubtful with a volume, grouped: the faults of its headers, and what the numbers of its traces make suspicious.
use Rattle.std.specs.Prelude.{ℕ, ℤ, ◌==◌, ◌&&◌, Bool, List, [], ◌∷◌, ◌++◌, false, true, map, flat_map, codes, Option, Some, None, is_some, if◌then◌else◌}
use Rattle.std.specs.Option.{option_map_or}
use Rattle.field_map.specs.Pairs.{Pairs, place_of}
use Rattle.frame_cut.specs.declared.file_head.Head.{Head}
use Rattle.frame_cut.specs.Volume.{Volume}
use Rattle.trace_record.specs.Facts.{Facts}
use Rattle.trace_view.specs.Values.{has_floats}
use Rattle.trace_record.specs.OfTrace.{signed_value}
use Rattle.grid_live.specs.Cells.{crosslines, histogram, inlines}
use Rattle.grid_live.specs.declared.line.Line.{Line}
use Rattle.fault_live.specs.Faults.{faults_of}
use Rattle.fault_live.specs.declared.fault.Fault.{Fault}
use Rattle.fault_live.specs.declared.fault.Fault.TheVariants as faults
use Rattle.fault_live.specs.declared.head_facts.HeadFacts.{HeadFacts}
use Rattle.line_problems.specs.declared.survey_numbers.NoSurvey.{NoSurvey}
use Rattle.line_problems.specs.declared.folds.UnevenFold.{UnevenFold}
use Rattle.line_problems.specs.FoldProblems.{uneven_fold_of}
use Rattle.line_problems.specs.LineProblems.{no_survey_of}
use Rattle.line_problems.specs.MissingLines.{Missing, missing_of}
use Rattle.line_problems.specs.NearLines.{near_of}
use Rattle.trace_groups.specs.Groups.{Group, group_of}
use Rattle.trace_groups.specs.FaultGroups.{groups_of}
use Rattle.trace_groups.specs.Others.{other_marks, other_scalars}
use Rattle.trace_groups.specs.Loud.{loud_marks}
use Rattle.trace_groups.specs.Suspects.{dead_marks, far_crosslines, far_inlines, origin_marks}
use Rattle.trace_groups.specs.declared.problem.TraceProblem.{TraceProblem}
use Rattle.trace_groups.specs.declared.problem.TraceProblem.TheVariants.{Dead, FarCrossline, FarInline, Loud, Name, NoPosition, OtherDelay, OtherScalar}
use Rattle.cell_positions.specs.Jumps.{JumpsTold, jumps_of}
use Rattle.cell_positions.specs.Shared.{SharedTold, shared_of}
use Rattle.bench_rules.specs.declared.problem_line.ProblemLine.{ProblemLine}
use Rattle.bench_rules.specs.declared.problem_line.ProblemLine.TheVariants.{Fold, Jump, Jumps, Missing as MissingLine, MissingCrosslines, MissingInlines, NoSurvey as NoSurveyLine, Run, SharedPosition, SharedPositions, TextLines, TraceCount, Traces}
use Rattle.bench_rules.specs.Reports.{head_facts, records}
use Rattle.bench_rules.specs.State.{State}

-- the delay recording time of a trace: bytes 109-110 of its main header
abbrev pub delay_of : Head → List ℕ → ℤ
delay_of h t = signed_value h t 109 2

-- those of all traces
abbrev pub delays_of : Volume → List ℤ
delays_of v = map (delay_of v.head) v.traces

-- the name is bound to this byte of the main header
abbrev pub stands_at : Pairs → List ℕ → ℕ → Bool
stands_at fields name byte = option_map_or (λ p. p.extension == 0 && p.byte == byte) (place_of fields name) false

-- a cell is a trace of a shot: inline and crossline stand at the field record and at the trace in it
abbrev pub is_shot_file : Pairs → Bool
is_shot_file fields = stands_at fields (codes "inline") 9 && stands_at fields (codes "crossline") 13

-- ---- the lines of a problem

-- traces that have a problem: how many, and then the first runs of them
abbrev pub group_lines : Option Group → List ProblemLine
group_lines None = []
group_lines (Some g) = Traces g.problem g.traces g.runs ∷ map (Run g.problem) g.first_runs

-- F7 and F8
abbrev pub file_lines : Fault → List ProblemLine
file_lines (faults.TraceCount count traces) = TraceCount count traces ∷ []
file_lines (faults.TextLines lines) = TextLines lines ∷ []
file_lines fault = []

-- S1
abbrev pub no_survey_lines : Option NoSurvey → List ProblemLine
no_survey_lines None = []
no_survey_lines (Some n) = NoSurveyLine n ∷ []

-- S7 or S8: how many lines are missing, and then the first runs of them
abbrev pub missing_lines : (ℕ → ℕ → ProblemLine) → Option Missing → List ProblemLine
missing_lines head None = []
missing_lines head (Some m) = head m.missing m.runs ∷ map MissingLine m.first_runs

-- S9
abbrev pub fold_lines : Option UnevenFold → List ProblemLine
fold_lines None = []
fold_lines (Some f) = Fold f ∷ []

-- S10: how many pairs of cells there are, how many of them jump, and then the first of those
abbrev pub jump_lines : Option JumpsTold → List ProblemLine
jump_lines None = []
jump_lines (Some j) = Jumps j.pairs j.jumps ∷ map Jump j.first_jumps

-- S11: how many cells stand where a cell before them does, and then the first of those
abbrev pub shared_lines : Option SharedTold → List ProblemLine
shared_lines None = []
shared_lines (Some s) = SharedPositions s.cells ∷ map SharedPosition s.first_cells

-- ---- all problems

-- the problem stands behind those of the file's own headers: F9
abbrev pub is_behind : TraceProblem → Bool
is_behind Name = true
is_behind problem = false

-- the lines of those groups that stand behind the problems of the file's own headers, or of the others
abbrev pub lines_of_groups : (behind : Bool) → List Group → List ProblemLine
lines_of_groups true gs = flat_map (λ g. if is_behind g.problem then group_lines (Some g) else []) gs
lines_of_groups false gs = flat_map (λ g. if is_behind g.problem then [] else group_lines (Some g)) gs

-- F1 to F9; F6 is left out where the traces have no survey numbers
abbrev pub fault_problems : List Fault → (leaves_out : Bool) → List ProblemLine
fault_problems fs leaves_out =
    lines_of_groups false (groups_of leaves_out fs) ++ flat_map file_lines fs ++ lines_of_groups true (groups_of leaves_out fs)

-- S5 to S9
abbrev pub survey_problems : List Facts → List ProblemLine
survey_problems fs =
    group_lines (group_of FarInline (far_inlines (near_of (inlines fs)) fs))
    ++ group_lines (group_of FarCrossline (far_crosslines (near_of (crosslines fs)) fs))
    ++ missing_lines MissingInlines (missing_of (inlines fs))
    ++ missing_lines MissingCrosslines (missing_of (crosslines fs))
    ++ fold_lines (uneven_fold_of (histogram fs))

-- S10 and S11, of a file of shots or not
abbrev pub position_problems : (shots : Bool) → List Facts → List ProblemLine
position_problems shots fs = jump_lines (jumps_of shots fs) ++ shared_lines (shared_of shots fs)

-- S2 to S4, of traces with these delays
abbrev pub value_problems : List Facts → (delays : List ℤ) → (no_survey : Bool) → List ProblemLine
value_problems fs delays no_survey =
    group_lines (group_of NoPosition (origin_marks no_survey fs))
    ++ group_lines (group_of OtherScalar (other_scalars fs))
    ++ group_lines (group_of OtherDelay (other_marks delays))

-- S12 and S13; whether samples are floats comes first
abbrev pub sample_problems : Bool → List Facts → List ProblemLine
sample_problems floats fs = group_lines (group_of Dead (dead_marks floats fs)) ++ group_lines (group_of Loud (loud_marks floats fs))

-- F1 to F9 and S1 to S11, of traces with these delays; where they have no survey numbers F6 and S5 to S11 say nothing, and are left out
abbrev pub header_problems : HeadFacts → List Facts → (delays : List ℤ) → (shots : Bool) → Option NoSurvey → List ProblemLine
header_problems h fs delays shots lone =
    fault_problems (faults_of h fs) (is_some lone)
    ++ no_survey_lines lone
    ++ value_problems fs delays (is_some lone)
    ++ (if is_some lone then [] else survey_problems fs)
    ++ (if is_some lone then [] else position_problems shots fs)

-- all problems of traces with these delays, in a file of shots or not, whose samples are floats or not
abbrev pub problems_with : HeadFacts → List Facts → (delays : List ℤ) → (shots floats : Bool) → List ProblemLine
problems_with h fs delays shots floats =
    header_problems h fs delays shots (no_survey_of (inlines fs) (crosslines fs)) ++ sample_problems floats fs

-- all that is wrong or doubtful with a volume whose traces have these records under a field map
abbrev pub problems_of : Volume → Pairs → List Facts → List ProblemLine
problems_of v fields fs = problems_with (head_facts v) fs (delays_of v) (is_shot_file fields) (has_floats v.head)

-- the same of the traces as they are read under the field map
abbrev pub problems_in : State → List ProblemLine
problems_in s = problems_of s.volume s.fields (records s)
