-- How the lines of a session end.
use Rattle.std.specs.Prelude.{◌≡◌, ℕ, ◌+◌, ◌≤◌, Bool, IsTrue, List, [], ◌∷◌, ◌++◌, length}
use Rattle.line_texts.specs.Devices.{Device, Takes, TakesPart, count_in_64_bits}
use Rattle.script_text.specs.Replies.{Printed}
use Rattle.script_run.specs.declared.session_lines.SessionLines.{SessionLines}
use Rattle.script_run.specs.declared.session_lines.SessionLines.TheVariants.{Whole, Stopped, Answers, Script}
use Rattle.script_run.specs.Causes.{Causes}
use Rattle.script_run.specs.Runs.{printed_text, refusals}
use Rattle.script_run.specs.Input.{SessionLine, any_cut_off}
use Rattle.script_run.specs.Sessions.{Standing, SessionSteps, FirstLines, AllLines, IsBroken}

-- the first lines of a reader are answered, from one state to another, E11, E14 and E15 for these causes alone
pub record Answered (why : Causes) (start end : Standing) (before : Device) (printed : List Printed) : Type 0 where
  pub lines : List SessionLine
  pub given : FirstLines before.bytes lines
  pub steps : SessionSteps why start lines printed end

-- the lines of a reader are answered, and the writer of the answers takes what is printed
abbrev pub AnswersTo : Causes → Standing → Standing → Bool → Device → Device → Device → Device → SessionLines → Type 0
AnswersTo why start end stop script script_now answers answers_now (Whole refused is_cut_off) =
    (printed : List Printed) × (done : Answered why start end script printed) × AllLines script.bytes done.lines × (is_cut_off ≡ any_cut_off done.lines)
    × (script_now.failures ≡ script.failures) × (refused ≡ refusals printed) × (IsTrue stop → refused ≡ 0)
    × Takes answers answers_now (printed_text printed)
AnswersTo why start end stop script script_now answers answers_now (Stopped line) =
    (before : List Printed) × (last : Printed) × Answered why start end script (before ++ last ∷ [])
    × (line ≡ length before + 1) × (refusals before ≡ 0) × IsTrue last.is_refusal × IsTrue stop
    × Takes answers answers_now (printed_text (before ++ last ∷ []))
AnswersTo why start end stop script script_now answers answers_now (Answers written) =
    (before : List Printed) × (last : Printed) × (taken : ℕ) × Answered why start end script (before ++ last ∷ [])
    × (written ≡ count_in_64_bits taken) × (IsTrue stop → refusals before ≡ 0) × (length (printed_text before) ≤ taken)
    × TakesPart answers answers_now (printed_text (before ++ last ∷ [])) taken
AnswersTo why start end stop script script_now answers answers_now (Script fault written) =
    (printed : List Printed) × (done : Answered why start end script printed)
    × IsBroken fault script script_now done.lines
    × (IsTrue stop → refusals printed ≡ 0)
    × (written ≡ count_in_64_bits (length (printed_text printed)))
    × Takes answers answers_now (printed_text printed)
