-- Lines that are run twice.
use Rattle.std.specs.Prelude.{◌≡◌, ◌≢◌, ⊤, ℕ, List, [], ◌∷◌, ◌++◌, None, Err}
use Rattle.bench_rules.specs.declared.refusal.Refusal.TheVariants.{OutOfMemory, ReadFailed, FileChanged}
use Rattle.bench_rules.specs.FloatStatistics.{float_format}
use Rattle.bench_rules.specs.State.{State}
use Rattle.script_text.specs.Replies.{Printed, edit_reply}
use Rattle.script_run.specs.Causes.{any_cause}
use Rattle.script_run.specs.Laws.{IsRead}
use Rattle.script_run.specs.Runs.{LineSteps}

-- what is printed does not end as this reply
abbrev pub EndsOtherwise : Printed → Printed → Type 0
EndsOtherwise p reply = (front : List ℕ) → p.text ≢ front ++ reply.text

-- what is printed is not E11, and does not end with E14 or E15
abbrev pub IsOfLine : Printed → Type 0
IsOfLine p = (p ≢ edit_reply (Err OutOfMemory)) × EndsOtherwise p (edit_reply (Err ReadFailed)) × EndsOtherwise p (edit_reply (Err FileChanged))

-- all of these answers are so
abbrev pub AreOfLines : List Printed → Type 0
AreOfLines [] = ⊤
AreOfLines (p ∷ ps) = IsOfLine p × AreOfLines ps

-- The same lines, run twice from the same volume, end with the same volume, where no answer is E11 or ends with E14 or E15; and where samples are
-- not floats they print the same.
abbrev pub LinesAreDetermined : Type 0
LinesAreDetermined = (old new again : State) (lines : List (List ℕ)) (printed others : List Printed)
    → IsRead old → LineSteps any_cause old lines printed new → LineSteps any_cause old lines others again → AreOfLines printed → AreOfLines others
    → (again ≡ new) × (float_format old.volume.head.format ≡ None → others ≡ printed)
