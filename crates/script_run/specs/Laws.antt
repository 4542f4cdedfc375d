-- What holds of lines whatever they are.
use Rattle.std.specs.Prelude.{◌≡◌, ◌≢◌, ℕ, ◌≤◌, ⊤, true, List, [], ◌∷◌, ◌++◌, length, map, Option, Some, None, Result, Ok, Err}
use Rattle.frame_cut.specs.Cuts.{IsCut}
use Rattle.frame_cut.specs.Traces.{count_of}
use Rattle.frame_cut.specs.Volume.{bytes_of}
use Rattle.bench_rules.specs.declared.edit.Edit.{Edit}
use Rattle.bench_rules.specs.declared.query.Query.{Query}
use Rattle.bench_rules.specs.declared.refusal.Refusal.{Refusal}
use Rattle.bench_rules.specs.Answer.{answer}
use Rattle.bench_rules.specs.FloatStatistics.{float_format}
use Rattle.bench_rules.specs.State.{State}
use Rattle.bench_rules.specs.Steps.{Steps}
use Rattle.script_words.specs.declared.command.Command.{Command}
use Rattle.script_words.specs.declared.command.Command.TheVariants.{Apply, Ask}
use Rattle.script_words.specs.declared.line_fault.LineFault.{LineFault}
use Rattle.script_words.specs.declared.line_fault.LineFault.TheVariants.{OutOfMemory}
use Rattle.refusal_texts.specs.declared.session_fault.SessionFault.TheVariants.{SaveFailed}
use Rattle.script_text.specs.Replies.{Printed, edit_reply, fault_reply, session_reply}
use Rattle.script_words.specs.Commands.{IsParsed}
use Rattle.script_words.specs.Words.{without_return}
use Rattle.script_run.specs.Causes.{any_cause}
use Rattle.script_run.specs.FromScratch.{ScratchSteps, saved}
use Rattle.script_run.specs.Runs.{LineStep, LineSteps, StepsBy}
use Rattle.script_words.specs.declared.session_words.SessionWord.TheVariants.{Other}
use Rattle.script_words.specs.SessionWords.{session_word_of}
use Rattle.script_run.specs.Input.{SessionLine}
use Rattle.script_run.specs.Sessions.{Standing, SessionSteps, with_empty_line}

-- the parts that are held are the cut of their own bytes
abbrev pub IsRead : State → Type 0
IsRead s = IsCut (bytes_of s.volume) s.reading s.limits s.volume

-- edits, with the reply to each
pub record Replied : Type 0 where
  pub edits : List Edit
  pub replies : List (Result (Option ℕ) Refusal)

-- none so far
abbrev pub none_yet : Replied
none_yet = record { edits = []; replies = [] }

-- a line that was read and is an edit comes behind those before it, with the reply that is printed for it; a query, an empty line, and one
-- whose fault is printed add none
abbrev pub AddsEdit : Result (Option Command) LineFault → Printed → Replied → Replied → Type 0
AddsEdit (Ok (Some (Apply edit))) printed old new =
    (reply : Result (Option ℕ) Refusal) × (printed ≡ edit_reply reply)
    × (new ≡ record { edits = old.edits ++ edit ∷ []; replies = old.replies ++ reply ∷ [] })
AddsEdit (Ok (Some (Ask query))) printed old new = new ≡ old
AddsEdit (Ok None) printed old new = new ≡ old
AddsEdit (Err fault) printed old new = (printed ≡ fault_reply fault) × (new ≡ old)

-- edits with the reply to each, and the volume that they lead to
pub record Reached : Type 0 where
  pub state : State
  pub replied : Replied

-- this volume, and no edits so far
abbrev pub at_start : State → Reached
at_start s = record { state = s; replied = none_yet }

-- a line, read as the format of the volume's samples and the number of its traces have it, comes behind those before it, and all edits from the start on lead to the volume behind it
abbrev pub AddsLine : State → Reached → List ℕ → Printed → Reached → Type 0
AddsLine start old line printed new =
    (read : Result (Option Command) LineFault) × IsParsed (float_format old.state.volume.head.format) (count_of old.state.volume) line read
    × AddsEdit read printed old.replied new.replied × Steps start new.replied.edits new.replied.replies new.state

-- the edits of these lines, in order, each with the reply that is printed for it, lead from one volume to another
abbrev pub AreEditsOf : State → List (List ℕ) → List Printed → Replied → State → Type 0
AreEditsOf old lines printed all new = StepsBy (AddsLine old) (at_start old) lines printed (record { state = new; replied = all })

-- what lines do to a volume is what their edits do, one after another, each with the reply that is printed
abbrev pub LinesAreEdits : Type 0
LinesAreEdits = (old new : State) (lines : List (List ℕ)) (printed : List Printed) → LineSteps any_cause old lines printed new
    → (all : Replied) × AreEditsOf old lines printed all new × Steps old all.edits all.replies new

-- each line of a script prints what a load of the bytes that a save before it writes answers, and leaves the bytes that it then saves
abbrev pub LinesFromScratch : Type 0
LinesFromScratch = (old new : State) (lines : List (List ℕ)) (printed : List Printed) → IsRead old → LineSteps any_cause old lines printed new
    → ScratchSteps (LineStep any_cause) old.reading old.limits old.on_disk (saved old) lines printed (saved new)

-- what a load of the bytes that are saved behind the lines holds is the volume that was saved, and so every query has the answer that it had
abbrev pub IsReload : State → State → Type 0
IsReload new again = (again.volume ≡ new.volume) × ((query : Query) → answer (record again { fields = new.fields }) query ≡ answer new query)

-- the bytes that are saved behind the lines are a file that is accepted, as the first was read, and a load of them is such a reload
abbrev pub ReloadsAsSaved : Type 0
ReloadsAsSaved = (old new : State) (lines : List (List ℕ)) (printed : List Printed) → IsRead old → LineSteps any_cause old lines printed new
    → IsCut (bytes_of new.volume) old.reading old.limits new.volume
    × ((again : State) → IsRead again → bytes_of again.volume ≡ bytes_of new.volume → again.reading ≡ old.reading → again.limits ≡ old.limits → IsReload new again)

-- this is none of what is printed
abbrev pub NoneIs : Printed → List Printed → Type 0
NoneIs p [] = ⊤
NoneIs p (q ∷ qs) = (q ≢ p) × NoneIs p qs

-- each line is one of a script: it is no longer than a script's may be, has its line feed, and does not say `save`
abbrev pub AreOfScript : List SessionLine → Type 0
AreOfScript [] = ⊤
AreOfScript (line ∷ lines) =
    (length line.text ≤ 16777216) × (line.has_end ≡ true) × (session_word_of (without_return line.text) ≡ Other) × AreOfScript lines

-- a session of lines of a script, none of them answered E11, is the run of the same lines, with an empty line behind each answer, and
-- saves nothing
abbrev pub SessionIsRun : Type 0
SessionIsRun = (old new : Standing) (lines : List SessionLine) (printed : List Printed) → SessionSteps any_cause old lines printed new
    → AreOfScript lines → NoneIs (with_empty_line (fault_reply OutOfMemory)) printed
    → (answers : List Printed) × LineSteps any_cause old.state (map (λ line. without_return line.text) lines) answers new.state × (printed ≡ map with_empty_line answers)
    × (new.out ≡ old.out)

-- what is printed tells of no save, that was done or that failed at S08
abbrev pub IsNoSave : Printed → Type 0
IsNoSave p =
    ((bytes : ℕ) → p ≢ with_empty_line (session_reply (Ok bytes))) × ((taken : ℕ) → p ≢ with_empty_line (session_reply (Err (SaveFailed taken))))

-- none of these answers does
abbrev pub NoneSaves : List Printed → Type 0
NoneSaves [] = ⊤
NoneSaves (p ∷ ps) = IsNoSave p × NoneSaves ps

-- what stands under OUT behind lines none of which is answered as a save stood there before them
abbrev pub OutIsLastSave : Type 0
OutIsLastSave = (old new : Standing) (lines : List SessionLine) (printed : List Printed) → SessionSteps any_cause old lines printed new → NoneSaves printed → new.out ≡ old.out
