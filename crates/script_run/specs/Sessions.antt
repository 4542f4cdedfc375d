-- A session: the lines of a reader are answered one by one, with an empty line behind each answer.
use Rattle.std.specs.Prelude.{◌≡◌, ◌⊎◌, ℕ, ◌<◌, ◌≤◌, ◌+◌, ⊤, Bool, true, false, IsTrue, not, ◌&&◌, List, [], ◌∷◌, ◌++◌, length, take, codes, Option, IfSome, Result, Ok, Err}
use Rattle.room.specs.Refusals.{WasRefused}
use Rattle.frame_cut.specs.declared.load_fault.LoadFault.{LoadFault}
use Rattle.frame_cut.specs.declared.load_fault.LoadFault.TheVariants as load_faults
use Rattle.frame_cut.specs.Cuts.{IsCut}
use Rattle.frame_cut.specs.Volume.{bytes_of}
use Rattle.bench_rules.specs.State.{State}
use Rattle.device_io.specs.Failures.{one_more}
use Rattle.script_words.specs.declared.line_fault.LineFault.TheVariants.{Words, TooLarge, OutOfMemory}
use Rattle.refusal_texts.specs.declared.session_fault.SessionFault.{SessionFault}
use Rattle.refusal_texts.specs.declared.session_fault.SessionFault.TheVariants.{CutOff}
use Rattle.script_words.specs.declared.session_words.SessionWord.{SessionWord}
use Rattle.script_words.specs.declared.session_words.SessionWord.TheVariants.{Save, SaveWithMore, Other}
use Rattle.script_words.specs.SessionWords.{session_word_of}
use Rattle.refusal_texts.specs.declared.script_fault.ScriptFault.{ScriptFault}
use Rattle.refusal_texts.specs.declared.script_fault.ScriptFault.TheVariants as script_faults
use Rattle.line_texts.specs.Devices.{Device, Takes, TakesPart, count_in_64_bits}
use Rattle.refusal_texts.specs.RefusalTexts.{load_refusal_line, script_refusal_line}
use Rattle.script_text.specs.Replies.{Printed, fault_reply, session_reply}
use Rattle.script_text.specs.Texts.{IsFullLines}
use Rattle.script_words.specs.Words.{without_return}
use Rattle.script_run.specs.declared.options.Options.{Options}
use Rattle.script_run.specs.Places.{Place, Follows, IsSaved}
use Rattle.script_text.specs.declared.run_end.RunEnd.{RunEnd}
use Rattle.script_text.specs.declared.run_end.RunEnd.TheVariants as ends
use Rattle.script_run.specs.Loading.{Loads, IsLoadRefused}
use Rattle.script_run.specs.Input.{SessionLine, session_lines, any_cut_off, HasTooMany}
use Rattle.script_run.specs.Telling.{followed_by}
use Rattle.script_run.specs.Causes.{Causes, Failures, any_cause, causes_in}
use Rattle.script_run.specs.Runs.{LineStep, StepsBy, printed_text, refusals}
use Rattle.script_run.specs.FromScratch.{ScratchSteps, saved}

-- ---- a save

-- a volume under edits, and where its saves go
pub record Standing : Type 0 where
  pub state : State
  pub out : Place

-- this volume, and this place for its saves
abbrev pub standing : State → Place → Standing
standing state out = record { state = state; out = out }

-- a save with what it prints: it leaves the volume as it is
abbrev pub SaveStep : Standing → Printed → Standing → Type 0
SaveStep old printed new =
    (result : Result ℕ SessionFault) × IsSaved old.out (bytes_of old.state.volume) result new.out × (printed ≡ session_reply result) × (new.state ≡ old.state)

-- ---- one line

-- an answer with an empty line behind it
abbrev pub with_empty_line : Printed → Printed
with_empty_line answer = followed_by (codes "\n") answer

-- each of these may tell of want of memory (E11), of a read that failed (E14) and of a file that has changed (E15) for these causes alone
module _ (why : Causes) where
  -- a line that says this to the session: `save` saves, `save` with more words is S02, and any other line is answered as one of a script
  abbrev pub WordStep : SessionWord → Standing → List ℕ → Printed → Standing → Type 0
  WordStep Save old line printed new = SaveStep old printed new
  WordStep SaveWithMore old line printed new = (printed ≡ fault_reply Words) × (new ≡ old)
  WordStep Other old line printed new = LineStep why old.state line printed new.state × (new.out ≡ old.out)

  -- a line that is not too long: where its line feed is missing it is not run, and S06; else it is answered, or E11 where no memory holds it
  abbrev pub EndedStep : Bool → Standing → List ℕ → Printed → Standing → Type 0
  EndedStep false old text printed new = (printed ≡ session_reply (Err CutOff)) × (new ≡ old)
  EndedStep true old text printed new =
      WordStep (session_word_of (without_return text)) old (without_return text) printed new ⊎ ((printed ≡ fault_reply OutOfMemory) × (new ≡ old) × why.memory)

  -- a line with its answer: one of more than 16777216 bytes is S05, whatever it holds
  abbrev pub AnswerStep : Standing → SessionLine → Printed → Standing → Type 0
  AnswerStep old line printed new =
      ((16777216 < length line.text) × (printed ≡ fault_reply TooLarge) × (new ≡ old))
      ⊎ ((length line.text ≤ 16777216) × EndedStep line.has_end old line.text printed new)

  -- a line with what is printed for it
  abbrev pub SessionStep : Standing → SessionLine → Printed → Standing → Type 0
  SessionStep old line printed new = (answer : Printed) × AnswerStep old line answer new × (printed ≡ with_empty_line answer)

-- the lines one after another, with what is printed for each, E11, E14 and E15 for these causes alone
abbrev pub SessionSteps : Causes → Standing → List SessionLine → List Printed → Standing → Type 0
SessionSteps why old lines printed new = StepsBy (SessionStep why) old lines printed new

-- a line with what is printed for it, wherever the saves go
abbrev pub VolumeStep : State → SessionLine → Printed → State → Type 0
VolumeStep old line printed new = (before : Place) × (after : Place) × SessionStep any_cause (standing old before) line printed (standing new after)

-- an answer is lines none of which is empty, with an empty line behind them
pub record IsAnswer (printed : List ℕ) : Type 0 where
  pub answer : List ℕ
  pub full : IsFullLines answer
  pub is : printed ≡ answer ++ codes "\n"

-- each of them is
abbrev pub AreAnswers : List Printed → Type 0
AreAnswers [] = ⊤
AreAnswers (p ∷ ps) = IsAnswer p.text × AreAnswers ps

-- ---- the lines of a reader

-- the first lines of what a reader has left
abbrev pub FirstLines : Option (List ℕ) → List SessionLine → Type 0
FirstLines known lines = IfSome known (λ bytes. take (length lines) (session_lines bytes) ≡ lines)

-- all lines of what a reader has left
abbrev pub AllLines : Option (List ℕ) → List SessionLine → Type 0
AllLines known lines = IfSome known (λ bytes. session_lines bytes ≡ lines)

-- ---- the ends

-- the readers of the volume and of the lines, the writer of the answers, where the saves go: OUT, or FILE itself, and how often a growth was refused and a
-- read of the loaded bytes failed
pub record SessionDevices : Type 0 where
  pub reader : Device
  pub script : Device
  pub answers : Device
  pub out : Place
  pub failures : Failures

-- these, of a session
abbrev pub session_devices : Device → Device → Device → Place → Failures → SessionDevices
session_devices reader script answers out failures = record { reader = reader; script = script; answers = answers; out = out; failures = failures }

-- the volume is refused, with L16 only where a growth was refused: no line is read, and OUT is as it was
pub record RefusesSession (options : Options) (old new : SessionDevices) (fault : LoadFault) : Type 0 where
  pub refused : IsLoadRefused old.reader new.reader options.reading options.limits fault
  pub unread : new.script ≡ old.script
  pub unsaved : new.out ≡ old.out
  pub memory : fault ≡ load_faults.OutOfMemory → WasRefused old.failures.growths new.failures.growths

-- the volume is loaded, and the first lines of the reader are answered, E11 only where a growth was refused, E14 only where a read failed, and never
-- E15; what is held then is the cut of its own bytes
pub record AnswersLines (on_disk : Bool) (options : Options) (old new : SessionDevices) (lines : List SessionLine) (printed : List Printed) (end : Standing) : Type 0 where
  pub start : State
  pub loaded : Loads old.reader new.reader options.reading options.limits on_disk start
  pub follows : Follows old.out (bytes_of start.volume)
  pub given : FirstLines old.script.bytes lines
  pub steps : SessionSteps (causes_in on_disk old.failures new.failures) (standing start old.out) lines printed end
  pub from_scratch : ScratchSteps VolumeStep options.reading options.limits on_disk (saved start) lines printed (saved end.state)
  pub cut : IsCut (bytes_of end.state.volume) options.reading options.limits end.state.volume
  pub full : AreAnswers printed

-- all lines are answered, with so many refused
pub record SessionThrough (on_disk : Bool) (options : Options) (old new : SessionDevices) (refused : ℕ) (is_cut_off : Bool) (end : Standing) : Type 0 where
  pub lines : List SessionLine
  pub printed : List Printed
  pub answers : AnswersLines on_disk options old new lines printed end
  pub all : AllLines old.script.bytes lines
  pub is_cut : is_cut_off ≡ any_cut_off lines
  pub failures : new.script.failures ≡ old.script.failures
  pub refused_is : refused ≡ refusals printed
  pub goes_on : IsTrue options.stop → refused ≡ 0
  pub taken : Takes old.answers new.answers (printed_text printed)

-- the lines are answered up to the first that is refused; OUT is what the last save left
pub record SessionStops (on_disk : Bool) (options : Options) (old new : SessionDevices) (line : ℕ) : Type 0 where
  pub lines : List SessionLine
  pub before : List Printed
  pub last : Printed
  pub end : Standing
  pub answers : AnswersLines on_disk options old new lines (before ++ last ∷ []) end
  pub asked : IsTrue options.stop
  pub line_is : line ≡ length before + 1
  pub none_before : refusals before ≡ 0
  pub refused_last : IsTrue last.is_refusal
  pub taken : Takes old.answers new.answers (printed_text (before ++ last ∷ []))
  pub out_is : new.out ≡ end.out

-- the lines are answered up to one whose text the writer does not take whole; of all that is printed it takes so many bytes; OUT is what the last
-- save left
pub record SessionLosesAnswer (on_disk : Bool) (options : Options) (old new : SessionDevices) (taken : ℕ) : Type 0 where
  pub lines : List SessionLine
  pub before : List Printed
  pub last : Printed
  pub end : Standing
  pub answers : AnswersLines on_disk options old new lines (before ++ last ∷ []) end
  pub goes_on : IsTrue options.stop → refusals before ≡ 0
  pub taken_before : length (printed_text before) ≤ taken
  pub part : TakesPart old.answers new.answers (printed_text (before ++ last ∷ [])) taken
  pub out_is : new.out ≡ end.out

-- why no more lines are read: P01 where a read failed, P02 where there are more lines, or more bytes of a line, than a 64-bit number counts
abbrev pub IsBroken : ScriptFault → Device → Device → List SessionLine → Type 0
IsBroken fault old new lines =
    ((fault ≡ script_faults.ReadFailed) × (new.failures ≡ one_more old.failures))
    ⊎ ((fault ≡ script_faults.TooLarge) × HasTooMany old.bytes lines × (new.failures ≡ old.failures))

-- some lines are answered, and then no more are read; OUT is what the last save left
pub record SessionLosesScript (on_disk : Bool) (options : Options) (old new : SessionDevices) (fault : ScriptFault) (printed : List Printed) : Type 0 where
  pub lines : List SessionLine
  pub end : Standing
  pub answers : AnswersLines on_disk options old new lines printed end
  pub goes_on : IsTrue options.stop → refusals printed ≡ 0
  pub reason : IsBroken fault old.script new.script lines
  pub out_is : new.out ≡ end.out

-- where the saves go is, behind the last line, what a save of what is held makes of it, where one is asked for there, and the last line is not cut
-- off; else what the last save left
abbrev pub EndsWith : Bool → Standing → Place → Type 0
EndsWith true end out = (number : ℕ) × IsSaved end.out (bytes_of end.state.volume) (Ok number) out
EndsWith false end out = out ≡ end.out

-- what a session does, from before it to its end, where the bytes of the volume are in memory or stay on disk
abbrev pub Session : Bool → Options → SessionDevices → SessionDevices → RunEnd → Type 0
Session on_disk options old new (ends.Done refused) =
    (end : Standing) × (is_cut_off : Bool) × SessionThrough on_disk options old new refused is_cut_off end × EndsWith (options.save && not is_cut_off) end new.out
Session on_disk options old new (ends.Stopped line) = SessionStops on_disk options old new line
Session on_disk options old new (ends.Load fault) = RefusesSession options old new fault × Takes old.answers new.answers (load_refusal_line fault)
Session on_disk options old new (ends.Script fault) =
    (printed : List Printed) × SessionLosesScript on_disk options old new fault printed
    × Takes old.answers new.answers (printed_text printed ++ script_refusal_line fault)
Session on_disk options old new (ends.Answers written) =
    ((fault : LoadFault) × RefusesSession options old new fault × TakesPart old.answers new.answers (load_refusal_line fault) written)
    ⊎ ((fault : ScriptFault) × (printed : List Printed) × (taken : ℕ) × (written ≡ count_in_64_bits taken)
    × SessionLosesScript on_disk options old new fault printed
    × TakesPart old.answers new.answers (printed_text printed ++ script_refusal_line fault) taken)
    ⊎ ((taken : ℕ) × (written ≡ count_in_64_bits taken) × SessionLosesAnswer on_disk options old new taken)
Session on_disk options old new (ends.Save fault) = ⊥
Session on_disk options old new (ends.SaveAtEnd refused) =
    (end : Standing) × SessionThrough on_disk options old new refused false end × IsTrue options.save
    × ((fault : SessionFault) × IsSaved end.out (bytes_of end.state.volume) (Err fault) new.out)
