-- What is said of lines of a session with some causes of E11, E14 and E15 is said with those that follow from them.
use Rattle.std.proofs.Common.{ℕ, Bool, true, false, List, [], ◌∷◌, inl, inr}
use Rattle.script_words.specs.declared.session_words.SessionWord.{SessionWord}
use Rattle.script_words.specs.declared.session_words.SessionWord.TheVariants.{Save, SaveWithMore, Other}
use Rattle.script_words.specs.SessionWords.{session_word_of}
use Rattle.script_words.specs.Words.{without_return}
use Rattle.line_texts.specs.Devices.{Device}
use Rattle.script_text.specs.Replies.{Printed}
use Rattle.script_run.specs.declared.session_lines.SessionLines.{SessionLines}
use Rattle.script_run.specs.declared.session_lines.SessionLines.TheVariants.{Whole, Stopped, Answers, Script}
use Rattle.script_run.specs.Causes.{Causes, any_cause}
use Rattle.script_run.specs.Input.{SessionLine}
use Rattle.script_run.specs.Sessions.{Standing, WordStep, EndedStep, AnswerStep, SessionStep, SessionSteps}
use Rattle.script_run.specs.SessionLineRuns.{Answered, AnswersTo}
use Rattle.script_run.proofs.CauseLemmas.{Follows, all_follow, line_in}

module _ (A B : Causes) (follows : Follows A B) where
  pub word_in : (word : SessionWord) (old : Standing) (line : List ℕ) (printed : Printed) (new : Standing) → WordStep A word old line printed new → WordStep B word old line printed new
  word_in Save old line printed new step = step
  word_in SaveWithMore old line printed new step = step
  word_in Other old line printed new step = (line_in A B follows old.state line printed new.state step.0, step.1)

  ended_in : (has_end : Bool) (old : Standing) (text : List ℕ) (printed : Printed) (new : Standing) → EndedStep A has_end old text printed new → EndedStep B has_end old text printed new
  ended_in false old text printed new step = step
  ended_in true old text printed new (inl step) = inl (word_in (session_word_of (without_return text)) old (without_return text) printed new step)
  ended_in true old text printed new (inr (is, same, want)) = inr (is, same, follows.memory want)

  answer_in : (old : Standing) (line : SessionLine) (printed : Printed) (new : Standing) → AnswerStep A old line printed new → AnswerStep B old line printed new
  answer_in old line printed new (inl step) = inl step
  answer_in old line printed new (inr (short, step)) = inr (short, ended_in line.has_end old line.text printed new step)

  pub session_line_in : (old : Standing) (line : SessionLine) (printed : Printed) (new : Standing) → SessionStep A old line printed new → SessionStep B old line printed new
  session_line_in old line printed new (answer, step, is) = (answer, answer_in old line answer new step, is)

  pub session_in : (old : Standing) (lines : List SessionLine) (printed : List Printed) (new : Standing) → SessionSteps A old lines printed new → SessionSteps B old lines printed new
  session_in old [] [] new same = same
  session_in old [] (p ∷ ps) new none = absurd none
  session_in old (line ∷ lines) [] new none = absurd none
  session_in old (line ∷ lines) (p ∷ ps) new (mid, first, rest) = (mid, session_line_in old line p mid first, session_in mid lines ps new rest)

  abbrev answered_in : (start end : Standing) (before : Device) (printed : List Printed) → Answered A start end before printed → Answered B start end before printed
  answered_in start end before printed done = record { lines = done.lines; given = done.given; steps = session_in start done.lines printed end done.steps }

  pub answers_in : (start end : Standing) (stop : Bool) (script script_now answers answers_now : Device) (lines : SessionLines) → AnswersTo A start end stop script script_now answers answers_now lines
      → AnswersTo B start end stop script script_now answers answers_now lines
  answers_in start end stop script script_now answers answers_now (Whole refused is_cut_off) (printed, done, all, is_cut, same, refused_is, goes_on, taken) =
      (printed, answered_in start end script printed done, all, is_cut, same, refused_is, goes_on, taken)
  answers_in start end stop script script_now answers answers_now (Stopped line) (before, last, done, line_is, none_before, refused_last, asked, taken) =
      (before, last, answered_in start end script _ done, line_is, none_before, refused_last, asked, taken)
  answers_in start end stop script script_now answers answers_now (Answers written) (before, last, taken, done, told, goes_on, taken_before, part) =
      (before, last, taken, answered_in start end script _ done, told, goes_on, taken_before, part)
  answers_in start end stop script script_now answers answers_now (Script fault written) (printed, done, reason, goes_on, written_is, taken) =
      (printed, answered_in start end script printed done, reason, goes_on, written_is, taken)

pub session_whatever_cause : (why : Causes) → (old : Standing) (lines : List SessionLine) (printed : List Printed) (new : Standing) → SessionSteps why old lines printed new → SessionSteps any_cause old lines printed new
session_whatever_cause why old lines printed new steps = session_in why any_cause (all_follow why) old lines printed new steps
