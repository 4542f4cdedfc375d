-- What a line of a script prints.
use Rattle.std.specs.Prelude.{ℕ, Bool, true, false, List, [], ◌∷◌, codes, decimal, Option, Some, None, Result, Ok, Err}
use Rattle.bench_rules.specs.declared.refusal.Refusal.{Refusal}
use Rattle.bench_rules.specs.declared.answer.Answer.{Answer}
use Rattle.bench_rules.specs.declared.ask_fault.AskFault.{AskFault}
use Rattle.script_words.specs.declared.line_fault.LineFault.{LineFault}
use Rattle.refusal_texts.specs.declared.session_fault.SessionFault.{SessionFault}
use Rattle.shown_floats.specs.declared.float_answer.FloatAnswer.{FloatAnswer}
use Rattle.script_text.specs.AnswerTexts.{answer_text}
use Rattle.script_text.specs.FloatTexts.{float_answer_text}
use Rattle.line_texts.specs.Lines.{with_blanks, with_line_end}
use Rattle.refusal_texts.specs.RefusalTexts.{accepted_line, refused_line, refusal_text, ask_fault_text, line_fault_text, session_fault_text}

-- what a line prints, and whether that is a refusal
pub record Printed : Type 0 where
  pub text : List ℕ
  pub is_refusal : Bool

-- what a note or a blank line prints: nothing
abbrev pub nothing : Printed
nothing = record { text = []; is_refusal = false }

-- what a refused line prints
abbrev pub refusal : List ℕ → Printed
refusal text = record { text = refused_line text; is_refusal = true }

-- the reply to a line that is no command
abbrev pub fault_reply : LineFault → Printed
fault_reply fault = refusal (line_fault_text fault)

-- the line printed for a save of so many bytes
abbrev pub saved_line : ℕ → List ℕ
saved_line bytes = with_line_end (with_blanks (codes "saved" ∷ decimal bytes ∷ []))

-- the reply of a session itself: so many bytes were saved, or why none were, or why a line is not run
abbrev pub session_reply : Result ℕ SessionFault → Printed
session_reply (Ok bytes) = record { text = saved_line bytes; is_refusal = false }
session_reply (Err fault) = refusal (session_fault_text fault)

-- the line printed for an edit that was done; of chosen traces, how many they were
abbrev pub edited_line : Option ℕ → List ℕ
edited_line None = accepted_line
edited_line (Some n) = with_line_end (with_blanks (codes "ok" ∷ decimal n ∷ []))

-- the reply to an edit
abbrev pub edit_reply : Result (Option ℕ) Refusal → Printed
edit_reply (Ok done) = record { text = edited_line done; is_refusal = false }
edit_reply (Err fault) = refusal (refusal_text fault)

-- the reply to a query
abbrev pub query_reply : Result Answer AskFault → Printed
query_reply (Ok answer) = record { text = answer_text answer; is_refusal = false }
query_reply (Err fault) = refusal (ask_fault_text fault)

-- the reply to a query that tells of samples that are floats, where it is answered
abbrev pub float_reply : FloatAnswer → Printed
float_reply answer = record { text = float_answer_text answer; is_refusal = false }
