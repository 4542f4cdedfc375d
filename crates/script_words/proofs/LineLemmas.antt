-- What a line gives.
use Rattle.std.proofs.Common.{◌≡◌, ◌∙◌, ℕ, List, [], ◌∷◌, true, false, refl, Option, Some, None, Result, Ok, Err, sym, ap, subst, inl, inr}
use Rattle.std.specs.Result.{IsErrAnd}
use Rattle.std.specs.Str.{is_utf8, IsUtf8}
use Rattle.std.proofs.lemmas.Str.{IsUtf8-from_is_utf8, is_utf8-from_IsUtf8}
use Rattle.float_codes.specs.declared.float_format.FloatFormat.{FloatFormat}
use Rattle.script_words.specs.declared.command.Command.{Command}
use Rattle.script_words.specs.declared.line_fault.LineFault.{LineFault}
use Rattle.script_words.specs.declared.line_fault.LineFault.TheVariants.{NotText, OutOfMemory}
use Rattle.script_words.specs.declared.session_words.SessionWord.TheVariants.{Other}
use Rattle.script_words.specs.SessionWords.{session_word_of, word_to_session}
use Rattle.script_words.specs.Words.{words_of, behind_word, is_note}
use Rattle.script_words.specs.Commands.{command_of, some_command, words_result, line_result, CommandTakesMemory, LineTakesMemory, IsRead, IsParsed}

-- ---- what a line says to a session

pub says_nothing : (line : List ℕ) → (IsUtf8 line → ⊥) → session_word_of line ≡ Other
says_nothing line h = elim (is_utf8 line) as (λ b. is_utf8 line ≡ b → session_word_of line ≡ Other) [
  | true ↦ λ t. absurd (h (IsUtf8-from_is_utf8 line t))
  | false ↦ λ f. rw f refl
] refl

pub says_by_words : (line : List ℕ) → IsUtf8 line → session_word_of line ≡ word_to_session (words_of line)
says_by_words line u = rw (is_utf8-from_IsUtf8 line u) refl

-- ---- what a line gives, by its words

-- a line that is no text
pub no_text : (floats : Option FloatFormat) (traces : ℕ) (line : List ℕ) → (IsUtf8 line → ⊥) → IsParsed floats traces line (Err NotText)
no_text floats traces line h = elim (is_utf8 line) as (λ b. is_utf8 line ≡ b → IsParsed floats traces line (Err NotText)) [
  | true ↦ λ t. absurd (h (IsUtf8-from_is_utf8 line t))
  | false ↦ λ f. inl (rw f refl)
] refl

-- a line that is text
by_words : (floats : Option FloatFormat) (traces : ℕ) (line : List ℕ) → IsUtf8 line → line_result floats traces line ≡ words_result floats traces line (words_of line)
by_words floats traces line u = rw (is_utf8-from_IsUtf8 line u) refl

pub no_words : (floats : Option FloatFormat) (traces : ℕ) (line : List ℕ) → IsUtf8 line → words_of line ≡ [] → IsParsed floats traces line (Ok None)
no_words floats traces line u e = inl (sym (by_words floats traces line u ∙ rw e refl))

module _ (floats : Option FloatFormat) (traces : ℕ) (line word rest : List ℕ) (ws : List (List ℕ)) (u : IsUtf8 line) (words : words_of line ≡ word ∷ ws) where
  pub note : is_note word ≡ true → IsParsed floats traces line (Ok None)
  note n = inl (sym (by_words floats traces line u ∙ rw (words, n) refl))

  read_as : is_note word ≡ false → rest ≡ behind_word line → line_result floats traces line ≡ some_command (command_of floats traces word rest)
  read_as n is = by_words floats traces line u ∙ rw (words, n, is) refl

  spoken_ok : (expected : Result Command LineFault) (command : Command) → line_result floats traces line ≡ some_command expected → IsRead expected (Ok command) → IsParsed floats traces line (Ok (Some command))
  spoken_ok expected command e (inl h) = inl (let same : some_command expected ≡ Ok (Some command) = ap some_command (sym h) in sym (e ∙ same))
  spoken_ok expected command e (inr h) = absurd cc

  takes_memory : (expected : Result Command LineFault) → CommandTakesMemory expected → LineTakesMemory (some_command expected)
  takes_memory (Ok command) h = h
  takes_memory (Err fault) h = absurd h

  spoken_err : (expected : Result Command LineFault) (fault : LineFault) (r : Result (Option Command) LineFault) → line_result floats traces line ≡ some_command expected → IsErrAnd r (λ x. x ≡ fault) → IsRead expected (Err fault) → IsParsed floats traces line r
  spoken_err expected fault (Ok c) e is h = absurd is
  spoken_err expected fault (Err x) e is (inl h) =
      let same : some_command expected ≡ Err fault = ap some_command (sym h) in
      inl (ap (λ (k : LineFault). let r : Result (Option Command) LineFault = Err k in r) is ∙ sym (e ∙ same))
  spoken_err expected fault (Err x) e is (inr h) =
      let same : fault ≡ OutOfMemory = cc in
      inr (ap (λ (k : LineFault). let r : Result (Option Command) LineFault = Err k in r) (is ∙ same), subst LineTakesMemory (sym e) (takes_memory expected h.1))

  pub read_ok : (command : Command) → is_note word ≡ false → rest ≡ behind_word line → IsRead (command_of floats traces word rest) (Ok command) → IsParsed floats traces line (Ok (Some command))
  read_ok command n is h = spoken_ok (command_of floats traces word rest) command (read_as n is) h

  pub read_err : (fault : LineFault) (r : Result (Option Command) LineFault) → is_note word ≡ false → rest ≡ behind_word line → IsErrAnd r (λ x. x ≡ fault) → IsRead (command_of floats traces word rest) (Err fault) → IsParsed floats traces line r
  read_err fault r n is e h = spoken_err (command_of floats traces word rest) fault r (read_as n is) e h
