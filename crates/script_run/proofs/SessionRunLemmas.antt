-- A session is the run of its lines, with an empty line behind each answer.
use Rattle.std.proofs.Common.{◌≡◌, ◌≤◌, ℕ, List, [], ◌∷◌, length, Bool, true, false, Result, Ok, Err, refl, ap, ap₂, ◌∙◌, inl, inr, arith}
use Rattle.script_words.specs.declared.line_fault.LineFault.TheVariants.{OutOfMemory}
use Rattle.refusal_texts.specs.declared.session_fault.SessionFault.{SessionFault}
use Rattle.refusal_texts.specs.declared.session_fault.SessionFault.TheVariants.{SaveFailed}
use Rattle.script_words.specs.declared.session_words.SessionWord.{SessionWord}
use Rattle.script_words.specs.declared.session_words.SessionWord.TheVariants.{Save, SaveWithMore, Other}
use Rattle.script_words.specs.SessionWords.{session_word_of}
use Rattle.script_text.specs.Replies.{Printed, fault_reply, session_reply}
use Rattle.script_words.specs.Words.{without_return}
use Rattle.script_run.specs.Causes.{any_cause}
use Rattle.script_run.specs.Input.{SessionLine}
use Rattle.script_run.specs.Laws.{SessionIsRun, IsNoSave, OutIsLastSave}
use Rattle.script_run.specs.Runs.{LineStep}
use Rattle.std.specs.Prelude.{Option, if◌then◌else◌}
use Rattle.journal_save.specs.Disk.{Range, Disk}
use Rattle.frame_cut.specs.Volume.{bytes_of}
use Rattle.edit_pieces.specs.declared.attempt.Attempt.{Attempt}
use Rattle.edit_pieces.specs.declared.attempt.Attempt.TheVariants.{Stopped, NoMemory, Ended}
use Rattle.edit_pieces.specs.declared.repaired.Repaired.TheVariants.{NotBegun, Saved, Unfit, Unsettled, Failed}
use Rattle.script_run.specs.Places.{Place, Elsewhere, Itself, IsSaved, answer_of, is_written_though}
use Rattle.script_run.specs.Sessions.{Standing, WordStep, EndedStep, AnswerStep, with_empty_line}

-- a line of a script, and nothing saved
abbrev IsOfRun : Standing → List ℕ → Printed → Standing → Type 0
IsOfRun old line p new = LineStep any_cause old.state line p new.state × (new.out ≡ old.out)

of_word : (word : SessionWord) (old new : Standing) (line : List ℕ) (p : Printed) → word ≡ Other → WordStep any_cause word old line p new → IsOfRun old line p new
of_word Save old new line p other step = cc
of_word SaveWithMore old new line p other step = cc
of_word Other old new line p other step = step

of_end : (has_end : Bool) (old new : Standing) (text : List ℕ) (p : Printed) → has_end ≡ true → session_word_of (without_return text) ≡ Other → (p ≡ fault_reply OutOfMemory → ⊥)
    → EndedStep any_cause has_end old text p new → IsOfRun old (without_return text) p new
of_end false old new text p there other some step = cc
of_end true old new text p there other some (inl step) = of_word (session_word_of (without_return text)) old new (without_return text) p other step
of_end true old new text p there other some (inr step) = absurd (some step.0)

one_line : (old new : Standing) (line : SessionLine) (p answer : Printed) → length line.text ≤ 16777216 → line.has_end ≡ true → session_word_of (without_return line.text) ≡ Other
    → (p ≡ with_empty_line (fault_reply OutOfMemory) → ⊥) → p ≡ with_empty_line answer → AnswerStep any_cause old line answer new → IsOfRun old (without_return line.text) answer new
one_line old new line p answer within there other some is (inl step) = absurd (omega (arith, within, step.0))
one_line old new line p answer within there other some is (inr (_, step)) =
    of_end line.has_end old new line.text answer there other (λ e. some (is ∙ ap with_empty_line e)) step

pub session_is_run : SessionIsRun
session_is_run old new [] [] steps of none = ([], ap (λ (s : Standing). s.state) steps, refl, ap (λ (s : Standing). s.out) steps)
session_is_run old new [] (p ∷ ps) steps of none = absurd steps
session_is_run old new (l ∷ ls) [] steps of none = absurd steps
session_is_run old new (l ∷ ls) (p ∷ ps) (mid, (answer, step, is), rest) (within, there, other, of) none =
    let one = one_line old mid l p answer within there other none.0 is step in
    let others = session_is_run mid new ls ps rest of none.1 in
    (answer ∷ others.0, (mid.state, one.0, others.1), ap₂ (λ (x : Printed) (xs : List Printed). x ∷ xs) is others.2, others.3 ∙ one.1)

-- ---- what stands under OUT

fault_is : (a b : SessionFault) → (let r : Result ℕ SessionFault = Err a in r ≡ Err b) → a ≡ b
fault_is a b e = cc

-- each failed attempt at a repair is answered as a failed save
fails : (attempt : Attempt) (n : ℕ) (fault : SessionFault) → Err fault ≡ answer_of attempt n → (taken : ℕ) × (fault ≡ SaveFailed taken)
fails Stopped n fault e = (0, fault_is _ _ e)
fails NoMemory n fault e = (0, fault_is _ _ e)
fails (Ended NotBegun) n fault e = (0, fault_is _ _ e)
fails (Ended Saved) n fault e = cc
fails (Ended (Unfit why)) n fault e = (0, fault_is _ _ e)
fails (Ended (Unsettled error)) n fault e = (0, fault_is _ _ e)
fails (Ended (Failed error)) n fault e = (if is_written_though error then n else 0, fault_is _ _ e)

-- a save that was refused for want of a place leaves what was there
kept_by_save : (old new : Place) (bytes : List ℕ) (fault : SessionFault) → ((taken : ℕ) → fault ≡ SaveFailed taken → ⊥) → IsSaved old bytes (Err fault) new → new ≡ old
kept_by_save (Elsewhere old) (Elsewhere new) bytes fault none (inl (nowhere, kept)) = ap Elsewhere kept
kept_by_save (Elsewhere old) (Elsewhere new) bytes fault none (inr (taken, failed, either)) = absurd (none taken failed)
kept_by_save (Elsewhere old) (Itself again written is_stopped e) bytes fault none saved = absurd saved
kept_by_save (Itself loaded written was_stopped d) (Elsewhere new) bytes fault none saved = absurd saved
kept_by_save (Itself loaded written was_stopped d) (Itself again more is_stopped e) bytes fault none (same, inl (is, wrote, stays, kept)) =
    ap (λ (l : List ℕ). Itself l more is_stopped e) same
    ∙ ap (λ (rs : List Range). Itself loaded rs is_stopped e) wrote
    ∙ ap (λ (b : Bool). Itself loaded written b e) stays
    ∙ ap (λ (o : Option Disk). Itself loaded written was_stopped o) kept
kept_by_save (Itself loaded written was_stopped d) (Itself again more is_stopped e) bytes fault none (same, inr (attempt, is, stops, tries)) =
    let failed = fails attempt (length bytes) fault is in absurd (none failed.0 failed.1)

kept_by_word : (word : SessionWord) (old new : Standing) (line : List ℕ) (p answer : Printed) → IsNoSave p → p ≡ with_empty_line answer
    → WordStep any_cause word old line answer new → new.out ≡ old.out
kept_by_word Save old new line p answer none is (Ok bytes, saved, told, same) = absurd (none.0 bytes (is ∙ ap with_empty_line told))
kept_by_word Save old new line p answer none is (Err fault, saved, told, same) =
    kept_by_save old.out new.out (bytes_of old.state.volume) fault (λ taken failed. none.1 taken (is ∙ ap with_empty_line (told ∙ ap (λ (f : SessionFault). session_reply (Err f)) failed))) saved
kept_by_word SaveWithMore old new line p answer none is step = ap (λ (s : Standing). s.out) step.1
kept_by_word Other old new line p answer none is step = step.1

kept_by_end : (has_end : Bool) (old new : Standing) (text : List ℕ) (p answer : Printed) → IsNoSave p → p ≡ with_empty_line answer
    → EndedStep any_cause has_end old text answer new → new.out ≡ old.out
kept_by_end false old new text p answer none is step = ap (λ (s : Standing). s.out) step.1
kept_by_end true old new text p answer none is (inl step) = kept_by_word (session_word_of (without_return text)) old new (without_return text) p answer none is step
kept_by_end true old new text p answer none is (inr step) = ap (λ (s : Standing). s.out) step.1

kept_by_line : (old new : Standing) (line : SessionLine) (p answer : Printed) → IsNoSave p → p ≡ with_empty_line answer
    → AnswerStep any_cause old line answer new → new.out ≡ old.out
kept_by_line old new line p answer none is (inl step) = ap (λ (s : Standing). s.out) step.2
kept_by_line old new line p answer none is (inr (_, step)) = kept_by_end line.has_end old new line.text p answer none is step

pub out_is_last_save : OutIsLastSave
out_is_last_save old new [] [] steps none = ap (λ (s : Standing). s.out) steps
out_is_last_save old new [] (p ∷ ps) steps none = absurd steps
out_is_last_save old new (l ∷ ls) [] steps none = absurd steps
out_is_last_save old new (l ∷ ls) (p ∷ ps) (mid, (answer, step, is), rest) none =
    out_is_last_save mid new ls ps rest none.1 ∙ kept_by_line old mid l p answer none.0 is step
