-- Lines are answered as by what reading the file from scratch gives.
use Rattle.std.proofs.Common.{◌≡◌, ℕ, Bool, true, false, List, [], ◌∷◌, ◌++◌, Option, Some, None, Result, Ok, Err, refl, sym, ap, subst, ◌∙◌, inl, inr}
use Rattle.frame_cut.specs.declared.limits.Limits.{Limits}
use Rattle.frame_cut.specs.declared.reading.Reading.{Reading}
use Rattle.frame_cut.specs.Cuts.{IsCut}
use Rattle.frame_cut.specs.Volume.{bytes_of}
use Rattle.frame_cut.proofs.OneCutLemmas.{at_most_one_cut}
use Rattle.bench_rules.specs.declared.edit.Edit.{Edit}
use Rattle.bench_rules.specs.declared.refusal.Refusal.{Refusal}
use Rattle.bench_rules.specs.Answer.{answer}
use Rattle.bench_rules.specs.State.{State}
use Rattle.bench_rules.specs.Steps.{Steps}
use Rattle.bench_laws.specs.EditLaws.{IsReadAlike, StepsStayCut, AnswersFromScratch}
use Rattle.script_words.specs.declared.command.Command.{Command}
use Rattle.script_words.specs.declared.command.Command.TheVariants.{Apply, Ask}
use Rattle.script_words.specs.declared.line_fault.LineFault.{LineFault}
use Rattle.script_text.specs.Replies.{Printed}
use Rattle.script_run.specs.Causes.{any_cause}
use Rattle.script_run.specs.FromScratch.{saved, ScratchSteps}
use Rattle.script_run.specs.Laws.{IsRead, IsReload, Replied, Reached, at_start, AddsEdit, AddsLine, LinesAreEdits, LinesFromScratch, ReloadsAsSaved}
use Rattle.script_run.specs.Runs.{ReadStep, LineStep, LineSteps, StepsBy}
use Rattle.script_words.specs.declared.session_words.SessionWord.{SessionWord}
use Rattle.script_words.specs.declared.session_words.SessionWord.TheVariants.{Save, SaveWithMore, Other}
use Rattle.script_words.specs.SessionWords.{session_word_of}
use Rattle.script_words.specs.Words.{without_return}
use Rattle.script_run.specs.Input.{SessionLine}
use Rattle.script_run.specs.Sessions.{Standing, standing, WordStep, EndedStep, AnswerStep, SessionSteps, VolumeStep}

-- ---- lines as edits

-- edits behind others
steps_behind : (old mid new : State) (edits more : List Edit) (replies others : List (Result (Option ℕ) Refusal)) → Steps old edits replies mid → Steps mid more others new
    → Steps old (edits ++ more) (replies ++ others) new
steps_behind old mid new [] more [] others h k = subst (λ s. Steps s more others new) h k
steps_behind old mid new [] more (r ∷ rs) others h k = absurd h
steps_behind old mid new (e ∷ es) more [] others h k = absurd h
steps_behind old mid new (e ∷ es) more (r ∷ rs) others (s, first, rest) k = (s, first, steps_behind s mid new es more rs others rest k)

module _ (start : State) where
  -- the edits so far, with those that are added, lead to this state
  abbrev LeadsTo : State → (Replied → Type 0) → Type 0
  LeadsTo new Added = (all : Replied) × Added all × Steps start all.edits all.replies new

  add_read : (before : Replied) (old new : State) (read : Result (Option Command) LineFault) (p : Printed) → Steps start before.edits before.replies old → ReadStep any_cause old read p new
      → LeadsTo new (AddsEdit read p before)
  add_read before old new (Ok None) p sofar step = (before, refl, subst (λ (s : State). Steps start before.edits before.replies s) (sym step.1) sofar)
  add_read before old new (Ok (Some (Apply edit))) p sofar (reply, step, is, told, want) = (
    record { edits = before.edits ++ edit ∷ []; replies = before.replies ++ reply ∷ [] },
    (reply, is, refl),
    steps_behind start old new before.edits (edit ∷ []) before.replies (reply ∷ []) sofar (new, step, refl),
  )
  add_read before old new (Ok (Some (Ask query))) p sofar step = (before, refl, subst (λ (s : State). Steps start before.edits before.replies s) (sym step.3) sofar)
  add_read before old new (Err fault) p sofar step = (before, (step.0, refl), subst (λ (s : State). Steps start before.edits before.replies s) (sym step.1) sofar)

  add_line : (before : Reached) (new : State) (line : List ℕ) (p : Printed) → Steps start before.replied.edits before.replied.replies before.state → LineStep any_cause before.state line p new
      → (all : Replied) × AddsLine start before line p (record { state = new; replied = all })
  add_line before new line p sofar (read, parsed, step) =
      let one = add_read before.replied before.state new read p sofar step in (one.0, (read, parsed, one.1, one.2))

  pub add_lines : (before : Reached) (new : State) (lines : List (List ℕ)) (ps : List Printed) → Steps start before.replied.edits before.replied.replies before.state → LineSteps any_cause before.state lines ps new
      → (all : Replied) × StepsBy (AddsLine start) before lines ps (record { state = new; replied = all }) × Steps start all.edits all.replies new
  add_lines before new [] [] sofar h =
      let all : Replied = before.replied in
      (all, ap (λ (s : State). let r : Reached = record { state = s; replied = all } in r) h, subst (λ (s : State). Steps start all.edits all.replies s) (sym h) sofar)
  add_lines before new [] (p ∷ ps) sofar h = absurd h
  add_lines before new (l ∷ ls) [] sofar h = absurd h
  add_lines before new (l ∷ ls) (p ∷ ps) sofar (mid, first, rest) =
      let one = add_line before mid l p sofar first in
      let here : Reached = record { state = mid; replied = one.0 } in
      let others = add_lines here new ls ps one.1.3 rest in
      (others.0, (here, one.1, others.1), others.2)

pub lines_are_edits : LinesAreEdits
lines_are_edits old new lines ps h = add_lines old (at_start old) new lines ps refl h

-- ---- a line leaves a file that is read again

-- a step that leaves the parts the cut of their own bytes
abbrev pub Keeps : {L : Type 0} → (State → L → Printed → State → Type 0) → Type 0
Keeps {L} Step = (old new : State) (line : L) (p : Printed) → IsRead old → Step old line p new → IsReadAlike old new

pub line_keeps : StepsStayCut → Keeps (LineStep any_cause)
line_keeps stay old new line p cut step =
    let some = add_line old (at_start old) new line p refl step in stay old new some.0.edits some.0.replies cut some.1.3

-- what leaves the volume as it is keeps it
same_keeps : StepsStayCut → (old new : State) → IsRead old → new ≡ old → IsReadAlike old new
same_keeps stay old new cut same = stay old new [] [] cut same

stands_keeps : StepsStayCut → (old new : Standing) → IsRead old.state → new ≡ old → IsReadAlike old.state new.state
stands_keeps stay old new cut same = same_keeps stay old.state new.state cut (ap (λ (s : Standing). s.state) same)

word_keeps : StepsStayCut → (word : SessionWord) (old new : Standing) (line : List ℕ) (p : Printed) → IsRead old.state → WordStep any_cause word old line p new → IsReadAlike old.state new.state
word_keeps stay Save old new line p cut (result, saved, is, same) = same_keeps stay old.state new.state cut same
word_keeps stay SaveWithMore old new line p cut step = stands_keeps stay old new cut step.1
word_keeps stay Other old new line p cut (step, out) = line_keeps stay old.state new.state line p cut step

ended_keeps : StepsStayCut → (has_end : Bool) (old new : Standing) (text : List ℕ) (p : Printed) → IsRead old.state → EndedStep any_cause has_end old text p new → IsReadAlike old.state new.state
ended_keeps stay false old new text p cut step = stands_keeps stay old new cut step.1
ended_keeps stay true old new text p cut (inl step) = word_keeps stay (session_word_of (without_return text)) old new (without_return text) p cut step
ended_keeps stay true old new text p cut (inr step) = stands_keeps stay old new cut step.1

answer_keeps : StepsStayCut → (old new : Standing) (line : SessionLine) (p : Printed) → IsRead old.state → AnswerStep any_cause old line p new → IsReadAlike old.state new.state
answer_keeps stay old new line p cut (inl step) = stands_keeps stay old new cut step.2
answer_keeps stay old new line p cut (inr (within, step)) = ended_keeps stay line.has_end old new line.text p cut step

pub session_keeps : StepsStayCut → Keeps VolumeStep
session_keeps stay old new line p cut (before, after, (a, step, is)) = answer_keeps stay (standing old before) (standing new after) line a cut step

-- the lines of a session, of which the volume alone is seen
pub volume_steps : (old new : Standing) (lines : List SessionLine) (ps : List Printed) → SessionSteps any_cause old lines ps new → StepsBy VolumeStep old.state lines ps new.state
volume_steps old new [] [] h = ap (λ (s : Standing). s.state) h
volume_steps old new [] (p ∷ ps) h = absurd h
volume_steps old new (l ∷ ls) [] h = absurd h
volume_steps old new (l ∷ ls) (p ∷ ps) (mid, first, rest) = (mid.state, (old.out, mid.out, first), volume_steps mid new ls ps rest)

module _ {L : Type 0} (Step : State → L → Printed → State → Type 0) (keeps : Keeps Step) (reading : Reading) (limits : Limits) (on_disk : Bool) where
  pub scratch : (old new : State) (lines : List L) (ps : List Printed) → IsCut (bytes_of old.volume) reading limits old.volume → old.reading ≡ reading → old.limits ≡ limits → old.on_disk ≡ on_disk
      → StepsBy Step old lines ps new → ScratchSteps Step reading limits on_disk (saved old) lines ps (saved new)
  scratch old new [] [] cut r l d h = ap saved h
  scratch old new [] (p ∷ ps) cut r l d h = absurd h
  scratch old new (x ∷ xs) [] cut r l d h = absurd h
  scratch old new (x ∷ xs) (p ∷ ps) cut r l d (mid, first, rest) =
      let read : IsRead old = rw (r, l) cut in
      let alike = keeps old mid x p read first in (
        saved mid,
        record { volume = old.volume; cut = cut; end = mid; step = rw (← r, ← l, ← d) first; new_is = refl },
        scratch mid new xs ps (rw (← r, ← l) alike.cut) (alike.reading ∙ r) (alike.limits ∙ l) (alike.on_disk ∙ d) rest,
      )

  -- and what is held behind the lines is the cut of its own bytes
  pub stays_cut : (old new : State) (lines : List L) (ps : List Printed) → IsCut (bytes_of old.volume) reading limits old.volume → old.reading ≡ reading → old.limits ≡ limits
      → StepsBy Step old lines ps new → IsCut (bytes_of new.volume) reading limits new.volume
  stays_cut old new [] [] cut r l h = subst (λ (s : State). IsCut (bytes_of s.volume) reading limits s.volume) (sym h) cut
  stays_cut old new [] (p ∷ ps) cut r l h = absurd h
  stays_cut old new (x ∷ xs) [] cut r l h = absurd h
  stays_cut old new (x ∷ xs) (p ∷ ps) cut r l (mid, first, rest) =
      let read : IsRead old = rw (r, l) cut in
      let alike = keeps old mid x p read first in
      stays_cut mid new xs ps (rw (← r, ← l) alike.cut) (alike.reading ∙ r) (alike.limits ∙ l) rest

pub lines_from_scratch : StepsStayCut → LinesFromScratch
lines_from_scratch stay old new lines ps cut steps = scratch (LineStep any_cause) (line_keeps stay) old.reading old.limits old.on_disk old new lines ps cut refl refl refl steps

-- ---- a load of what was saved

pub reloads_as_saved : StepsStayCut → AnswersFromScratch → ReloadsAsSaved
reloads_as_saved stay scratch_answers old new lines ps cut steps =
    let some = lines_are_edits old new lines ps steps in
    let alike = stay old new some.0.edits some.0.replies cut some.2 in
    (alike.cut, reload some.0.edits some.0.replies some.2 alike.cut)
  where
    reload : (edits : List Edit) (replies : List (Result (Option ℕ) Refusal)) → Steps old edits replies new → IsCut (bytes_of new.volume) old.reading old.limits new.volume
        → (again : State) → IsRead again → bytes_of again.volume ≡ bytes_of new.volume → again.reading ≡ old.reading → again.limits ≡ old.limits → IsReload new again
    reload edits replies all held again read same r l =
        let here : IsCut (bytes_of new.volume) old.reading old.limits again.volume = rw (← same, ← r, ← l) read in (
          at_most_one_cut (bytes_of new.volume) old.reading old.limits again.volume new.volume here held,
          λ query. ap (λ (x : Reading). let s : State = record again { fields = new.fields; reading = x } in answer s query) r
              ∙ ap (λ (x : Limits). let s : State = record again { fields = new.fields; reading = old.reading; limits = x } in answer s query) l
              ∙ sym (scratch_answers old new edits replies again.volume again.on_disk query cut all here),
        )
