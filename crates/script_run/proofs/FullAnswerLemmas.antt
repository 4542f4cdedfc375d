-- No answer of a session has an empty line.
use Rattle.std.proofs.Common.{◌≡◌, ℕ, length, take, List, [], ◌∷◌, Bool, true, false, not, Option, Some, None, Result, Ok, Err, cond, refl, sym, ap, subst, inl, inr}
use Rattle.std.specs.Prelude.{option_map}
use Rattle.std.specs.Option.{option_map_or}
use Rattle.field_map.specs.declared.place.Place.{Place}
use Rattle.field_map.specs.declared.map_fault.MapFault.{MapFault}
use Rattle.field_map.specs.declared.map_fault.MapFault.TheVariants.{BadName}
use Rattle.field_map.specs.Pairs.{Pairs, bound}
use Rattle.field_map.specs.Binding.{is_name, bind_fault, geometry_at_load}
use Rattle.bench_rules.specs.declared.edit.Edit.{Edit}
use Rattle.bench_rules.specs.declared.edit.Edit.TheVariants as edits
use Rattle.bench_rules.specs.declared.refusal.Refusal.{Refusal}
use Rattle.bench_rules.specs.declared.refusal.Refusal.TheVariants as refusals
use Rattle.bench_rules.specs.After.{fields_after}
use Rattle.bench_rules.specs.Mappings.{all_bound, bindings, first_bind_fault}
use Rattle.bench_rules.specs.Places.{place_in_trace}
use Rattle.bench_rules.specs.Refused.{first_refusal, map_refusal}
use Rattle.bench_rules.specs.State.{State}
use Rattle.bench_rules.specs.Steps.{StepUnless}
use Rattle.bench_rules.proofs.FirstLemmas.{both_none}
use Rattle.script_words.specs.declared.command.Command.{Command}
use Rattle.script_words.specs.declared.command.Command.TheVariants.{Apply, Ask}
use Rattle.script_words.specs.declared.line_fault.LineFault.{LineFault}
use Rattle.script_words.specs.declared.line_fault.LineFault.TheVariants.{Words, TooLarge, OutOfMemory}
use Rattle.refusal_texts.specs.declared.session_fault.SessionFault.TheVariants.{CutOff}
use Rattle.script_text.specs.Replies.{Printed, fault_reply, session_reply, edit_reply}
use Rattle.script_text.specs.Texts.{IsFullLines}
use Rattle.script_text.proofs.PlainLemmas.{HasPlainNames, plain_name, plain_bound, plain_unbound, nothing_full, fault_full, session_full as session_text_full, edit_full, query_full, reply_full}
use Rattle.float_codes.specs.declared.float_format.FloatFormat.{FloatFormat}
use Rattle.bench_rules.specs.Answer.{Reply}
use Rattle.bench_rules.specs.declared.section.Section.{Section}
use Rattle.bench_rules.specs.FloatStatistics.{float_format}
use Rattle.bench_rules.specs.Sections.{rows_of}
use Rattle.script_text.proofs.SectionLineLemmas.{full_cut, full_section}
use Rattle.bench_rules.specs.declared.ask_fault.AskFault.TheVariants as asks
use Rattle.script_text.specs.Replies.{query_reply}
use Rattle.script_text.proofs.FloatLineLemmas.{float_answers_are_full_lines}
use Rattle.script_run.specs.Causes.{any_cause}
use Rattle.script_run.specs.Runs.{ReadStep, IsPrintedBy, IsPrintedOf, floats_asked, section_asked}
use Rattle.script_run.specs.Sections.{IsSectionPrinted}
use Rattle.script_words.specs.declared.session_words.SessionWord.{SessionWord}
use Rattle.script_words.specs.declared.session_words.SessionWord.TheVariants.{Save, SaveWithMore, Other}
use Rattle.script_words.specs.SessionWords.{session_word_of}
use Rattle.script_words.specs.Words.{without_return}
use Rattle.script_run.specs.Input.{SessionLine}
use Rattle.script_run.specs.Sessions.{Standing, WordStep, EndedStep, AnswerStep, SessionSteps, AreAnswers}

-- ---- what an edit leaves of the names

-- no reason, so no fault behind it
no_fault : (o : Option MapFault) → option_map (λ fault. refusals.Map fault) o ≡ None → o ≡ None
no_fault None e = refl
no_fault (Some fault) e = cc

name_is : (b : Bool) (rest : Option MapFault) → cond (not b) (Some BadName) rest ≡ None → b ≡ true
name_is true rest e = refl
name_is false rest e = cc

mapped_plain : (s : State) (name : List ℕ) (o : Option Place) → map_refusal s name o ≡ None → HasPlainNames s.fields
    → HasPlainNames (option_map_or (λ place. bound s.fields name place) o s.fields)
mapped_plain s name None e h = h
mapped_plain s name (Some place) e h =
    let none : bind_fault s.volume.head.extensions s.fields name place ≡ None = no_fault (bind_fault s.volume.head.extensions s.fields name place) e in
    plain_bound s.fields name place (plain_name name (name_is (is_name name) _ none)) h

-- names that are bound one after another
all_plain : (extensions : ℕ) (fields bs : Pairs) → first_bind_fault extensions fields bs ≡ None → HasPlainNames fields → HasPlainNames (all_bound fields bs)
all_plain extensions fields [] none h = h
all_plain extensions fields (b ∷ bs) none h =
    let parts = both_none (bind_fault extensions fields b.0 b.1) (first_bind_fault extensions (bound fields b.0 b.1) bs) none in
    all_plain extensions (bound fields b.0 b.1) bs parts.1 (plain_bound fields b.0 b.1 (plain_name b.0 (name_is (is_name b.0) _ parts.0)) h)

fields_plain : (s : State) (edit : Edit) → first_refusal s edit ≡ None → HasPlainNames s.fields → HasPlainNames (fields_after s.fields edit)
fields_plain s (edits.Map name f) e h = mapped_plain s name (place_in_trace s.fields f) e h
fields_plain s (edits.MapAs mapping) e h = all_plain s.volume.head.extensions s.fields (bindings mapping) (no_fault (first_bind_fault s.volume.head.extensions s.fields (bindings mapping)) e) h
fields_plain s (edits.Unmap name) e h = plain_unbound s.fields name h
fields_plain s (edits.Set p field x) e h = h
fields_plain s (edits.SetBin field x) e h = h
fields_plain s edits.Declare e h = h
fields_plain s edits.DropTail e h = h
fields_plain s (edits.SetText q text) e h = h
fields_plain s (edits.Patch p k values) e h = h
fields_plain s (edits.Blank p) e h = h
fields_plain s (edits.Copy q p) e h = h
fields_plain s (edits.Delete p) e h = h
fields_plain s (edits.Move a b) e h = h
fields_plain s (edits.MoveBlock a b to) e h = h
fields_plain s (edits.Resize p m) e h = h
fields_plain s (edits.Renumber a b field first step) e h = h
fields_plain s (edits.Compute a b field source steps) e h = h
fields_plain s (edits.Sort a b fields falls) e h = h
fields_plain s (edits.OfChosen c edit) e h = h

same_plain : (old new : State) → new ≡ old → HasPlainNames old.fields → HasPlainNames new.fields
same_plain old new e h = subst (λ (s : State). HasPlainNames s.fields) (sym e) h

step_plain : {T : Type 0} (o : Option Refusal) (old new : State) (edit : Edit) (reply : Result T Refusal) → first_refusal old edit ≡ o → HasPlainNames old.fields → StepUnless o old edit reply new → HasPlainNames new.fields
step_plain (Some r) old new edit (Ok x) e h step = absurd step
step_plain (Some r) old new edit (Err s) e h step = same_plain old new step.1 h
step_plain None old new edit (Ok x) e h step = subst (λ (f : Pairs). HasPlainNames f) (sym step.fields) (fields_plain old edit e h)
step_plain None old new edit (Err s) e h step = same_plain old new step.1 h

-- ---- what is printed

full_by : (p q : Printed) → p ≡ q → IsFullLines q.text → IsFullLines p.text
full_by p q e full = subst (λ (r : Printed). IsFullLines r.text) (sym e) full

-- what a query prints, also where samples are floats
asked_full : (o : Option FloatFormat) (reply : Reply) (p : Printed) → IsPrintedOf o reply p → IsFullLines (query_reply reply).text → IsFullLines p.text
asked_full None reply p e full = full_by p _ e full
asked_full (Some f) (Err fault) p e full = full_by p _ e full
asked_full (Some f) (Ok answer) p (inl (shown, shows, e)) full = full_by p _ e (float_answers_are_full_lines f answer shown shows)
asked_full (Some f) (Ok answer) p (inr (inl e)) full = full_by p _ e.1 (reply_full (Err asks.OutOfMemory) tt)
asked_full (Some f) (Ok answer) p (inr (inr e)) full = full_by p _ e.1 full

-- what is printed for samples of many traces
section_full : (s : State) (section : Section) (p : Printed) → IsSectionPrinted any_cause s section p → IsFullLines p.text
section_full s section p (inl whole) = rw whole.text (full_section (float_format s.volume.head.format) (rows_of s.volume section) whole.lines (length section.traces) whole.rows)
section_full s section p (inr short) =
    rw short.text (full_cut (float_format s.volume.head.format) (take short.before (rows_of s.volume section)) short.lines (length section.traces) short.fault short.rows)

printed_full : (s : State) (section : Option Section) (o : Option FloatFormat) (reply : Reply) (p : Printed) → IsPrintedBy any_cause s section o reply p → IsFullLines (query_reply reply).text → IsFullLines p.text
printed_full s None o reply p is full = asked_full o reply p is full
printed_full s (Some section) o reply p is full = section_full s section p is

read_full : (old new : State) (read : Result (Option Command) LineFault) (p : Printed) → HasPlainNames old.fields → ReadStep any_cause old read p new → IsFullLines p.text × HasPlainNames new.fields
read_full old new (Ok None) p h step = (full_by p _ step.0 nothing_full, same_plain old new step.1 h)
read_full old new (Ok (Some (Apply edit))) p h step =
    (full_by p (edit_reply step.0) step.2 (edit_full step.0), step_plain (first_refusal old edit) old new edit step.0 refl h step.1)
read_full old new (Ok (Some (Ask query))) p h step = (printed_full old (section_asked query step.0) (floats_asked old query) step.0 p step.2 (query_full old query step.0 h step.1), same_plain old new step.3 h)
read_full old new (Err fault) p h step = (full_by p (fault_reply fault) step.0 (fault_full fault), same_plain old new step.1 h)

stands_plain : (old new : Standing) → new ≡ old → HasPlainNames old.state.fields → HasPlainNames new.state.fields
stands_plain old new e h = same_plain old.state new.state (ap (λ (s : Standing). s.state) e) h

-- what is printed is full lines, and the names that are left are plain
abbrev IsFull : Printed → Standing → Type 0
IsFull p new = IsFullLines p.text × HasPlainNames new.state.fields

fault_is_full : (old new : Standing) (fault : LineFault) (p : Printed) → HasPlainNames old.state.fields → p ≡ fault_reply fault → new ≡ old → IsFull p new
fault_is_full old new fault p h is same = (full_by p (fault_reply fault) is (fault_full fault), stands_plain old new same h)

word_full : (word : SessionWord) (old new : Standing) (line : List ℕ) (p : Printed) → HasPlainNames old.state.fields → WordStep any_cause word old line p new → IsFull p new
word_full Save old new line p h (result, saved, is, same) = (full_by p (session_reply result) is (session_text_full result), same_plain old.state new.state same h)
word_full SaveWithMore old new line p h step = fault_is_full old new Words p h step.0 step.1
word_full Other old new line p h (step, out) = read_full old.state new.state step.0 p h step.2

ended_full : (has_end : Bool) (old new : Standing) (text : List ℕ) (p : Printed) → HasPlainNames old.state.fields → EndedStep any_cause has_end old text p new → IsFull p new
ended_full false old new text p h step = (full_by p (session_reply (Err CutOff)) step.0 (session_text_full (Err CutOff)), stands_plain old new step.1 h)
ended_full true old new text p h (inl step) = word_full (session_word_of (without_return text)) old new (without_return text) p h step
ended_full true old new text p h (inr step) = fault_is_full old new OutOfMemory p h step.0 step.1

answer_full : (old new : Standing) (line : SessionLine) (p : Printed) → HasPlainNames old.state.fields → AnswerStep any_cause old line p new → IsFull p new
answer_full old new line p h (inl step) = fault_is_full old new TooLarge p h step.1 step.2
answer_full old new line p h (inr (within, step)) = ended_full line.has_end old new line.text p h step

-- each answer of a session is lines none of which is empty, with an empty line behind them
pub session_full : (old new : Standing) (lines : List SessionLine) (ps : List Printed) → HasPlainNames old.state.fields → SessionSteps any_cause old lines ps new → AreAnswers ps
session_full old new [] [] h steps = tt
session_full old new [] (p ∷ ps) h steps = absurd steps
session_full old new (l ∷ ls) [] h steps = absurd steps
session_full old new (l ∷ ls) (p ∷ ps) h (mid, (answer, step, is), rest) =
    let full = answer_full old mid l answer h step in
    (record { answer = answer.text; full = full.0; is = ap (λ (q : Printed). q.text) is }, session_full mid new ls ps full.1 rest)

-- the names of a volume that was just loaded
pub plain_at_load : (s : State) → s.fields ≡ geometry_at_load → HasPlainNames s.fields
plain_at_load s e = subst (λ (f : Pairs). HasPlainNames f) (sym e) refl
