-- Lines that are run twice end the same and print the same.
use Rattle.std.proofs.Common.{◌≡◌, ◌⊎◌, ℕ, ℤ, length, Bool, true, false, List, [], ◌∷◌, ◌++◌, Option, Some, None, Result, Ok, Err, IfOk, refl, sym, subst, ap, ap₂, ◌∙◌, inl, inr}
use Rattle.std.specs.Prelude.{IsErrAnd, if◌then◌else◌}
use Rattle.field_map.specs.Pairs.{Pairs}
use Rattle.frame_cut.specs.declared.file_head.Head.{Head}
use Rattle.frame_cut.specs.declared.limits.Limits.{Limits}
use Rattle.frame_cut.specs.declared.reading.Reading.{Reading}
use Rattle.frame_cut.specs.Volume.{Volume}
use Rattle.frame_cut.proofs.OneCutLemmas.{at_most_one_cut}
use Rattle.float_codes.specs.declared.float_format.FloatFormat.{FloatFormat}
use Rattle.bench_laws.specs.EditLaws.{StepsStayCut}
use Rattle.bench_rules.specs.declared.ask_fault.AskFault.{AskFault}
use Rattle.bench_rules.specs.declared.ask_fault.AskFault.TheVariants as asks
use Rattle.bench_rules.specs.declared.edit.Edit.{Edit}
use Rattle.bench_rules.specs.declared.query.Query.{Query}
use Rattle.bench_rules.specs.declared.refusal.Refusal.{Refusal}
use Rattle.bench_rules.specs.declared.refusal.Refusal.TheVariants.{OutOfMemory}
use Rattle.bench_rules.specs.After.{bytes_after}
use Rattle.bench_rules.specs.Answer.{Reply, answer, IsReply, FailsToRead as AskFailsToRead}
use Rattle.bench_rules.specs.FloatStatistics.{float_format}
use Rattle.bench_rules.specs.Refused.{first_refusal}
use Rattle.bench_rules.specs.State.{State}
use Rattle.bench_rules.specs.Steps.{FailsToRead, IsAfter, StepUnless, told_of}
use Rattle.bench_rules.proofs.ToldLemmas.{told_is}
use Rattle.script_words.specs.declared.command.Command.{Command}
use Rattle.script_words.specs.declared.command.Command.TheVariants.{Apply, Ask}
use Rattle.script_words.specs.declared.line_fault.LineFault.{LineFault}
use Rattle.script_words.specs.declared.line_fault.LineFault.TheVariants as line_faults
use Rattle.script_words.specs.Commands.{IsParsed, line_result}
use Rattle.script_text.specs.Replies.{Printed, edit_reply, query_reply}
use Rattle.line_laws.specs.Determined.{IsOfLine, LinesAreDetermined}
use Rattle.script_run.specs.Causes.{any_cause}
use Rattle.script_run.specs.Laws.{IsRead}
use Rattle.script_run.specs.Runs.{tells_samples, asks_for_section, floats_asked, section_asked, IsPrintedBy, IsPrintedIn, IsPrintedOf, CommandStep, ReadStep, LineStep, LineSteps}
use Rattle.script_run.specs.Sections.{IsSectionPrinted, IsWhole}
use Rattle.script_text.specs.SectionTexts.{row_line, section_head, AreRowTexts, AreWords}
use Rattle.bench_rules.specs.declared.section.Section.{Section}
use Rattle.bench_rules.specs.Sections.{rows_of}
use Rattle.script_run.proofs.ScratchLemmas.{line_keeps}

-- ---- one edit

same_state : (a b : State) → a.volume ≡ b.volume → a.fields ≡ b.fields → a.reading ≡ b.reading → a.limits ≡ b.limits → a.on_disk ≡ b.on_disk → a ≡ b
same_state a b v f r l d =
    ap (λ (x : Volume). let s : State = record a { volume = x } in s) v
    ∙ ap (λ (x : Pairs). let s : State = record a { volume = b.volume; fields = x } in s) f
    ∙ ap (λ (x : Reading). let s : State = record a { volume = b.volume; fields = b.fields; reading = x } in s) r
    ∙ ap (λ (x : Limits). let s : State = record a { volume = b.volume; fields = b.fields; reading = b.reading; limits = x } in s) l
    ∙ ap (λ (x : Bool). let s : State = record b { on_disk = x } in s) d

-- two volumes after one edit are one
same_after : (old : State) (edit : Edit) (new again : State) → IsAfter old edit new → IsAfter old edit again → again ≡ new
same_after old edit new again h k =
    same_state again new
    (at_most_one_cut (bytes_after old edit) old.reading old.limits again.volume new.volume k.volume h.volume)
    (k.fields ∙ sym h.fields) (k.reading ∙ sym h.reading) (k.limits ∙ sym h.limits) (k.on_disk ∙ sym h.on_disk)

-- what a read that failed is told is none of these answers
read_fails : (s : State) (edit : Edit) (r : Refusal) → FailsToRead s edit r → IsOfLine (edit_reply (Err r)) → ⊥
read_fails s edit r (_, (_, inl is)) none = none.1 [] (ap (λ (x : Refusal). let e : Result (Option ℕ) Refusal = Err x in (edit_reply e).text) is)
read_fails s edit r (_, (_, inr is)) none = none.2 [] (ap (λ (x : Refusal). let e : Result (Option ℕ) Refusal = Err x in (edit_reply e).text) is)

no_memory : (r : Refusal) → r ≡ OutOfMemory → IsOfLine (edit_reply (Err r)) → ⊥
no_memory r is none = none.0 (ap (λ (x : Refusal). let e : Result (Option ℕ) Refusal = Err x in edit_reply e) is)

-- a refusal that is told is the one that the edit meets
is_met : (s : State) (edit : Edit) (met r : Refusal) → (r ≡ met) ⊎ (r ≡ OutOfMemory) → IsOfLine (edit_reply (Err r)) → r ≡ met
is_met s edit met r (inl is) none = is
is_met s edit met r (inr is) none = absurd (no_memory r is none)

-- the reply to an edit, as it is told of chosen traces
abbrev EditReply : Type 0
EditReply = Result (Option ℕ) Refusal

abbrev TellsCount : State → Edit → EditReply → Type 0
TellsCount s edit reply = IfOk reply (λ told. told ≡ told_of s edit)

edit_met : (met : Refusal) (old : State) (edit : Edit) (r : EditReply) (new : State) → StepUnless (Some met) old edit r new → IsOfLine (edit_reply r) → (r ≡ Err met) × (new ≡ old)
edit_met met old edit (Ok given) new step none = absurd step
edit_met met old edit (Err r) new (inl told, same) none = (ap (λ (x : Refusal). let e : EditReply = Err x in e) (is_met old edit met r (told_is old edit met r told) none), same)
edit_met met old edit (Err r) new (inr fails, same) none = absurd (read_fails old edit r fails none)

edit_done : (old : State) (edit : Edit) (r : EditReply) (new : State) → StepUnless None old edit r new → TellsCount old edit r → IsOfLine (edit_reply r)
    → (r ≡ Ok (told_of old edit)) × IsAfter old edit new
edit_done old edit (Ok given) new step told none = (ap (λ (x : Option ℕ). let e : EditReply = Ok x in e) told, step)
edit_done old edit (Err r) new (inl want, same) told none = absurd (no_memory r want.0 none)
edit_done old edit (Err r) new (inr fails, same) told none = absurd (read_fails old edit r fails none)

same_edit : (met : Option Refusal) (old : State) (edit : Edit) (r s : EditReply) (new again : State) → StepUnless met old edit r new → StepUnless met old edit s again
    → TellsCount old edit r → TellsCount old edit s → IsOfLine (edit_reply r) → IsOfLine (edit_reply s) → (again ≡ new) × (s ≡ r)
same_edit (Some met) old edit r s new again one other told tells none never =
    let first = edit_met met old edit r new one none in
    let second = edit_met met old edit s again other never in
    (second.1 ∙ sym first.1, second.0 ∙ sym first.0)
same_edit None old edit r s new again one other told tells none never =
    let first = edit_done old edit r new one told none in
    let second = edit_done old edit s again other tells never in
    (same_after old edit new again first.1 second.1, second.0 ∙ sym first.0)

-- ---- one query

-- a fault is printed as it is, of floats and of samples of many traces too
fault_printed : (floats : Option FloatFormat) (fault : AskFault) (p : Printed) → IsPrintedOf floats (Err fault) p → p ≡ query_reply (Err fault)
fault_printed None fault p is = is
fault_printed (Some f) fault p is = is

fault_told : (s : State) (query : Query) (fault : AskFault) (p : Printed) → IsPrintedIn any_cause s query (Err fault) p → p ≡ query_reply (Err fault)
fault_told s query fault p is = fault_printed (floats_asked s query) fault p (by (asks_for_section query) is)
  where
    by : (b : Bool) → IsPrintedBy any_cause s (if b then None else None) (floats_asked s query) (Err fault) p → IsPrintedOf (floats_asked s query) (Err fault) p
    by true h = h
    by false h = h

-- what is printed for it
abbrev text_of : AskFault → List ℕ
text_of fault = let e : Reply = Err fault in (query_reply e).text

ask_fails : (s : State) (query : Query) (fault : AskFault) (p : Printed) → p ≡ query_reply (Err fault) → AskFailsToRead s query fault → IsOfLine p → ⊥
ask_fails s query fault p prints (_, (_, inl is)) none = none.1 [] (ap (λ (q : Printed). q.text) prints ∙ ap text_of is)
ask_fails s query fault p prints (_, (_, inr is)) none = none.2 [] (ap (λ (q : Printed). q.text) prints ∙ ap text_of is)

failed_reply : (s : State) (query : Query) (reply : Reply) (p : Printed) → IsPrintedIn any_cause s query reply p → IsErrAnd reply (AskFailsToRead s query) → IsOfLine p → ⊥
failed_reply s query (Ok a) p is fails none = absurd fails
failed_reply s query (Err fault) p is fails none = ask_fails s query fault p (fault_told s query fault p is) fails none

-- where samples are not floats it is the answer that is printed
printed_answer : (s : State) (query : Query) (reply : Reply) (p : Printed) → IsReply s query reply → IsPrintedIn any_cause s query reply p → IsOfLine p → IsPrintedIn any_cause s query (answer s query) p
printed_answer s query reply p (inl is) prints none = subst (λ (x : Reply). IsPrintedIn any_cause s query x p) is prints
printed_answer s query reply p (inr (inl (is, may))) prints none = absurd (none.0 (fault_told s query asks.OutOfMemory p (subst (λ (x : Reply). IsPrintedIn any_cause s query x p) is prints)))
printed_answer s query reply p (inr (inr fails)) prints none = absurd (failed_reply s query reply p prints fails none)

-- ---- samples of many traces

same_words : (xs : List ℤ) (ws vs : List (List ℕ)) → AreWords None xs ws → AreWords None xs vs → vs ≡ ws
same_words [] [] [] one other = refl
same_words [] [] (v ∷ vs) one other = absurd other
same_words [] (w ∷ ws) vs one other = absurd one
same_words (x ∷ xs) [] vs one other = absurd one
same_words (x ∷ xs) (w ∷ ws) [] one other = absurd other
same_words (x ∷ xs) (w ∷ ws) (v ∷ vs) one other = ap₂ (λ (u : List ℕ) (us : List (List ℕ)). u ∷ us) (other.0 ∙ sym one.0) (same_words xs ws vs one.1 other.1)

same_rows : (rows : List (ℕ × List ℤ)) (a b : List ℕ) → AreRowTexts None rows a → AreRowTexts None rows b → b ≡ a
same_rows [] a b one other = other ∙ sym one
same_rows (row ∷ rows) a b (first, rest, (words, are, is), others, joined) (again, left, (says, same, reads), more, all) =
    all ∙ ap₂ (λ (s t : List ℕ). s ++ t) (reads ∙ ap (row_line row.0) (same_words row.1 words says are same) ∙ sym is) (same_rows rows rest left others more) ∙ sym joined

-- none is cut short
whole_section : (s : State) (section : Section) (p : Printed) → IsSectionPrinted any_cause s section p → IsOfLine p → IsWhole s section p
whole_section s section p (inl whole) none = whole
whole_section s section p (inr short) none = absurd (by short.unread.1)
  where
    told : (fault : AskFault) → short.fault ≡ fault → p.text ≡ (section_head (length section.traces) ++ short.lines) ++ text_of fault
    told fault is = short.text ∙ ap (λ (f : AskFault). (section_head (length section.traces) ++ short.lines) ++ text_of f) is

    by : (short.fault ≡ asks.ReadFailed) ⊎ (short.fault ≡ asks.FileChanged) → ⊥
    by (inl is) = none.1 (section_head (length section.traces) ++ short.lines) (told asks.ReadFailed is)
    by (inr is) = none.2 (section_head (length section.traces) ++ short.lines) (told asks.FileChanged is)

same_section : (s : State) (section : Section) (p q : Printed) → float_format s.volume.head.format ≡ None → IsWhole s section p → IsWhole s section q → q ≡ p
same_section s section p q none one other =
    let rows : other.lines ≡ one.lines =
    same_rows (rows_of s.volume section) one.lines other.lines
    (subst (λ (o : Option FloatFormat). AreRowTexts o (rows_of s.volume section) one.lines) none one.rows)
    (subst (λ (o : Option FloatFormat). AreRowTexts o (rows_of s.volume section) other.lines) none other.rows) in
    let text : q.text ≡ p.text = other.text ∙ ap (λ (l : List ℕ). section_head (length section.traces) ++ l) rows ∙ sym one.text in
    ap₂ (λ (t : List ℕ) (refused : Bool). let r : Printed = record { text = t; is_refusal = refused } in r) text (other.accepted ∙ sym one.accepted)

same_printed : (s : State) (section : Option Section) (reply : Reply) (p q : Printed) → float_format s.volume.head.format ≡ None → IsPrintedBy any_cause s section None reply p → IsPrintedBy any_cause s section None reply q
    → IsOfLine p → IsOfLine q → q ≡ p
same_printed s None reply p q whole one other none never = other ∙ sym one
same_printed s (Some section) reply p q whole one other none never = same_section s section p q whole (whole_section s section p one none) (whole_section s section q other never)

-- ---- one line

-- no floats are asked of a volume without floats
choice_none : (b : Bool) (o : Option FloatFormat) → o ≡ None → (if b then o else None) ≡ None
choice_none true o is = is
choice_none false o is = refl

no_floats : (s : State) (query : Query) → float_format s.volume.head.format ≡ None → floats_asked s query ≡ None
no_floats s query none = choice_none (tells_samples query) (float_format s.volume.head.format) none

same_query : (s : State) (query : Query) (p q : Printed) (r t : Reply) → IsReply s query r → IsPrintedIn any_cause s query r p → IsReply s query t → IsPrintedIn any_cause s query t q
    → IsOfLine p → IsOfLine q → float_format s.volume.head.format ≡ None → q ≡ p
same_query s query p q r t one prints other writes none never whole =
    let asked : floats_asked s query ≡ None = no_floats s query whole in
    let asks : Option Section = section_asked query (answer s query) in
    same_printed s asks (answer s query) p q whole
    (subst (λ (o : Option FloatFormat). IsPrintedBy any_cause s asks o (answer s query) p) asked (printed_answer s query r p one prints none))
    (subst (λ (o : Option FloatFormat). IsPrintedBy any_cause s asks o (answer s query) q) asked (printed_answer s query t q other writes never))
    none never

abbrev AreSame : State → (p q : Printed) → (new again : State) → Type 0
AreSame old p q new again = (again ≡ new) × (float_format old.volume.head.format ≡ None → q ≡ p)

same_command : (old : State) (command : Command) (p q : Printed) (new again : State) → CommandStep any_cause old command p new → CommandStep any_cause old command q again → IsOfLine p → IsOfLine q → AreSame old p q new again
same_command old (Apply edit) p q new again (r, step, prints, told, _) (s, other, writes, tells, _) none never =
    let both = same_edit (first_refusal old edit) old edit r s new again step other told tells (subst (λ (x : Printed). IsOfLine x) prints none) (subst (λ (x : Printed). IsOfLine x) writes never) in
    (both.0, λ _. writes ∙ ap (λ (x : EditReply). edit_reply x) both.1 ∙ sym prints)
same_command old (Ask query) p q new again (r, one, prints, same, _, _) (t, other, writes, stays, _, _) none never =
    (stays ∙ sym same, λ whole. same_query old query p q r t one prints other writes none never whole)

same_read : (old : State) (read : Result (Option Command) LineFault) (p q : Printed) (new again : State) → ReadStep any_cause old read p new → ReadStep any_cause old read q again → IsOfLine p → IsOfLine q → AreSame old p q new again
same_read old (Ok None) p q new again one other none never = (other.1 ∙ sym one.1, λ _. other.0 ∙ sym one.0)
same_read old (Ok (Some command)) p q new again one other none never = same_command old command p q new again one other none never
same_read old (Err fault) p q new again one other none never = (other.1 ∙ sym one.1, λ _. other.0 ∙ sym one.0)

-- a line that is not answered E11 was read as what it gives
is_read : (old : State) (line : List ℕ) (read : Result (Option Command) LineFault) (p : Printed) (new : State) (floats : Option FloatFormat) (traces : ℕ)
    → IsParsed floats traces line read → ReadStep any_cause old read p new → IsOfLine p → read ≡ line_result floats traces line
is_read old line read p new floats traces (inl is) step none = is
is_read old line read p new floats traces (inr (is, want)) step none =
    let out : ReadStep any_cause old (Err line_faults.OutOfMemory) p new = subst (λ (x : Result (Option Command) LineFault). ReadStep any_cause old x p new) is step in
    absurd (none.0 out.0)

same_line : (old : State) (line : List ℕ) (p q : Printed) (new again : State) → LineStep any_cause old line p new → LineStep any_cause old line q again → IsOfLine p → IsOfLine q → AreSame old p q new again
same_line old line p q new again (read, parsed, step) (reading, parses, steps) none never =
    let one = is_read old line read p new _ _ parsed step none in
    let other = is_read old line reading q again _ _ parses steps never in
    same_read old read p q new again step (subst (λ (x : Result (Option Command) LineFault). ReadStep any_cause old x q again) (other ∙ sym one) steps) none never

-- ---- all lines

pub lines_are_determined : StepsStayCut → LinesAreDetermined
lines_are_determined stay old new again [] [] [] cut h k of more = (k ∙ sym h, λ _. refl)
lines_are_determined stay old new again [] (p ∷ ps) qs cut h k of more = absurd h
lines_are_determined stay old new again [] [] (q ∷ qs) cut h k of more = absurd k
lines_are_determined stay old new again (l ∷ ls) [] qs cut h k of more = absurd h
lines_are_determined stay old new again (l ∷ ls) (p ∷ ps) [] cut h k of more = absurd k
lines_are_determined stay old new again (l ∷ ls) (p ∷ ps) (q ∷ qs) cut (mid, step, rest) (middle, other, others) of more =
    let one = same_line old l p q mid middle step other of.0 more.0 in
    let alike = line_keeps stay old mid l p cut step in
    let here : IsRead mid = rw (alike.reading, alike.limits) alike.cut in
    let all = lines_are_determined stay mid new again ls ps qs here rest (subst (λ (x : State). LineSteps any_cause x ls qs again) one.0 others) of.1 more.1 in
    (all.0, λ whole. ap₂ (λ (x : Printed) (xs : List Printed). x ∷ xs) (one.1 whole) (all.1 (ap (λ (h : Head). float_format h.format) alike.head ∙ whole)))
