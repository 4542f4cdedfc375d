-- What is said of lines with some causes of E11, E14 and E15 is said with those that follow from them.
use Rattle.std.proofs.Common.{◌≡◌, ◌≤◌, ◌<◌, ◌∙◌, refl, sym, subst, ℕ, Bool, true, false, if◌then◌else◌, List, [], ◌∷◌, Option, Some, None, Result, Ok, Err, arith, inl, inr}
use Rattle.std.specs.Prelude.{IsOk, IsTrue, IfErr, MatchOption}
use Rattle.room.specs.Refusals.{WasRefused, one_more}
use Rattle.base_file.specs.declared.read_fault.ReadFault.{ReadFault}
use Rattle.base_file.specs.declared.read_fault.ReadFault.TheVariants as reads
use Rattle.edit_overlay.specs.Reads.{Reads, HaveAgreed, IsFaultOfLook}
use Rattle.edit_overlay.specs.declared.save_fault.SaveFault.{SaveFault}
use Rattle.float_codes.specs.declared.float_format.FloatFormat.{FloatFormat}
use Rattle.bench_rules.specs.declared.query.Query.{Query}
use Rattle.bench_rules.specs.declared.section.Section.{Section}
use Rattle.bench_rules.specs.declared.ask_fault.AskFault.TheVariants as asks
use Rattle.bench_rules.specs.declared.refusal.Refusal.{Refusal}
use Rattle.bench_rules.specs.declared.refusal.Refusal.TheVariants as edits
use Rattle.bench_rules.specs.Answer.{Reply}
use Rattle.bench_rules.specs.ReadFaults.{ask_fault_of, IsFaultOfReads, IsRefusalOfReads}
use Rattle.bench_rules.specs.State.{State}
use Rattle.script_words.specs.declared.command.Command.{Command}
use Rattle.script_words.specs.declared.command.Command.TheVariants.{Apply, Ask}
use Rattle.script_words.specs.declared.line_fault.LineFault.{LineFault}
use Rattle.line_texts.specs.Devices.{Device, TakesPart}
use Rattle.script_text.specs.Replies.{Printed}
use Rattle.script_run.specs.declared.lines_end.LinesEnd.{LinesEnd}
use Rattle.script_run.specs.declared.lines_end.LinesEnd.TheVariants.{Whole, Stopped, Answers}
use Rattle.script_run.specs.Causes.{Causes, Failures, ForCause, EditComesOf, QueryComesOf, ReadComesOf, Spans, any_cause, causes_in, failures, failed_between, meanwhile, read_meanwhile}
use Rattle.script_run.specs.Ends.{SavesPart, TakesFirst}
use Rattle.script_run.specs.LineRuns.{RunsLines}
use Rattle.script_run.specs.Runs.{IsPrintedBy, IsPrintedIn, IsPrintedOf, LacksWords, CommandStep, ReadStep, LineStep, LineSteps, asks_for_section, floats_asked, section_asked, section_in}
use Rattle.script_run.specs.Sections.{IsSectionPrinted}

-- what was refused between two counts was refused between one that is no greater and one that is no less
pub refused_within : (first old new last : ℕ) → first ≤ old → new ≤ last → WasRefused old new → WasRefused first last
refused_within first old new last before behind refused = let rose : one_more old ≤ new = refused in grind (arith, before, behind)

-- each of some causes gives the other's
pub record Follows (A B : Causes) : Type 0 where
  pub memory : A.memory → B.memory
  pub read : A.read → B.read
  pub change : A.change → B.change

-- ---- causes between counts

-- between counts, those between counts around them
pub between_in : (first last old new : Failures) → first.growths ≤ old.growths → new.growths ≤ last.growths → first.reads ≤ old.reads → new.reads ≤ last.reads
    → Follows (failed_between old new) (failed_between first last)
between_in first last old new before behind reads_before reads_behind = record {
  memory = λ refused. refused_within first.growths old.growths new.growths last.growths before behind refused;
  read = λ (rose : old.reads < new.reads). omega (arith, rose, reads_before, reads_behind);
  change = λ none. absurd none;
}

-- of reads alone
pub reads_in : (first last : Failures) (old new : Reads) → first.reads ≤ old.failures → new.failures ≤ last.reads → Follows (read_meanwhile old new) (failed_between first last)
reads_in first last old new before behind = record {
  memory = λ none. absurd none;
  read = λ (rose : old.failures < new.failures). omega (arith, rose, before, behind);
  change = λ none. absurd none;
}

-- of reads alone, between counts around these
pub reads_around : (first old new last : Reads) → first.failures ≤ old.failures → new.failures ≤ last.failures → Follows (read_meanwhile old new) (read_meanwhile first last)
reads_around first old new last before behind = record {
  memory = λ none. absurd none;
  read = λ (rose : old.failures < new.failures). omega (arith, rose, before, behind);
  change = λ none. absurd none;
}

-- as a run asks for them
pub spans_in : (on_disk : Bool) (first last old new : Failures) → Spans on_disk first last old new → Follows (failed_between old new) (causes_in on_disk first last)
spans_in on_disk first last old new spans = record {
  memory = λ refused. refused_within first.growths old.growths new.growths last.growths spans.before spans.behind refused;
  read = λ (rose : old.reads < new.reads). λ disk. omega (arith, rose, spans.reads_before disk, spans.reads_behind disk);
  change = λ none. absurd none;
}

-- of reads alone, as a run asks for them
pub reads_spanned : (on_disk : Bool) (first last : Failures) (old new : Reads) → (IsTrue on_disk → first.reads ≤ old.failures) → (IsTrue on_disk → new.failures ≤ last.reads)
    → Follows (read_meanwhile old new) (causes_in on_disk first last)
reads_spanned on_disk first last old new before behind = record {
  memory = λ none. absurd none;
  read = λ (rose : old.failures < new.failures). λ disk. omega (arith, rose, before disk, behind disk);
  change = λ none. absurd none;
}

-- counts between those that are spanned
pub spans_inside : (on_disk : Bool) (first last old new here now : Failures) → Spans on_disk first last old new → old.growths ≤ here.growths → now.growths ≤ new.growths → old.reads ≤ here.reads
    → now.reads ≤ new.reads → Spans on_disk first last here now
spans_inside on_disk first last old new here now spans a b c d = record {
  before = omega (arith, spans.before, a);
  behind = omega (arith, spans.behind, b);
  reads_before = λ disk. omega (arith, spans.reads_before disk, c);
  reads_behind = λ disk. omega (arith, spans.reads_behind disk, d);
}

-- in memory the reads are not counted
pub spans_in_memory : (on_disk : Bool) (first last old new : Failures) → on_disk ≡ false → first.growths ≤ old.growths → new.growths ≤ last.growths → Spans on_disk first last old new
spans_in_memory on_disk first last old new memory before behind = record {
  before = before;
  behind = behind;
  reads_before = λ disk. absurd (neither on_disk disk memory);
  reads_behind = λ disk. absurd (neither on_disk disk memory);
}
  where
    neither : (b : Bool) → IsTrue b → b ≡ false → ⊥
    neither b t f = cc

pub spans_on_disk : (on_disk : Bool) (first last old new : Failures) → first.growths ≤ old.growths → new.growths ≤ last.growths → first.reads ≤ old.reads → new.reads ≤ last.reads
    → Spans on_disk first last old new
spans_on_disk on_disk first last old new before behind reads_before reads_behind =
    record { before = before; behind = behind; reads_before = λ _. reads_before; reads_behind = λ _. reads_behind }

-- those of lines that are run within counts that are spanned: some growths may have been refused before the lines and behind them, and some reads failed behind them
pub run_within : (on_disk : Bool) (first last : Failures) (room begun ended new reads reads_ended reads_new : ℕ) → Spans on_disk first last (failures room reads) (failures new reads_new) → room ≤ begun → ended ≤ new
    → reads_ended ≤ reads_new → Follows (failed_between (failures begun reads) (failures ended reads_ended)) (causes_in on_disk first last)
run_within on_disk first last room begun ended new reads reads_ended reads_new spans a b c =
    spans_in on_disk first last (failures begun reads) (failures ended reads_ended)
    (spans_inside on_disk first last (failures room reads) (failures new reads_new) (failures begun reads) (failures ended reads_ended) spans a b (omega arith) c)

-- whatever the causes, they are some
pub all_follow : (why : Causes) → Follows why any_cause
all_follow why = record { memory = λ _. tt; read = λ _. tt; change = λ _. tt }

-- ---- replies

-- the refusal of a query comes of what its reads and its room tell, where each read agreed, and of what may fail behind it
pub query_comes : (old new last : Reads) (room now : ℕ) (reply : Reply) → HaveAgreed new → new.failures ≤ last.failures → (reply ≡ Err asks.OutOfMemory → WasRefused room now) → IfErr reply (IsFaultOfReads old new)
    → QueryComesOf (meanwhile room old now last) reply
query_comes old new last room now reply sure behind want tells = record {
  memory = want;
  read = λ e. let rose : old.failures < new.failures = subst (λ (r : Reply). IfErr r (IsFaultOfReads old new)) e tells in omega (arith, rose, behind);
  change = λ e. let other : ¬ HaveAgreed new = subst (λ (r : Reply). IfErr r (IsFaultOfReads old new)) e tells in other sure;
}

-- that of an edit
pub edit_comes : (old new last : Reads) (room now : ℕ) (reply : Result (Option ℕ) Refusal) → HaveAgreed new → new.failures ≤ last.failures → (reply ≡ Err edits.OutOfMemory → WasRefused room now)
    → IfErr reply (IsRefusalOfReads old new) → EditComesOf (meanwhile room old now last) reply
edit_comes old new last room now reply sure behind want tells = record {
  memory = want;
  read = λ e. let rose : old.failures < new.failures = subst (λ (r : Result (Option ℕ) Refusal). IfErr r (IsRefusalOfReads old new)) e tells in omega (arith, rose, behind);
  change = λ e. let other : ¬ HaveAgreed new = subst (λ (r : Result (Option ℕ) Refusal). IfErr r (IsRefusalOfReads old new)) e tells in other sure;
}

-- that of a look at one trace of a section
pub row_comes : (old new : Reads) (fault : ReadFault) → HaveAgreed new → IsFaultOfLook old new fault → QueryComesOf (read_meanwhile old new) (Err (ask_fault_of fault))
row_comes old new reads.ReadFailed sure rose = record { memory = λ e. absurd cc; read = λ _. rose; change = λ e. absurd cc }
row_comes old new reads.Changed sure other = absurd (other sure)
row_comes old new reads.TooLarge sure none = absurd none

-- that of a read at which a save ended
pub save_comes : (old new : Reads) (fault : ReadFault) → HaveAgreed new → IsFaultOfLook old new fault → ReadComesOf (read_meanwhile old new) fault
save_comes old new reads.ReadFailed sure rose = rose
save_comes old new reads.Changed sure other = absurd (other sure)
save_comes old new reads.TooLarge sure none = absurd none

-- ---- lines

module _ (A B : Causes) (follows : Follows A B) where
  pub cause_in : (wanting unread changed : Type 0) → ForCause A wanting unread changed → ForCause B wanting unread changed
  cause_in wanting unread changed told = record {
    memory = λ w. follows.memory (told.memory w);
    read = λ u. follows.read (told.read u);
    change = λ c. follows.change (told.change c);
  }

  pub section_printed_in : (s : State) (section : Section) (printed : Printed) → IsSectionPrinted A s section printed → IsSectionPrinted B s section printed
  section_printed_in s section printed (inl whole) = inl whole
  section_printed_in s section printed (inr short) = inr (record {
    before = short.before;
    some_left = short.some_left;
    lines = short.lines;
    rows = short.rows;
    fault = short.fault;
    unread = short.unread;
    comes_of = cause_in _ _ _ short.comes_of;
    text = short.text;
    refused = short.refused;
  })

  read_comes_in : (read : ReadFault) → ReadComesOf A read → ReadComesOf B read
  read_comes_in reads.ReadFailed comes = follows.read comes
  read_comes_in reads.Changed comes = follows.change comes
  read_comes_in reads.TooLarge none = none

  pub saves_part_in : (on_disk : Bool) (old new : Device) (bytes : List ℕ) (fault : SaveFault) → SavesPart A on_disk old new bytes fault → SavesPart B on_disk old new bytes fault
  saves_part_in on_disk old new bytes fault part = by fault.read part
    where
      by : (o : Option ReadFault) → MatchOption o (TakesPart old new bytes fault.written) (λ read. IsTrue on_disk × ReadComesOf A read × TakesFirst old new bytes fault.written)
          → MatchOption o (TakesPart old new bytes fault.written) (λ read. IsTrue on_disk × ReadComesOf B read × TakesFirst old new bytes fault.written)
      by None some = some
      by (Some read) (disk, comes, first) = (disk, read_comes_in read comes, first)

  pub printed_by_in : (s : State) (section : Option Section) (floats : Option FloatFormat) (reply : Reply) (printed : Printed) → IsPrintedBy A s section floats reply printed → IsPrintedBy B s section floats reply printed
  printed_by_in s None floats reply printed is = is
  printed_by_in s (Some section) floats reply printed is = section_printed_in s section printed is

  pub printed_in : (s : State) (query : Query) (reply : Reply) (printed : Printed) → IsPrintedIn A s query reply printed → IsPrintedIn B s query reply printed
  printed_in s query reply printed is = printed_by_in s (section_asked query reply) (floats_asked s query) reply printed is

  pub command_in : (old : State) (command : Command) (printed : Printed) (new : State) → CommandStep A old command printed new → CommandStep B old command printed new
  command_in old (Apply edit) printed new (reply, step, is, told, comes) = (reply, step, is, told, cause_in _ _ _ comes)
  command_in old (Ask query) printed new (reply, is, prints, same, comes, words) =
      (reply, is, printed_in old query reply printed prints, same, cause_in _ _ _ comes, λ e. follows.memory (words e))

  read_in : (old : State) (read : Result (Option Command) LineFault) (printed : Printed) (new : State) → ReadStep A old read printed new → ReadStep B old read printed new
  read_in old (Ok None) printed new step = step
  read_in old (Ok (Some command)) printed new step = command_in old command printed new step
  read_in old (Err fault) printed new (is, same, want) = (is, same, λ e. follows.memory (want e))

  pub line_in : (old : State) (line : List ℕ) (printed : Printed) (new : State) → LineStep A old line printed new → LineStep B old line printed new
  line_in old line printed new (read, parsed, step) = (read, parsed, read_in old read printed new step)

  pub lines_in : (old : State) (lines : List (List ℕ)) (printed : List Printed) (new : State) → LineSteps A old lines printed new → LineSteps B old lines printed new
  lines_in old [] [] new same = same
  lines_in old [] (p ∷ ps) new none = absurd none
  lines_in old (line ∷ lines) [] new none = absurd none
  lines_in old (line ∷ lines) (p ∷ ps) new (mid, first, rest) = (mid, line_in old line p mid first, lines_in mid lines ps new rest)

  pub runs_in : (old new : State) (script : List ℕ) (stop : Bool) (before after : Device) (end : LinesEnd) → RunsLines A old new script stop before after end → RunsLines B old new script stop before after end
  runs_in old new script stop before after (Whole refused) (text, lines, taken) = (
    text,
    record {
      printed = lines.printed;
      steps = lines_in old _ lines.printed new lines.steps;
      text_is = lines.text_is;
      number_is = lines.number_is;
      goes_on = lines.goes_on;
    },
    taken,
  )
  runs_in old new script stop before after (Stopped line) (text, lines, taken, asked) = (
    text,
    record {
      before = lines.before;
      last = lines.last;
      steps = lines_in old _ _ new lines.steps;
      line_is = lines.line_is;
      text_is = lines.text_is;
      none_before = lines.none_before;
      refused_last = lines.refused_last;
    },
    taken,
    asked,
  )
  runs_in old new script stop before after (Answers written) (text, taken, told, lines, part) = (
    text,
    taken,
    told,
    record {
      before = lines.before;
      last = lines.last;
      steps = lines_in old _ _ new lines.steps;
      text_is = lines.text_is;
      goes_on = lines.goes_on;
      taken_before = lines.taken_before;
      not_taken = lines.not_taken;
    },
    part,
  )

-- of whatever causes, they are lines
pub whatever_cause : (why : Causes) → (old : State) (lines : List (List ℕ)) (printed : List Printed) (new : State) → LineSteps why old lines printed new → LineSteps any_cause old lines printed new
whatever_cause why old lines printed new steps = lines_in why any_cause (all_follow why) old lines printed new steps

-- ---- the words of floats

pub no_section : (query : Query) (reply : Reply) (printed : Printed) → asks_for_section query ≡ true → LacksWords query reply printed → ⊥
no_section query (Ok answer) printed asked (other, refused) = let bad : true ≡ false = sym asked ∙ other in absurd cc
no_section query (Err fault) printed asked lacks = lacks

pub lacks_words : (query : Query) (reply : Reply) (printed : Printed) → LacksWords query reply printed → IsOk reply × IsTrue printed.is_refusal
lacks_words query (Ok answer) printed (other, refused) = (refl, refused)
lacks_words query (Err fault) printed lacks = absurd lacks

-- what is printed for a query that is for no section
pub printed_other : (why : Causes) (s : State) (query : Query) (floats : Option FloatFormat) (reply : Reply) (printed : Printed) → asks_for_section query ≡ false → floats ≡ floats_asked s query
    → IsPrintedOf floats reply printed → IsPrintedIn why s query reply printed
printed_other why s query floats reply printed other is prints =
    subst (λ (b : Bool). IsPrintedBy why s (if b then section_in reply else None) (floats_asked s query) reply printed) (sym other)
    (subst (λ (f : Option FloatFormat). IsPrintedOf f reply printed) is prints)
