-- A script run over a volume, line by line.
use Rattle.std.specs.Prelude.{◌≡◌, ◌⊎◌, ℕ, Bool, true, false, if◌then◌else◌, IsTrue, ◌+◌, ◌<◌, ◌≤◌, List, [], ◌∷◌, ◌++◌, length, take, flat_map, count_by, Option, Some, None, Result, Ok, Err, IfOk, ⊤}
use Rattle.bench_rules.specs.declared.refusal.Refusal.{Refusal}
use Rattle.bench_rules.specs.State.{State}
use Rattle.bench_rules.specs.Steps.{Step, told_of}
use Rattle.bench_rules.specs.Answer.{Reply, IsReply}
use Rattle.bench_rules.specs.Conditions.{AreRising}
use Rattle.bench_rules.specs.FloatStatistics.{float_format}
use Rattle.bench_rules.specs.declared.query.Query.{Query}
use Rattle.bench_rules.specs.declared.query.Query.TheVariants as queries
use Rattle.bench_rules.specs.declared.chosen_query.ChosenQuery.{ChosenQuery}
use Rattle.bench_rules.specs.declared.chosen_query.ChosenQuery.TheVariants.{Samples, Stats}
use Rattle.bench_rules.specs.declared.ask_fault.AskFault.TheVariants.{OutOfMemory}
use Rattle.float_codes.specs.declared.float_format.FloatFormat.{FloatFormat}
use Rattle.frame_cut.specs.Traces.{count_of}
use Rattle.shown_floats.specs.declared.float_answer.FloatAnswer.{FloatAnswer}
use Rattle.shown_floats.specs.Shows.{Shows, IsList, IsOther}
use Rattle.script_words.specs.declared.command.Command.{Command}
use Rattle.script_words.specs.declared.command.Command.TheVariants.{Apply, Ask}
use Rattle.script_words.specs.declared.line_fault.LineFault.{LineFault}
use Rattle.script_words.specs.declared.line_fault.LineFault.TheVariants as line_faults
use Rattle.script_words.specs.Words.{script_lines}
use Rattle.script_words.specs.Commands.{IsParsed}
use Rattle.bench_rules.specs.declared.answer.Answer.TheVariants as answers
use Rattle.script_text.specs.declared.reply.Reply.{Reply as Held}
use Rattle.script_text.specs.declared.reply.Reply.TheVariants as replies
use Rattle.script_text.specs.Held.{printed_of}
use Rattle.bench_rules.specs.declared.section.Section.{Section}
use Rattle.script_run.specs.Causes.{Causes, EditComesOf, QueryComesOf}
use Rattle.script_run.specs.Sections.{IsSectionPrinted}
use Rattle.script_text.specs.Replies.{Printed, nothing, fault_reply, edit_reply, query_reply, float_reply}

-- whether the statistics of the samples of chosen traces are asked for
abbrev pub asks_for_stats : ChosenQuery → Bool
asks_for_stats Stats = true
asks_for_stats query = false

-- whether the answer to a query tells of samples; a section does not, whose samples are told behind it
abbrev pub tells_samples : Query → Bool
tells_samples (queries.Sample p k) = true
tells_samples (queries.Stat p) = true
tells_samples queries.Totals = true
tells_samples (queries.Slice k) = true
tells_samples queries.Problems = true
tells_samples (queries.OfChosen c query) = asks_for_stats query
tells_samples query = false

-- the format of the samples that the answer tells of, where they are floats
abbrev pub floats_asked : State → Query → Option FloatFormat
floats_asked s query = if tells_samples query then float_format s.volume.head.format else None

-- What a reply prints. Floats are printed as words that show them; a list of floats may be told to want memory for its words; an answer
-- about anything else is printed as ever.
abbrev pub IsPrintedOf : Option FloatFormat → Reply → Printed → Type 0
IsPrintedOf None reply printed = printed ≡ query_reply reply
IsPrintedOf (Some f) (Err fault) printed = printed ≡ query_reply (Err fault)
IsPrintedOf (Some f) (Ok answer) printed =
    ((shown : FloatAnswer) × Shows f answer shown × (printed ≡ float_reply shown))
    ⊎ (IsList answer × (printed ≡ query_reply (Err OutOfMemory)))
    ⊎ (IsOther answer × (printed ≡ query_reply (Ok answer)))

-- whether a query is for a section
abbrev pub asks_for_section : Query → Bool
asks_for_section (queries.OfChosen c (Samples range)) = true
asks_for_section query = false

-- the section that a reply is
abbrev pub section_in : Reply → Option Section
section_in (Ok (answers.Section section)) = Some section
section_in reply = None

-- the section that is asked for, where it is answered
abbrev pub section_asked : Query → Reply → Option Section
section_asked query reply = if asks_for_section query then section_in reply else None

-- of a section the samples are printed that its traces have at this volume, up to one that was not read for these causes alone; else what the reply prints
abbrev pub IsPrintedBy : Causes → State → Option Section → Option FloatFormat → Reply → Printed → Type 0
IsPrintedBy why s None floats reply printed = IsPrintedOf floats reply printed
IsPrintedBy why s (Some section) floats reply printed = IsSectionPrinted why s section printed

-- what the reply to a query prints at this volume
abbrev pub IsPrintedIn : Causes → State → Query → Reply → Printed → Type 0
IsPrintedIn why s query reply printed = IsPrintedBy why s (section_asked query reply) (floats_asked s query) reply printed

-- what a reply that is held prints at this volume; of a section its samples too
abbrev pub Prints : Causes → State → Held → Printed → Type 0
Prints why s (replies.Section section) printed = IsSectionPrinted why s section printed
Prints why s reply printed = printed ≡ printed_of reply

-- the traces of a section that is held are there
abbrev pub HasTraces : State → Held → Type 0
HasTraces s (replies.Section section) = AreRising 1 (count_of s.volume) section.traces
HasTraces s reply = ⊤

-- the query is answered, and yet the line is refused: there was no memory for the words of its floats. A section is left out: a read may
-- refuse one of its rows
abbrev pub LacksWords : Query → Reply → Printed → Type 0
LacksWords query (Ok answer) printed = (asks_for_section query ≡ false) × IsTrue printed.is_refusal
LacksWords query (Err fault) printed = ⊥

-- each of these may tell of want of memory (E11), of a read that failed (E14) and of a file that has changed (E15) for these causes alone
module _ (why : Causes) where
  -- a command with what it prints: an edit is one step, and tells of how many traces it was where it is one of chosen traces under
  -- conditions; a query changes nothing
  abbrev pub CommandStep : State → Command → Printed → State → Type 0
  CommandStep old (Apply edit) printed new =
      (reply : Result (Option ℕ) Refusal) × Step old edit reply new × (printed ≡ edit_reply reply) × IfOk reply (λ told. told ≡ told_of old edit)
      × EditComesOf why reply
  CommandStep old (Ask query) printed new =
      (reply : Reply) × IsReply old query reply × IsPrintedIn why old query reply printed × (new ≡ old)
      × QueryComesOf why reply × (LacksWords query reply printed → why.memory)

  -- a line that was read, with what it prints
  abbrev pub ReadStep : State → Result (Option Command) LineFault → Printed → State → Type 0
  ReadStep old (Ok None) printed new = (printed ≡ nothing) × (new ≡ old)
  ReadStep old (Ok (Some command)) printed new = CommandStep old command printed new
  ReadStep old (Err fault) printed new = (printed ≡ fault_reply fault) × (new ≡ old) × (fault ≡ line_faults.OutOfMemory → why.memory)

  -- a line with what it prints
  abbrev pub LineStep : State → List ℕ → Printed → State → Type 0
  LineStep old line printed new =
      (read : Result (Option Command) LineFault) × IsParsed (float_format old.volume.head.format) (count_of old.volume) line read × ReadStep old read printed new

-- ---- lines

module _ {S L : Type 0} where
  -- lines one after another, each by such a step, with what each prints
  abbrev pub StepsBy : (S → L → Printed → S → Type 0) → S → List L → List Printed → S → Type 0
  StepsBy step old [] [] new = new ≡ old
  StepsBy step old [] (p ∷ ps) new = ⊥
  StepsBy step old (line ∷ lines) [] new = ⊥
  StepsBy step old (line ∷ lines) (p ∷ ps) new = (mid : S) × step old line p mid × StepsBy step mid lines ps new

-- the lines one after another, with what each prints, E11, E14 and E15 for these causes alone
abbrev pub LineSteps : Causes → State → List (List ℕ) → List Printed → State → Type 0
LineSteps why old lines printed new = StepsBy (LineStep why) old lines printed new

-- all that the lines print
abbrev pub printed_text : List Printed → List ℕ
printed_text ps = flat_map (λ p. p.text) ps

-- how many lines are refused
abbrev pub refusals : List Printed → ℕ
refusals ps = count_by (λ p. p.is_refusal) ps

-- the whole script is run: what it prints, E11, E14 and E15 for these causes alone, and how many of its lines are refused; none, if a refusal stops it
pub record RunsWhole (why : Causes) (old : State) (script : List ℕ) (stop : Bool) (text : List ℕ) (number : ℕ) (new : State) : Type 0 where
  pub printed : List Printed
  pub steps : LineSteps why old (script_lines script) printed new
  pub text_is : text ≡ printed_text printed
  pub number_is : number ≡ refusals printed
  pub goes_on : IsTrue stop → number ≡ 0

-- the script is run up to this line, counted from 1, which is the first that is refused; E11, E14 and E15 for these causes alone
pub record StopsAt (why : Causes) (old : State) (script : List ℕ) (line : ℕ) (text : List ℕ) (new : State) : Type 0 where
  pub before : List Printed
  pub last : Printed
  pub steps : LineSteps why old (take line (script_lines script)) (before ++ last ∷ []) new
  pub line_is : line ≡ length before + 1
  pub text_is : text ≡ printed_text (before ++ last ∷ [])
  pub none_before : refusals before ≡ 0
  pub refused_last : IsTrue last.is_refusal

-- the script is run up to a line whose text the writer does not take whole: it takes `written` bytes of what is printed; E11, E14 and E15 for these causes alone
pub record BreaksOff (why : Causes) (old : State) (script : List ℕ) (stop : Bool) (written : ℕ) (text : List ℕ) (new : State) : Type 0 where
  pub before : List Printed
  pub last : Printed
  pub steps : LineSteps why old (take (length before + 1) (script_lines script)) (before ++ last ∷ []) new
  pub text_is : text ≡ printed_text (before ++ last ∷ [])
  pub goes_on : IsTrue stop → refusals before ≡ 0
  pub taken_before : length (printed_text before) ≤ written
  pub not_taken : written < length text
