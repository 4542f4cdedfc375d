-- How often a line, and a run, looks at traces.
use Rattle.std.specs.Prelude.{ℕ, ◌≡◌, ◌⊎◌, ◌+◌, ◌≤◌, List, [], ◌∷◌, ◌++◌, length, take, Option, Some, None, Result, Ok, Err}
use Rattle.edit_overlay.specs.CountedVolume.{RisesAtMost}
use Rattle.frame_cut.specs.Traces.{count_of}
use Rattle.bench_rules.specs.declared.query.Query.{Query}
use Rattle.bench_rules.specs.declared.query.Query.TheVariants as queries
use Rattle.bench_rules.specs.declared.chosen_query.ChosenQuery.TheVariants.{Samples}
use Rattle.bench_rules.specs.Conditions.{chosen}
use Rattle.bench_rules.specs.FloatStatistics.{float_format}
use Rattle.bench_rules.specs.Looks.{edit_looks, looks_at_chosen, query_looks}
use Rattle.bench_rules.specs.State.{State}
use Rattle.script_words.specs.declared.command.Command.{Command}
use Rattle.script_words.specs.declared.command.Command.TheVariants.{Apply, Ask}
use Rattle.script_words.specs.declared.line_fault.LineFault.{LineFault}
use Rattle.script_words.specs.Commands.{line_result}
use Rattle.script_words.specs.Words.{script_lines}
use Rattle.line_texts.specs.Devices.{Device, Takes, TakesPart}
use Rattle.refusal_texts.specs.declared.script_fault.ScriptFault.{ScriptFault}
use Rattle.script_text.specs.declared.reply.Reply.{Reply as Held}
use Rattle.script_text.specs.declared.reply.Reply.TheVariants as replies
use Rattle.script_text.specs.Replies.{Printed}
use Rattle.script_run.specs.Causes.{any_cause}
use Rattle.script_run.specs.Loading.{IsScriptRefused, ReadsScript}
use Rattle.script_run.specs.Runs.{LineStep, StepsBy, printed_text}

-- each trace of a section is looked at once, when its line is written
abbrev pub row_looks : State → Query → ℕ
row_looks s (queries.OfChosen c (Samples range)) = looks_at_chosen (λ n. n) (chosen s.volume s.fields c)
row_looks s query = 0

-- the most traces that a command looks at, where the slices with these numbers are kept
abbrev pub command_looks : State → List ℕ → Command → ℕ
command_looks s kept (Apply edit) = edit_looks s edit
command_looks s kept (Ask query) = query_looks s kept query + row_looks s query

-- that of a line that was read; one without a command looks at none
abbrev pub read_looks : State → List ℕ → Result (Option Command) LineFault → ℕ
read_looks s kept (Ok (Some command)) = command_looks s kept command
read_looks s kept (Ok None) = 0
read_looks s kept (Err fault) = 0

-- the most traces that a line looks at
abbrev pub line_looks : State → List ℕ → List ℕ → ℕ
line_looks s kept line = read_looks s kept (line_result (float_format s.volume.head.format) (count_of s.volume) line)

-- the looks that a held reply still takes when it is written: one at each trace of its section
abbrev pub held_rows : Held → ℕ
held_rows (replies.Section section) = length section.traces
held_rows reply = 0

-- ---- lines one after another

-- a state, and how often traces had been looked at
pub record LookedState : Type 0 where
  pub state : State
  pub looks : ℕ

-- the state after so many looks
abbrev pub after_looks : State → ℕ → LookedState
after_looks s looks = record { state = s; looks = looks }

-- a line with what it prints, which looks at no more traces than it may where no slice is kept; why it is E11, E14 or E15 is not asked here
abbrev pub LookingStep : LookedState → List ℕ → Printed → LookedState → Type 0
LookingStep old line printed new = LineStep any_cause old.state line printed new.state × RisesAtMost old.looks new.looks (line_looks old.state [] line)

-- the writer took all that was printed; or all but the last, and not all of that
abbrev pub TakesUpToLast : Device → Device → List Printed → Type 0
TakesUpToLast before after printed =
    Takes before after (printed_text printed)
    ⊎ ((front : List Printed) × (last : Printed) × (taken : ℕ) × (printed ≡ front ++ last ∷ []) × (length (printed_text front) ≤ taken) × TakesPart before after (printed_text printed) taken)

-- the first of these lines led from one state to another, each by such a step, and the writer of the answers took what they print, or a part of it
-- that ends in the last
pub record LooksOfLines (before after : Device) (old : LookedState) (lines : List (List ℕ)) (new : LookedState) : Type 0 where
  pub printed : List Printed
  pub steps : StepsBy LookingStep old (take (length printed) lines) printed new
  pub taken : TakesUpToLast before after printed

-- behind the load of a run the script was read, and the first of its lines led from one state to another, each by such a step; or it was
-- refused, and nothing was looked at or changed
abbrev pub LooksOfRun : (script script_now before after : Device) → LookedState → LookedState → Type 0
LooksOfRun script script_now before after old new =
    ((text : List ℕ) × ReadsScript script script_now text × LooksOfLines before after old (script_lines text) new)
    ⊎ ((fault : ScriptFault) × IsScriptRefused script script_now fault × (new ≡ old))
