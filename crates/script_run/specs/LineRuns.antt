-- How the lines of a script end.
use Rattle.std.specs.Prelude.{◌≡◌, ℕ, Bool, IsTrue, List}
use Rattle.bench_rules.specs.State.{State}
use Rattle.script_run.specs.declared.lines_end.LinesEnd.{LinesEnd}
use Rattle.script_run.specs.declared.lines_end.LinesEnd.TheVariants.{Whole, Stopped, Answers}
use Rattle.line_texts.specs.Devices.{Device, Takes, TakesPart, count_in_64_bits}
use Rattle.script_run.specs.Causes.{Causes}
use Rattle.script_run.specs.Runs.{RunsWhole, StopsAt, BreaksOff}

-- the lines are run from one state to another, and the writer of the answers takes what they print, E11, E14 and E15 for these causes alone
abbrev pub RunsLines : Causes → State → State → List ℕ → Bool → Device → Device → LinesEnd → Type 0
RunsLines why old new script stop before after (Whole refused) =
    (text : List ℕ) × RunsWhole why old script stop text refused new × Takes before after text
RunsLines why old new script stop before after (Stopped line) =
    (text : List ℕ) × StopsAt why old script line text new × Takes before after text × IsTrue stop
RunsLines why old new script stop before after (Answers written) =
    (text : List ℕ) × (taken : ℕ) × (written ≡ count_in_64_bits taken) × BreaksOff why old script stop taken text new × TakesPart before after text taken
