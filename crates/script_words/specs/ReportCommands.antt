-- The queries about the survey and its samples, from the words of a line.
use Rattle.std.specs.Prelude.{ℕ, List, [], ◌∷◌, codes}
use Rattle.bench_rules.specs.declared.query.Query.TheVariants as queries
use Rattle.script_words.specs.declared.command.Command.{Command}
use Rattle.script_words.specs.declared.command.Command.TheVariants.{Ask}
use Rattle.script_words.specs.Numbers.{number_of, position_of, trace_of}
use Rattle.script_words.specs.Readers.{Reader, quantity_of, alone, one, two}

-- `geometry P`
abbrev pub read_geometry : ℕ → Reader Command
read_geometry traces = one (trace_of traces) (λ p. Ask (queries.Geometry p))

-- `stat P`
abbrev pub read_stat : ℕ → Reader Command
read_stat traces = one (trace_of traces) (λ p. Ask (queries.Stat p))

-- `fold NUMBER NUMBER`
abbrev pub read_fold : Reader Command
read_fold = two number_of number_of (λ i c. Ask (queries.Fold i c))

-- `grid`
abbrev pub read_grid : Reader Command
read_grid = alone (Ask queries.Grid)

-- `inlines`
abbrev pub read_inlines : Reader Command
read_inlines = alone (Ask queries.Inlines)

-- `crosslines`
abbrev pub read_crosslines : Reader Command
read_crosslines = alone (Ask queries.Crosslines)

-- `histogram`
abbrev pub read_histogram : Reader Command
read_histogram = alone (Ask queries.Histogram)

-- `range WHICH`
abbrev pub read_range : Reader Command
read_range = one quantity_of (λ w. Ask (queries.Range w))

-- `totals`
abbrev pub read_totals : Reader Command
read_totals = alone (Ask queries.Totals)

-- `slice K`
abbrev pub read_slice : Reader Command
read_slice = one position_of (λ k. Ask (queries.Slice k))

-- `faults`
abbrev pub read_faults : Reader Command
read_faults = alone (Ask queries.Faults)

-- `problems`
abbrev pub read_problems : Reader Command
read_problems = alone (Ask queries.Problems)

-- `survey`
abbrev pub read_survey : Reader Command
read_survey = alone (Ask queries.Survey)

-- each report's word with what reads the words behind it
abbrev pub report_commands : ℕ → List (List ℕ × Reader Command)
report_commands traces =
    (codes "geometry", read_geometry traces)
    ∷ (codes "stat", read_stat traces)
    ∷ (codes "fold", read_fold)
    ∷ (codes "grid", read_grid)
    ∷ (codes "inlines", read_inlines)
    ∷ (codes "crosslines", read_crosslines)
    ∷ (codes "histogram", read_histogram)
    ∷ (codes "range", read_range)
    ∷ (codes "totals", read_totals)
    ∷ (codes "slice", read_slice)
    ∷ (codes "faults", read_faults)
    ∷ (codes "problems", read_problems)
    ∷ (codes "survey", read_survey)
    ∷ []
