-- The commands on a range of traces, from the words of a line.
use Rattle.std.specs.Prelude.{ℕ, pos, ◌||◌, ◌==◌, List, [], ◌∷◌, Option, Some, length, codes, if◌then◌else◌}
use Rattle.bench_rules.specs.declared.chosen_edit.ChosenEdit.TheVariants as chosen_edits
use Rattle.bench_rules.specs.declared.chosen_query.ChosenQuery.TheVariants as chosen_queries
use Rattle.bench_rules.specs.declared.edit.Edit.TheVariants as edits
use Rattle.bench_rules.specs.declared.query.Query.TheVariants as queries
use Rattle.script_words.specs.declared.command.Command.{Command}
use Rattle.script_words.specs.declared.command.Command.TheVariants.{Apply, Ask}
use Rattle.script_words.specs.declared.range_command.RangeCommand.{RangeCommand}
use Rattle.script_words.specs.declared.range_command.RangeCommand.TheVariants.{Table, Find, Extremes, Set, Renumber, Compute, Delete, Count, Stats, Swap, Samples, Fill}
use Rattle.script_words.specs.HeaderCommands.{read_table, read_find, read_extremes, read_compute, read_header, read_sort}
use Rattle.float_codes.specs.declared.float_format.FloatFormat.{FloatFormat}
use Rattle.script_words.specs.Numbers.{number_of, position_of, sample_number, step_of, trace_of}
use Rattle.script_words.specs.Ranges.{is_all, of_range, ranged}
use Rattle.script_words.specs.Readers.{Reader, field_of, alone, one, two, three, four, five}
use Rattle.script_words.specs.ReportCommands.{report_commands}

-- `set P FIELD NUMBER`
abbrev pub read_set_one : ℕ → Reader Command
read_set_one traces = three (trace_of traces) field_of number_of (λ p field value. Apply (edits.Set p field value))

-- `set P Q FIELD NUMBER`: the same number in each, as one that is counted up by 0
abbrev pub read_set_each : ℕ → Reader Command
read_set_each traces = four (trace_of traces) (trace_of traces) field_of number_of (λ a b field value. Apply (edits.Renumber a b field value (pos 0)))

-- `renumber P Q FIELD NUMBER NUMBER`
abbrev pub read_renumber : ℕ → Reader Command
read_renumber traces = five (trace_of traces) (trace_of traces) field_of number_of number_of (λ a b field first step. Apply (edits.Renumber a b field first step))

-- `delete P`
abbrev pub read_delete_one : ℕ → Reader Command
read_delete_one traces = one (trace_of traces) (λ p. Apply (edits.Delete p))

-- `delete P Q`
abbrev pub read_delete_each : ℕ → Reader Command
read_delete_each traces = two (trace_of traces) (trace_of traces) (λ a b. Apply (edits.OfChosen (record { traces = Some (a, b); conditions = [] }) chosen_edits.Delete))

-- `swap P Q FIELD FIELD`
abbrev pub read_swap : ℕ → Reader Command
read_swap traces =
    four (trace_of traces) (trace_of traces) field_of field_of (λ a b first second. Apply (edits.OfChosen (record { traces = Some (a, b); conditions = [] }) (chosen_edits.Swap first second)))

-- `fill P Q FROM TO NUMBER`; the format of samples that are floats comes first
abbrev pub read_fill : Option FloatFormat → ℕ → Reader Command
read_fill floats traces =
    five (trace_of traces) (trace_of traces) position_of position_of (sample_number floats) (λ a b first last value. Apply (edits.OfChosen (record { traces = Some (a, b); conditions = [] }) (chosen_edits.Fill first last value)))

-- `count`
abbrev pub read_count : Reader Command
read_count = alone (Ask queries.Count)

-- `count P Q`, in front of conditions
abbrev pub read_count_each : ℕ → Reader Command
read_count_each traces = two (trace_of traces) (trace_of traces) (λ a b. Ask (queries.OfChosen (record { traces = Some (a, b); conditions = [] }) chosen_queries.Count))

-- `stats P Q`
abbrev pub read_stats_each : ℕ → Reader Command
read_stats_each traces = two (trace_of traces) (trace_of traces) (λ a b. Ask (queries.OfChosen (record { traces = Some (a, b); conditions = [] }) chosen_queries.Stats))

-- samples FROM to TO by a step of traces P to Q
abbrev pub samples_each : (a b from to step : ℕ) → Command
samples_each a b from to step =
    Ask (queries.OfChosen (record { traces = Some (a, b); conditions = [] }) (chosen_queries.Samples (record { from = from; to = to; step = step })))

-- `samples P Q FROM TO`: each of them
abbrev pub read_samples_plain : ℕ → Reader Command
read_samples_plain traces = four (trace_of traces) (trace_of traces) position_of position_of (λ a b from to. samples_each a b from to 1)

-- `samples P Q FROM TO STEP`
abbrev pub read_samples_by_step : ℕ → Reader Command
read_samples_by_step traces = five (trace_of traces) (trace_of traces) position_of position_of step_of samples_each

-- the number of words tells which
abbrev pub read_samples : ℕ → Reader Command
read_samples traces words = if length words == 5 then read_samples_by_step traces words else read_samples_plain traces words

-- the command, where two words tell its range
abbrev pub read_each : ℕ → RangeCommand → Reader Command
read_each traces Table = read_table traces
read_each traces Find = read_find traces
read_each traces Extremes = read_extremes traces
read_each traces Set = read_set_each traces
read_each traces Renumber = read_renumber traces
read_each traces Compute = read_compute traces
read_each traces Delete = read_delete_each traces
read_each traces Count = read_count_each traces
read_each traces Stats = read_stats_each traces
read_each traces Swap = read_swap traces
read_each traces Samples = read_samples traces
read_each traces (Fill floats) = read_fill floats traces

-- `set` without conditions: of one trace, or of a range where `all` or the number of words tells one
abbrev pub read_set : ℕ → Reader Command
read_set traces words = if is_all words || length words == 4 then of_range traces (read_set_each traces) words else read_set_one traces words

-- `delete` without conditions: of one trace, or of a range where `all` or the number of words tells one
abbrev pub read_delete : ℕ → Reader Command
read_delete traces words = if is_all words || length words == 2 then of_range traces (read_delete_each traces) words else read_delete_one traces words

-- the command without conditions
abbrev pub read_plain : ℕ → RangeCommand → Reader Command
read_plain traces Set = read_set traces
read_plain traces Delete = read_delete traces
read_plain traces Count = read_count
read_plain traces which = of_range traces (read_each traces which)

-- the command, with conditions or without; the format of samples that are floats comes first
abbrev pub read_ranged : Option FloatFormat → ℕ → RangeCommand → Reader Command
read_ranged floats traces which = ranged floats traces (read_each traces which) (read_plain traces which)

-- each word of the commands on the headers of traces with what reads the words behind it, and then those of the reports; a sort has no conditions
abbrev pub header_commands : Option FloatFormat → ℕ → List (List ℕ × Reader Command)
header_commands floats traces =
    (codes "table", read_ranged floats traces Table)
    ∷ (codes "find", read_ranged floats traces Find)
    ∷ (codes "extremes", read_ranged floats traces Extremes)
    ∷ (codes "set", read_ranged floats traces Set)
    ∷ (codes "renumber", read_ranged floats traces Renumber)
    ∷ (codes "compute", read_ranged floats traces Compute)
    ∷ (codes "delete", read_ranged floats traces Delete)
    ∷ (codes "count", read_ranged floats traces Count)
    ∷ (codes "stats", read_ranged floats traces Stats)
    ∷ (codes "samples", read_ranged floats traces Samples)
    ∷ (codes "swap", read_ranged floats traces Swap)
    ∷ (codes "sort", of_range traces (read_sort traces))
    ∷ (codes "header", read_header traces)
    ∷ report_commands traces
