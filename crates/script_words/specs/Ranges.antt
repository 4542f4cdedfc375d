-- Commands on a range of traces: on all of them, and on those that meet conditions.
use Rattle.std.specs.Prelude.{ℕ, Bool, true, false, ◌&&◌, ◌==◌, is_some, List, [], ◌∷◌, bytes_eq, codes, Option, Some, None, option_map, ok_or, Result, Ok, Err, if◌then◌else◌}
use Rattle.std.specs.Option.{option_map_or}
use Rattle.bench_rules.specs.declared.chosen.Chosen.{Chosen}
use Rattle.bench_rules.specs.declared.chosen_edit.ChosenEdit.{ChosenEdit}
use Rattle.bench_rules.specs.declared.chosen_edit.ChosenEdit.TheVariants as chosen_edits
use Rattle.bench_rules.specs.declared.chosen_query.ChosenQuery.{ChosenQuery}
use Rattle.bench_rules.specs.declared.chosen_query.ChosenQuery.TheVariants as chosen_queries
use Rattle.bench_rules.specs.declared.condition.Condition.{Condition}
use Rattle.bench_rules.specs.declared.edit.Edit.{Edit}
use Rattle.bench_rules.specs.declared.edit.Edit.TheVariants as edits
use Rattle.bench_rules.specs.declared.query.Query.{Query}
use Rattle.bench_rules.specs.declared.query.Query.TheVariants as queries
use Rattle.float_codes.specs.declared.float_format.FloatFormat.{FloatFormat}
use Rattle.script_words.specs.declared.command.Command.{Command}
use Rattle.script_words.specs.declared.command.Command.TheVariants.{Apply, Ask}
use Rattle.script_words.specs.declared.line_fault.LineFault.{LineFault}
use Rattle.script_words.specs.declared.line_fault.LineFault.TheVariants.{Words, Number}
use Rattle.script_words.specs.Conditions.{has_conditions, conditions_of, in_front, behind_where}
use Rattle.script_words.specs.Readers.{Reader}

-- ---- the words of a range

-- the words begin with `all`
abbrev pub is_all : List (List ℕ) → Bool
is_all [] = false
is_all (word ∷ words) = bytes_eq word (codes "all")

-- `all` stands for `1 last`
abbrev pub spelled : List (List ℕ) → List (List ℕ)
spelled [] = []
spelled (word ∷ words) = if bytes_eq word (codes "all") then codes "1" ∷ codes "last" ∷ words else word ∷ words

-- all of a file that has no traces
abbrev pub is_of_none : ℕ → List (List ℕ) → Bool
is_of_none traces words = is_all words && traces == 0

-- ---- the same of chosen traces

-- the range of an edit, and what it does to the traces of it; a sort of none does nothing
abbrev pub edit_parts : Edit → Option (Option (ℕ × ℕ) × ChosenEdit)
edit_parts (edits.Renumber a b field first step) = Some (Some (a, b), chosen_edits.Renumber field first step)
edit_parts (edits.Compute a b field source steps) = Some (Some (a, b), chosen_edits.Compute field source steps)
edit_parts (edits.Sort a b fields falls) = Some (Some (a, b), chosen_edits.Nothing fields)
edit_parts (edits.OfChosen c edit) = Some (c.traces, edit)
edit_parts edit = None

-- the range of a query, and what it asks of the traces of it
abbrev pub query_parts : Query → Option (Option (ℕ × ℕ) × ChosenQuery)
query_parts (queries.Table a b fields) = Some (Some (a, b), chosen_queries.Table fields)
query_parts (queries.Find a b field low high) = Some (Some (a, b), chosen_queries.Find field low high)
query_parts (queries.Extremes a b) = Some (Some (a, b), chosen_queries.Extremes)
query_parts (queries.OfChosen c query) = Some (c.traces, query)
query_parts query = None

-- a command on a range of traces
abbrev pub has_range : Command → Bool
has_range (Apply edit) = is_some (edit_parts edit)
has_range (Ask query) = is_some (query_parts query)

-- the traces of the range that meet the conditions; none of them in a file without traces
abbrev pub chosen_of : Bool → List Condition → Option (ℕ × ℕ) → Chosen
chosen_of none conditions range = record { traces = if none then None else range; conditions = conditions }

-- the command on those traces
abbrev pub under : Bool → List Condition → Command → Command
under none conditions (Apply edit) = option_map_or (λ p. Apply (edits.OfChosen (chosen_of none conditions p.0) p.1)) (edit_parts edit) (Apply edit)
under none conditions (Ask query) = option_map_or (λ p. Ask (queries.OfChosen (chosen_of none conditions p.0) p.1)) (query_parts query) (Ask query)

-- what is read, if it is a command, as the command on those traces
abbrev pub read_under : Bool → List Condition → Result Command LineFault → Result Command LineFault
read_under none conditions (Ok command) = Ok (under none conditions command)
read_under none conditions (Err fault) = Err fault

-- ---- commands on a range

-- the command of a range; in a file without traces that of all of them is one of no range
abbrev pub of_range : ℕ → Reader Command → Reader Command
of_range traces each words =
    if is_of_none traces words then read_under true [] (each (spelled words)) else each (spelled words)

-- what is read, if it is a command, on the traces that meet the conditions that these words are
abbrev pub by_conditions : Option FloatFormat → Bool → List (List ℕ) → Result Command LineFault → Result Command LineFault
by_conditions floats none words (Ok command) = ok_or (option_map (λ conditions. under none conditions command) (conditions_of floats words)) Number
by_conditions floats none words (Err fault) = Err fault

-- the command of the words in front of `where`, on the traces that meet the conditions behind it; wrong numbers of words are told first.
-- The format of samples that are floats comes first
abbrev pub of_conditions : Option FloatFormat → ℕ → Reader Command → List (List ℕ) → List (List ℕ) → Result Command LineFault
of_conditions floats traces each front behind =
    if has_conditions behind then by_conditions floats (is_of_none traces front) behind (each (spelled front)) else Err Words

-- the command of a line, by whether conditions stand in it
abbrev pub read_where : Option FloatFormat → ℕ → Reader Command → Reader Command → Option (List (List ℕ)) → Reader Command
read_where floats traces each plain None words = plain words
read_where floats traces each plain (Some behind) words = of_conditions floats traces each (in_front words) behind

-- a command that may have conditions: what reads its words without them, and what reads those in front of them
abbrev pub ranged : Option FloatFormat → ℕ → Reader Command → Reader Command → Reader Command
ranged floats traces each plain words = read_where floats traces each plain (behind_where words) words
