-- The command of a line.
use Rattle.std.specs.Prelude.{◌≡◌, ◌⊎◌, ℕ, not, List, [], ◌∷◌, bytes_eq, codes, Option, Some, None, Result, Ok, Err, if◌then◌else◌}
use Rattle.std.specs.Str.{is_utf8}
use Rattle.std.specs.Map.{lookup}
use Rattle.bench_rules.specs.declared.field.Field.{Field}
use Rattle.bench_rules.specs.declared.field.Field.TheVariants as fields
use Rattle.bench_rules.specs.declared.operand.Operand.{Operand}
use Rattle.bench_rules.specs.declared.operand.Operand.TheVariants as operands
use Rattle.bench_rules.specs.declared.condition.Condition.{Condition}
use Rattle.bench_rules.specs.declared.edit.Edit.{Edit}
use Rattle.bench_rules.specs.declared.edit.Edit.TheVariants as edits
use Rattle.bench_rules.specs.declared.query.Query.{Query}
use Rattle.bench_rules.specs.declared.side.Side.{Side}
use Rattle.bench_rules.specs.declared.side.Side.TheVariants as sides
use Rattle.bench_rules.specs.declared.query.Query.TheVariants as queries
use Rattle.script_words.specs.declared.command.Command.{Command}
use Rattle.script_words.specs.declared.command.Command.TheVariants.{Apply, Ask}
use Rattle.script_words.specs.declared.line_fault.LineFault.{LineFault}
use Rattle.script_words.specs.declared.line_fault.LineFault.TheVariants.{Unknown, Number, NotText, OutOfMemory}
use Rattle.script_words.specs.Words.{words_of, behind_word, text_behind_word, is_note}
use Rattle.script_words.specs.Numbers.{number_of, position_of, trace_of, new_place_of}
use Rattle.float_codes.specs.declared.float_format.FloatFormat.{FloatFormat}
use Rattle.script_words.specs.MapCommands.{read_map}
use Rattle.script_words.specs.MoveCommands.{read_move}
use Rattle.script_words.specs.Readers.{Reader, name_of, field_of, alone, one, two, one_and_text, two_and_numbers, tail_of}
use Rattle.script_words.specs.declared.range_command.RangeCommand.TheVariants.{Fill}
use Rattle.script_words.specs.RangeCommands.{header_commands, read_ranged}

-- ---- the commands

-- `get P FIELD`
abbrev pub read_get : ℕ → Reader Command
read_get traces = two (trace_of traces) field_of (λ p field. Ask (queries.Get p field))

-- `bin FIELD NUMBER`
abbrev pub read_bin : Reader Command
read_bin = two field_of number_of (λ field value. Apply (edits.SetBin field value))

-- `getbin FIELD`
abbrev pub read_getbin : Reader Command
read_getbin = one field_of (λ field. Ask (queries.GetBin field))

-- `declare`
abbrev pub read_declare : Reader Command
read_declare = alone (Apply edits.Declare)

-- `drop tail`
abbrev pub read_drop : Reader Command
read_drop = one tail_of (λ _. Apply edits.DropTail)

-- `text L TEXT`: the text is what stands behind L in the rest of the line, further blanks included
abbrev pub read_text : List ℕ → Reader Command
read_text rest = one_and_text position_of (λ q. Apply (edits.SetText q (text_behind_word rest)))

-- `line B L`
abbrev pub read_line : Reader Command
read_line = two position_of position_of (λ block q. Ask (queries.Line block q))

-- `lines B`
abbrev pub read_lines : Reader Command
read_lines = one position_of (λ block. Ask (queries.Lines block))

-- `code B`
abbrev pub read_code : Reader Command
read_code = one position_of (λ block. Ask (queries.Code block))

-- `stanzas`
abbrev pub read_stanzas : Reader Command
read_stanzas = alone (Ask queries.Stanzas)

-- `unmap NAME`
abbrev pub read_unmap : Reader Command
read_unmap = one name_of (λ name. Apply (edits.Unmap name))

-- `fields`
abbrev pub read_fields : Reader Command
read_fields = alone (Ask queries.Fields)

-- `info`
abbrev pub read_info : Reader Command
read_info = alone (Ask queries.Info)

-- `sample P K`
abbrev pub read_sample : ℕ → Reader Command
read_sample traces = two (trace_of traces) position_of (λ p k. Ask (queries.Sample p k))

-- `patch P K NUMBER ..`; the format of samples that are floats comes first
abbrev pub read_patch : Option FloatFormat → ℕ → Reader Command
read_patch floats traces = two_and_numbers floats (trace_of traces) position_of (λ p k values. Apply (edits.Patch p k values))

-- `blank P`
abbrev pub read_blank : ℕ → Reader Command
read_blank traces = one (new_place_of traces) (λ p. Apply (edits.Blank p))

-- `copy Q P`
abbrev pub read_copy : ℕ → Reader Command
read_copy traces = two (trace_of traces) (new_place_of traces) (λ q p. Apply (edits.Copy q p))

-- `resize P NUMBER`
abbrev pub read_resize : ℕ → Reader Command
read_resize traces = two (trace_of traces) number_of (λ p count. Apply (edits.Resize p count))

-- each command's word with what reads the words behind it, which stand in this rest of the line; the format of samples that are floats comes first,
-- and then the number of traces, as it is in front of the line
abbrev pub commands : Option FloatFormat → ℕ → List ℕ → List (List ℕ × Reader Command)
commands floats traces rest =
    (codes "get", read_get traces)
    ∷ (codes "bin", read_bin)
    ∷ (codes "getbin", read_getbin)
    ∷ (codes "declare", read_declare)
    ∷ (codes "drop", read_drop)
    ∷ (codes "text", read_text rest)
    ∷ (codes "line", read_line)
    ∷ (codes "lines", read_lines)
    ∷ (codes "code", read_code)
    ∷ (codes "stanzas", read_stanzas)
    ∷ (codes "map", read_map)
    ∷ (codes "unmap", read_unmap)
    ∷ (codes "fields", read_fields)
    ∷ (codes "info", read_info)
    ∷ (codes "sample", read_sample traces)
    ∷ (codes "patch", read_patch floats traces)
    ∷ (codes "fill", read_ranged floats traces (Fill floats))
    ∷ (codes "blank", read_blank traces)
    ∷ (codes "copy", read_copy traces)
    ∷ (codes "move", read_move traces)
    ∷ (codes "resize", read_resize traces)
    ∷ header_commands floats traces

-- the reader's command, where the word has a reader
abbrev pub read_by : {C : Type 0} → Option (Reader C) → List (List ℕ) → Result C LineFault
read_by None words = Err Unknown
read_by (Some reader) words = reader words

-- the command of a first word and of what stands behind it
abbrev pub command_of : Option FloatFormat → ℕ → List ℕ → List ℕ → Result Command LineFault
command_of floats traces word rest = read_by (lookup (bytes_eq word) (commands floats traces rest)) (words_of rest)

-- a command that was read
abbrev pub some_command : {C : Type 0} → Result C LineFault → Result (Option C) LineFault
some_command (Ok command) = Ok (Some command)
some_command (Err fault) = Err fault

-- what a line with these words gives, where this gives the command of a first word and of what stands behind it: nothing, a command,
-- or the first fault
abbrev pub words_by : {C : Type 0} → (List ℕ → List ℕ → Result C LineFault) → List ℕ → List (List ℕ) → Result (Option C) LineFault
words_by command line [] = Ok None
words_by command line (word ∷ words) = if is_note word then Ok None else some_command (command word (behind_word line))

-- what a line with these words gives: nothing, a command, or the first fault
abbrev pub words_result : Option FloatFormat → ℕ → List ℕ → List (List ℕ) → Result (Option Command) LineFault
words_result floats traces line words = words_by (command_of floats traces) line words

-- what a line gives: nothing, a command, or the first fault
abbrev pub line_result : Option FloatFormat → ℕ → List ℕ → Result (Option Command) LineFault
line_result floats traces line = if not (is_utf8 line) then Err NotText else words_result floats traces line (words_of line)

-- ---- want of memory

-- a field that is a name holds a text
abbrev pub IsName : Field → Type 0
IsName (fields.Place place) = ⊥
IsName (fields.Name name) = Unit {0}

-- what is read as a field: S03 for none, else the field, or want of memory for a name
abbrev pub IsFieldRead : Option Field → Result Field LineFault → Type 0
IsFieldRead None result = result ≡ Err Number
IsFieldRead (Some field) result = (result ≡ Ok field) ⊎ ((result ≡ Err OutOfMemory) × IsName field)

-- an operand that is a name holds a text
abbrev pub OperandHoldsMemory : Operand → Type 0
OperandHoldsMemory (operands.Number x) = ⊥
OperandHoldsMemory (operands.Field field) = IsName field

-- what is read as an operand: S03 for none, else the operand, or want of memory for a name
abbrev pub IsOperandRead : Option Operand → Result Operand LineFault → Type 0
IsOperandRead None result = result ≡ Err Number
IsOperandRead (Some operand) result = (result ≡ Ok operand) ⊎ ((result ≡ Err OutOfMemory) × OperandHoldsMemory operand)

-- a side that is a name holds a text
abbrev pub SideHoldsMemory : Side → Type 0
SideHoldsMemory (sides.Operand operand) = OperandHoldsMemory operand
SideHoldsMemory (sides.Decimal amount) = ⊥

-- what is read as a side: S03 for none, else the side, or want of memory for a name
abbrev pub IsSideRead : Option Side → Result Side LineFault → Type 0
IsSideRead None result = result ≡ Err Number
IsSideRead (Some side) result = (result ≡ Ok side) ⊎ ((result ≡ Err OutOfMemory) × SideHoldsMemory side)

-- what is read as a condition: S03 for none, else the condition, or want of memory
abbrev pub IsConditionRead : Option Condition → Result Condition LineFault → Type 0
IsConditionRead None result = result ≡ Err Number
IsConditionRead (Some condition) result = (result ≡ Ok condition) ⊎ (result ≡ Err OutOfMemory)

-- what is read as a list: S03 for none, else the list, or want of memory
abbrev pub IsListRead : {X : Type 0} → Option (List X) → Result (List X) LineFault → Type 0
IsListRead None result = result ≡ Err Number
IsListRead (Some items) result = (result ≡ Ok items) ⊎ (result ≡ Err OutOfMemory)

-- an edit that holds a text or a list
abbrev pub EditHoldsMemory : Edit → Type 0
EditHoldsMemory (edits.Set p field x) = IsName field
EditHoldsMemory (edits.SetBin field x) = IsName field
EditHoldsMemory edits.Declare = ⊥
EditHoldsMemory edits.DropTail = ⊥
EditHoldsMemory (edits.SetText q text) = Unit {0}
EditHoldsMemory (edits.Map name field) = Unit {0}
EditHoldsMemory (edits.MapAs mapping) = ⊥
EditHoldsMemory (edits.Unmap name) = Unit {0}
EditHoldsMemory (edits.Patch p k values) = Unit {0}
EditHoldsMemory (edits.Blank p) = ⊥
EditHoldsMemory (edits.Copy q p) = ⊥
EditHoldsMemory (edits.Delete p) = ⊥
EditHoldsMemory (edits.Move a b) = ⊥
EditHoldsMemory (edits.MoveBlock a b to) = ⊥
EditHoldsMemory (edits.Resize p count) = ⊥
EditHoldsMemory (edits.Renumber a b field first step) = IsName field
EditHoldsMemory (edits.Compute a b field source steps) = Unit {0}
EditHoldsMemory (edits.Sort a b fields falls) = Unit {0}
EditHoldsMemory (edits.OfChosen c edit) = Unit {0}

-- a query that holds a text or a list
abbrev pub QueryHoldsMemory : Query → Type 0
QueryHoldsMemory queries.Count = ⊥
QueryHoldsMemory queries.Info = ⊥
QueryHoldsMemory (queries.Get p field) = IsName field
QueryHoldsMemory (queries.GetBin field) = IsName field
QueryHoldsMemory (queries.Line b q) = ⊥
QueryHoldsMemory (queries.Code b) = ⊥
QueryHoldsMemory queries.Stanzas = ⊥
QueryHoldsMemory queries.Fields = ⊥
QueryHoldsMemory (queries.Sample p k) = ⊥
QueryHoldsMemory (queries.Geometry p) = ⊥
QueryHoldsMemory (queries.Stat p) = ⊥
QueryHoldsMemory (queries.Fold i c) = ⊥
QueryHoldsMemory queries.Grid = ⊥
QueryHoldsMemory queries.Inlines = ⊥
QueryHoldsMemory queries.Crosslines = ⊥
QueryHoldsMemory queries.Histogram = ⊥
QueryHoldsMemory (queries.Range quantity) = ⊥
QueryHoldsMemory queries.Totals = ⊥
QueryHoldsMemory (queries.Slice k) = ⊥
QueryHoldsMemory queries.Faults = ⊥
QueryHoldsMemory queries.Problems = ⊥
QueryHoldsMemory queries.Survey = ⊥
QueryHoldsMemory (queries.Lines b) = ⊥
QueryHoldsMemory (queries.Table a b fields) = Unit {0}
QueryHoldsMemory (queries.Find a b field low high) = IsName field
QueryHoldsMemory (queries.Header p) = ⊥
QueryHoldsMemory (queries.Extremes a b) = ⊥
QueryHoldsMemory (queries.OfChosen c query) = Unit {0}

-- a command that holds a text or a list
abbrev pub HoldsMemory : Command → Type 0
HoldsMemory (Apply edit) = EditHoldsMemory edit
HoldsMemory (Ask query) = QueryHoldsMemory query

-- to read a command takes memory where it holds a text or a list
abbrev pub CommandTakesMemory : Result Command LineFault → Type 0
CommandTakesMemory (Ok command) = HoldsMemory command
CommandTakesMemory (Err fault) = ⊥

-- to read a line takes memory where it is a command that holds a text or a list
abbrev pub LineTakesMemory : Result (Option Command) LineFault → Type 0
LineTakesMemory (Ok None) = ⊥
LineTakesMemory (Ok (Some command)) = HoldsMemory command
LineTakesMemory (Err fault) = ⊥

-- what is read as a command: what it has to be, or want of memory where it holds a text or a list
abbrev pub IsRead : Result Command LineFault → Result Command LineFault → Type 0
IsRead expected result = (result ≡ expected) ⊎ ((result ≡ Err OutOfMemory) × CommandTakesMemory expected)

-- what is read from a line: what it gives, or want of memory where its command holds a text or a list
abbrev pub IsParsed : Option FloatFormat → ℕ → List ℕ → Result (Option Command) LineFault → Type 0
IsParsed floats traces line result = (result ≡ line_result floats traces line) ⊎ ((result ≡ Err OutOfMemory) × LineTakesMemory (line_result floats traces line))
