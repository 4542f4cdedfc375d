-- The commands on the headers of traces, from the words of a line.
use Rattle.std.specs.Prelude.{ℕ, ◌%◌, ◌==◌, ◌&&◌, Bool, List, nat_le, nat_lt, nat_eq, length, drop, map, Option, option_map, codes, if◌then◌else◌}
use Rattle.std.specs.List.{starts_with}
use Rattle.bench_rules.specs.declared.edit.Edit.TheVariants as edits
use Rattle.bench_rules.specs.declared.query.Query.TheVariants as queries
use Rattle.bench_rules.specs.declared.field.Field.{Field}
use Rattle.bench_rules.specs.ManyTraces.{each_of}
use Rattle.script_words.specs.declared.command.Command.{Command}
use Rattle.script_words.specs.declared.command.Command.TheVariants.{Apply, Ask}
use Rattle.script_words.specs.Numbers.{number_of, trace_of}
use Rattle.script_words.specs.Readers.{Reader, field_of, operand_of, fields_of, steps_of, one, two, five, two_and_list, four_and_list}

-- a table has 1 to 64 fields
abbrev pub is_field_count : ℕ → Bool
is_field_count n = nat_le 1 n && nat_le n 64

-- `table P Q FIELD ..`
abbrev pub read_table : ℕ → Reader Command
read_table traces = two_and_list (trace_of traces) (trace_of traces) is_field_count fields_of (λ a b fields. Ask (queries.Table a b fields))

-- `find P Q FIELD NUMBER NUMBER`
abbrev pub read_find : ℕ → Reader Command
read_find traces = five (trace_of traces) (trace_of traces) field_of number_of number_of (λ a b field low high. Ask (queries.Find a b field low high))

-- `header P`
abbrev pub read_header : ℕ → Reader Command
read_header traces = one (trace_of traces) (λ p. Ask (queries.Header p))

-- `extremes P Q`
abbrev pub read_extremes : ℕ → Reader Command
read_extremes traces = two (trace_of traces) (trace_of traces) (λ a b. Ask (queries.Extremes a b))

-- up to 8 operations, of two words each
abbrev pub is_step_count : ℕ → Bool
is_step_count n = nat_le n 16 && n % 2 == 0

-- `compute P Q FIELD SOURCE [OP OPERAND] ..`
abbrev pub read_compute : ℕ → Reader Command
read_compute traces = four_and_list (trace_of traces) (trace_of traces) field_of operand_of is_step_count steps_of (λ a b field source steps. Apply (edits.Compute a b field source steps))

-- the numbers of the word's field are to fall: `-` stands in front of it; `-` alone is a name
abbrev pub is_falling : List ℕ → Bool
is_falling word = nat_lt 1 (length word) && starts_with nat_eq word (codes "-")

-- the word without a `-` in front of its field
abbrev pub without_sign : List ℕ → List ℕ
without_sign word = if is_falling word then drop 1 word else word

-- one field for each word, with `-` in front of it or without, if each is one
abbrev pub sorted_fields_of : List (List ℕ) → Option (List Field)
sorted_fields_of words = each_of (λ word. field_of (without_sign word)) words

-- the fields of a sort, and whether the numbers of each are to fall
abbrev pub sort_keys_of : List (List ℕ) → Option (List Field × List Bool)
sort_keys_of words = option_map (λ fields. (fields, map is_falling words)) (sorted_fields_of words)

-- a sort is by 1 to 8 fields
abbrev pub is_key_count : ℕ → Bool
is_key_count n = nat_le 1 n && nat_le n 8

-- `sort P Q FIELD ..`
abbrev pub read_sort : ℕ → Reader Command
read_sort traces = two_and_list (trace_of traces) (trace_of traces) is_key_count sort_keys_of (λ a b keys. Apply (edits.Sort a b keys.0 keys.1))
