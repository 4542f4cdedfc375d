-- The command that binds names, from the words of a line.
use Rattle.std.specs.Prelude.{ℕ, List, [], ◌∷◌, bytes_eq, codes, Option, None, Ok}
use Rattle.std.specs.Map.{lookup}
use Rattle.std.specs.Option.{option_map_or}
use Rattle.bench_rules.specs.declared.edit.Edit.TheVariants as edits
use Rattle.bench_rules.specs.declared.mapping.Mapping.{Mapping}
use Rattle.bench_rules.specs.declared.mapping.Mapping.TheVariants.{Shot, Usual}
use Rattle.script_words.specs.declared.command.Command.{Command}
use Rattle.script_words.specs.declared.command.Command.TheVariants.{Apply}
use Rattle.script_words.specs.Readers.{Reader, name_of, target_of, two}

-- `map NAME FIELD`
abbrev pub read_map_name : Reader Command
read_map_name = two name_of target_of (λ name field. Apply (edits.Map name field))

-- `shot` or `usual`
abbrev pub mapping_of : List ℕ → Option Mapping
mapping_of word = lookup (bytes_eq word) ((codes "shot", Shot) ∷ (codes "usual", Usual) ∷ [])

-- the mapping that the words are, where one word is one
abbrev pub mapping_in : List (List ℕ) → Option Mapping
mapping_in (word ∷ []) = mapping_of word
mapping_in (v ∷ w ∷ words) = None
mapping_in [] = None

-- `map shot`, `map usual`, or `map NAME FIELD`
abbrev pub read_map : Reader Command
read_map words = option_map_or (λ mapping. Ok (Apply (edits.MapAs mapping))) (mapping_in words) (read_map_name words)
