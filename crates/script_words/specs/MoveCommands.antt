-- The command that moves traces, from the words of a line.
use Rattle.std.specs.Prelude.{ℕ, ◌-◌, ◌==◌, ◌&&◌, not, List, [], ◌∷◌, bytes_eq, codes, Option, Some, length, option_map, option_and_then, ok_or, Err, if◌then◌else◌}
use Rattle.bench_rules.specs.declared.edit.Edit.TheVariants as edits
use Rattle.script_words.specs.declared.command.Command.{Command}
use Rattle.script_words.specs.declared.command.Command.TheVariants.{Apply}
use Rattle.script_words.specs.declared.line_fault.LineFault.TheVariants.{Words, Number}
use Rattle.script_words.specs.Numbers.{position_of, trace_of}
use Rattle.script_words.specs.Ranges.{is_all}
use Rattle.script_words.specs.Readers.{Reader, two}

-- `move P TO`
abbrev pub read_move_one : ℕ → Reader Command
read_move_one traces = two (trace_of traces) (trace_of traces) (λ a b. Apply (edits.Move a b))

-- TO of a block of traces a to b, counted in the file without them; `last` is one behind the traces that are left
abbrev pub block_place_of : ℕ → (a b : ℕ) → List ℕ → Option ℕ
block_place_of traces a b word = if bytes_eq word (codes "last") then Some (traces - (b - a)) else position_of word

-- `move P Q TO`
abbrev pub read_move_block : ℕ → Reader Command
read_move_block traces (u ∷ v ∷ w ∷ []) =
    ok_or (option_and_then (λ a. option_and_then (λ b. option_map (λ to. Apply (edits.MoveBlock a b to)) (block_place_of traces a b w)) (trace_of traces v)) (trace_of traces u)) Number
read_move_block traces (t ∷ u ∷ v ∷ w ∷ words) = Err Words
read_move_block traces (v ∷ w ∷ []) = Err Words
read_move_block traces (w ∷ []) = Err Words
read_move_block traces [] = Err Words

-- `move P TO`, or `move P Q TO`, as the number of words tells; all traces have no other place
abbrev pub read_move : ℕ → Reader Command
read_move traces words = if length words == 3 && not (is_all words) then read_move_block traces words else read_move_one traces words
