use Rattle.std.proofs.Common.{◌≡◌, ◌+◌, ◌^◌, ◌<◌, length}
use Rattle.field_map.specs.Pairs.{shown}
use Rattle.field_map.specs.Binding.{further_names}
use Rattle.field_map.proofs.field_map.FieldMap.further_names.Given as goal

abbrev pub invariant-loop-name : goal.invariant-loop-name
invariant-loop-name l = (l.count + further_names (shown l.name-iterator) ≡ further_names (shown l.initial.name-iterator)) × (l.count + length l.name-iterator < 2 ^ 63)
