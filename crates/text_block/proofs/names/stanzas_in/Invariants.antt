use Rattle.std.proofs.Common.{◌≡◌, ◌≤◌, ◌-◌, ◌++◌, drop, map, length, string_bytes}
use Rattle.text_block.specs.Stanzas.{stanzas_behind, stanzas_in}
use Rattle.text_block.proofs.names.stanzas_in.Given as goal

abbrev pub invariant-loop-at : goal.invariant-loop-at
invariant-loop-at l = record {
  names : map string_bytes l.names.items ++ stanzas_behind 0 (drop l.at l.text) ≡ stanzas_in l.text;
  memory : l.initial.room ≤ l.room;
}

abbrev pub decreases-loop-at : goal.decreases-loop-at
decreases-loop-at l = length l.text - l.at
