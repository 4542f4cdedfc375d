use Rattle.std.proofs.Common.{◌≡◌, ◌++◌, map, string_bytes, ◌≤◌}
use Rattle.std.specs.Vec.Iter.{into_iter_items}
use Rattle.volume_answers.proofs.stanzas.add_names.Given as goal

-- what was added and what is left to add are all
abbrev pub invariant-loop-name : goal.invariant-loop-name
invariant-loop-name l =
    (l.all.items ++ map (λ name. (l.fn.number, string_bytes name)) (into_iter_items l.name-iterator)
    ≡ l.initial.all.items ++ map (λ name. (l.fn.number, string_bytes name)) (into_iter_items l.initial.name-iterator))
    × (l.initial.room ≤ l.room)
