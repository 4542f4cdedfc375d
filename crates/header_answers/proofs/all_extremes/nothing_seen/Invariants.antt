use Rattle.std.proofs.Common.{◌≡◌, [], take, map, ◌≤◌}
use Rattle.header_answers.specs.Seen.{seen_of}
use Rattle.header_answers.proofs.all_extremes.nothing_seen.Given as goal

-- nothing of each name so far
abbrev pub invariant-loop-each : goal.invariant-loop-each
invariant-loop-each l = (l.seen.items ≡ map (λ _. seen_of []) (take l._each-index l.names)) × (l.initial.room ≤ l.room)
