use Rattle.std.proofs.Common.{◌≡◌, ◌++◌, ◌≤◌}
use Rattle.std.specs.Vec.Iter.{into_iter_items}
use Rattle.trace_view.specs.Shown.{bytes_of, head_of}
use Rattle.bench_rules.specs.Headers.{header_of}
use Rattle.header_answers.proofs.headers.named_numbers.Given as goal

-- the numbers so far and those of the names that are left are all
abbrev pub invariant-loop-name : goal.invariant-loop-name
invariant-loop-name l =
    (l.numbers.items ++ header_of (head_of l.trace) (into_iter_items l.name-iterator) (bytes_of l.trace)
    ≡ header_of (head_of l.trace) (into_iter_items l.initial.name-iterator) (bytes_of l.trace))
    × (l.initial.room ≤ l.room)
