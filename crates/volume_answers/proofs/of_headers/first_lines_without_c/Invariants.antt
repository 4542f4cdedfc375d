use Rattle.std.proofs.Common.{◌≡◌, ◌≤◌, take}
use Rattle.std.specs.Prelude.{count_by}
use Rattle.std.specs.List.{range_with_len}
use Rattle.bench_rules.specs.Reports.{is_without_c}
use Rattle.volume_answers.proofs.of_headers.first_lines_without_c.Given as goal

-- the lines so far are counted
abbrev pub invariant-loop-before : goal.invariant-loop-before
invariant-loop-before l =
    (l.count ≡ count_by (is_without_c l.fn.block) (take l.before (range_with_len 1 l.fn.lines))) × (l.count ≤ l.before)
