use Rattle.std.proofs.Common.{◌≡◌, ◌+◌, ◌-◌, ◌≤◌, ◌++◌, length, drop}
use Rattle.std.specs.Prelude.{option_map}
use Rattle.std.specs.Vec.{vec_len, vec_capacity}
use Rattle.trace_view.specs.Shown.{bytes_of, head_of}
use Rattle.trace_view.specs.Values.{value_of}
use Rattle.bench_rules.specs.ManyTraces.{each_of}
use Rattle.bench_rules.specs.Tables.{row_of}
use Rattle.many_traces.proofs.row.push_numbers.Given as goal

-- the numbers so far, and room for the others
abbrev pub invariant-loop-place : goal.invariant-loop-place
invariant-loop-place l = record {
  row : option_map (λ row. l.fn.numbers.items ++ row) (row_of (head_of l.trace) l.places (bytes_of l.trace))
      ≡ option_map (λ row. l.numbers.items ++ row) (each_of (λ place. value_of (head_of l.trace) (bytes_of l.trace) place) (drop l.place-index l.places));
  room : vec_len l.numbers + (length l.places - l.place-index) ≤ vec_capacity l.numbers;
  count : vec_len l.numbers ≡ vec_len l.fn.numbers + l.place-index;
  more : vec_capacity l.fn.numbers ≤ vec_capacity l.numbers;
}
