use Rattle.std.proofs.Common.{◌≡◌, ◌≤◌}
use Rattle.std.specs.Prelude.{replicate}
use Rattle.sample_codes.specs.Formats.{samples_bytes}
use Rattle.bench_rules.proofs.trace_bytes.repeated_sample.Given as goal

-- the bytes of so many samples as were made
abbrev pub invariant-loop-done : goal.invariant-loop-done
invariant-loop-done l = (l.bytes.items ≡ samples_bytes l.fn.order l.fn.format (replicate l._done l.fn.value)) × (l.initial.room ≤ l.room)
