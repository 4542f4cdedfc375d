use Rattle.std.proofs.Common.{◌≡◌, ◌≤◌, take}
use Rattle.sample_codes.specs.Formats.{samples_bytes}
use Rattle.bench_rules.proofs.trace_bytes.samples_bytes.Given as goal

-- the bytes of the values so far
abbrev pub invariant-loop-value : goal.invariant-loop-value
invariant-loop-value l = (l.bytes.items ≡ samples_bytes l.order l.format (take l.value-index l.values)) × (l.initial.room ≤ l.room)
