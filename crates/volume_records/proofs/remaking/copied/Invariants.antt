use Rattle.std.proofs.Common.{◌≡◌, ◌≤◌, ◌++◌, map}
use Rattle.trace_record.specs.Packed.{record_in}
use Rattle.volume_records.proofs.remaking.copied.Given as goal

-- the first records are copied, and the others are left
abbrev pub invariant-loop-packed : goal.invariant-loop-packed
invariant-loop-packed l = (l.records ++ map record_in l.packed-iterator ≡ map record_in l.overlay.payloads) × (l.initial.room ≤ l.room)
