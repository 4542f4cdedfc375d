use Rattle.std.specs.Prelude.{◌-◌, ◌≤◌, length, take, option_map}
use Rattle.std.specs.Io.KnownBytes.{Appends}
use Rattle.safe_save.specs.Saving.{beside_bytes}
use Rattle.safe_save.proofs.buffered.write_out.Given as goal

abbrev pub invariant-loop-written : goal.invariant-loop-written
invariant-loop-written g l = (l.written ≤ length l.waiting) × Appends (option_map beside_bytes l.initial.save) (option_map beside_bytes l.save) (take l.written l.waiting)

abbrev pub decreases-loop-written : goal.decreases-loop-written
decreases-loop-written g l = length l.waiting - l.written
