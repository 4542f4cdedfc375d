use Rattle.std.proofs.Common.{◌≡◌, ◌-◌, ◌≤◌, length}
use Rattle.base_file.specs.HeldBytes.{HasGrown}
use Rattle.trace_store.specs.Windows.{IsNextOf}
use Rattle.volume_loading.proofs.pass_reads.read_head.Given as goal

abbrev pub invariant-turns : goal.invariant-turns
invariant-turns l = record {
  grown : HasGrown l.fn.held l.held;
  next : IsNextOf l.held.bytes 0 l.window.bytes;
  within : length l.held.bytes ≤ l.size;
  unfailed : l.held.failures ≡ l.fn.held.failures;
  memory : l.initial.room ≤ l.room;
}

abbrev pub decreases-turns : goal.decreases-turns
decreases-turns l = l.size - length l.window.bytes
