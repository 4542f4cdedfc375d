use Rattle.std.proofs.Common.{◌≡◌, ℕ, ◌+◌, ◌-◌, ◌≤◌, length}
use Rattle.base_file.specs.HeldBytes.{HasGrown}
use Rattle.trace_store.specs.Windows.{block_of, IsNextOf}
use Rattle.trace_store.proofs.window.Window.read_up_to.Given as goal

abbrev pub invariant-turns : goal.invariant-turns
invariant-turns l = record {
  grown : HasGrown l.fn.held l.held;
  next : (at : ℕ) → IsNextOf l.fn.held.bytes at l.fn.self.bytes → IsNextOf l.held.bytes at l.self.bytes;
  within : length l.held.bytes ≤ l.size;
  room : length l.self.bytes + l.self.room ≡ length l.fn.self.bytes + l.fn.self.room;
  unfailed : l.held.failures ≡ l.fn.held.failures;
  block : block_of l.self ≡ block_of l.fn.self;
  left : length l.self.bytes + (l.size - length l.held.bytes) ≡ length l.fn.self.bytes + (l.size - length l.fn.held.bytes);
}

abbrev pub decreases-turns : goal.decreases-turns
decreases-turns l = l.n - length l.self.bytes
