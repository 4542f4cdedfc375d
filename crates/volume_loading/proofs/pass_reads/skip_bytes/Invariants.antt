use Rattle.std.proofs.Common.{◌≡◌, ◌+◌, ◌-◌, ◌≤◌, ℕ, length}
use Rattle.trace_store.specs.Grown.{HasMore}
use Rattle.trace_store.specs.Windows.{block_of, IsNextOf}
use Rattle.volume_loading.proofs.pass_reads.skip_bytes.Given as goal

abbrev pub invariant-blocks-2 : goal.invariant-blocks-2
invariant-blocks-2 g l = record {
  grown : HasMore l.fn.store l.store;
  next : (at : ℕ) → IsNextOf l.fn.store.loaded.bytes at l.fn.window.bytes → IsNextOf l.store.loaded.bytes (at + (l.n - l.left)) l.window.bytes;
  block : block_of l.fn.window ≤ block_of l.window;
  within : length l.store.loaded.bytes ≤ l.size;
  left : l.left ≤ l.n;
  unfailed : l.store.loaded.failures ≡ l.fn.store.loaded.failures;
  memory : l.initial.room ≤ l.room;
}

abbrev pub decreases-blocks-2 : goal.decreases-blocks-2
decreases-blocks-2 g l = l.left
