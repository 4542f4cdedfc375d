-- How a window is held.
use Rattle.std.specs.Prelude.{◌-◌, ◌≤◌, length, take, drop}
use Rattle.trace_store.specs.Windows.{WindowBytes}
use Rattle.trace_store.specs.declared.window.Window.TheInside.{Inside}

-- what a window shows
abbrev pub window_of : Inside → WindowBytes
window_of w = record { bytes = drop w.start (take w.end w.block.items); gone = w.start; room = length w.block.items - w.end }

-- its bytes lie in the block
pub record IsInOrder (w : Inside) : Type 0 where
  pub order : w.start ≤ w.end
  pub inside : w.end ≤ length w.block.items
