use Rattle.std.proofs.Common.{◌≡◌, ◌≤◌, ◌++◌, ◌+◌, ℕ, map, drop}
use Rattle.window_counts.specs.Window.{entries}
use Rattle.window_counts.proofs.listing.listed.Given as goal

-- the entries so far, and those of the places that are left, are all entries
abbrev pub invariant-loop-place : goal.invariant-loop-place
invariant-loop-place g l = (l.initial.room ≤ l.room) × (map g.T.FromCount.count l.list.items ++ entries (λ (p : ℕ). g.W.Window.key_of l.window (l.place + p)) (drop l.place l.slots) ≡ entries (g.W.Window.key_of l.window) l.slots)
