use Rattle.std.proofs.Common.{refl}
use Rattle.window_counts.proofs.PlaceLemmas.{entries-zeros}
use Rattle.window_counts.proofs.window_counts.WindowCounts.within.Goals as goal

pub returns-clause-none : goal.returns-clause-none
returns-clause-none g c = rw (c.in_ok-slots.ensures.places, c.new-2.ensures, entries-zeros c.len.result (g.W.Window.key_of c.prepare.new.self)) refl
