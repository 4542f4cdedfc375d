use Rattle.std.proofs.Common.{length}
use Rattle.live_volume.proofs.mappings.+remake_under.Given as goal

abbrev pub decreases-remake_under : goal.decreases-remake_under
decreases-remake_under l = length l.names.now
