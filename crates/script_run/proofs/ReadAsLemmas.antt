-- States that were read in the same way, one after another.
use Rattle.std.proofs.Common.{◌∙◌, refl}
use Rattle.bench_rules.specs.State.{State}
use Rattle.live_volume.specs.Held.{IsReadAs}

pub read_as_itself : (s : State) → IsReadAs s s
read_as_itself s = record { reading = refl; limits = refl; on_disk = refl }

pub read_as_then : (old mid new : State) → IsReadAs old mid → IsReadAs mid new → IsReadAs old new
read_as_then old mid new first second = record { reading = second.reading ∙ first.reading; limits = second.limits ∙ first.limits; on_disk = second.on_disk ∙ first.on_disk }
