use Rattle.std.proofs.Common.{ap}
use Rattle.trace_record.specs.Facts.{Facts}
use Rattle.live_volume.proofs.live_volume.LiveVolume.sample_count.Goals as goal

pub returns : goal.returns
returns c = λ sure. ap (λ (f : Facts). f.number) (c.held.ensures.facts sure)
