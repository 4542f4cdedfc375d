use Rattle.std.proofs.Common.{arith}
use Rattle.field_map.proofs.field_map.FieldMap.further_names.Goals as goal

pub loop-name-init : goal.loop-name-init
loop-name-init c = (omega arith, rw c.into_iter-name-iterator.ensures.into_iter_gives (omega (arith, c.iter-name-items.ensures.fits)))
