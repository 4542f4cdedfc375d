use Rattle.key_counts.specs.Coordinates.{one_positive, over_1}
use Rattle.position_differences.proofs.fractions.whole.Goals as goal

pub invariant_of-result : goal.invariant_of-result
invariant_of-result c = record { positive = one_positive; lowest = over_1 _ }
