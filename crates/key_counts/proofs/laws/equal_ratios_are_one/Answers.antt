use Rattle.key_counts.specs.RatioOrder.{exact_ratios}
use Rattle.key_counts.proofs.laws.equal_ratios_are_one.Goals as goal

pub returns : goal.returns
returns c = exact_ratios
