use Rattle.std.specs.Prelude.{ℤ}
use Rattle.trace_record.specs.Keys.{least}
use Rattle.range_stats.proofs.TotalsLemmas.{one_least}
use Rattle.range_stats.proofs.laws.at_most_one_least_in.Goals as goal

pub returns : goal.returns
returns c = λ t u a b same p q. one_least (λ (v : ℤ). t.count (least v)) (λ (v : ℤ). u.count (least v)) (λ (v : ℤ). same.count (least v)) a b p q
