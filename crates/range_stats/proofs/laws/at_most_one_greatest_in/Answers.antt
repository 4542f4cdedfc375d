use Rattle.std.specs.Prelude.{ℤ}
use Rattle.trace_record.specs.Keys.{greatest}
use Rattle.range_stats.proofs.TotalsLemmas.{one_greatest}
use Rattle.range_stats.proofs.laws.at_most_one_greatest_in.Goals as goal

pub returns : goal.returns
returns c = λ t u a b same p q. one_greatest (λ (v : ℤ). t.count (greatest v)) (λ (v : ℤ). u.count (greatest v)) (λ (v : ℤ). same.count (greatest v)) a b p q
