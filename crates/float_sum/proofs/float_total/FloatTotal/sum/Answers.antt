use Rattle.std.proofs.Common.{true, false, ◌∙◌}
use Rattle.float_sum.proofs.TotalLemmas.{few_finite, total_is, infinity_bits, minus_infinity_bits, nan_bits}
use Rattle.float_sum.proofs.float_total.FloatTotal.sum.Goals as goal

pub nearest-requires : goal.nearest-requires
nearest-requires c = few_finite c.self.inside c.args.self.now c.self.view_is c.self.invariant c.requires

pub returns-in-true-true : goal.returns-in-true-true
returns-in-true-true c = nan_bits ∙ total_is c.self.inside c.args.self.now true true c.self.view_is c.self.invariant c.in-true-true.is-0 c.in-true-true.is-1

pub returns-in-true-false : goal.returns-in-true-false
returns-in-true-false c = infinity_bits ∙ total_is c.self.inside c.args.self.now true false c.self.view_is c.self.invariant c.in-true-false.is-0 c.in-true-false.is-1

pub returns-in-false-true : goal.returns-in-false-true
returns-in-false-true c = minus_infinity_bits ∙ total_is c.self.inside c.args.self.now false true c.self.view_is c.self.invariant c.in-false-true.is-0 c.in-false-true.is-1
