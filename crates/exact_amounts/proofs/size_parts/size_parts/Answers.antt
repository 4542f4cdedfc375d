use native.Mathlib.Omega.{arith}
use Rattle.float_sum.proofs.RoundLemmas.{finite_number, least_parts, normal_parts, finite_field}
use Rattle.exact_amounts.proofs.size_parts.size_parts.Goals as goal

pub bits_of-bits-requires : goal.bits_of-bits-requires
bits_of-bits-requires c = finite_number c.args.value c.requires

pub returns-then-exponent-eq0-clause-size : goal.returns-then-exponent-eq0-clause-size
returns-then-exponent-eq0-clause-size c = (least_parts c.args.value c.bits_of-bits.result c.bits_of-bits.ensures c.if-exponent-eq0.true).1

pub returns-else-exponent-eq0-clause-size : goal.returns-else-exponent-eq0-clause-size
returns-else-exponent-eq0-clause-size c = (normal_parts c.args.value c.bits_of-bits.result c.bits_of-bits.ensures c.requires c.if-exponent-eq0.false).1

pub returns-else-exponent-eq0-clause-twos : goal.returns-else-exponent-eq0-clause-twos
returns-else-exponent-eq0-clause-twos c = omega (arith, finite_field c.args.value c.bits_of-bits.result c.bits_of-bits.ensures c.requires)
