use native.Mathlib.Omega.{arith}
use Rattle.float_sum.proofs.RoundLemmas.{finite_number, least_parts, normal_parts, finite_field}
use Rattle.float_sum.proofs.parts.parts_of.Goals as goal

pub bits_of-bits-requires : goal.bits_of-bits-requires
bits_of-bits-requires c = finite_number c.args.value c.requires

pub returns-then-exponent-eq0-clause-negative : goal.returns-then-exponent-eq0-clause-negative
returns-then-exponent-eq0-clause-negative c = (least_parts c.args.value c.bits_of-bits.result c.bits_of-bits.ensures c.if-exponent-eq0.true).0

pub returns-then-exponent-eq0-clause-size : goal.returns-then-exponent-eq0-clause-size
returns-then-exponent-eq0-clause-size c = (least_parts c.args.value c.bits_of-bits.result c.bits_of-bits.ensures c.if-exponent-eq0.true).1

pub returns-else-exponent-eq0-clause-negative : goal.returns-else-exponent-eq0-clause-negative
returns-else-exponent-eq0-clause-negative c = (normal_parts c.args.value c.bits_of-bits.result c.bits_of-bits.ensures c.requires c.if-exponent-eq0.false).0

pub returns-else-exponent-eq0-clause-size : goal.returns-else-exponent-eq0-clause-size
returns-else-exponent-eq0-clause-size c = (normal_parts c.args.value c.bits_of-bits.result c.bits_of-bits.ensures c.requires c.if-exponent-eq0.false).1

pub returns-else-exponent-eq0-clause-shift : goal.returns-else-exponent-eq0-clause-shift
returns-else-exponent-eq0-clause-shift c = omega (arith, finite_field c.args.value c.bits_of-bits.result c.bits_of-bits.ensures c.requires)
