-- Worked words of conditions on facts about samples.
use Rattle.std.specs.Prelude.{◌≡◌, ℕ, pos, codes, List, Some, None, refl}
use Rattle.std.proofs.lemmas.Float.Parse.{parse_float_on_literals}
use Rattle.std.specs.declared.cmp.Ordering.TheVariants as orders
use lib.Ieee.{to_bits}
use Rattle.bench_rules.specs.declared.comparison.Comparison.TheVariants.{AtLeast, Less}
use Rattle.bench_rules.specs.declared.field.Field.TheVariants as fields
use Rattle.bench_rules.specs.declared.operand.Operand.TheVariants as operands
use Rattle.bench_rules.specs.declared.side.Side.{Side}
use Rattle.bench_rules.specs.declared.side.Side.TheVariants as sides
use Rattle.exact_amounts.specs.declared.amount.Amount.{Amount}
use Rattle.float_codes.specs.declared.float_format.FloatFormat.TheVariants.{Ibm32}
use Rattle.script_words.specs.Conditions.{condition_of}

-- a side that is a name
abbrev name : List ℕ → Side
name word = sides.Operand (operands.Field (fields.Name word))

-- 0.1, just below the binary64 nearest to it
abbrev tenth : Amount
tenth = record { rank = pos 0x3FB999999999999A; side = orders.Less }

-- in a file of floats a decimal stands beside the least or the greatest sample, on either side
pub decimal-right : condition_of (Some Ibm32) (codes "sample_least") (codes "<") (codes "0.1")
    ≡ Some (record { left = name (codes "sample_least"); comparison = Less; right = sides.Decimal tenth })
unfolding parse_float_on_literals to_bits
decimal-right = refl

pub decimal-left : condition_of (Some Ibm32) (codes "1e-1") (codes ">=") (codes "sample_greatest")
    ≡ Some (record { left = sides.Decimal tenth; comparison = AtLeast; right = name (codes "sample_greatest") })
unfolding parse_float_on_literals to_bits
decimal-left = refl

-- a whole number is a number there too
pub whole-number : condition_of (Some Ibm32) (codes "sample_least") (codes "<") (codes "7")
    ≡ Some (record { left = name (codes "sample_least"); comparison = Less; right = sides.Operand (operands.Number (pos 7)) })
whole-number = refl

-- beside anything else, or in a file of whole numbers, a decimal is none
pub decimal-count : condition_of (Some Ibm32) (codes "sample_count") (codes "<") (codes "0.1") ≡ None
decimal-count = refl

pub decimal-integers : condition_of None (codes "sample_least") (codes "<") (codes "0.1") ≡ None
decimal-integers = refl

-- an infinity is no decimal
pub no-infinity : condition_of (Some Ibm32) (codes "sample_least") (codes "<") (codes "-inf") ≡ None
no-infinity = refl

-- and none begins with a plus
pub no-plus : condition_of (Some Ibm32) (codes "sample_least") (codes "<") (codes "+0.1") ≡ None
unfolding parse_float_on_literals
no-plus = refl
