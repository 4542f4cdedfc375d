use mathlib.Core.Path.{◌≡◌, refl, sym, ap, ◌∙◌}
use mathlib.Core.Bool.{true, false}
use lib.Ieee.{inf, binary64, of_bits}
use Rattle.float_text.proofs.floats.infinite.Goals as goal

minus : of_bits binary64 0xfff0_0000_0000_0000 ≡ inf true
unfolding of_bits
minus = refl

plus : of_bits binary64 0x7ff0_0000_0000_0000 ≡ inf false
unfolding of_bits
plus = refl

pub returns-then-negative : goal.returns-then-negative
returns-then-negative c = minus ∙ sym (ap inf c.if-negative.true)

pub returns-else-negative : goal.returns-else-negative
returns-else-negative c = plus ∙ sym (ap inf c.if-negative.false)
