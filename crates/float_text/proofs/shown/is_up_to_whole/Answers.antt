use Rattle.std.proofs.Common.{◌≡◌, pos, refl, ap, sym, ◌∙◌, Bool, true, false, ◌&&◌}
use lib.Ieee.{Float, fin, binary64, of_bits, neg, le}
use Rattle.float_text.specs.Texts.{is_up_to_whole}
use Rattle.float_text.proofs.shown.is_up_to_whole.Goals as goal

plus : of_bits binary64 0x4340_0000_0000_0000 ≡ fin false 1 (pos 53)
unfolding of_bits
plus = refl

minus : neg (of_bits binary64 0x4340_0000_0000_0000) ≡ fin true 1 (pos 53)
unfolding of_bits neg
minus = refl

within : (v : Float) → (le (neg (of_bits binary64 0x4340_0000_0000_0000)) v && le v (of_bits binary64 0x4340_0000_0000_0000)) ≡ is_up_to_whole v
within v = λ i. le (minus i) v && le v (plus i)

pub returns-then-value : goal.returns-then-value
returns-then-value c = ap (λ (b : Bool). b && le c.args.value (of_bits binary64 0x4340_0000_0000_0000)) (sym c.if-value.true) ∙ within c.args.value

pub returns-else-value : goal.returns-else-value
returns-else-value c = c.if-value.false ∙ ap (λ (b : Bool). b && le c.args.value (of_bits binary64 0x4340_0000_0000_0000)) (sym c.if-value.false) ∙ within c.args.value
