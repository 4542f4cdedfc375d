use Rattle.std.proofs.Common.{ap, ◌||◌}
use lib.Ieee.{Float, eq}
use Rattle.float_sum.proofs.TotalLemmas.{holds_other, infinity_bits, minus_infinity_bits}
use Rattle.std.proofs.Common.{refl}
use Rattle.float_sum.proofs.float_total.FloatTotal.add_other.Goals as goal

pub invariant_of-self : goal.invariant_of-self
invariant_of-self c =
    let s = c.self.inside in
    let v = c.args.value in
    holds_other s _ v c.self.invariant c.requires c.note.ensures refl (ap (λ (z : Float). s.infinite || eq v z) infinity_bits) (ap (λ (z : Float). s.minus_infinite || eq v z) minus_infinity_bits)
