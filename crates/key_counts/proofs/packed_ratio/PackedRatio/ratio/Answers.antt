use Rattle.std.proofs.Common.{◌≡◌, ◌+◌, ◌-ℤ◌, ◌/◌, ◌%◌, ◌^◌, pos, arith, to_z, of_z, w64}
use Rattle.std.proofs.lemmas.Int.{ints}
use Rattle.key_counts.specs.Packed.{ratio_in}
use Rattle.key_counts.specs.Parts.{numerator_in, denominator_in}
use Rattle.key_counts.specs.RatioOrder.{same_parts}
use Rattle.key_counts.proofs.PartLemmas.{same_lowest}
use Rattle.key_counts.proofs.packed_ratio.PackedRatio.ratio.Goals as goal

pub invariant_of-result : goal.invariant_of-result
invariant_of-result c =
    let w = c.args.self.bits in
    let num : numerator_in w ≡ to_z w64 (of_z w64 (to_z w64 (w / 2 ^ 15 % 2 ^ 47) -ℤ pos (2 ^ 46))) = omega (arith, ints) in
    let den : denominator_in w ≡ w % 2 ^ 15 + 1 = omega arith in
    record {
      positive = omega arith;
      lowest = same_lowest _ _ _ _ num den c.args.self.lowest;
    }

pub returns : goal.returns
returns c =
    let w = c.args.self.bits in
    let num : to_z w64 (of_z w64 (to_z w64 (w / 2 ^ 15 % 2 ^ 47) -ℤ pos (2 ^ 46))) ≡ numerator_in w = omega (arith, ints) in
    let den : w % 2 ^ 15 + 1 ≡ denominator_in w = omega arith in
    same_parts _ (ratio_in c.args.self) num den
