use Rattle.std.proofs.Common.{◌≡◌, arith, rules, SFits, w64}
use Rattle.std.proofs.lemmas.Int.{ints}
use Rattle.key_counts.specs.Parts.{numerator_in, denominator_in}
use Rattle.key_counts.specs.RatioOrder.{same_parts}
use Rattle.key_counts.proofs.PartLemmas.{same_lowest}
use Rattle.key_counts.proofs.packed_ratio.PackedRatio.of.Goals as goal

pub invariant_of-result : goal.invariant_of-result
invariant_of-result c =
    let r = c.args.ratio in
    let fits : SFits w64 r.num = search rules in
    let positive = r.positive in
    let low = c.requires.0 in
    let high = c.requires.1 in
    let w = c.word_of.result in
    let num : r.num ≡ numerator_in w = omega (arith, ints) in
    let den : r.den ≡ denominator_in w = omega arith in
    record { lowest = same_lowest r.num _ r.den _ num den r.lowest }

pub returns-clause-ratio : goal.returns-clause-ratio
returns-clause-ratio c =
    let r = c.args.ratio in
    let fits : SFits w64 r.num = search rules in
    let positive = r.positive in
    let low = c.requires.0 in
    let high = c.requires.1 in
    let w = c.word_of.result in
    let num : numerator_in w ≡ r.num = omega (arith, ints) in
    let den : denominator_in w ≡ r.den = omega arith in
    same_parts _ r num den
