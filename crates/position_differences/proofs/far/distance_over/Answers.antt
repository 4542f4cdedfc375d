use Rattle.std.specs.Prelude.{◌-ℤ◌, ◌≤◌, ◌+◌, ◌^◌, unsigned_abs}
use Rattle.std.proofs.Common.{rules, arith}
use mir.Syntax.{w64, w128}
use mir.Val.{SFits}
use Rattle.std.proofs.lemmas.Int.{to_z-of_z, fits_signed_from_abs}
use Rattle.position_differences.proofs.FractionLemmas.{difference_small}
use Rattle.position_differences.proofs.far.distance_over.Goals as goal

pub returns-clause-value : goal.returns-clause-value
returns-clause-value c =
    let here = c.times-here.result in
    let there = c.times-there.result in
    let fo : SFits w64 c.args.one.num = search rules in
    let fp : SFits w64 c.args.other.num = search rules in
    let fh : SFits w128 here = fits_signed_from_abs w128 here (omega (arith, c.times-here.ensures.size)) in
    let ft : SFits w128 there = fits_signed_from_abs w128 there (omega (arith, c.times-there.ensures.size)) in
    let small : unsigned_abs (here -ℤ there) ≤ 2 ^ 95 + 2 ^ 95 = difference_small here there (2 ^ 95) c.times-here.ensures.size c.times-there.ensures.size in
    let fits : SFits w128 (here -ℤ there) = fits_signed_from_abs w128 (here -ℤ there) (omega arith) in
    rw (to_z-of_z w128 here fh, to_z-of_z w128 there ft, to_z-of_z w128 (here -ℤ there) fits, c.times-here.ensures.value, c.times-there.ensures.value, to_z-of_z w64 c.args.one.num fo, to_z-of_z w64 c.args.other.num fp) at c.unsigned_abs.ensures.value
