use Rattle.std.specs.Prelude.{◌-ℤ◌, ◌≤◌, ◌+◌, ◌^◌, unsigned_abs}
use Rattle.std.proofs.Common.{rules, arith}
use mir.Syntax.{w64}
use mir.Val.{SFits}
use Rattle.std.proofs.lemmas.Int.{to_z-of_z, fits_signed_from_abs}
use Rattle.position_differences.proofs.FractionLemmas.{difference_small, over-only}
use Rattle.position_differences.proofs.fractions.above_uneven.Goals as goal

pub returns : goal.returns
returns c =
    let here = c.across-here.result in
    let there = c.across-there.result in
    let fh : SFits w64 here = search rules in
    let ft : SFits w64 there = search rules in
    let small : unsigned_abs (here -ℤ there) ≤ 2 ^ 61 + 2 ^ 61 = difference_small here there (2 ^ 61) c.across-here.ensures.size c.across-there.ensures.size in
    let fits : SFits w64 (here -ℤ there) = fits_signed_from_abs w64 (here -ℤ there) (omega arith) in
    over-only _ _ _ c.lowest.result (rw (to_z-of_z w64 here fh, to_z-of_z w64 there ft, to_z-of_z w64 (here -ℤ there) fits, c.across-here.ensures.value, c.across-there.ensures.value) at c.lowest.ensures)
