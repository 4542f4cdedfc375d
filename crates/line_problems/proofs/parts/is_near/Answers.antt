use Rattle.std.specs.Prelude.{pos, ◌-ℤ◌, ◌*ℤ◌, FitsSigned}
use Rattle.std.proofs.Common.{arith, rules, refl, ◌∙◌}
use Rattle.std.specs.Int.{w32, w64, w128}
use Rattle.std.proofs.lemmas.Int.{ints, to_z-of_z}
use Rattle.line_problems.proofs.parts.is_near.Goals as goal

pub returns : goal.returns
returns c =
    let first = c.args.part.now.first in
    let number = c.args.line.now.number in
    let first_fits : FitsSigned w32 first = search rules in
    let number_fits : FitsSigned w32 number = search rules in
    let a = c.from.ensures ∙ to_z-of_z w32 first first_fits in
    let b = c.from-2.ensures ∙ to_z-of_z w32 number number_fits in
    let d = c.from-4.ensures ∙ to_z-of_z w64 c.args.step c.ranges.step in
    let a_fits : FitsSigned w128 first = search (rules, ints) in
    let b_fits : FitsSigned w128 number = search (rules, ints) in
    let ten_fits : FitsSigned w128 (pos 10) = search (rules, ints) in
    let d_fits : FitsSigned w128 c.args.step = search (rules, ints) in
    let distance_fits : FitsSigned w128 (first -ℤ number) = omega (arith, ints) in
    let reach_fits : FitsSigned w128 (pos 10 *ℤ c.args.step) = omega (arith, ints) in
    rw (a, b, c.from-3.ensures, d, to_z-of_z w128 first a_fits, to_z-of_z w128 number b_fits, to_z-of_z w128 (pos 10) ten_fits, to_z-of_z w128 c.args.step d_fits, to_z-of_z w128 (first -ℤ number) distance_fits, to_z-of_z w128 (pos 10 *ℤ c.args.step) reach_fits) refl
