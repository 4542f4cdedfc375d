use Rattle.std.specs.Prelude.{◌+ℤ◌, ◌-ℤ◌, FitsSigned}
use Rattle.std.proofs.Common.{arith, rules, refl, ◌∙◌}
use Rattle.std.specs.Int.{w32, w64}
use Rattle.std.proofs.lemmas.Int.{ints, to_z-of_z}
use Rattle.line_problems.proofs.missing.MissingRun.between.Goals as goal

pub returns : goal.returns
returns c =
    let number = c.args.line.now.number in
    let next = c.args.next.now.number in
    let step = c.args.step in
    let number_fits : FitsSigned w32 number = search rules in
    let next_fits : FitsSigned w32 next = search rules in
    let a = c.from-in_front.ensures ∙ to_z-of_z w32 number number_fits in
    let b = c.from-behind.ensures ∙ to_z-of_z w32 next next_fits in
    let number_long : FitsSigned w64 number = search (rules, ints) in
    let next_long : FitsSigned w64 next = search (rules, ints) in
    let first_long : FitsSigned w64 (number +ℤ step) = omega (arith, ints) in
    let last_long : FitsSigned w64 (next -ℤ step) = omega (arith, ints) in
    let first_fits : FitsSigned w32 (number +ℤ step) = omega (arith, ints) in
    let last_fits : FitsSigned w32 (next -ℤ step) = omega (arith, ints) in
    rw (
      a,
      b,
      to_z-of_z w64 number number_long,
      to_z-of_z w64 next next_long,
      to_z-of_z w64 step c.ranges.step,
      to_z-of_z w64 (number +ℤ step) first_long,
      to_z-of_z w64 (next -ℤ step) last_long,
      to_z-of_z w32 (number +ℤ step) first_fits,
      to_z-of_z w32 (next -ℤ step) last_fits,
      c.unsigned_abs.ensures.value,
      to_z-of_z w64 step c.ranges.step,
    ) refl
