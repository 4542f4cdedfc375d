use Rattle.std.proofs.Common.{rules}
use mir.Syntax.{w16, w32}
use mir.Val.{SFits}
use Rattle.std.proofs.lemmas.Int.{to_z-of_z}
use Rattle.key_counts.specs.Coordinates.{under_scalar-only}
use Rattle.key_counts.proofs.ratio.Ratio.scaled.Goals as goal

pub returns-clause-exact : goal.returns-clause-exact
returns-clause-exact c =
    let value_fits : SFits w32 c.args.value = search rules in
    let scalar_fits : SFits w16 c.args.scalar = search rules in
    under_scalar-only c.args.value c.args.scalar c.under.result
    (rw (to_z-of_z w32 c.args.value value_fits, to_z-of_z w16 c.args.scalar scalar_fits) at c.under.ensures.value)
