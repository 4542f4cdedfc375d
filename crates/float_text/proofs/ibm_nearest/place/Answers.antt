use Rattle.std.proofs.Common.{◌/◌, ◌^◌, ◌<◌, sym, subst}
use Rattle.float_text.proofs.PlaceLemmas.{shifted_unit, whole_small}
use Rattle.float_text.proofs.ibm_nearest.place.Goals as goal

pub returns-clause-small : goal.returns-clause-small
returns-clause-small c = subst (λ u. c.args.digits / u < 2 ^ 24) (sym (shifted_unit c.args.by c.requires.by.1)) (whole_small c.args.digits c.args.by c.requires.digits c.requires.by.0)
