use Rattle.std.proofs.Common.{rules}
use Rattle.std.specs.Int.{w128}
use Rattle.std.proofs.lemmas.Int.{to_z-of_z}
use mir.Val.{SFits}
use Rattle.time_slice.proofs.FitLemmas.{fits_of_bytes}
use Rattle.time_slice.proofs.of_volume.number_of.Goals as goal

pub returns-clause-fits : goal.returns-clause-fits
returns-clause-fits c =
    let fits : SFits w128 c.decode.result = search rules in
    rw (to_z-of_z w128 c.decode.result fits) (rw c.decode.ensures (fits_of_bytes c.args.order c.args.format c.args.bytes.now c.requires c.type_inv.bytes))
