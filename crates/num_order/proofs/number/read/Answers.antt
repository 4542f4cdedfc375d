use Rattle.std.proofs.Common.{rules}
use Rattle.std.proofs.lemmas.Int.{to_z-of_z}
use Rattle.std.specs.Int.{w128}
use mir.Val.{SFits}
use Rattle.num_order.proofs.NumberLemmas.{read-big, read-little}
use Rattle.num_order.proofs.number.read.Goals as goal

pub returns-in-Big : goal.returns-in-Big
returns-in-Big c =
    let fits : SFits w128 c.read_by.result = search rules in
    rw (to_z-of_z, c.in-Big.is) (read-big _ _ _ _ c.requires.whole c.read_by.ensures)

pub returns-in-Little : goal.returns-in-Little
returns-in-Little c =
    let fits : SFits w128 c.read_by-in-Little.result = search rules in
    rw (to_z-of_z, c.in-Little.is) (read-little _ _ _ _ c.requires.whole c.read_by-in-Little.ensures)
