use Rattle.std.proofs.Common.{Some, ap, refl, rules, SFits}
use Rattle.std.specs.Int.{w32}
use Rattle.std.proofs.lemmas.Int.{to_z-of_z}
use Rattle.range_stats.proofs.OwnKeyLemmas.{times-all}
use Rattle.trace_record.specs.Facts.{facts_of}
use Rattle.range_stats.proofs.keys.Keys.of.Goals as goal

pub returns : goal.returns
returns c =
    let f = facts_of c.args.trace.now in
    let i : SFits w32 f.inline = search rules in
    let x : SFits w32 f.crossline = search rules in
    let o : SFits w32 f.offset = search rules in
    times-all _ f c.packed_x.result c.packed_y.result (ap Some (to_z-of_z w32 f.inline i)) (ap Some (to_z-of_z w32 f.crossline x)) (ap Some (to_z-of_z w32 f.offset o))
    refl c.packed_x.ensures refl c.packed_y.ensures
