use Rattle.std.proofs.Common.{Some, None, ap, refl, rules, SFits}
use Rattle.std.specs.Int.{w128}
use Rattle.std.proofs.lemmas.Int.{to_z-of_z}
use Rattle.trace_record.specs.Facts.{facts_of}
use Rattle.range_stats.proofs.OwnKeyLemmas.{times-ends}
use Rattle.range_stats.proofs.ends.Ends.of.Goals as goal

pub returns-in-Some : goal.returns-in-Some
returns-in-Some c =
    let a = c.in-Some.amplitudes in
    let l : SFits w128 a.least = search rules in
    let g : SFits w128 a.greatest = search rules in
    times-ends _ (facts_of c.args.trace.now) (Some a) c.in-Some.is (ap Some (to_z-of_z w128 a.least l)) (ap Some (to_z-of_z w128 a.greatest g))

pub returns-in-None : goal.returns-in-None
returns-in-None c = times-ends _ (facts_of c.args.trace.now) None c.in-None.is refl refl
