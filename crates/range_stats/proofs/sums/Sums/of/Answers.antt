use Rattle.std.proofs.Common.{Some, None, sym, ◌∙◌, rules, SFits}
use Rattle.std.specs.Int.{w128}
use Rattle.std.proofs.lemmas.Int.{to_z-of_z}
use Rattle.trace_record.specs.Facts.{facts_of}
use Rattle.range_stats.proofs.EndKeyLemmas.{number-of, sum-of}
use Rattle.range_stats.proofs.sums.Sums.of.Goals as goal

pub returns-in-Some-clause-number : goal.returns-in-Some-clause-number
returns-in-Some-clause-number c = c.from.ensures ∙ sym (number-of (facts_of c.args.trace.now) (Some c.in-Some.amplitudes) c.in-Some.is)

pub returns-in-Some-clause-sum : goal.returns-in-Some-clause-sum
returns-in-Some-clause-sum c =
    let a = c.in-Some.amplitudes in
    let fits : SFits w128 a.sum = search rules in
    to_z-of_z w128 a.sum fits ∙ sym (sum-of (facts_of c.args.trace.now) (Some a) c.in-Some.is)

pub returns-in-None-clause-number : goal.returns-in-None-clause-number
returns-in-None-clause-number c = sym (number-of (facts_of c.args.trace.now) None c.in-None.is)

pub returns-in-None-clause-sum : goal.returns-in-None-clause-sum
returns-in-None-clause-sum c = sym (sum-of (facts_of c.args.trace.now) None c.in-None.is)
