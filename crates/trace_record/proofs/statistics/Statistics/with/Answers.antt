use Rattle.std.proofs.Common.{rules, SFits, ap, sym, subst, Some}
use Rattle.std.specs.Int.{w128}
use Rattle.trace_record.specs.Statistics.{HasRange}
use Rattle.trace_record.proofs.AddedLemmas.{statistics_joined, joined_range, joined_fits}
use Rattle.trace_record.proofs.statistics.Statistics.with.Goals as goal

pub returns : goal.returns
returns c =
    let a = c.args.self in let b = c.args.other in
    let least : SFits w128 a.least = search rules in
    let greatest : SFits w128 a.greatest = search rules in
    let sum : SFits w128 a.sum = search rules in
    let least_other : SFits w128 b.least = search rules in
    let greatest_other : SFits w128 b.greatest = search rules in
    let sum_other : SFits w128 b.sum = search rules in
    let low : SFits w128 c.min.result = search rules in
    let high : SFits w128 c.max.result = search rules in
    let total = joined_fits a b c.requires.range c.requires.other_range c.requires.few c.requires.few_others in
    let joined = statistics_joined w128 a b _ _ least greatest sum least_other greatest_other sum_other low high total c.min.ensures.value c.max.ensures.value in
    record {
      value = ap Some joined;
      range = subst HasRange (sym joined) (joined_range a b c.requires.range c.requires.other_range);
    }
