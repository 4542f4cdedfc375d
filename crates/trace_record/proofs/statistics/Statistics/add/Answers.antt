use Rattle.std.proofs.Common.{rules, SFits, ◌+ℤ◌, ◌+◌, refl}
use mir.Syntax.{w128}
use Rattle.trace_record.proofs.AddedLemmas.{statistics_added}
use Rattle.trace_record.proofs.statistics.Statistics.add.Goals as goal

pub returns : goal.returns
returns c =
    let old = c.args.self.now in let x = c.args.sample in
    let least : SFits w128 old.least = search rules in
    let greatest : SFits w128 old.greatest = search rules in
    let sum : SFits w128 old.sum = search rules in
    let low : SFits w128 c.min-self.result = search rules in
    let high : SFits w128 c.max-self.result = search rules in
    let total : SFits w128 (old.sum +ℤ x) = search rules in
    statistics_added w128 w128 old x x _ _ (old.number + 1) least greatest sum c.ranges.sample c.ranges.sample low high total refl c.min-self.ensures.value c.max-self.ensures.value refl
