use Rattle.std.proofs.Common.{rules, SFits, ◌+ℤ◌, ◌+◌, ◌∙◌, refl}
use Rattle.std.proofs.lemmas.Int.{to_z-of_z}
use Rattle.std.specs.Int.{w32, w64}
use Rattle.trace_record.specs.Narrow.{statistics_of_narrow}
use Rattle.trace_record.proofs.AddedLemmas.{statistics_added}
use Rattle.trace_record.proofs.narrow.Narrow.add.Goals as goal

pub returns : goal.returns
returns c n =
    let old = statistics_of_narrow c.args.self.now n in let x = c.args.sample in
    let least : SFits w32 old.least = search rules in
    let greatest : SFits w32 old.greatest = search rules in
    let sum : SFits w64 old.sum = search rules in
    let low : SFits w32 c.min-self.result = search rules in
    let high : SFits w32 c.max-self.result = search rules in
    let wide : SFits w64 c.from.result = search rules in
    let total : SFits w64 (old.sum +ℤ c.from.result) = search rules in
    statistics_added w32 w64 old x _ _ _ (n + 1) least greatest sum c.ranges.sample wide low high total (c.from.ensures ∙ to_z-of_z w32 x c.ranges.sample) c.min-self.ensures.value c.max-self.ensures.value refl
