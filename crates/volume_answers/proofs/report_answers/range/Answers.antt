use Rattle.std.proofs.Common.{ap}
use Rattle.std.specs.Prelude.{Option, Ok}
use Rattle.key_counts.specs.declared.ratio.Ratio.{Ratio}
use Rattle.bench_rules.specs.declared.answer.Answer.TheVariants as answers
use Rattle.bench_rules.specs.Answer.{Reply}
use Rattle.bench_rules.proofs.LiveLemmas.{shows_ranges}
use Rattle.volume_answers.proofs.report_answers.range.Goals as goal

pub returns : goal.returns
returns c = λ s live.
    ap (λ (found : Option (Ratio × Ratio)). let r : Reply = Ok (answers.Range found) in r) (shows_ranges s c.args.ranges.now c.args.quantity c.range.result live c.range.ensures)
