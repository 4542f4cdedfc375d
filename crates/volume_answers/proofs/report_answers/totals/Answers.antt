use Rattle.std.proofs.Common.{ap, ◌≡◌, ◌∙◌, rules}
use Rattle.std.proofs.lemmas.Int.{to_z-of_z}
use Rattle.std.specs.Int.{w128}
use Rattle.std.specs.Prelude.{Option}
use mir.Val.{SFits}
use Rattle.trace_record.specs.declared.statistics.Statistics.{Statistics}
use Rattle.range_stats.specs.OfTally.{statistics_from}
use Rattle.bench_rules.specs.declared.answer.Answer.{Answer}
use Rattle.bench_rules.specs.declared.answer.Answer.TheVariants as answers
use Rattle.bench_rules.proofs.LiveLemmas.{shows_totals}
use Rattle.volume_answers.proofs.report_answers.totals.Goals as goal

pub returns : goal.returns
returns c = λ s live.
    let fit : SFits w128 c.sum.result = search rules in
    let four : c.all_four.result ≡ statistics_from c.least-least.result c.greatest-greatest.result c.args.totals.now.sum c.args.totals.now.number = rw (to_z-of_z w128 c.sum.result fit, c.sum.ensures, c.number.ensures) at c.all_four.ensures in
    ap (λ (o : Option Statistics). let a : Answer = answers.Totals o in a)
    (four ∙ shows_totals s c.args.totals.now c.least-least.result c.greatest-greatest.result live c.least-least.ensures c.greatest-greatest.ensures)
