use Rattle.std.proofs.Common.{ap, rules, sym, ◌∙◌}
use Rattle.std.proofs.lemmas.Int.{to_z-of_z}
use Rattle.std.specs.Int.{w128}
use Rattle.std.specs.Prelude.{Bool, Option, option_map}
use mir.Val.{SFits}
use Rattle.trace_record.specs.declared.amplitudes.Amplitudes.{Amplitudes}
use Rattle.trace_record.specs.declared.statistics.Statistics.{Statistics}
use Rattle.trace_record.specs.Facts.{facts_of}
use Rattle.trace_record.specs.Statistics.{statistics_of, statistics_with}
use Rattle.trace_view.specs.Values.{samples_of}
use Rattle.bench_rules.specs.declared.answer.Answer.{Answer}
use Rattle.bench_rules.specs.declared.answer.Answer.TheVariants as answers
use Rattle.bench_rules.proofs.LiveLemmas.{stat_shown}
use Rattle.volume_answers.proofs.report_answers.stat.Goals as goal

pub returns : goal.returns
returns c = λ h fields t whole is.
    let a = c.in-Some.amplitudes in
    let first : SFits w128 a.least = search rules in
    let second : SFits w128 a.greatest = search rules in
    let third : SFits w128 a.sum = search rules in
    rw (to_z-of_z w128 a.least first, to_z-of_z w128 a.greatest second, to_z-of_z w128 a.sum third, c.from.ensures)
    (ap (λ (o : Option Statistics). let s : Answer = answers.Stat o in s)
    (ap (λ (o : Option Amplitudes). option_map (λ b. statistics_with b c.args.trace.now.number) o) (sym c.in-Some.is) ∙ stat_shown h fields t (facts_of c.args.trace.now) is
    ∙ ap (λ (b : Bool). statistics_of b (samples_of h t)) whole))
