use Rattle.std.proofs.Common.{List, ap, ◌∙◌, inl}
use Rattle.std.specs.Prelude.{Ok}
use Rattle.grid_live.specs.declared.line.Line.{Line}
use Rattle.bench_rules.specs.declared.answer.Answer.TheVariants as answers
use Rattle.bench_rules.specs.Answer.{Reply}
use Rattle.bench_rules.proofs.LiveLemmas.{shows_the_crosslines}
use Rattle.volume_answers.proofs.report_answers.crosslines.Goals as goal

pub returns-clause-reply : goal.returns-clause-reply
returns-clause-reply c = λ s live.
    inl (ap (λ (l : List Line). let r : Reply = Ok (answers.Crosslines l) in r) (c.new.ensures ∙ shows_the_crosslines s c.args.grid.now c.in_ok-crosslines.field-0.items live c.in_ok-crosslines.ensures.crosslines))
