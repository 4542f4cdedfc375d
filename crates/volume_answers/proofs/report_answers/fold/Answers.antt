use Rattle.std.proofs.Common.{ℕ, ap, ◌∙◌, rules}
use Rattle.std.proofs.lemmas.Int.{to_z-of_z}
use Rattle.std.specs.Prelude.{Ok}
use Rattle.std.specs.Int.{w128}
use mir.Val.{SFits}
use Rattle.trace_record.specs.Keys.{cell}
use Rattle.bench_rules.specs.declared.answer.Answer.TheVariants as answers
use Rattle.bench_rules.specs.Answer.{Reply}
use Rattle.volume_answers.proofs.report_answers.fold.Goals as goal

pub returns : goal.returns
returns c = λ s live.
    let first : SFits w128 c.args.inline = search rules in
    let second : SFits w128 c.args.crossline = search rules in
    let told = rw (to_z-of_z w128 c.args.inline first, to_z-of_z w128 c.args.crossline second) at c.fold.ensures in
    ap (λ (n : ℕ). let r : Reply = Ok (answers.Fold n) in r) (told ∙ live.count (cell c.args.inline c.args.crossline))
