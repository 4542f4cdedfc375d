use Rattle.std.proofs.Common.{codes, decimal, rules, SFits}
use Rattle.std.specs.Int.{w128}
use Rattle.std.proofs.lemmas.Int.{to_z-of_z}
use Rattle.std.specs.Fmt.{signed_decimal}
use Rattle.line_texts.proofs.TextLemmas.{three_numbered}
use Rattle.script_text.proofs.problem_texts.push_run.Goals as goal

pub returns-in-FarCrossline-clause-text : goal.returns-in-FarCrossline-clause-text
returns-in-FarCrossline-clause-text c =
    let r = c.args.run in
    let fact : SFits w128 r.facts.0 = search rules in
    rw (c.push_one-in-FarCrossline.ensures.text, c.push_spaced.ensures.text, c.push_numbered.ensures.text, c.requires, c.in-FarCrossline.is, to_z-of_z w128 r.facts.0 fact)
    (three_numbered (codes "run ") (decimal r.first) (codes " ") (decimal r.last) (codes " crossline ") (signed_decimal r.facts.0))
