use Rattle.std.proofs.Common.{codes, decimal, rules, w32, SFits}
use Rattle.std.proofs.lemmas.Int.{to_z-of_z}
use Rattle.std.specs.Fmt.{signed_decimal}
use Rattle.line_texts.proofs.TextLemmas.{three_numbered}
use Rattle.script_text.proofs.problem_texts.push_no_survey.Goals as goal

pub returns-clause-text : goal.returns-clause-text
returns-clause-text c =
    let f = c.args.found in
    let inline : SFits w32 f.inline = search rules in
    let crossline : SFits w32 f.crossline = search rules in
    rw (c.push_numbered-3.ensures.text, c.push_numbered-2.ensures.text, c.push_numbered.ensures.text, c.requires, to_z-of_z w32 f.inline inline, to_z-of_z w32 f.crossline crossline)
    (three_numbered (codes "problem S1 traces ") (decimal f.traces) (codes " inline ") (signed_decimal f.inline) (codes " crossline ") (signed_decimal f.crossline))
