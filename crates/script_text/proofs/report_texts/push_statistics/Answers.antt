use Rattle.std.proofs.Common.{codes, decimal, rules, SFits}
use Rattle.std.specs.Int.{w128}
use Rattle.std.proofs.lemmas.Int.{to_z-of_z}
use Rattle.std.specs.Fmt.{signed_decimal}
use Rattle.line_texts.proofs.TextLemmas.{four_numbered}
use Rattle.script_text.proofs.report_texts.push_statistics.Goals as goal

pub returns-clause-text : goal.returns-clause-text
returns-clause-text c =
    let s = c.args.found in
    let least : SFits w128 s.least = search rules in
    let greatest : SFits w128 s.greatest = search rules in
    let sum : SFits w128 s.sum = search rules in
    rw (c.push_numbered-4.ensures.text, c.push_numbered-3.ensures.text, c.push_numbered-2.ensures.text, c.push_numbered.ensures.text, to_z-of_z w128 s.least least, to_z-of_z w128 s.greatest greatest, to_z-of_z w128 s.sum sum)
    (four_numbered c.args.line.now (codes " least ") (signed_decimal s.least) (codes " greatest ") (signed_decimal s.greatest)
    (codes " sum ") (signed_decimal s.sum) (codes " samples ") (decimal s.number))
