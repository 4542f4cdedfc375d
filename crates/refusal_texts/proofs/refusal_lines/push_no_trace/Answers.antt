use Rattle.std.proofs.Common.{codes, decimal}
use Rattle.line_texts.proofs.TextLemmas.{four_parts}
use Rattle.refusal_texts.proofs.refusal_lines.push_no_trace.Goals as goal

pub returns-clause-text : goal.returns-clause-text
returns-clause-text c =
    rw (c.push_number-2.ensures.text, c.push-2.ensures, c.push_number.ensures.text, c.push.ensures)
    (four_parts c.args.line.now (codes "E01 no trace ") (decimal c.args.p) (codes " of ") (decimal c.args.count))
