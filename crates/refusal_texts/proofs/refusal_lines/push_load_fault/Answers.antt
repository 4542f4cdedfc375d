use Rattle.std.proofs.Common.{codes, decimal, ◌++◌, rules, w16, w32, SFits}
use Rattle.std.proofs.lemmas.Int.{to_z-of_z}
use Rattle.line_texts.proofs.TextLemmas.{three_parts}
use Rattle.refusal_texts.proofs.refusal_lines.push_load_fault.Goals as goal

pub returns-in-Revision-clause-text : goal.returns-in-Revision-clause-text
returns-in-Revision-clause-text c =
    rw (c.in-Revision.is, c.push_numbered-in-Revision-2.ensures.text, c.push_numbered-in-Revision.ensures.text)
    (three_parts c.args.line.now (codes "L05 revision " ++ decimal c.in-Revision.major) (codes ".") (decimal c.in-Revision.minor))

pub returns-in-GainFormat-clause-text : goal.returns-in-GainFormat-clause-text
returns-in-GainFormat-clause-text c = rw c.in-GainFormat.is c.push-in-GainFormat.ensures

pub returns-in-TextCount-clause-text : goal.returns-in-TextCount-clause-text
returns-in-TextCount-clause-text c =
    let fits : SFits w16 c.in-TextCount.number = search rules in
    rw c.in-TextCount.is (rw (to_z-of_z w16 c.in-TextCount.number fits) at c.push_numbered-in-TextCount.ensures.text)

pub returns-in-Extensions-clause-text : goal.returns-in-Extensions-clause-text
returns-in-Extensions-clause-text c =
    let fits : SFits w32 c.in-Extensions.number = search rules in
    rw c.in-Extensions.is (rw (to_z-of_z w32 c.in-Extensions.number fits) at c.push_numbered-in-Extensions.ensures.text)

pub returns-in-ExtensionCount-clause-text : goal.returns-in-ExtensionCount-clause-text
returns-in-ExtensionCount-clause-text c = rw c.in-ExtensionCount.is c.push_numbered-in-ExtensionCount.ensures.text

pub returns-in-TooManyTraces-clause-text : goal.returns-in-TooManyTraces-clause-text
returns-in-TooManyTraces-clause-text c = rw c.in-TooManyTraces.is c.push-in-TooManyTraces.ensures
