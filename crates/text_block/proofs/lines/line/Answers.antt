use Rattle.std.proofs.Common.{◌≡◌, ◌+◌, ◌-◌, ◌*◌, arith}
use Rattle.text_block.proofs.lines.line.Goals as goal

pub returns-clause-text : goal.returns-clause-text
returns-clause-text c =
    let long : 80 * (c.args.q - 1) + 80 - 80 * (c.args.q - 1) ≡ 80 = omega arith in
    rw (c.code_of.ensures, long) at c.shown.ensures.text
