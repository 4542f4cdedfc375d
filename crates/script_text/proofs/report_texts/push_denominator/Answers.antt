use Rattle.std.proofs.Common.{◌≤◌, ◌<◌, ◌^◌, ◌++◌, List, ℕ, codes, decimal, length, ap, arith}
use Rattle.std.proofs.lemmas.Fmt.{length-decimal-le}
use Rattle.std.proofs.lemmas.List.{length-append}
use Rattle.script_text.proofs.report_texts.push_denominator.Goals as goal

pub returns-clause-short : goal.returns-clause-short
returns-clause-short c =
    let fits : c.args.den < 2 ^ 32 = c.ranges.den.fits in
    let few : length (decimal c.args.den) ≤ 10 = length-decimal-le 10 c.args.den (omega arith) (omega arith) (omega arith) in
    let same = ap (λ (l : List ℕ). length l) c.push_numbered.ensures.text in
    let all = length-append c.args.line.now (codes "/" ++ decimal c.args.den) in
    let own = length-append (codes "/") (decimal c.args.den) in
    omega (arith, few, same, all, own)
