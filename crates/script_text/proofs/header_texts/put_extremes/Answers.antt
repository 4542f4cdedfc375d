use Rattle.std.proofs.Common.{rules, SFits}
use Rattle.std.specs.Int.{w128}
use Rattle.std.proofs.lemmas.Int.{to_z-of_z}
use Rattle.std.specs.Fmt.{signed_decimal}
use Rattle.line_texts.proofs.TextLemmas.{four_behind}
use Rattle.script_text.proofs.header_texts.put_extremes.Goals as goal

pub returns : goal.returns
returns c =
    let e = c.args.extremes in
    let least : SFits w128 e.least = search rules in
    let greatest : SFits w128 e.greatest = search rules in
    let first : SFits w128 e.first = search rules in
    let last : SFits w128 e.last = search rules in
    rw (c.put_byte-4.ensures, c.put_number-4.ensures.text, c.put_byte-3.ensures, c.put_number-3.ensures.text, c.put_byte-2.ensures, c.put_number-2.ensures.text, c.put_byte.ensures, c.put_number.ensures.text, to_z-of_z w128 e.least least, to_z-of_z w128 e.greatest greatest, to_z-of_z w128 e.first first, to_z-of_z w128 e.last last)
    (four_behind (signed_decimal e.least) (signed_decimal e.greatest) (signed_decimal e.first) (signed_decimal e.last) c.args.text.now)
