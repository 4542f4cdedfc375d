use Rattle.std.proofs.Common.{codes, rules, w32, SFits}
use Rattle.std.proofs.lemmas.Int.{to_z-of_z}
use Rattle.std.specs.Fmt.{signed_decimal}
use Rattle.script_text.specs.ReportTexts.{fraction_text}
use Rattle.line_texts.proofs.TextLemmas.{five_behind}
use Rattle.script_text.proofs.report_texts.location_line.Goals as goal

pub returns : goal.returns
returns c =
    let l = c.args.location in
    let inline : SFits w32 l.inline = search rules in
    let crossline : SFits w32 l.crossline = search rules in
    let offset : SFits w32 l.offset = search rules in
    rw (c.push-3.ensures, c.push_fraction-2.ensures.text, c.push-2.ensures, c.push_fraction.ensures.text, c.push.ensures, c.push_numbered-3.ensures.text, c.push_numbered-2.ensures.text, c.push_numbered.ensures.text, c.new-line.ensures, to_z-of_z w32 l.inline inline, to_z-of_z w32 l.crossline crossline, to_z-of_z w32 l.offset offset)
    (five_behind (codes "geometry inline ") (signed_decimal l.inline) (codes " crossline ") (signed_decimal l.crossline)
    (codes " offset ") (signed_decimal l.offset) (codes " x ") (fraction_text l.x) (codes " y ") (fraction_text l.y) (codes "\n"))
