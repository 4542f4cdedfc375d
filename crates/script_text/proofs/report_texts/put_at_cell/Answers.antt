use Rattle.std.proofs.Common.{rules, ◌≡◌, ◌∷◌, ◌++◌, ◌∙◌}
use Rattle.std.specs.Fmt.{signed_decimal}
use Rattle.line_texts.proofs.TextLemmas.{line_of_three}
use Rattle.script_text.proofs.report_texts.put_at_cell.Goals as goal

pub returns : goal.returns
returns c =
    let a = c.args in
    let parts : c.put.new.self ≡ a.word.now ++ 32 ∷ (signed_decimal a.inline ++ 32 ∷ (signed_decimal a.crossline ++ 32 ∷ (signed_decimal a.number ++ a.line.now))) = search rules in
    parts ∙ line_of_three a.word.now (signed_decimal a.inline) (signed_decimal a.crossline) (signed_decimal a.number) a.line.now
