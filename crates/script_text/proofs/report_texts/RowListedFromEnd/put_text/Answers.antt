use Rattle.std.proofs.Common.{rules, ◌≡◌, ◌∷◌, ◌++◌, ◌∙◌, codes, decimal}
use Rattle.std.specs.Fmt.{signed_decimal}
use Rattle.line_texts.proofs.TextLemmas.{line_of_four}
use Rattle.script_text.proofs.report_texts.RowListedFromEnd.put_text.Goals as goal

pub returns : goal.returns
returns c =
    let word = c.args.word.now in
    let row = c.args.self.now in
    let parts : c.put_at_cell.new.line ≡ (word ++ 32 ∷ (signed_decimal row.inline ++ 32 ∷ (signed_decimal row.crossline ++ 32 ∷ decimal row.position))) ++ 32 ∷ (signed_decimal row.value ++ codes "\n") = search rules in
    parts ∙ line_of_four word (signed_decimal row.inline) (signed_decimal row.crossline) (decimal row.position) (signed_decimal row.value) (codes "\n")
