use Rattle.std.proofs.Common.{◌≡◌, length, arith, rules}
use Rattle.std.proofs.lemmas.List.{drop_all}
use Rattle.line_texts.proofs.text_from_end.TextFromEnd.clear.Goals as goal

pub returns : goal.returns
returns c =
    let room : length c.self.inside.bytes ≡ 192 = search rules in
    drop_all 192 c.self.inside.bytes (omega (arith, room))
