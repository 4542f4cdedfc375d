use Rattle.std.proofs.Common.{◌∙◌, sym}
use Rattle.script_words.proofs.SortLemmas.{behind_sign}
use Rattle.script_words.proofs.sort_command.without_sign.Goals as goal

pub split_at-requires : goal.split_at-requires
split_at-requires c =
    let same = c.as_bytes.ensures.value in
    behind_sign c.args.word.now (rw same at c.as_bytes.ensures.utf8) (rw same at (sym c.is_falling.ensures ∙ c.if-is_falling.true))
