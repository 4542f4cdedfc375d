use Rattle.std.proofs.Common.{sym, ◌∙◌}
use Rattle.script_words.proofs.BoundaryLemmas.{behind_gap}
use Rattle.script_words.proofs.words.Words.text_behind.Goals as goal

pub split_at-requires : goal.split_at-requires
split_at-requires c =
    behind_gap c.self.inside.rest.now c.in-Some.byte.now (rw c.as_bytes.ensures.value at c.as_bytes.ensures.utf8)
    (rw c.as_bytes.ensures.value at (sym c.in-Some.ensures.value)) (sym c.is_gap_byte.ensures ∙ c.if-is_gap_byte.true)
