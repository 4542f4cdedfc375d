use Rattle.std.proofs.Common.{◌≡◌, drop}
use Rattle.text_block.specs.Blocks.{compact_text, end_stanza, has_part}
use Rattle.text_block.proofs.block.ends_text.Given as goal

abbrev pub invariant-loop-at : goal.invariant-loop-at
invariant-loop-at l = has_part end_stanza (compact_text l.code (drop l.at l.block)) ≡ has_part end_stanza (compact_text l.code l.block)
