use Rattle.std.proofs.Common.{◌≡◌, ◌<◌, drop, nat_eq}
use Rattle.std.specs.List.{starts_with}
use Rattle.text_block.specs.Blocks.{compact_text, end_stanza}
use Rattle.text_block.proofs.block.starts_with_end.Given as goal

abbrev pub invariant-loop-byte : goal.invariant-loop-byte
invariant-loop-byte l = record {
  within : l.matched < 15;
  same : starts_with nat_eq (compact_text l.code (drop l.byte-index l.bytes)) (drop l.matched end_stanza) ≡ starts_with nat_eq (compact_text l.code l.bytes) end_stanza;
}
