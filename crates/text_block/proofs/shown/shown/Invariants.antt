use Rattle.std.proofs.Common.{◌≡◌, ◌≤◌, take, IsAscii, string_bytes}
use Rattle.text_block.specs.Characters.{shown_bytes}
use Rattle.text_block.proofs.shown.shown.Given as goal

abbrev pub invariant-loop-byte : goal.invariant-loop-byte
invariant-loop-byte l = record {
  text : string_bytes l.text ≡ shown_bytes l.code (take l.byte-index l.bytes);
  ascii : IsAscii (string_bytes l.text);
  memory : l.initial.room ≤ l.room;
}
