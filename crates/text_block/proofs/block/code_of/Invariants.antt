use Rattle.std.proofs.Common.{◌≡◌, take}
use Rattle.text_block.specs.Blocks.{number_of}
use Rattle.text_block.proofs.block.code_of.Given as goal

abbrev pub invariant-loop-byte : goal.invariant-loop-byte
invariant-loop-byte l = record {
  ebcdic : l.ebcdic ≡ number_of 0x40 (take l.byte-index l.block);
  ascii : l.ascii ≡ number_of 0x20 (take l.byte-index l.block);
}
