use Rattle.std.proofs.Common.{◌≡◌, ℕ, ◌<◌, false, [], get_or}
use Rattle.text_block.specs.Blocks.{ends_text}
use Rattle.frame_cut.proofs.text_headers.blocks_to_end.Given as goal

abbrev pub invariant-loop-i : goal.invariant-loop-i
invariant-loop-i l = (k : ℕ) → k < l.i → ends_text (get_or l.blocks k []) ≡ false
