-- The pieces that a walk has, and those that it has still to give.
use Rattle.std.specs.Prelude.{◌≡◌, ◌++◌, length}
use Rattle.std.specs.List.{flat_map}
use Rattle.text_block.specs.declared.block.TheConstants.{TEXT_BLOCK_BYTES}
use Rattle.frame_cut.specs.declared.sizes.TheConstants.{BINARY_HEADER_BYTES}
use Rattle.edit_overlay.specs.Held.{HasEnds}
use Rattle.edit_pieces.specs.Pieces.{pieces_in, pieces_of}
use Rattle.edit_pieces.specs.Spans.{span_of, IsBounded}
use Rattle.edit_pieces.specs.Walks.{Walk}
use Rattle.edit_pieces.specs.declared.volume_edits.VolumeEdits.TheInside.{Inside}

-- all pieces; and the rest of the change that is being given, the binary header where it is still to be given, and the runs
-- that are left
abbrev pub walk_of : {T : Type 0} → Inside T → Walk
walk_of e = record {
  all = pieces_of e.text.now e.bin.now e.store.now;
  left = pieces_in (span_of e.current) ++ (pieces_in (span_of e.header) ++ flat_map pieces_in e.traces);
}

-- what holds of a walk between two calls
pub record IsWalk {T : Type 0} (e : Inside T) : Type 0 where
  -- the file headers and the bytes in front of the traces are there
  pub ends : HasEnds e.store.now 0
  pub text : length e.text.now ≡ TEXT_BLOCK_BYTES
  pub bin : length e.bin.now ≡ BINARY_HEADER_BYTES
  pub current : IsBounded e.current
  pub header : IsBounded e.header
