-- Where the parts of a file lie in its bytes.
use Rattle.std.specs.Prelude.{ℕ, ◌≡◌, ◌≤◌, ◌+◌, ◌*◌, ◌-◌, List, [], ◌∷◌, length, map, take, drop}
use Rattle.frame_cut.specs.declared.extent.Extent.{Extent}
use Rattle.frame_cut.specs.declared.file_head.Head.{Head}
use Rattle.frame_cut.specs.Heads.{blocks_of}
use Rattle.frame_cut.specs.Volume.{Volume}
use Rattle.text_block.specs.declared.block.TheConstants.{TEXT_BLOCK_BYTES}
use Rattle.frame_cut.specs.declared.sizes.TheConstants.{BINARY_HEADER_BYTES, FILE_HEADER_BYTES}

-- the bytes of an extent
abbrev pub bytes_at : List ℕ → Extent → List ℕ
bytes_at file e = take e.length (drop e.start file)

-- the bytes of each extent
abbrev pub pieces : List ℕ → List Extent → List (List ℕ)
pieces file extents = map (λ e. bytes_at file e) extents

-- the extents lie one behind the other: the first begins at `start`, the last ends in front of `end`
abbrev pub AreContiguous : ℕ → List Extent → ℕ → Type 0
AreContiguous start [] end = start ≡ end
AreContiguous start (e ∷ es) end = (e.start ≡ start) × AreContiguous (start + e.length) es end

-- so many bytes in front of the data trailer records
abbrev pub tail_at : List ℕ → Head → ℕ → List ℕ
tail_at file h n = take n (drop (length file - TEXT_BLOCK_BYTES * h.trailer - n) file)

-- the parts of a file with this head whose traces lie at these extents, with so many bytes of no trace behind them
abbrev pub volume_at : List ℕ → Head → List Extent → ℕ → Volume
volume_at file h extents n = record {
  head = h;
  text = take TEXT_BLOCK_BYTES file;
  bin = take BINARY_HEADER_BYTES (drop TEXT_BLOCK_BYTES file);
  blocks = blocks_of h.blocks (drop FILE_HEADER_BYTES file);
  traces = pieces file extents;
  tail = tail_at file h n;
  trailer = blocks_of h.trailer (drop (length file - TEXT_BLOCK_BYTES * h.trailer) file);
}

-- the traces lie one behind the other from the head's place of the first trace, and behind them so many bytes of no trace up
-- to the data trailer records
pub record AreTracesOf (file : List ℕ) (h : Head) (extents : List Extent) (n : ℕ) : Type 0 where
  -- the first trace stands behind the extended textual headers
  pub front : h.traces_at ≡ FILE_HEADER_BYTES + TEXT_BLOCK_BYTES * h.blocks
  pub laid : AreContiguous h.traces_at extents (length file - TEXT_BLOCK_BYTES * h.trailer - n)
  -- the bytes in front of the first trace, those of no trace and the data trailer records are there
  pub whole : h.traces_at + n + TEXT_BLOCK_BYTES * h.trailer ≤ length file
