-- A walk over the traces of a file, from the first one on.
use Rattle.std.specs.Prelude.{ℕ, ◌≡◌, ◌+◌, ◌*◌, ◌-◌, ◌<◌, ◌≤◌, ◌&&◌, IsFalse, List, length, take, drop, All, Some}
use Rattle.frame_cut.specs.declared.extent.Extent.{Extent}
use Rattle.frame_cut.specs.declared.file_head.Head.{Head}
use Rattle.frame_cut.specs.declared.limits.Limits.{Limits}
use Rattle.frame_cut.specs.declared.load_fault.LoadFault.{LoadFault}
use Rattle.frame_cut.specs.Layout.{pieces, AreContiguous}
use Rattle.frame_cut.specs.Frames.{trace_length}
use Rattle.frame_cut.specs.declared.reading.Reading.{Reading}
use Rattle.frame_cut.specs.Cuts.{IsTrace, IsTail, is_torn, trace_refusal}
use Rattle.text_block.specs.declared.block.TheConstants.{TEXT_BLOCK_BYTES}

-- every trace of the file has this length, whatever its bytes are
abbrev pub IsFixedLength : Head → ℕ → Type 0
IsFixedLength h n = (t : List ℕ) → trace_length h t ≡ Some n

-- where the traces end: in front of the data trailer records
abbrev pub traces_end : List ℕ → Head → ℕ
traces_end file h = length file - TEXT_BLOCK_BYTES * h.trailer

-- the bytes from a place up to the data trailer records
abbrev pub left_at : List ℕ → Head → ℕ → List ℕ
left_at file h at = take (traces_end file h - at) (drop at file)

-- the traces up to a place are whole, and no more than the limit
pub record AreWhole (file : List ℕ) (h : Head) (limits : Limits) (extents : List Extent) (at : ℕ) : Type 0 where
  pub laid : AreContiguous h.traces_at extents at
  pub traces : All (IsTrace h) (pieces file extents)
  pub few : length extents ≤ limits.traces

-- the traces up to a place are whole, and what is left there is less than a trace, which the reading keeps, or nothing
pub record EndsAt (file : List ℕ) (reading : Reading) (h : Head) (limits : Limits) (extents : List Extent) (at : ℕ) : Type 0 where
  pub whole : AreWhole file h limits extents at
  pub inside : at ≤ traces_end file h
  pub tail : IsTail reading h (left_at file h at)

-- the traces up to a place are whole, and the one that begins there is refused, where the reading keeps no tail of it
pub record StopsAt (file : List ℕ) (reading : Reading) (h : Head) (limits : Limits) (extents : List Extent) (at : ℕ) (fault : LoadFault) : Type 0 where
  pub whole : AreWhole file h limits extents at
  pub some : at < traces_end file h
  pub unkept : IsFalse (reading.tail && is_torn h (left_at file h at))
  pub refused : trace_refusal h limits (length extents + 1) (left_at file h at) ≡ Some fault
