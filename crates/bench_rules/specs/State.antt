-- A volume under edits, with all that its answers depend on.
use Rattle.std.specs.Prelude.{ℕ, Bool, List}
use Rattle.edit_overlay.specs.Reads.{Reads}
use Rattle.field_map.specs.Pairs.{Pairs}
use Rattle.frame_cut.specs.declared.limits.Limits.{Limits}
use Rattle.frame_cut.specs.declared.reading.Reading.{Reading}
use Rattle.frame_cut.specs.Volume.{Volume}

-- the parts of the file as they are now, the field map in force, how the file was read, and whether the bytes that were
-- loaded stay on disk, where a read of them may fail
pub record State : Type 0 where
  pub volume : Volume
  pub fields : Pairs
  pub reading : Reading
  pub limits : Limits
  pub on_disk : Bool

-- a state, how often traces were looked at, the bytes that the load read, and what is known of the reads of them since
pub record Session : Type 0 where
  pub state : State
  pub looks : ℕ
  pub loaded : List ℕ
  pub reads : Reads
