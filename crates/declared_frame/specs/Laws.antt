-- Laws of the reading that is written into a file.
use Rattle.std.specs.Prelude.{◌≡◌, true, false}
use Rattle.frame_cut.specs.declared.limits.Limits.{Limits}
use Rattle.frame_cut.specs.declared.reading.Reading.{Reading}
use Rattle.frame_cut.specs.Cuts.{IsCut}
use Rattle.frame_cut.specs.Parts.{untailed}
use Rattle.frame_cut.specs.Volume.{Volume, bytes_of}
use Rattle.declared_frame.specs.Written.{with_declared, as_declared, can_declare, AreNumbers, AreSameParts}

-- a file stays cut under the reading that is written into it
abbrev pub DeclaredStaysCut : Type 0
DeclaredStaysCut = (reading : Reading) (limits : Limits) (v : Volume) → IsCut (bytes_of v) reading limits v
    → IsCut (bytes_of (with_declared reading v)) reading limits (with_declared reading v)

-- where it can be declared, a load without the reading cuts the file, without its tail, into the same parts
abbrev pub DeclaredIsRead : Type 0
DeclaredIsRead = (reading : Reading) (limits : Limits) (v : Volume) → AreNumbers reading → IsCut (bytes_of v) reading limits v → can_declare reading v ≡ true
    → (w : Volume) × IsCut (bytes_of (untailed (with_declared reading v))) (as_declared reading) limits w × AreSameParts (untailed (with_declared reading v)) w

-- where it cannot, no load without the reading cuts it into the same parts
abbrev pub UndeclaredIsOther : Type 0
UndeclaredIsOther = (reading : Reading) (limits : Limits) (v w : Volume) → AreNumbers reading → IsCut (bytes_of v) reading limits v → can_declare reading v ≡ false
    → IsCut (bytes_of (untailed (with_declared reading v))) (as_declared reading) limits w → AreSameParts (untailed (with_declared reading v)) w → ⊥
