-- Laws of the cut of a file, whatever its bytes are.
use Rattle.std.specs.Prelude.{◌≡◌, ◌+◌, ◌<◌, ◌≤◌, ◌⊎◌, ℕ, List, [], length, take, slice_set, slice_index_or, Some}
use Rattle.std.specs.List.{concat}
use Rattle.frame_cut.specs.declared.extent.Extent.{Extent}
use Rattle.frame_cut.specs.declared.file_head.Head.{Head}
use Rattle.frame_cut.specs.declared.limits.Limits.{Limits}
use Rattle.frame_cut.specs.declared.reading.Reading.{Reading}
use Rattle.frame_cut.specs.declared.load_fault.LoadFault.{LoadFault}
use Rattle.frame_cut.specs.Splice.{splice}
use Rattle.frame_cut.specs.Volume.{Volume, bytes_of}
use Rattle.frame_cut.specs.Heads.{traces_at}
use Rattle.frame_cut.specs.Frames.{trace_length, front_length}
use Rattle.frame_cut.specs.Layout.{volume_at, AreTracesOf}
use Rattle.frame_cut.specs.Cuts.{IsCut, IsStuck, IsRefused}

-- two cuts of a file are the same
abbrev pub AtMostOneCut : Type 0
AtMostOneCut = (file : List ℕ) (reading : Reading) (limits : Limits) (v w : Volume) → IsCut file reading limits v → IsCut file reading limits w → v ≡ w

-- a file's traces stop at one place at most, for one reason
abbrev pub AtMostOneStuck : Type 0
AtMostOneStuck = (file : List ℕ) (reading : Reading) (limits : Limits) (v w : Volume) (xs ys : List ℕ) (a b : LoadFault)
    → IsStuck file reading limits v xs a → IsStuck file reading limits w ys b → (v ≡ w) × (xs ≡ ys) × (a ≡ b)

-- a file that is cut is not stuck
abbrev pub NotCutAndStuck : Type 0
NotCutAndStuck = (file : List ℕ) (reading : Reading) (limits : Limits) (v w : Volume) (rest : List ℕ) (fault : LoadFault)
    → IsCut file reading limits v → IsStuck file reading limits w rest fault → ⊥

-- a file is refused for one reason at most
abbrev pub AtMostOneRefusal : Type 0
AtMostOneRefusal = (file : List ℕ) (reading : Reading) (limits : Limits) (a b : LoadFault) → IsRefused file reading limits a → IsRefused file reading limits b → a ≡ b

-- a file that is cut is not refused
abbrev pub NotCutAndRefused : Type 0
NotCutAndRefused = (file : List ℕ) (reading : Reading) (limits : Limits) (v : Volume) (fault : LoadFault) → IsCut file reading limits v → IsRefused file reading limits fault → ⊥

-- a file is cut, or refused
abbrev pub CutOrRefused : Type 0
CutOrRefused = (file : List ℕ) (reading : Reading) (limits : Limits) → ((v : Volume) × IsCut file reading limits v) ⊎ ((fault : LoadFault) × IsRefused file reading limits fault)

-- traces with one front have one length
abbrev pub LengthByFront : Type 0
LengthByFront = (h : Head) (t u : List ℕ) → front_length h ≤ length t → front_length h ≤ length u → take (front_length h) t ≡ take (front_length h) u → trace_length h t ≡ trace_length h u

-- the parts of a file whose traces are laid one behind the other, joined, are the file
abbrev pub LaidIsJoined : Type 0
LaidIsJoined = (file : List ℕ) (h : Head) (extents : List Extent) (n : ℕ) → AreTracesOf file h extents n → bytes_of (volume_at file h extents n) ≡ file

-- a file stays cut, under the same head, where bytes are spliced inside trace p (counted from 0) that leave it its length
abbrev pub SpliceStaysCut : Type 0
SpliceStaysCut = (reading : Reading) (limits : Limits) (v : Volume) (p at : ℕ) (new : List ℕ)
    → IsCut (bytes_of v) reading limits v → p < length v.traces → at + length new ≤ length (slice_index_or v.traces p [])
    → trace_length v.head (splice (slice_index_or v.traces p []) at (length new) new) ≡ Some (length (slice_index_or v.traces p []))
    → IsCut (splice (bytes_of v) (traces_at v.head.blocks + length (concat (take p v.traces)) + at) (length new) new) reading limits
    (record v { traces = slice_set v.traces p (splice (slice_index_or v.traces p []) at (length new) new) })
