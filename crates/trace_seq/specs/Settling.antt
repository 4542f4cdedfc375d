-- Chunks that lost some of their ids, and are put in order again: those that hold ids in front, the empty ones behind.
use Rattle.std.specs.Prelude.{ℕ, ◌+◌, ◌≡◌, ◌≤◌, List, [], ◌∷◌, ◌++◌, length}
use Rattle.std.specs.List.{AllByRecursion}
use Rattle.std.specs.Vec.{vec_capacity}
use Rattle.trace_seq.specs.declared.chunk.Chunk.{Chunk}
use Rattle.trace_seq.specs.Chunks.{size, ids_of, IsFilled, IsEmpty, AreThick}

-- a chunk with room for 512 ids, and no more of them
abbrev pub IsRoomy : Chunk → Type 0
IsRoomy c = (size c ≤ 512) × (512 ≤ vec_capacity c.ids)

-- a chunk that lost ids, and no room
pub record IsThinned (old new : Chunk) : Type 0 where
  pub size : size new ≤ size old
  pub room : vec_capacity old.ids ≤ vec_capacity new.ids

-- the same of each
abbrev pub AreThinned : List Chunk → List Chunk → Type 0
AreThinned [] [] = Unit {0}
AreThinned [] (d ∷ ds) = ⊥
AreThinned (c ∷ cs) [] = ⊥
AreThinned (c ∷ cs) (d ∷ ds) = IsThinned c d × AreThinned cs ds

-- the same ids in the same order, in as many chunks
pub record IsReordered (old new : List Chunk) : Type 0 where
  pub ids : ids_of new ≡ ids_of old
  pub long : length new ≡ length old

-- of the first `passed` chunks the first `kept` are in use, and the others are empty
pub record IsSettled (chunks : List Chunk) (kept passed : ℕ) : Type 0 where
  pub front : List Chunk
  pub empty : List Chunk
  pub rest : List Chunk
  pub parts : chunks ≡ front ++ (empty ++ rest)
  pub kept_is : length front ≡ kept
  pub passed_is : length front + length empty ≡ passed
  pub filled : AllByRecursion IsFilled front
  pub thick : AreThick 257 front
  pub none : AllByRecursion IsEmpty empty
  pub roomy : AllByRecursion IsRoomy rest
