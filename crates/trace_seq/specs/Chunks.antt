-- Ids in chunks: a list of chunks, one behind another.
use Rattle.std.specs.Prelude.{ℕ, zero, suc, ◌+◌, ◌≡◌, ◌<◌, ◌≤◌, List, [], ◌∷◌, ◌++◌, length, take}
use Rattle.std.specs.List.{AllByRecursion}
use Rattle.std.specs.Vec.{vec_capacity}
use Rattle.trace_seq.specs.declared.chunk.Chunk.{Chunk}
use Rattle.trace_seq.specs.declared.chunk.Spot.{Spot}
use Rattle.trace_seq.specs.declared.chunk_list.ChunkList.{ChunkList}

-- how many ids a chunk holds
abbrev pub size : Chunk → ℕ
size c = length c.ids.items

-- the ids of all chunks, in order
abbrev pub ids_of : List Chunk → List ℕ
ids_of [] = []
ids_of (c ∷ cs) = c.ids.items ++ ids_of cs

-- how many ids the chunk at k holds, chunks counted from 0; 0 where there is none
abbrev pub size_at : List Chunk → ℕ → ℕ
size_at [] k = 0
size_at (c ∷ cs) zero = size c
size_at (c ∷ cs) (suc k) = size_at cs k

-- the place of a spot among all ids, from 0
abbrev pub place_at : List Chunk → Spot → ℕ
place_at cs s = length (ids_of (take s.chunk cs)) + s.offset

-- a chunk that is in use: it is not empty, and holds at most 512 ids in room for so many
abbrev pub IsFilled : Chunk → Type 0
IsFilled c = (0 < size c) × (size c ≤ 512) × (512 ≤ vec_capacity c.ids)

-- a chunk that is spare: empty, with room for 512 ids
abbrev pub IsEmpty : Chunk → Type 0
IsEmpty c = (c.ids.items ≡ []) × (512 ≤ vec_capacity c.ids)

-- two chunks side by side hold more than 256 ids together; `before` is what the chunk in front holds
abbrev pub AreThick : ℕ → List Chunk → Type 0
AreThick before [] = Unit {0}
AreThick before (c ∷ cs) = (256 < before + size c) × AreThick (size c) cs

-- what holds of the chunks in use and the spare ones
pub record IsSound (chunks spares : List Chunk) : Type 0 where
  pub filled : AllByRecursion IsFilled chunks
  pub empty : AllByRecursion IsEmpty spares
  -- in front of the first chunk any number will do
  pub thick : AreThick 257 chunks

-- how many chunks there are, in use and spare
abbrev pub chunk_count : ChunkList → ℕ
chunk_count s = length s.chunks.items + length s.spares.items

-- what holds of the whole between two calls: there is room for each chunk among those in use and among the spare ones
pub record IsWhole (s : ChunkList) : Type 0 where
  pub sound : IsSound s.chunks.items s.spares.items
  pub chunk_room : length s.chunks.items + length s.spares.items ≤ vec_capacity s.chunks
  pub spare_room : length s.chunks.items + length s.spares.items ≤ vec_capacity s.spares
  pub count : s.count ≡ length (ids_of s.chunks.items)
