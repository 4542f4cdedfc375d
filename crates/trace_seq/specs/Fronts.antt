-- How many ids stand in front of chunks, and a vector that tells it of each 16th of them.
use Rattle.std.specs.Prelude.{ℕ, ◌+◌, ◌*◌, ◌/◌, ◌≡◌, ◌<◌, ◌≤◌, List, length, take, slice_index}
use Rattle.std.specs.Vec.{vec_capacity}
use Rattle.trace_seq.specs.declared.chunk.Chunk.{Chunk}
use Rattle.trace_seq.specs.declared.counted_chunks.CountedChunks.{CountedChunks}
use Rattle.trace_seq.specs.Chunks.{chunk_count, ids_of, IsWhole}

-- how many ids stand in front of the chunk at k; all, where there is none
abbrev pub front : List Chunk → ℕ → ℕ
front cs k = length (ids_of (take k cs))

-- an id more in the chunk at k: one more stands in front of each chunk behind it
pub record AreRaised (old new : List Chunk) (k : ℕ) : Type 0 where
  pub below : (j : ℕ) → j ≤ k → front new j ≡ front old j
  pub above : (j : ℕ) → k < j → front new j ≡ front old j + 1

-- an id more behind all: in front of each chunk stand as many as before
abbrev pub AreKept : List Chunk → List Chunk → Type 0
AreKept old new = (j : ℕ) → j < length new → front new j ≡ front old j

-- the numbers are those of the ids in front of each 16th chunk
abbrev pub AreFronts : List Chunk → List ℕ → Type 0
AreFronts cs fronts = (g : ℕ) → g < length fronts → slice_index fronts g ≡ front cs (16 * g)

-- so many chunks from the first on have 384 ids each: as many stand in front of each of them, and of the one behind them
abbrev pub AreEven : List Chunk → ℕ → Type 0
AreEven cs even = (j : ℕ) → j ≤ even → front cs j ≡ 384 * j

-- how many groups of 16 so many chunks are in, the last with the rest
abbrev pub groups_of : ℕ → ℕ
groups_of chunks = (chunks + 15) / 16

-- what holds of the whole between two calls: each group has its number, there is room for those of all chunks, and so many
-- chunks are even as is noted
pub record IsCounted (s : CountedChunks) : Type 0 where
  pub whole : IsWhole s.list
  pub fronts : AreFronts s.list.chunks.items s.fronts.items
  pub groups : length s.fronts.items ≡ groups_of (length s.list.chunks.items)
  pub room : chunk_count s.list ≤ vec_capacity s.fronts
  pub even : AreEven s.list.chunks.items s.even
