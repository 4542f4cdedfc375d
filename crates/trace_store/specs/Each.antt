-- Bytes laid over traces that follow one another: so many over each, or the same over each at a place of its own.
use Rattle.std.specs.Prelude.{ℕ, zero, suc, ◌≡◌, ◌+◌, ◌*◌, List, [], ◌∷◌, length, take, drop, slice_index_or}
use Rattle.frame_cut.specs.Splice.{splice}
use Rattle.trace_view.specs.declared.run.Run.{Run}
use Rattle.trace_view.specs.Runs.{Fit, bytes_with_runs}

-- part k of bytes that are cut into parts of one size, counted from 0
abbrev pub part_of : List ℕ → ℕ → ℕ → List ℕ
part_of bytes size k = take size (drop (k * size) bytes)

-- over the base the runs show the trace with the bytes laid over it from place `at` on
pub record ArePutRuns (base trace : List ℕ) (at : ℕ) (bytes : List ℕ) (runs : List Run) : Type 0 where
  pub fit : Fit runs (length base)
  pub shows : bytes_with_runs base runs ≡ splice trace at (length bytes) bytes

-- the lists are, one after the other, those of the traces from `place + k` on with part k of the bytes over the first, and so on
abbrev pub ArePutEach : (bases traces : List (List ℕ)) (place at size : ℕ) (bytes : List ℕ) (k : ℕ) → List (List Run) → Type 0
ArePutEach bases traces place at size bytes k [] = Unit {0}
ArePutEach bases traces place at size bytes k (list ∷ lists) =
    ArePutRuns (slice_index_or bases (place + k) []) (slice_index_or traces (place + k) []) at (part_of bytes size k) list
    × ArePutEach bases traces place at size bytes (k + 1) lists

-- the traces with the bytes over each of those from the one at `place` on, in each from a place of its own on, while places are left; all
-- places count from 0
abbrev pub put_over : (traces : List (List ℕ)) (place : ℕ) (places bytes : List ℕ) → List (List ℕ)
put_over [] place places bytes = []
put_over (t ∷ ts) (suc place) places bytes = t ∷ put_over ts place places bytes
put_over (t ∷ ts) zero [] bytes = t ∷ ts
put_over (t ∷ ts) zero (at ∷ places) bytes = splice t at (length bytes) bytes ∷ put_over ts zero places bytes

-- the lists are, one after the other, those of the traces from `place` on with the bytes over each, one for each of the places
abbrev pub ArePutOver : (bases traces : List (List ℕ)) (place : ℕ) (places bytes : List ℕ) → List (List Run) → Type 0
ArePutOver bases traces place [] bytes [] = Unit {0}
ArePutOver bases traces place [] bytes (list ∷ lists) = ⊥
ArePutOver bases traces place (at ∷ places) bytes [] = ⊥
ArePutOver bases traces place (at ∷ places) bytes (list ∷ lists) =
    ArePutRuns (slice_index_or bases place []) (slice_index_or traces place []) at bytes list × ArePutOver bases traces (place + 1) places bytes lists
