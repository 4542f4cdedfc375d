-- The text blocks, the binary header and the traces of a volume, and what edits make of them.
use Rattle.std.specs.Prelude.{ℕ, zero, suc, ◌≡◌, ◌-◌, ◌*◌, List, [], ◌∷◌, length, take, drop, slice_get, Option, None, refl}
use Rattle.std.specs.List.{insert, remove}
use Rattle.frame_cut.specs.Splice.{splice}
use Rattle.frame_cut.specs.Traces.{trace_at}
use Rattle.frame_cut.specs.Volume.{Volume}

-- block b, if there is one: the textual header is block 0, the extended textual headers are blocks 1 and up
abbrev pub block_of : Volume → ℕ → Option (List ℕ)
block_of v b = slice_get (v.text ∷ v.blocks) b

-- data trailer record j, counted from 1, if there is one
abbrev pub trailer_of : Volume → ℕ → Option (List ℕ)
trailer_of v zero = None
trailer_of v (suc j) = slice_get v.trailer j

-- the volume with these bytes as line q of the textual header, from 1 to 40
abbrev pub with_line : Volume → ℕ → List ℕ → Volume
with_line v q line = record v { text = splice v.text (80 * (q - 1)) (length line) line }

-- the volume with these bytes over those of the binary header from a place on, counted from 0 in it
abbrev pub with_header_bytes : Volume → ℕ → List ℕ → Volume
with_header_bytes v at new = record v { bin = splice v.bin at (length new) new }

-- the traces with the next `size` bytes over each of those from the one at `place` on, while bytes are left; both places count from 0
abbrev pub put_each_at : (traces : List (List ℕ)) (place at size : ℕ) (bytes : List ℕ) → List (List ℕ)
put_each_at [] place at size bytes = []
put_each_at (t ∷ ts) (suc place) at size bytes = t ∷ put_each_at ts place at size bytes
put_each_at (t ∷ ts) zero at size [] = t ∷ ts
put_each_at (t ∷ ts) zero at size (b ∷ bs) = splice t at size (take size (b ∷ bs)) ∷ put_each_at ts zero at size (drop size (b ∷ bs))

-- the volume with these bytes laid over the traces from trace a on, `size` of them over each, in each from place `at` on, counted from 0
abbrev pub with_each : Volume → (a at size : ℕ) → List ℕ → Volume
with_each v a at size bytes = record v { traces = put_each_at v.traces (a - 1) at size bytes }

-- the volume with these bytes as a new trace in front of trace p, or behind the last
abbrev pub with_inserted : Volume → ℕ → List ℕ → Volume
with_inserted v p t = record v { traces = insert v.traces (p - 1) t }

-- the volume without the bytes of no trace behind the last one
abbrev pub untailed : Volume → Volume
untailed v = record v { tail = [] }

-- the volume without trace p
abbrev pub without : Volume → ℕ → Volume
without v p = record v { traces = remove v.traces (p - 1) }

-- the volume with trace a taken out, and put in again so that it is trace b
abbrev pub with_moved : Volume → ℕ → ℕ → Volume
with_moved v a b = with_inserted (without v a) b (trace_at v a)

-- worked out: two parts of one byte, over the last byte of the second and the third trace
pub over_two : put_each_at ((1 ∷ 2 ∷ []) ∷ (3 ∷ 4 ∷ []) ∷ (5 ∷ 6 ∷ []) ∷ []) 1 1 1 (7 ∷ 8 ∷ []) ≡ (1 ∷ 2 ∷ []) ∷ (3 ∷ 7 ∷ []) ∷ (5 ∷ 8 ∷ []) ∷ []
over_two = refl
