-- Traces that lie one behind the other in a file, and its blocks by their numbers.
use Rattle.std.proofs.Common.{◌≡◌, ℕ, suc, zero, ◌+◌, ◌-◌, ◌*◌, ◌<◌, ◌≤◌, List, [], ◌∷◌, length, length-drop, length-take, take, drop, get_or, refl, ap, subst, ◌∙◌, arith, Option, Some, None, slice_get, All}
use Rattle.std.proofs.lemmas.List.{drop-drop, length-map, take_all}
use Rattle.std.proofs.lemmas.List.Elements.{All-get_or}
use Rattle.frame_cut.specs.declared.extent.Extent.{Extent}
use Rattle.frame_cut.specs.declared.file_head.Head.{Head}
use Rattle.frame_cut.specs.declared.limits.Limits.{Limits}
use Rattle.frame_cut.specs.declared.reading.Reading.{Reading}
use Rattle.frame_cut.specs.Cuts.{IsCut, IsTrace}
use Rattle.frame_cut.specs.Heads.{blocks_of}
use Rattle.frame_cut.specs.Volume.{Volume}
use Rattle.frame_cut.specs.Layout.{bytes_at, pieces, AreContiguous, volume_at, AreTracesOf}
use Rattle.frame_cut.specs.Parts.{block_of, trailer_of}

-- ---- extents one behind the other

pub laid-le : (at : ℕ) (es : List Extent) (end : ℕ) → AreContiguous at es end → at ≤ end
laid-le at [] end h = omega (arith, h)
laid-le at (e ∷ es) end h = let r = laid-le (at + e.length) es end h.1 in omega arith

-- an extent ends inside
pub inside : (at : ℕ) (es : List Extent) (end : ℕ) (i : ℕ) (d : Extent) → AreContiguous at es end → i < length es → (get_or es i d).start + (get_or es i d).length ≤ end
inside at [] end i d h l = absurd (omega arith)
inside at (e ∷ es) end zero d h l = let r = laid-le (at + e.length) es end h.1 in omega (arith, h.0)
inside at (e ∷ es) end (suc i) d h l = inside (at + e.length) es end i d h.1 (omega arith)

-- ---- the bytes of an extent

pub get_or-pieces : (file : List ℕ) (es : List Extent) (i : ℕ) (d : Extent) (x : List ℕ) → i < length es → get_or (pieces file es) i x ≡ bytes_at file (get_or es i d)
get_or-pieces file [] i d x l = absurd (omega arith)
get_or-pieces file (e ∷ es) zero d x l = refl
get_or-pieces file (e ∷ es) (suc i) d x l = get_or-pieces file es i d x (omega arith)

-- each extent ends inside the file
pub all_inside : (file : List ℕ) (h : Head) (es : List Extent) (n : ℕ) → AreTracesOf file h es n → All (λ e. e.start + e.length ≤ length file) es
all_inside file h es n laid k d l = let r = inside h.traces_at es (length file - 3200 * h.trailer - n) k d laid.laid l in omega arith

-- and has a whole trace, where the file is cut so
pub all_whole : (file : List ℕ) (reading : Reading) (limits : Limits) (h : Head) (es : List Extent) (n : ℕ) → IsCut file reading limits (volume_at file h es n) → All (λ e. IsTrace h (bytes_at file e)) es
all_whole file reading limits h es n cut k d l =
    subst (λ (t : List ℕ). IsTrace h t) (get_or-pieces file es k d [] l) (All-get_or (IsTrace h) (pieces file es) k [] (omega (arith, length-map es (λ (e : Extent). bytes_at file e))) cut.parts.traces)

-- n bytes of more are n
pub length-part : (part file : List ℕ) (at n : ℕ) → at + n ≤ length file → part ≡ take n (drop at file) → n ≤ length part
length-part part file at n inside e = omega (arith, inside, ap length e, length-take n (drop at file), length-drop at file)

-- ---- blocks by their number

-- the first n of n bytes are all of them
pub whole_part : (part rest : List ℕ) (n : ℕ) → part ≡ take n rest → take n part ≡ take n rest
whole_part part rest n e = take_all n part (omega (arith, ap length e, length-take n rest)) ∙ e

pub slice_get-blocks : (n : ℕ) (rest : List ℕ) (i : ℕ) → i < n → slice_get (blocks_of n rest) i ≡ Some (take 3200 (drop (3200 * i) rest))
slice_get-blocks zero rest i l = absurd (omega arith)
slice_get-blocks (suc n) rest zero l = refl
slice_get-blocks (suc n) rest (suc i) l =
    let at : 3200 + 3200 * i ≡ 3200 * suc i = omega arith in
    slice_get-blocks n (drop 3200 rest) i (omega arith)
    ∙ ap (λ (s : List ℕ). let o : Option (List ℕ) = Some (take 3200 s) in o) (drop-drop (3200 * i) 3200 rest ∙ ap (λ (k : ℕ). drop k rest) at)

pub slice_get-none : (n : ℕ) (rest : List ℕ) (i : ℕ) → n ≤ i → slice_get (blocks_of n rest) i ≡ None
slice_get-none zero rest i l = refl
slice_get-none (suc n) rest zero l = absurd (omega arith)
slice_get-none (suc n) rest (suc i) l = slice_get-none n (drop 3200 rest) i (omega arith)

-- ---- blocks and records of an overlay

pub read_block : (file : List ℕ) (n i : ℕ) → i < n → slice_get (blocks_of n (drop 3600 file)) i ≡ Some (take 3200 (drop (3600 + 3200 * i) file))
read_block file n i l = slice_get-blocks n (drop 3600 file) i l ∙ ap (λ (s : List ℕ). let o : Option (List ℕ) = Some (take 3200 s) in o) (drop-drop (3200 * i) 3600 file)

pub read_record : (file : List ℕ) (n i : ℕ) → i < n → slice_get (blocks_of n (drop (length file - 3200 * n) file)) i ≡ Some (take 3200 (drop (length file - 3200 * n + 3200 * i) file))
read_record file n i l = slice_get-blocks n (drop (length file - 3200 * n) file) i l ∙ ap (λ (s : List ℕ). let o : Option (List ℕ) = Some (take 3200 s) in o) (drop-drop (3200 * i) (length file - 3200 * n) file)

-- a number of a block counts the textual header first, and one of a record counts from 1
pub block_number : (v : Volume) (b : ℕ) → (b ≡ 0 → ⊥) → block_of v b ≡ slice_get v.blocks (b - 1)
block_number v zero h = absurd (h refl)
block_number v (suc i) h = let e : i ≡ suc i - 1 = omega arith in ap (λ (k : ℕ). slice_get v.blocks k) e

pub record_number : (v : Volume) (j : ℕ) → (j ≡ 0 → ⊥) → trailer_of v j ≡ slice_get v.trailer (j - 1)
record_number v zero h = absurd (h refl)
record_number v (suc i) h = let e : i ≡ suc i - 1 = omega arith in ap (λ (k : ℕ). slice_get v.trailer k) e
