-- How many ids stand in front of chunks, where the chunks change.
use Rattle.std.proofs.Common.{◌≡◌, ℕ, zero, suc, ◌+◌, ◌*◌, ◌/◌, ◌<◌, ◌≤◌, ◌⊎◌, List, [], ◌∷◌, length, get_or, set, take, refl, ap, sym, ◌∙◌, arith, add-one, length-append, inl, inr}
use Rattle.std.specs.Prelude.{slice_index}
use Rattle.std.proofs.lemmas.Bool.{cases_lt}
use Rattle.trace_seq.specs.declared.chunk.Chunk.{Chunk}
use Rattle.trace_seq.specs.Chunks.{ids_of, size, size_at}
use Rattle.trace_seq.specs.Fronts.{front, AreEven, AreFronts, AreKept, AreRaised}
use Rattle.trace_seq.proofs.ChunkIdLemmas.{size-read, size-step}

-- one chunk more in front
pub front-more : (cs : List Chunk) (k : ℕ) → k < length cs → front cs (k + 1) ≡ front cs k + size_at cs k
front-more cs k h = ap (front cs) (add-one k) ∙ size-step cs k h

pub front-le : (cs : List Chunk) (k : ℕ) → front cs k ≤ length (ids_of cs)
front-le cs zero = omega arith
front-le [] (suc k) = omega arith
front-le (x ∷ xs) (suc k) = omega (arith, front-le xs k, length-append x.ids.items (ids_of (take k xs)), length-append x.ids.items (ids_of xs))

-- what stands in front of the chunk at j, where that at k is another
front-set_below : (cs : List Chunk) (k j : ℕ) (d : Chunk) → j ≤ k → front (set cs k d) j ≡ front cs j
front-set_below cs k zero d h = refl
front-set_below [] k (suc j) d h = refl
front-set_below (x ∷ xs) zero (suc j) d h = absurd (omega arith)
front-set_below (x ∷ xs) (suc k) (suc j) d h =
    let e : j ≤ k = omega arith in
    omega (arith, front-set_below xs k j d e, length-append x.ids.items (ids_of (take j (set xs k d))), length-append x.ids.items (ids_of (take j xs)))

front-set_above : (cs : List Chunk) (k j : ℕ) (d : Chunk) → k < length cs → k < j → front (set cs k d) j + size_at cs k ≡ front cs j + size d
front-set_above [] k j d h lt = absurd (omega arith)
front-set_above (x ∷ xs) k zero d h lt = absurd (omega arith)
front-set_above (x ∷ xs) zero (suc j) d h lt = omega (arith, length-append d.ids.items (ids_of (take j xs)), length-append x.ids.items (ids_of (take j xs)))
front-set_above (x ∷ xs) (suc k) (suc j) d h lt =
    let e : k < length xs = omega arith in
    let below : k < j = omega arith in
    omega (arith, front-set_above xs k j d e below, length-append x.ids.items (ids_of (take j (set xs k d))), length-append x.ids.items (ids_of (take j xs)))

-- a chunk with one id more, or one less
pub set-raised : (cs : List Chunk) (k : ℕ) (c d : Chunk) → k < length cs → c ≡ get_or cs k c → size d ≡ size c + 1 → AreRaised cs (set cs k d) k
set-raised cs k c d short read more = record {
  below = λ j h. front-set_below cs k j d h;
  above = λ j h. omega (arith, front-set_above cs k j d short h, size-read cs k c short read, more);
}

pub set-lowered : (cs : List Chunk) (k : ℕ) (c d : Chunk) → k < length cs → c ≡ get_or cs k c → size d + 1 ≡ size c → AreRaised (set cs k d) cs k
set-lowered cs k c d short read less = record {
  below = λ j h. sym (front-set_below cs k j d h);
  above = λ j h. omega (arith, front-set_above cs k j d short h, size-read cs k c short read, less);
}

-- ---- the numbers of the groups

-- an id more in the chunk at k
pub fronts-raised : (cs ds : List Chunk) (k : ℕ) (fs new : List ℕ) → AreRaised cs ds k → AreFronts cs fs → length new ≡ length fs → ((g : ℕ) → g < k / 16 + 1 → slice_index new g ≡ slice_index fs g)
    → ((g : ℕ) → k / 16 + 1 ≤ g → g < length fs → slice_index new g ≡ slice_index fs g + 1) → AreFronts ds new
fronts-raised cs ds k fs new raised right same low high = λ g within.
    let here : g < length fs = omega arith in
    elim (cases_lt g (k / 16 + 1)) [
      | inl below ↦ omega (arith, low g below, right g here, raised.below (16 * g) (omega arith))
      | inr above ↦ omega (arith, high g above here, right g here, raised.above (16 * g) (omega arith))
    ]

-- an id less
pub fronts-lowered : (cs ds : List Chunk) (k : ℕ) (fs new : List ℕ) → AreRaised ds cs k → AreFronts cs fs → length new ≡ length fs → ((g : ℕ) → g < k / 16 + 1 → slice_index new g ≡ slice_index fs g)
    → ((g : ℕ) → k / 16 + 1 ≤ g → g < length fs → slice_index new g + 1 ≡ slice_index fs g) → AreFronts ds new
fronts-lowered cs ds k fs new raised right same low high = λ g within.
    let here : g < length fs = omega arith in
    elim (cases_lt g (k / 16 + 1)) [
      | inl below ↦ omega (arith, low g below, right g here, raised.below (16 * g) (omega arith))
      | inr above ↦ omega (arith, high g above here, right g here, raised.above (16 * g) (omega arith))
    ]

-- no number is more than that of all ids
pub fronts-few : (cs : List Chunk) (g : ℕ) (fs : List ℕ) → AreFronts cs fs → g < length fs → slice_index fs g ≤ length (ids_of cs)
fronts-few cs g fs right within = omega (arith, right g within, front-le cs (16 * g))

-- an id more behind all, and the numbers are still right
pub fronts-kept : (cs ds : List Chunk) (fs : List ℕ) → AreKept cs ds → 16 * length fs ≤ length ds + 15 → AreFronts cs fs → AreFronts ds fs
fronts-kept cs ds fs kept few right = λ g within. right g within ∙ sym (kept (16 * g) (omega arith))

-- ---- even chunks

pub even-none : (cs : List Chunk) → AreEven cs 0
even-none cs zero h = refl
even-none cs (suc j) h = absurd (omega arith)

-- an id more in the chunk at k, and those in front of it are as they were; an id less
pub even-raised : (cs ds : List Chunk) (k even n : ℕ) → n ≤ even → n ≤ k → AreRaised cs ds k → AreEven cs even → AreEven ds n
even-raised cs ds k even n fewer front raised right = λ j h. raised.below j (omega (arith, h, front)) ∙ right j (omega (arith, h, fewer))

pub even-lowered : (cs ds : List Chunk) (k even n : ℕ) → n ≤ even → n ≤ k → AreRaised ds cs k → AreEven cs even → AreEven ds n
even-lowered cs ds k even n fewer front raised right = λ j h. sym (raised.below j (omega (arith, h, front))) ∙ right j (omega (arith, h, fewer))

-- an id more behind all, in a chunk of its own: all chunks in front of it are even where all but the last were, and they have
-- 384 ids each
pub front-all : (cs : List Chunk) → front cs (length cs) ≡ length (ids_of cs)
front-all [] = refl
front-all (x ∷ xs) = omega (arith, front-all xs, length-append x.ids.items (ids_of (take (length xs) xs)), length-append x.ids.items (ids_of xs))

pub even-more : (cs ds : List Chunk) (even : ℕ) → AreKept cs ds → length cs < length ds → even + 1 ≡ length cs → length (ids_of cs) ≡ 384 * length cs
    → AreEven cs even → AreEven ds (length cs)
even-more cs ds even kept more last all right = λ j h. elim (cases_lt j (length cs)) [
  | inl below ↦ kept j (omega (arith, below, more)) ∙ right j (omega (arith, below, last))
  | inr above ↦ let here : j ≡ length cs = omega (arith, above, h) in kept j (omega (arith, here, more)) ∙ ap (front cs) here ∙ front-all cs ∙ all ∙ ap (λ n. 384 * n) (sym here)
]

-- the same as it is noted, for so many chunks and ids
pub even-then : (cs ds : List Chunk) (even n chunks chunks_then ids : ℕ) → AreKept cs ds → AreEven cs even
    → chunks ≡ length cs → chunks_then ≡ length ds → ids ≡ length (ids_of cs)
    → (n ≡ 0) ⊎ ((n ≤ even) × (n < chunks_then)) ⊎ ((n ≡ chunks) × (chunks < chunks_then) × (even + 1 ≡ chunks) × (ids ≡ 384 * chunks)) → AreEven ds n
even-then cs ds even n chunks chunks_then ids kept right is_chunks is_then is_ids known = elim known [
  | inl none ↦ rw none (even-none ds)
  | inr (inl fewer) ↦ λ j h. kept j (omega (arith, h, fewer.1, is_then)) ∙ right j (omega (arith, h, fewer.0))
  | inr (inr more) ↦ rw (more.0 ∙ is_chunks) (even-more cs ds even kept (omega (arith, more.1, is_chunks, is_then)) (more.2 ∙ is_chunks) (sym is_ids ∙ more.3 ∙ ap (λ k. 384 * k) is_chunks) right)
]

-- one even chunk more
pub even-longer : (cs : List Chunk) (k : ℕ) → k < length cs → AreEven cs k → size_at cs k ≡ 384 → AreEven cs (k + 1)
even-longer cs k short right full = λ j h. elim (cases_lt j (k + 1)) [
  | inl below ↦ right j (omega (arith, below))
  | inr above ↦ let here : j ≡ k + 1 = omega (arith, above, h) in ap (front cs) here ∙ omega (arith, here, front-more cs k short, right k (omega arith), full)
]
