-- Chunks that are joined, cut or changed: their ids, and what holds of each.
use Rattle.std.proofs.Common.{◌≡◌, ℕ, zero, suc, ◌+◌, ◌-◌, ◌*◌, ◌<◌, ◌≤◌, List, [], ◌∷◌, ◌++◌, length, get_or, set, take, drop, refl, sym, ap, ◌∙◌, arith, add-zero, add-one, length-append, append_assoc}
use Rattle.std.specs.List.{insert, remove, AllByRecursion}
use Rattle.std.proofs.Math.Seq.{split_at}
use Rattle.std.specs.Prelude.{slice_get, Some}
use Rattle.std.proofs.lemmas.Option.{slice_get-get_or}
use Rattle.std.proofs.lemmas.List.{take-append-drop, take_all, get_or-append-add, get_or_append_left}
use Rattle.std.proofs.lemmas.List.Edits.{insert-append_left, insert-append_right, remove-append_left, remove-append_right}
use Rattle.std.proofs.lemmas.Grind.{common_steps}
use Rattle.trace_seq.specs.declared.chunk.Chunk.{Chunk}
use Rattle.trace_seq.specs.Chunks.{size, ids_of, size_at, IsFilled, AreThick}

pub joined-append : (xs ys : List Chunk) → ids_of (xs ++ ys) ≡ ids_of xs ++ ids_of ys
joined-append [] ys = refl
joined-append (c ∷ cs) ys = ap (λ l. c.ids.items ++ l) (joined-append cs ys) ∙ sym (append_assoc c.ids.items (ids_of cs) (ids_of ys))

pub each-front : (P : Chunk → Type 0) (xs ys : List Chunk) → AllByRecursion P (xs ++ ys) → AllByRecursion P xs
each-front P [] ys h = tt
each-front P (c ∷ cs) ys h = (h.0, each-front P cs ys h.1)

pub each-back : (P : Chunk → Type 0) (xs ys : List Chunk) → AllByRecursion P (xs ++ ys) → AllByRecursion P ys
each-back P [] ys h = h
each-back P (c ∷ cs) ys h = each-back P cs ys h.1

pub each-append : (P : Chunk → Type 0) (xs ys : List Chunk) → AllByRecursion P xs → AllByRecursion P ys → AllByRecursion P (xs ++ ys)
each-append P [] ys f h = h
each-append P (c ∷ cs) ys f h = (f.0, each-append P cs ys f.1 h)

-- a list of chunks around the chunk at k
pub around : (cs : List Chunk) (k : ℕ) (c : Chunk) → k < length cs → c ≡ get_or cs k c → cs ≡ take k cs ++ (c ∷ drop (suc k) cs)
around cs k c h read = split_at cs k c h ∙ ap (λ x. take k cs ++ (x ∷ drop (suc k) cs)) (sym read)

pub set-around : (cs : List Chunk) (k : ℕ) (c : Chunk) → k < length cs → set cs k c ≡ take k cs ++ (c ∷ drop (suc k) cs)
set-around [] k c h = absurd (omega arith)
set-around (x ∷ xs) zero c h = refl
set-around (x ∷ xs) (suc k) c h = let e : k < length xs = omega arith in ap (λ l. x ∷ l) (set-around xs k c e)

pub size-read : (cs : List Chunk) (k : ℕ) (c : Chunk) → k < length cs → c ≡ get_or cs k c → size_at cs k ≡ size c
size-read [] k c h read = absurd (omega arith)
size-read (x ∷ xs) zero c h read = ap size (sym read)
size-read (x ∷ xs) (suc k) c h read = let e : k < length xs = omega arith in size-read xs k c e read

pub size_at-past : (cs : List Chunk) (k : ℕ) → length cs ≤ k → size_at cs k ≡ 0
size_at-past [] k h = refl
size_at-past (x ∷ xs) zero h = absurd (omega arith)
size_at-past (x ∷ xs) (suc k) h = let e : length xs ≤ k = omega arith in size_at-past xs k e

-- the ids of one chunk more
pub joined-take : (cs : List Chunk) (k : ℕ) (c : Chunk) → k < length cs → c ≡ get_or cs k c → ids_of (take (suc k) cs) ≡ ids_of (take k cs) ++ c.ids.items
joined-take [] k c h read = absurd (omega arith)
joined-take (x ∷ xs) zero c h read = grind (arith, common_steps)
joined-take (x ∷ xs) (suc k) c h read =
    let e : k < length xs = omega arith in
    ap (λ l. x.ids.items ++ l) (joined-take xs k c e read) ∙ sym (append_assoc x.ids.items (ids_of (take k xs)) c.ids.items)

-- the ids around those of some chunks
pub joined-middle : (front mid back : List Chunk) → ids_of (front ++ (mid ++ back)) ≡ ids_of front ++ (ids_of mid ++ ids_of back)
joined-middle front mid back = joined-append front (mid ++ back) ∙ ap (λ l. ids_of front ++ l) (joined-append mid back)

pub joined-insert : (front back : List Chunk) (c d : Chunk) (offset id : ℕ) → offset ≤ size c → d.ids.items ≡ insert c.ids.items offset id → ids_of (front ++ (d ∷ back)) ≡ insert (ids_of (front ++ (c ∷ back))) (length (ids_of front) + offset) id
joined-insert front back c d offset id within is =
    let there : (length (ids_of front) + offset) - length (ids_of front) ≡ offset = omega arith in
    let le : length (ids_of front) ≤ length (ids_of front) + offset = omega arith in
    joined-append front (d ∷ back)
    ∙ ap (λ l. ids_of front ++ (l ++ ids_of back)) is
    ∙ ap (λ l. ids_of front ++ l) (sym (insert-append_left c.ids.items (ids_of back) offset id within))
    ∙ ap (λ n. ids_of front ++ insert (c.ids.items ++ ids_of back) n id) (sym there)
    ∙ sym (insert-append_right (ids_of front) (c.ids.items ++ ids_of back) (length (ids_of front)) (length (ids_of front) + offset) id refl le)
    ∙ ap (λ l. insert l (length (ids_of front) + offset) id) (sym (joined-append front (c ∷ back)))

pub joined-remove : (front back : List Chunk) (c d : Chunk) (offset : ℕ) → offset < size c → d.ids.items ≡ remove c.ids.items offset → ids_of (front ++ (d ∷ back)) ≡ remove (ids_of (front ++ (c ∷ back))) (length (ids_of front) + offset)
joined-remove front back c d offset within is =
    let there : (length (ids_of front) + offset) - length (ids_of front) ≡ offset = omega arith in
    let le : length (ids_of front) ≤ length (ids_of front) + offset = omega arith in
    joined-append front (d ∷ back)
    ∙ ap (λ l. ids_of front ++ (l ++ ids_of back)) is
    ∙ ap (λ l. ids_of front ++ l) (sym (remove-append_left c.ids.items (ids_of back) offset within))
    ∙ ap (λ n. ids_of front ++ remove (c.ids.items ++ ids_of back) n) (sym there)
    ∙ sym (remove-append_right (ids_of front) (c.ids.items ++ ids_of back) (length (ids_of front)) (length (ids_of front) + offset) refl le)
    ∙ ap (λ l. remove l (length (ids_of front) + offset)) (sym (joined-append front (c ∷ back)))

-- how many ids the last chunk holds, or n
abbrev pub last_size : ℕ → List Chunk → ℕ
last_size n [] = n
last_size n (c ∷ cs) = last_size (size c) cs

pub thick-front : (n : ℕ) (xs ys : List Chunk) → AreThick n (xs ++ ys) → AreThick n xs
thick-front n [] ys h = tt
thick-front n (c ∷ cs) ys h = (h.0, thick-front (size c) cs ys h.1)

pub thick-back : (n : ℕ) (xs ys : List Chunk) → AreThick n (xs ++ ys) → AreThick (last_size n xs) ys
thick-back n [] ys h = h
thick-back n (c ∷ cs) ys h = thick-back (size c) cs ys h.1

pub thick-append : (n : ℕ) (xs ys : List Chunk) → AreThick n xs → AreThick (last_size n xs) ys → AreThick n (xs ++ ys)
thick-append n [] ys f h = h
thick-append n (c ∷ cs) ys f h = (f.0, thick-append (size c) cs ys f.1 h)

pub thick-more : (n m : ℕ) (cs : List Chunk) → n ≤ m → AreThick n cs → AreThick m cs
thick-more n m [] le h = tt
thick-more n m (c ∷ cs) le h = let more : 256 < m + size c = omega (arith, h.0) in (more, h.1)

pub last_size-filled : (n : ℕ) (cs : List Chunk) → 0 < n → AllByRecursion IsFilled cs → 0 < last_size n cs
last_size-filled n [] some h = some
last_size-filled n (c ∷ cs) some h = last_size-filled (size c) cs h.0.0 h.1

-- a spot in a chunk is a place among all ids
pub place-within : (cs : List Chunk) (k offset : ℕ) → offset ≤ size_at cs k → length (ids_of (take k cs)) + offset ≤ length (ids_of cs)
place-within [] zero offset h = omega (arith, h)
place-within [] (suc k) offset h = omega (arith, h)
place-within (c ∷ cs) zero offset h = omega (arith, h, length-append c.ids.items (ids_of cs))
place-within (c ∷ cs) (suc k) offset h = omega (arith, place-within cs k offset h, length-append c.ids.items (ids_of cs), length-append c.ids.items (ids_of (take k cs)))

-- an id before the spot's chunk is a place among all ids
pub last_size-take : (n : ℕ) (cs : List Chunk) (k : ℕ) → k < length cs → last_size n (take (suc k) cs) ≡ size_at cs k
last_size-take n [] k h = absurd (omega arith)
last_size-take n (x ∷ xs) zero h = refl
last_size-take n (x ∷ xs) (suc k) h = let e : k < length xs = omega arith in last_size-take (size x) xs k e

pub size_at-drop : (cs : List Chunk) (k : ℕ) → size_at (drop k cs) 0 ≡ size_at cs k
size_at-drop [] zero = refl
size_at-drop [] (suc k) = refl
size_at-drop (x ∷ xs) zero = refl
size_at-drop (x ∷ xs) (suc k) = size_at-drop xs k

-- only the first of the chunks is beside what stands in front of them
pub thick-after : (n m : ℕ) (cs : List Chunk) → (0 < length cs → 256 < m + size_at cs 0) → AreThick n cs → AreThick m cs
thick-after n m [] first h = tt
thick-after n m (c ∷ cs) first h = (first (omega arith), h.1)

pub filled-first : (cs : List Chunk) → 0 < length cs → AllByRecursion IsFilled cs → 0 < size_at cs 0
filled-first [] h all = absurd (omega arith)
filled-first (c ∷ cs) h all = all.0.0

pub filled-at : (cs : List Chunk) (k : ℕ) → k < length cs → AllByRecursion IsFilled cs → (0 < size_at cs k) × (size_at cs k ≤ 512)
filled-at [] k h all = absurd (omega arith)
filled-at (c ∷ cs) zero h all = (all.0.0, all.0.1)
filled-at (c ∷ cs) (suc k) h all = let e : k < length cs = omega arith in filled-at cs k e all.1

-- a list of chunks around two that stand side by side
pub pair-around : (cs : List Chunk) (k : ℕ) (a b : Chunk) → suc k < length cs → a ≡ get_or cs k a → b ≡ get_or cs (suc k) b → cs ≡ take k cs ++ (a ∷ (b ∷ drop (suc (suc k)) cs))
pair-around [] k a b h at next = absurd (omega arith)
pair-around (x ∷ []) k a b h at next = absurd (omega arith)
pair-around (x ∷ (y ∷ ys)) zero a b h at next = ap (λ c. c ∷ (y ∷ ys)) (sym at) ∙ ap (λ c. a ∷ (c ∷ ys)) (sym next)
pair-around (x ∷ (y ∷ ys)) (suc k) a b h at next = let e : suc k < length (y ∷ ys) = omega arith in ap (λ l. x ∷ l) (pair-around (y ∷ ys) k a b e at next)

-- two that were joined into one
pub join-around : (cs : List Chunk) (k : ℕ) (m : Chunk) → suc k < length cs → set (remove cs (suc k)) k m ≡ take k cs ++ (m ∷ drop (suc (suc k)) cs)
join-around [] k m h = absurd (omega arith)
join-around (x ∷ []) k m h = absurd (omega arith)
join-around (x ∷ (y ∷ ys)) zero m h = refl
join-around (x ∷ (y ∷ ys)) (suc k) m h = let e : suc k < length (y ∷ ys) = omega arith in ap (λ l. x ∷ l) (join-around (y ∷ ys) k m e)

-- one that was split in two
pub split-around : (cs : List Chunk) (k : ℕ) (a b : Chunk) → k < length cs → insert (set cs k a) (suc k) b ≡ take k cs ++ (a ∷ (b ∷ drop (suc k) cs))
split-around [] k a b h = absurd (omega arith)
split-around (x ∷ xs) zero a b h = refl
split-around (x ∷ xs) (suc k) a b h = let e : k < length xs = omega arith in ap (λ l. x ∷ l) (split-around xs k a b e)

pub place-middle : (front back : List Chunk) (c : Chunk) (offset : ℕ) → offset < size c → length (ids_of front) + offset < length (ids_of (front ++ (c ∷ back)))
place-middle front back c offset h = omega (arith, ap length (joined-append front (c ∷ back)), length-append (ids_of front) (c.ids.items ++ ids_of back), length-append c.ids.items (ids_of back))

pub place-inside : (cs : List Chunk) (k offset : ℕ) → offset < size_at cs k → length (ids_of (take k cs)) + offset < length (ids_of cs)
place-inside [] k offset h = absurd (omega arith)
place-inside (c ∷ cs) zero offset h = omega (arith, h, length-append c.ids.items (ids_of cs))
place-inside (c ∷ cs) (suc k) offset h = omega (arith, place-inside cs k offset h, length-append c.ids.items (ids_of cs), length-append c.ids.items (ids_of (take k cs)))

-- what stands in front of the chunk at k
pub last_size-front : (cs : List Chunk) (k : ℕ) → k < length cs → (c : Chunk) → size_at cs k ≡ size c → 0 < size c → (0 < k → 257 < size_at cs (k - 1) + size_at cs k) → 257 < last_size 257 (take k cs) + size c
last_size-front cs zero h c here some ahead = omega arith
last_size-front cs (suc k) h c here some ahead =
    let e : k < length cs = omega arith in
    let before : suc k - 1 ≡ k = omega arith in
    omega (arith, ahead (omega arith), last_size-take 257 cs k e, ap (size_at cs) before)

pub none-left : (xs : List ℕ) → length xs ≡ 0 → xs ≡ []
none-left [] h = refl
none-left (x ∷ xs) h = absurd (omega arith)

pub split-take : (cs : List Chunk) (k : ℕ) (a b : Chunk) → k < length cs → length (ids_of (take (suc k) (insert (set cs k a) (suc k) b))) ≡ length (ids_of (take k cs)) + size a
split-take [] k a b h = absurd (omega arith)
split-take (x ∷ xs) zero a b h = omega (arith, length-append a.ids.items [])
split-take (x ∷ xs) (suc k) a b h = let e : k < length xs = omega arith in omega (arith, split-take xs k a b e, length-append x.ids.items (ids_of (take (suc k) (insert (set xs k a) (suc k) b))), length-append x.ids.items (ids_of (take k xs)))

pub split-first : (cs : List Chunk) (k : ℕ) (a b : Chunk) → k < length cs → size_at (insert (set cs k a) (suc k) b) k ≡ size a
split-first [] k a b h = absurd (omega arith)
split-first (x ∷ xs) zero a b h = refl
split-first (x ∷ xs) (suc k) a b h = let e : k < length xs = omega arith in split-first xs k a b e

pub split-second : (cs : List Chunk) (k : ℕ) (a b : Chunk) → k < length cs → size_at (insert (set cs k a) (suc k) b) (suc k) ≡ size b
split-second [] k a b h = absurd (omega arith)
split-second (x ∷ xs) zero a b h = refl
split-second (x ∷ xs) (suc k) a b h = let e : k < length xs = omega arith in split-second xs k a b e

pub split-ids : (cs : List Chunk) (k : ℕ) (c a b : Chunk) → k < length cs → c ≡ get_or cs k c → a.ids.items ≡ take 256 c.ids.items → b.ids.items ≡ drop 256 c.ids.items → ids_of (insert (set cs k a) (suc k) b) ≡ ids_of cs
split-ids cs k c a b short read first second =
    ap ids_of (split-around cs k a b short)
    ∙ joined-append (take k cs) (a ∷ (b ∷ drop (suc k) cs))
    ∙ ap (λ l. ids_of (take k cs) ++ l) (sym (append_assoc a.ids.items b.ids.items (ids_of (drop (suc k) cs))))
    ∙ ap (λ l. ids_of (take k cs) ++ ((l ++ b.ids.items) ++ ids_of (drop (suc k) cs))) first
    ∙ ap (λ l. ids_of (take k cs) ++ ((take 256 c.ids.items ++ l) ++ ids_of (drop (suc k) cs))) second
    ∙ ap (λ l. ids_of (take k cs) ++ (l ++ ids_of (drop (suc k) cs))) (take-append-drop 256 c.ids.items)
    ∙ sym (joined-append (take k cs) (c ∷ drop (suc k) cs))
    ∙ ap ids_of (sym (around cs k c short read))

pub join-ids : (cs : List Chunk) (k : ℕ) (a b m : Chunk) → suc k < length cs → a ≡ get_or cs k a → b ≡ get_or cs (suc k) b → m.ids.items ≡ a.ids.items ++ b.ids.items → ids_of (set (remove cs (suc k)) k m) ≡ ids_of cs
join-ids cs k a b m short at next is =
    ap ids_of (join-around cs k m short)
    ∙ joined-append (take k cs) (m ∷ drop (suc (suc k)) cs)
    ∙ ap (λ l. ids_of (take k cs) ++ (l ++ ids_of (drop (suc (suc k)) cs))) is
    ∙ ap (λ l. ids_of (take k cs) ++ l) (append_assoc a.ids.items b.ids.items (ids_of (drop (suc (suc k)) cs)))
    ∙ sym (joined-append (take k cs) (a ∷ (b ∷ drop (suc (suc k)) cs)))
    ∙ ap ids_of (sym (pair-around cs k a b short at next))

pub drop-ids : (cs : List Chunk) (k : ℕ) (c e : Chunk) → k < length cs → c ≡ get_or cs k c → size_at cs k ≡ 1 → e.ids.items ≡ remove c.ids.items 0 → e.ids.items ≡ [] → ids_of (remove cs k) ≡ remove (ids_of cs) (length (ids_of (take k cs)))
drop-ids cs k c e short read one is none =
    let here = size-read cs k c short read in
    joined-append (take k cs) (drop (suc k) cs)
    ∙ ap (λ l. ids_of (take k cs) ++ (l ++ ids_of (drop (suc k) cs))) (sym none)
    ∙ sym (joined-append (take k cs) (e ∷ drop (suc k) cs))
    ∙ joined-remove (take k cs) (drop (suc k) cs) c e 0 (omega arith) is
    ∙ ap (λ l. remove (ids_of l) (length (ids_of (take k cs)) + 0)) (sym (around cs k c short read))
    ∙ ap (remove (ids_of cs)) (add-zero (length (ids_of (take k cs))))

pub last_size-all : (cs : List Chunk) → (0 < length cs → 256 ≤ size_at cs (length cs - 1)) → 256 ≤ last_size 257 cs
last_size-all [] full = omega arith
last_size-all (x ∷ xs) full =
    let all : take (suc (length xs)) (x ∷ xs) ≡ x ∷ xs = take_all (suc (length xs)) (x ∷ xs) (omega arith) in
    let end : length (x ∷ xs) - 1 ≡ length xs = omega arith in
    omega (arith, full (omega arith), ap (size_at (x ∷ xs)) end, last_size-take 257 (x ∷ xs) (length xs) (omega arith), ap (last_size 257) all)

pub chunks-few : (cs : List Chunk) → AllByRecursion IsFilled cs → length cs ≤ length (ids_of cs)
chunks-few [] all = omega arith
chunks-few (c ∷ cs) all = omega (arith, chunks-few cs all.1, all.0.0, length-append c.ids.items (ids_of cs))

pub size-step : (cs : List Chunk) (k : ℕ) → k < length cs → length (ids_of (take (suc k) cs)) ≡ length (ids_of (take k cs)) + size_at cs k
size-step [] k h = absurd (omega arith)
size-step (x ∷ xs) zero h = omega (arith, length-append x.ids.items [])
size-step (x ∷ xs) (suc k) h = let e : k < length xs = omega arith in omega (arith, size-step xs k e, length-append x.ids.items (ids_of (take (suc k) xs)), length-append x.ids.items (ids_of (take k xs)))

-- two chunks side by side
pub thick-at : (n : ℕ) (cs : List Chunk) (k : ℕ) → k + 1 < length cs → AreThick n cs → 256 < size_at cs k + size_at cs (k + 1)
thick-at n [] k h all = absurd (omega arith)
thick-at n (x ∷ []) k h all = absurd (omega arith)
thick-at n (x ∷ (y ∷ ys)) zero h all = all.1.0
thick-at n (x ∷ (y ∷ ys)) (suc k) h all =
    let e : k + 1 < length (y ∷ ys) = omega arith in
    rw (add-one (suc k)) (rw (add-one k) at (thick-at (size x) (y ∷ ys) k e all.1))

-- the id at a spot
pub get-joined : (cs : List Chunk) (k offset : ℕ) (c : Chunk) → k < length cs → c ≡ get_or cs k c → offset < size c → slice_get (ids_of cs) (length (ids_of (take k cs)) + offset) ≡ slice_get c.ids.items offset
get-joined cs k offset c short read within =
    let front = ids_of (take k cs) in
    let back = ids_of (drop (suc k) cs) in
    let cut : ids_of cs ≡ front ++ (c.ids.items ++ back) = ap ids_of (around cs k c short read) ∙ joined-append (take k cs) (c ∷ drop (suc k) cs) in
    let inside : length front + offset < length (ids_of cs) = omega (arith, place-inside cs k offset (omega (arith, size-read cs k c short read, within))) in
    slice_get-get_or (ids_of cs) (length front + offset) 0 inside
    ∙ ap Some (ap (λ l. get_or l (length front + offset) 0) cut
    ∙ get_or-append-add front (c.ids.items ++ back) offset 0
    ∙ get_or_append_left c.ids.items back 0 offset within)
    ∙ sym (slice_get-get_or c.ids.items offset 0 within)

pub size-set : (cs : List Chunk) (k : ℕ) (c : Chunk) → k < length cs → size_at (set cs k c) k ≡ size c
size-set [] k c h = absurd (omega arith)
size-set (x ∷ xs) zero c h = refl
size-set (x ∷ xs) (suc k) c h = let e : k < length xs = omega arith in size-set xs k c e

-- at most one chunk, and one more for each 128 ids
pub chunks-number : (n : ℕ) (cs : List Chunk) → AllByRecursion IsFilled cs → AreThick n cs → 128 * length cs ≤ length (ids_of cs) + 128
chunks-number n [] all thick = omega arith
chunks-number n (c ∷ []) all thick = omega arith
chunks-number n (c ∷ (d ∷ cs)) all thick = omega (arith, chunks-number (size d) cs all.1.1 thick.1.1, thick.1.0, length-append c.ids.items (d.ids.items ++ ids_of cs), length-append d.ids.items (ids_of cs))
