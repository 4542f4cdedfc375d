-- Changes of some chunks in the middle that leave the whole sound.
use Rattle.std.proofs.Common.{◌≡◌, ℕ, suc, ◌+◌, ◌-◌, ◌<◌, ◌≤◌, List, [], ◌∷◌, ◌++◌, length, get_or, set, take, drop, sym, ap, ◌∙◌, subst, arith, add-one, length-append}
use Rattle.std.specs.List.{insert, remove, AllByRecursion}
use Rattle.std.specs.Vec.{vec_capacity}
use Rattle.std.proofs.lemmas.List.{append-nil, length-take-le, length-drop}
use Rattle.std.proofs.lemmas.List.Edits.{length-insert, length-remove}
use Rattle.trace_seq.specs.declared.chunk.Chunk.{Chunk}
use Rattle.trace_seq.specs.Chunks.{size, ids_of, size_at, IsFilled, IsEmpty, AreThick, IsSound}
use Rattle.trace_seq.proofs.ChunkIdLemmas.{pair-around, join-around, split-around, last_size-front, size_at-drop, thick-after, filled-first, around, set-around, size-read, each-front, each-back, each-append, joined-insert, joined-remove, last_size, thick-front, thick-back, thick-append, thick-more, last_size-filled}

-- what a change of the chunks in the middle has to keep
pub record Change (front mid new back left : List Chunk) : Type 0 where
  pub filled : AllByRecursion IsFilled new
  pub empty : AllByRecursion IsEmpty left
  pub thick : AreThick (last_size 257 front) (mid ++ back) → AreThick (last_size 257 front) (new ++ back)

pub changed : (front mid new back spares left : List Chunk) → IsSound (front ++ (mid ++ back)) spares → Change front mid new back left → IsSound (front ++ (new ++ back)) left
changed front mid new back spares left s h = record {
  filled = each-append IsFilled front (new ++ back) (each-front IsFilled front (mid ++ back) s.filled)
      (each-append IsFilled new back h.filled (each-back IsFilled mid back (each-back IsFilled front (mid ++ back) s.filled)));
  empty = h.empty;
  thick = thick-append 257 front (new ++ back) (thick-front 257 front (mid ++ back) s.thick) (h.thick (thick-back 257 front (mid ++ back) s.thick));
}

-- an id put into a chunk that is not full
pub put-sound : (front back : List Chunk) (c d : Chunk) (spares : List Chunk) (offset id : ℕ) → IsSound (front ++ (c ∷ back)) spares → offset ≤ size c → size c < 512 → d.ids.items ≡ insert c.ids.items offset id → 512 ≤ vec_capacity d.ids → IsSound (front ++ (d ∷ back)) spares
put-sound front back c d spares offset id s within few is room =
    let longer : size d ≡ size c + 1 = ap length is ∙ length-insert c.ids.items offset id within in
    changed front (c ∷ []) (d ∷ []) back spares spares s record {
      filled = ((omega arith, omega arith, room), tt);
      empty = s.empty;
      thick = λ h. let more : 256 < last_size 257 front + size d = omega (arith, h.0) in (more, thick-more (size c) (size d) back (omega arith) h.1);
    }

abbrev pub sound-around : (cs : List Chunk) (k : ℕ) (c : Chunk) (spares : List Chunk) → k < length cs → c ≡ get_or cs k c → IsSound cs spares → IsSound (take k cs ++ (c ∷ drop (suc k) cs)) spares
sound-around cs k c spares short read s = let P : List Chunk → Type 0 = λ l. IsSound l spares in subst P (around cs k c short read) s

pub put-at : (cs : List Chunk) (k : ℕ) (c d : Chunk) (spares : List Chunk) (offset id : ℕ) → k < length cs → c ≡ get_or cs k c → IsSound cs spares → offset ≤ size_at cs k → size_at cs k < 512 → d.ids.items ≡ insert c.ids.items offset id → 512 ≤ vec_capacity d.ids → IsSound (set cs k d) spares
put-at cs k c d spares offset id short read s within few is room =
    let P : List Chunk → Type 0 = λ l. IsSound l spares in
    let here = size-read cs k c short read in
    subst P (sym (set-around cs k d short))
    (put-sound (take k cs) (drop (suc k) cs) c d spares offset id (sound-around cs k c spares short read s) (omega arith) (omega arith) is room)

pub put-ids : (cs : List Chunk) (k : ℕ) (c d : Chunk) (offset id : ℕ) → k < length cs → c ≡ get_or cs k c → offset ≤ size_at cs k → d.ids.items ≡ insert c.ids.items offset id → ids_of (set cs k d) ≡ insert (ids_of cs) (length (ids_of (take k cs)) + offset) id
put-ids cs k c d offset id short read within is =
    let here = size-read cs k c short read in
    ap ids_of (set-around cs k d short)
    ∙ joined-insert (take k cs) (drop (suc k) cs) c d offset id (omega arith) is
    ∙ ap (λ l. insert (ids_of l) (length (ids_of (take k cs)) + offset) id) (sym (around cs k c short read))

-- an id taken out of a chunk that holds another
pub take-sound : (front back : List Chunk) (c d : Chunk) (spares : List Chunk) (offset : ℕ) → IsSound (front ++ (c ∷ back)) spares → offset < size c → 1 < size c → 257 < last_size 257 front + size c → (0 < length back → 257 < size c + size_at back 0) → d.ids.items ≡ remove c.ids.items offset → 512 ≤ vec_capacity d.ids → IsSound (front ++ (d ∷ back)) spares
take-sound front back c d spares offset s within others ahead behind is room =
    let shorter : size d + 1 ≡ size c = ap (λ l. length l + 1) is ∙ length-remove c.ids.items offset within in
    let here = each-back IsFilled front (c ∷ back) s.filled in
    let first : 0 < length back → 256 < size d + size_at back 0 = λ some. omega (arith, behind some) in
    changed front (c ∷ []) (d ∷ []) back spares spares s record {
      filled = ((omega arith, omega (arith, here.0.1), room), tt);
      empty = s.empty;
      thick = λ h. let more : 256 < last_size 257 front + size d = omega (arith, ahead) in (more, thick-after (size c) (size d) back first h.1);
    }

-- a chunk of one id dropped, and kept as a spare one
pub drop-sound : (front back : List Chunk) (c e : Chunk) (spares : List Chunk) → IsSound (front ++ (c ∷ back)) spares → size c ≡ 1 → e.ids.items ≡ [] → 512 ≤ vec_capacity e.ids → IsSound (front ++ back) (spares ++ (e ∷ []))
drop-sound front back c e spares s one none room =
    let some : 0 < last_size 257 front = last_size-filled 257 front (omega arith) (each-front IsFilled front (c ∷ back) s.filled) in
    changed front (c ∷ []) [] back spares (spares ++ (e ∷ [])) s record {
      filled = tt;
      empty = each-append IsEmpty spares (e ∷ []) s.empty ((none, room), tt);
      thick = λ h. thick-more (size c) (last_size 257 front) back (omega arith) h.1;
    }

-- two chunks joined into one, and the other kept as a spare one
pub join-sound : (front back : List Chunk) (a b m e : Chunk) (spares : List Chunk) → IsSound (front ++ (a ∷ (b ∷ back))) spares → size a + size b ≤ 512 → m.ids.items ≡ a.ids.items ++ b.ids.items → 512 ≤ vec_capacity m.ids → e.ids.items ≡ [] → 512 ≤ vec_capacity e.ids → IsSound (front ++ (m ∷ back)) (spares ++ (e ∷ []))
join-sound front back a b m e spares s fits is room none room-left =
    let longer : size m ≡ size a + size b = ap length is ∙ length-append a.ids.items b.ids.items in
    let here = each-back IsFilled front (a ∷ (b ∷ back)) s.filled in
    changed front (a ∷ (b ∷ [])) (m ∷ []) back spares (spares ++ (e ∷ [])) s record {
      filled = ((omega (arith, here.0.0), omega arith, room), tt);
      empty = each-append IsEmpty spares (e ∷ []) s.empty ((none, room-left), tt);
      thick = λ h. let more : 256 < last_size 257 front + size m = omega (arith, h.0) in (more, thick-more (size b) (size m) back (omega arith) h.1.1);
    }

-- a full chunk split in two, of which the second was the last of the spare ones
pub split-sound : (front back : List Chunk) (c a b f : Chunk) (rest : List Chunk) → IsSound (front ++ (c ∷ back)) (rest ++ (f ∷ [])) → size c ≡ 512 → a.ids.items ≡ take 256 c.ids.items → 512 ≤ vec_capacity a.ids → b.ids.items ≡ drop 256 c.ids.items → 512 ≤ vec_capacity b.ids → IsSound (front ++ (a ∷ (b ∷ back))) rest
split-sound front back c a b f rest s full is room is-new room-new =
    let first : size a ≡ 256 = ap length is ∙ length-take-le 256 c.ids.items (omega arith) in
    let second : size b ≡ 256 = omega (arith, ap length is-new, length-drop 256 c.ids.items) in
    let some : 0 < last_size 257 front = last_size-filled 257 front (omega arith) (each-front IsFilled front (c ∷ back) s.filled) in
    let rest-filled = each-back IsFilled (c ∷ []) back (each-back IsFilled front (c ∷ back) s.filled) in
    changed front (c ∷ []) (a ∷ (b ∷ [])) back (rest ++ (f ∷ [])) rest s record {
      filled = ((omega arith, omega arith, room), ((omega arith, omega arith, room-new), tt));
      empty = each-front IsEmpty rest (f ∷ []) s.empty;
      thick = λ h.
          let ahead : 256 < last_size 257 front + size a = omega arith in
          let between : 256 < size a + size b = omega arith in
          let behind : 0 < length back → 256 < size b + size_at back 0 = λ more. omega (arith, filled-first back more rest-filled) in
          (ahead, (between, thick-after (size c) (size b) back behind h.1));
    }

-- an id put behind all others in a chunk of its own
pub append-sound : (cs : List Chunk) (f d : Chunk) (rest : List Chunk) (id : ℕ) → IsSound cs (rest ++ (f ∷ [])) → 256 ≤ last_size 257 cs → d.ids.items ≡ id ∷ [] → 512 ≤ vec_capacity d.ids → IsSound (cs ++ (d ∷ [])) rest
append-sound cs f d rest id s full is room =
    let P : List Chunk → Type 0 = λ l. IsSound l (rest ++ (f ∷ [])) in
    let one : size d ≡ 1 = ap length is in
    changed cs [] (d ∷ []) [] (rest ++ (f ∷ [])) rest (subst P (sym (append-nil cs)) s) record {
      filled = ((omega arith, omega arith, room), tt);
      empty = each-front IsEmpty rest (f ∷ []) s.empty;
      thick = λ h. let more : 256 < last_size 257 cs + size d = omega arith in (more, tt);
    }

pub take-at : (cs : List Chunk) (k : ℕ) (c d : Chunk) (spares : List Chunk) (offset : ℕ) → k < length cs → c ≡ get_or cs k c → IsSound cs spares → offset < size_at cs k → 1 < size_at cs k → (0 < k → 257 < size_at cs (k - 1) + size_at cs k) → (k + 1 < length cs → 257 < size_at cs k + size_at cs (k + 1)) → d.ids.items ≡ remove c.ids.items offset → 512 ≤ vec_capacity d.ids → IsSound (set cs k d) spares
take-at cs k c d spares offset short read s within others ahead behind is room =
    let P : List Chunk → Type 0 = λ l. IsSound l spares in
    let here = size-read cs k c short read in
    let after : 0 < length (drop (suc k) cs) → 257 < size c + size_at (drop (suc k) cs) 0 = λ some.
    let more : k + 1 < length cs = omega (arith, length-drop (suc k) cs) in
    omega (arith, behind more, size_at-drop cs (suc k), ap (size_at cs) (add-one k)) in
    subst P (sym (set-around cs k d short))
    (take-sound (take k cs) (drop (suc k) cs) c d spares offset (sound-around cs k c spares short read s) (omega arith) (omega arith) (last_size-front cs k short c here (omega arith) ahead) after is room)

pub take-ids : (cs : List Chunk) (k : ℕ) (c d : Chunk) (offset : ℕ) → k < length cs → c ≡ get_or cs k c → offset < size_at cs k → d.ids.items ≡ remove c.ids.items offset → ids_of (set cs k d) ≡ remove (ids_of cs) (length (ids_of (take k cs)) + offset)
take-ids cs k c d offset short read within is =
    let here = size-read cs k c short read in
    ap ids_of (set-around cs k d short)
    ∙ joined-remove (take k cs) (drop (suc k) cs) c d offset (omega arith) is
    ∙ ap (λ l. remove (ids_of l) (length (ids_of (take k cs)) + offset)) (sym (around cs k c short read))

pub drop-at : (cs : List Chunk) (k : ℕ) (c e : Chunk) (spares : List Chunk) → k < length cs → c ≡ get_or cs k c → IsSound cs spares → size_at cs k ≡ 1 → e.ids.items ≡ [] → 512 ≤ vec_capacity e.ids → IsSound (remove cs k) (spares ++ (e ∷ []))
drop-at cs k c e spares short read s one none room =
    let here = size-read cs k c short read in
    drop-sound (take k cs) (drop (suc k) cs) c e spares (sound-around cs k c spares short read s) (omega arith) none room

pub join-at : (cs : List Chunk) (k : ℕ) (a b m e : Chunk) (spares : List Chunk) → suc k < length cs → a ≡ get_or cs k a → b ≡ get_or cs (suc k) b → IsSound cs spares → size_at cs k + size_at cs (suc k) ≤ 512 → m.ids.items ≡ a.ids.items ++ b.ids.items → 512 ≤ vec_capacity m.ids → e.ids.items ≡ [] → 512 ≤ vec_capacity e.ids → IsSound (set (remove cs (suc k)) k m) (spares ++ (e ∷ []))
join-at cs k a b m e spares short at next s fits is room none room-left =
    let P : List Chunk → Type 0 = λ l. IsSound l spares in
    let Q : List Chunk → Type 0 = λ l. IsSound l (spares ++ (e ∷ [])) in
    let first = size-read cs k a (omega arith) at in
    let second = size-read cs (suc k) b short next in
    subst Q (sym (join-around cs k m short))
    (join-sound (take k cs) (drop (suc (suc k)) cs) a b m e spares (subst P (pair-around cs k a b short at next) s) (omega arith) is room none room-left)

pub split-at : (cs : List Chunk) (k : ℕ) (c a b f : Chunk) (spares rest : List Chunk) → k < length cs → c ≡ get_or cs k c → IsSound cs spares → spares ≡ rest ++ (f ∷ []) → size_at cs k ≡ 512 → a.ids.items ≡ take 256 c.ids.items → 512 ≤ vec_capacity a.ids → b.ids.items ≡ drop 256 c.ids.items → 512 ≤ vec_capacity b.ids → IsSound (insert (set cs k a) (suc k) b) rest
split-at cs k c a b f spares rest short read s popped full is room is-new room-new =
    let P : List Chunk → Type 0 = λ l. IsSound (take k cs ++ (c ∷ drop (suc k) cs)) l in
    let Q : List Chunk → Type 0 = λ l. IsSound l rest in
    let here = size-read cs k c short read in
    subst Q (sym (split-around cs k a b short))
    (split-sound (take k cs) (drop (suc k) cs) c a b f rest (subst P popped (sound-around cs k c spares short read s)) (omega arith) is room is-new room-new)

-- the last of the spare chunks
pub empty-last : (spares rest : List Chunk) (f : Chunk) → spares ≡ rest ++ (f ∷ []) → AllByRecursion IsEmpty spares → IsEmpty f
empty-last spares rest f popped all = let P : List Chunk → Type 0 = AllByRecursion IsEmpty in (each-back IsEmpty rest (f ∷ []) (subst P popped all)).0

pub append-at : (cs : List Chunk) (f d : Chunk) (spares rest : List Chunk) (id : ℕ) → IsSound cs spares → spares ≡ rest ++ (f ∷ []) → 256 ≤ last_size 257 cs → d.ids.items ≡ id ∷ [] → 512 ≤ vec_capacity d.ids → IsSound (cs ++ (d ∷ [])) rest
append-at cs f d spares rest id s popped full is room =
    let P : List Chunk → Type 0 = λ l. IsSound cs l in
    append-sound cs f d rest id (subst P popped s) full is room
