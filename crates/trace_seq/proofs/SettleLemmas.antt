-- Chunks that are put in order again, one after the other.
use Rattle.std.proofs.Common.{◌≡◌, ℕ, zero, suc, ◌+◌, ◌-◌, ◌<◌, ◌≤◌, List, [], ◌∷◌, ◌++◌, length, get_or, set, take, drop, refl, sym, ap, ◌∙◌, subst, arith, zero-add, add-zero, length-append, append_assoc}
use Rattle.std.specs.List.{AllByRecursion, swap}
use Rattle.std.specs.Vec.{vec_capacity}
use Rattle.std.proofs.Math.Seq.{set-append_seam, get_or-append_seam, take-append_seam, drop-append_seam}
use Rattle.std.proofs.lemmas.List.{append-nil, set-append_left, drop-append-le, take-append-le}
use Rattle.std.proofs.Math.ListN.{get_or-append}
use Rattle.std.proofs.lemmas.List.Edits.{swap_is}
use Rattle.trace_seq.specs.declared.chunk.Chunk.{Chunk}
use Rattle.trace_seq.specs.Chunks.{size, ids_of, size_at, IsFilled, IsEmpty, AreThick}
use Rattle.trace_seq.specs.Settling.{IsReordered, IsRoomy, IsSettled}
use Rattle.trace_seq.proofs.ChunkIdLemmas.{joined-append, each-front, each-back, each-append, none-left, last_size, thick-append, thick-front, thick-back}

-- ---- lists of chunks

pub first-of : (xs : List Chunk) → 0 < length xs → (c : Chunk) × ((ys : List Chunk) × (xs ≡ c ∷ ys))
first-of [] some = absurd (omega arith)
first-of (x ∷ xs) some = (x, (xs, refl))

pub last-of : (xs : List Chunk) → 0 < length xs → (ys : List Chunk) × ((c : Chunk) × (xs ≡ ys ++ (c ∷ [])))
last-of [] some = absurd (omega arith)
last-of (x ∷ []) some = ([], (x, refl))
last-of (x ∷ (y ∷ ys)) some = let r = last-of (y ∷ ys) (omega arith) in (x ∷ r.0, (r.1.0, ap (λ (l : List Chunk). x ∷ l) r.1.1))

pub size-middle : (xs ys : List Chunk) (c : Chunk) → size_at (xs ++ (c ∷ ys)) (length xs) ≡ size c
size-middle [] ys c = refl
size-middle (x ∷ xs) ys c = size-middle xs ys c

pub empties-ids : (es : List Chunk) → AllByRecursion IsEmpty es → ids_of es ≡ []
empties-ids [] h = refl
empties-ids (e ∷ es) h = ap (λ l. l ++ ids_of es) h.0.0 ∙ empties-ids es h.1

last_size-one : (n : ℕ) (xs : List Chunk) (c : Chunk) → last_size n (xs ++ (c ∷ [])) ≡ size c
last_size-one n [] c = refl
last_size-one n (x ∷ xs) c = last_size-one (size x) xs c

set-two : (front es rest : List Chunk) (e c : Chunk) → set (set (front ++ (e ∷ (es ++ (c ∷ rest)))) (length front) c) (length front + suc (length es)) e ≡ front ++ (c ∷ (es ++ (e ∷ rest)))
set-two [] es rest e c = ap (λ n. set (c ∷ (es ++ (c ∷ rest))) n e) (zero-add (suc (length es))) ∙ ap (λ (l : List Chunk). c ∷ l) (set-append_seam es c rest e)
set-two (x ∷ xs) es rest e c =
    let i : length (x ∷ xs) + suc (length es) ≡ suc (length xs + suc (length es)) = omega arith in
    ap (λ n. set (x ∷ set (xs ++ (e ∷ (es ++ (c ∷ rest)))) (length xs) c) n e) i ∙ ap (λ (l : List Chunk). x ∷ l) (set-two xs es rest e c)

get-second : (front es rest : List Chunk) (e c d : Chunk) → get_or (front ++ (e ∷ (es ++ (c ∷ rest)))) (length front + suc (length es)) d ≡ c
get-second [] es rest e c d = ap (λ n. get_or (e ∷ (es ++ (c ∷ rest))) n d) (zero-add (suc (length es))) ∙ get_or-append_seam es c rest d
get-second (x ∷ xs) es rest e c d =
    let i : length (x ∷ xs) + suc (length es) ≡ suc (length xs + suc (length es)) = omega arith in
    ap (λ n. get_or (x ∷ (xs ++ (e ∷ (es ++ (c ∷ rest))))) n d) i ∙ get-second xs es rest e c d

set-same : (xs : List Chunk) (i : ℕ) (d : Chunk) → i < length xs → set xs i (get_or xs i d) ≡ xs
set-same [] i d short = absurd (omega arith)
set-same (x ∷ xs) zero d short = refl
set-same (x ∷ xs) (suc i) d short = let e : i < length xs = omega arith in ap (λ (l : List Chunk). x ∷ l) (set-same xs i d e)

-- ---- a chunk that stands behind empty ones changes places with the first of these

pub record Swapped (front empty rest : List Chunk) (c : Chunk) : Type 0 where
  pub left : List Chunk
  pub parts : swap (front ++ (empty ++ (c ∷ rest))) (length front) (length front + length empty) ≡ (front ++ (c ∷ [])) ++ (left ++ rest)
  pub long : length left ≡ length empty
  pub none : AllByRecursion IsEmpty empty → AllByRecursion IsEmpty left

pub swapped : (front empty rest : List Chunk) (c : Chunk) → Swapped front empty rest c
swapped front [] rest c =
    let all = front ++ (c ∷ rest) in
    let w = length front in
    let short : w < length all = omega (arith, length-append front (c ∷ rest)) in
    record {
      left = [];
      parts = ap (swap all w) (add-zero w) ∙ (sym (swap_is all w w c short short) ∙ (ap (λ (l : List Chunk). set l w (get_or all w c)) (set-same all w c short) ∙ (set-same all w c short ∙ sym (append_assoc front (c ∷ []) rest))));
      long = refl;
      none = λ h. h;
    }
swapped front (e ∷ es) rest c =
    let all = front ++ (e ∷ (es ++ (c ∷ rest))) in
    let w = length front in
    let r = w + suc (length es) in
    let long : length all ≡ w + suc (length es + suc (length rest)) = omega (arith, length-append front (e ∷ (es ++ (c ∷ rest))), length-append es (c ∷ rest)) in
    record {
      left = es ++ (e ∷ []);
      parts = sym (swap_is all w r c (omega arith) (omega arith))
          ∙ (ap (λ (x : Chunk). set (set all w x) r (get_or all w c)) (get-second front es rest e c c)
          ∙ (ap (λ (x : Chunk). set (set all w c) r x) (get_or-append_seam front e (es ++ (c ∷ rest)) c)
          ∙ (set-two front es rest e c
          ∙ (sym (append_assoc front (c ∷ []) (es ++ (e ∷ rest)))
          ∙ ap (λ (l : List Chunk). (front ++ (c ∷ [])) ++ l) (sym (append_assoc es (e ∷ []) rest))))));
      long = omega (arith, length-append es (e ∷ []));
      none = λ h. each-append IsEmpty es (e ∷ []) h.1 (h.0, tt);
    }

-- ---- what the parts are

pub record Next (cs : List Chunk) (kept k : ℕ) (s : IsSettled cs kept k) : Type 0 where
  pub chunk : Chunk
  pub more : List Chunk
  pub is : s.rest ≡ chunk ∷ more
  pub parts : cs ≡ s.front ++ (s.empty ++ (chunk ∷ more))
  pub size_is : size_at cs k ≡ size chunk
  pub roomy : IsRoomy chunk × AllByRecursion IsRoomy more

pub next-of : (cs : List Chunk) (kept k : ℕ) (s : IsSettled cs kept k) → k < length cs → Next cs kept k s
next-of cs kept k s short =
    let some : 0 < length s.rest = omega (arith, short, ap (λ (l : List Chunk). length l) s.parts, length-append s.front (s.empty ++ s.rest), length-append s.empty s.rest, s.passed_is) in
    let r = first-of s.rest some in
    let parts : cs ≡ s.front ++ (s.empty ++ (r.0 ∷ r.1.0)) = s.parts ∙ ap (λ (l : List Chunk). s.front ++ (s.empty ++ l)) r.1.1 in
    let at : k ≡ length (s.front ++ s.empty) = omega (arith, length-append s.front s.empty, s.passed_is) in
    record {
      chunk = r.0;
      more = r.1.0;
      is = r.1.1;
      parts = parts;
      size_is = ap (λ (l : List Chunk). size_at l k) (parts ∙ sym (append_assoc s.front s.empty (r.0 ∷ r.1.0))) ∙ (ap (size_at ((s.front ++ s.empty) ++ (r.0 ∷ r.1.0))) at ∙ size-middle (s.front ++ s.empty) r.1.0 r.0);
      roomy = subst (AllByRecursion IsRoomy) r.1.1 s.roomy;
    }

ids-parts : (front empty rest : List Chunk) → AllByRecursion IsEmpty empty → ids_of (front ++ (empty ++ rest)) ≡ ids_of front ++ ids_of rest
ids-parts front empty rest none = joined-append front (empty ++ rest) ∙ ap (λ l. ids_of front ++ l) (joined-append empty rest ∙ ap (λ l. l ++ ids_of rest) (empties-ids empty none))

-- ---- an empty chunk is passed over

pub settled-empty : (cs : List Chunk) (kept k : ℕ) → IsSettled cs kept k → k < length cs → size_at cs k ≡ 0 → IsSettled cs kept (k + 1)
settled-empty cs kept k s short zero-size =
    let n = next-of cs kept k s short in
    record {
      front = s.front;
      empty = s.empty ++ (n.chunk ∷ []);
      rest = n.more;
      parts = n.parts ∙ ap (λ (l : List Chunk). s.front ++ l) (sym (append_assoc s.empty (n.chunk ∷ []) n.more));
      kept_is = s.kept_is;
      passed_is = omega (arith, length-append s.empty (n.chunk ∷ []), s.passed_is);
      filled = s.filled;
      thick = s.thick;
      none = each-append IsEmpty s.empty (n.chunk ∷ []) s.none ((none-left n.chunk.ids.items (omega (arith, n.size_is, zero-size)), n.roomy.0.1), tt);
      roomy = n.roomy.1;
    }

-- ---- a chunk is kept

size-last : (n : ℕ) (front more : List Chunk) → 0 < length front → size_at (front ++ more) (length front - 1) ≡ last_size n front
size-last n [] more some = absurd (omega arith)
size-last n (x ∷ []) more some = refl
size-last n (x ∷ (y ∷ ys)) more some =
    let i : length (x ∷ (y ∷ ys)) - 1 ≡ suc (length (y ∷ ys) - 1) = omega arith in
    ap (size_at (x ∷ ((y ∷ ys) ++ more))) i ∙ size-last (size x) (y ∷ ys) more (omega arith)

last-thick : (front more : List Chunk) (m : ℕ) → 0 < m → (0 < length front → 256 < size_at (front ++ more) (length front - 1) + m) → 256 < last_size 257 front + m
last-thick [] more m some h = omega arith
last-thick (x ∷ xs) more m some h = omega (arith, h (omega arith), size-last 257 (x ∷ xs) more (omega arith))

pub settled-kept : (cs new : List Chunk) (kept k : ℕ) → IsSettled cs kept k → k < length cs → 0 < size_at cs k → (0 < kept → 256 < size_at cs (kept - 1) + size_at cs k) → new ≡ swap cs kept k → IsSettled new (kept + 1) (k + 1) × IsReordered cs new
settled-kept cs new kept k s short some thick is =
    let n = next-of cs kept k s short in
    let w = swapped s.front s.empty n.more n.chunk in
    let parts : new ≡ (s.front ++ (n.chunk ∷ [])) ++ (w.left ++ n.more) =
    is ∙ (ap (λ (l : List Chunk). swap l kept k) n.parts
    ∙ (ap (λ i. swap (s.front ++ (s.empty ++ (n.chunk ∷ n.more))) i k) (sym s.kept_is)
    ∙ (ap (swap (s.front ++ (s.empty ++ (n.chunk ∷ n.more))) (length s.front)) (sym s.passed_is) ∙ w.parts))) in
    let none = w.none s.none in
    let old-ids : ids_of cs ≡ ids_of s.front ++ ids_of (n.chunk ∷ n.more) = ap ids_of n.parts ∙ ids-parts s.front s.empty (n.chunk ∷ n.more) s.none in
    let same : ids_of new ≡ ids_of cs =
    ap ids_of parts ∙ (ids-parts (s.front ++ (n.chunk ∷ [])) w.left n.more none
    ∙ (sym (joined-append (s.front ++ (n.chunk ∷ [])) n.more)
    ∙ (ap ids_of (append_assoc s.front (n.chunk ∷ []) n.more)
    ∙ (joined-append s.front (n.chunk ∷ n.more) ∙ sym old-ids)))) in
    let ahead : 256 < last_size 257 s.front + size n.chunk = last-thick s.front (s.empty ++ s.rest) (size n.chunk) (omega (arith, some, n.size_is))
    (λ more. omega (arith, thick (omega (arith, more, s.kept_is)), n.size_is, ap (λ (l : List Chunk). size_at l (kept - 1)) s.parts, ap (λ i. size_at (s.front ++ (s.empty ++ s.rest)) (i - 1)) s.kept_is)) in (
      record {
        front = s.front ++ (n.chunk ∷ []);
        empty = w.left;
        rest = n.more;
        parts = parts;
        kept_is = omega (arith, length-append s.front (n.chunk ∷ []), s.kept_is);
        passed_is = omega (arith, length-append s.front (n.chunk ∷ []), s.passed_is, w.long);
        filled = each-append IsFilled s.front (n.chunk ∷ []) s.filled ((omega (arith, some, n.size_is), n.roomy.0.0, n.roomy.0.1), tt);
        thick = thick-append 257 s.front (n.chunk ∷ []) s.thick (ahead, tt);
        none = none;
        roomy = n.roomy.1;
      },
      record {
        ids = same;
        long = omega (
          arith,
          ap (λ (l : List Chunk). length l) parts,
          ap (λ (l : List Chunk). length l) n.parts,
          w.long,
          length-append (s.front ++ (n.chunk ∷ [])) (w.left ++ n.more),
          length-append s.front (n.chunk ∷ []),
          length-append w.left n.more,
          length-append s.front (s.empty ++ (n.chunk ∷ n.more)),
          length-append s.empty (n.chunk ∷ n.more),
        );
      },
    )

-- ---- a chunk is joined to the last of those that are kept

pub each-at : (P : Chunk → Type 0) (xs : List Chunk) (i : ℕ) (d : Chunk) → i < length xs → AllByRecursion P xs → P (get_or xs i d)
each-at P [] i d short h = absurd (omega arith)
each-at P (x ∷ xs) zero d short h = h.0
each-at P (x ∷ xs) (suc i) d short h = let e : i < length xs = omega arith in each-at P xs i d e h.1

-- the parts of the chunks around two of them, and what stands in the two places of a cut in front of the second
pub record Pair (cs : List Chunk) (kept k : ℕ) (s : IsSettled cs kept k) (x y : List Chunk) (a c : Chunk) : Type 0 where
  pub ahead : List Chunk
  pub more : List Chunk
  pub front_is : s.front ≡ ahead ++ (a ∷ [])
  pub rest_is : s.rest ≡ c ∷ more
  pub filled : IsFilled a
  pub roomy : IsRoomy c
  pub first_size : size_at cs (kept - 1) ≡ size a
  pub second_size : size_at cs k ≡ size c
  pub written : (m e : Chunk) → set x (kept - 1) m ++ set y 0 e ≡ (ahead ++ (m ∷ [])) ++ (s.empty ++ (e ∷ more))

pub pair-of : (cs : List Chunk) (kept k : ℕ) (s : IsSettled cs kept k) (x y : List Chunk) (a c : Chunk) → k < length cs → 0 < kept → x ≡ take k cs → y ≡ drop k cs → a ≡ get_or x (kept - 1) a → c ≡ get_or y 0 c → Pair cs kept k s x y a c
pair-of cs kept k s x y a c short some x-is y-is a-is c-is =
    let n = next-of cs kept k s short in
    let l = last-of s.front (omega (arith, some, s.kept_is)) in
    let cut : cs ≡ (s.front ++ s.empty) ++ (n.chunk ∷ n.more) = n.parts ∙ sym (append_assoc s.front s.empty (n.chunk ∷ n.more)) in
    let at : k ≡ length (s.front ++ s.empty) = omega (arith, length-append s.front s.empty, s.passed_is) in
    let x-parts : x ≡ s.front ++ s.empty = x-is ∙ (ap (take k) cut ∙ (ap (λ i. take i ((s.front ++ s.empty) ++ (n.chunk ∷ n.more))) at ∙ take-append_seam (s.front ++ s.empty) (n.chunk ∷ n.more))) in
    let y-parts : y ≡ n.chunk ∷ n.more = y-is ∙ (ap (drop k) cut ∙ (ap (λ i. drop i ((s.front ++ s.empty) ++ (n.chunk ∷ n.more))) at ∙ drop-append_seam (s.front ++ s.empty) (n.chunk ∷ n.more))) in
    let second : c ≡ n.chunk = c-is ∙ ap (λ (z : List Chunk). get_or z 0 c) y-parts in
    let before : kept - 1 ≡ length l.0 = omega (arith, s.kept_is, ap (λ (z : List Chunk). length z) l.1.1, length-append l.0 (l.1.0 ∷ [])) in
    let within : kept - 1 < length s.front = omega (arith, some, s.kept_is) in
    let first : a ≡ l.1.0 = a-is ∙ (ap (λ (z : List Chunk). get_or z (kept - 1) a) x-parts ∙ (get_or-append s.front s.empty a (kept - 1) within
    ∙ (ap (λ (z : List Chunk). get_or z (kept - 1) a) l.1.1 ∙ (ap (λ i. get_or (l.0 ++ (l.1.0 ∷ [])) i a) before ∙ get_or-append_seam l.0 l.1.0 [] a)))) in
    let front-is : s.front ≡ l.0 ++ (a ∷ []) = l.1.1 ∙ ap (λ (z : Chunk). l.0 ++ (z ∷ [])) (sym first) in
    let last : AllByRecursion IsFilled (l.0 ++ (a ∷ [])) = subst (AllByRecursion IsFilled) front-is s.filled in
    record {
      ahead = l.0;
      more = n.more;
      front_is = front-is;
      rest_is = n.is ∙ ap (λ (z : Chunk). z ∷ n.more) (sym second);
      filled = (each-back IsFilled l.0 (a ∷ []) last).0;
      roomy = subst IsRoomy (sym second) n.roomy.0;
      first_size = ap (λ (z : List Chunk). size_at z (kept - 1)) (s.parts ∙ (ap (λ (z : List Chunk). z ++ (s.empty ++ s.rest)) front-is ∙ append_assoc l.0 (a ∷ []) (s.empty ++ s.rest)))
          ∙ (ap (size_at (l.0 ++ (a ∷ (s.empty ++ s.rest)))) before ∙ size-middle l.0 (s.empty ++ s.rest) a);
      second_size = n.size_is ∙ ap size (sym second);
      written = λ m e.
          ap (λ (z : List Chunk). set z (kept - 1) m ++ set y 0 e) x-parts
          ∙ (ap (λ (z : List Chunk). set (s.front ++ s.empty) (kept - 1) m ++ set z 0 e) y-parts
          ∙ (ap (λ (z : List Chunk). z ++ (e ∷ n.more)) (set-append_left s.front s.empty (kept - 1) m within)
          ∙ (ap (λ (z : List Chunk). (set z (kept - 1) m ++ s.empty) ++ (e ∷ n.more)) l.1.1
          ∙ (ap (λ i. (set (l.0 ++ (l.1.0 ∷ [])) i m ++ s.empty) ++ (e ∷ n.more)) before
          ∙ (ap (λ (z : List Chunk). (z ++ s.empty) ++ (e ∷ n.more)) (set-append_seam l.0 l.1.0 [] m)
          ∙ append_assoc (l.0 ++ (m ∷ [])) s.empty (e ∷ n.more))))));
    }

-- what the join made of the two
pub record Joined (a c m e : Chunk) : Type 0 where
  pub is : m.ids.items ≡ a.ids.items ++ c.ids.items
  pub room : 512 ≤ vec_capacity m.ids
  pub none : e.ids.items ≡ []
  pub room_left : 512 ≤ vec_capacity e.ids

pub settled-joined : (cs new : List Chunk) (kept k : ℕ) (s : IsSettled cs kept k) (x y : List Chunk) (a c m e : Chunk) → Pair cs kept k s x y a c → size_at cs (kept - 1) + size_at cs k ≤ 256 → Joined a c m e → new ≡ set x (kept - 1) m ++ set y 0 e → IsSettled new kept (k + 1) × IsReordered cs new
settled-joined cs new kept k s x y a c m e p fits j is =
    let es = s.empty ++ (e ∷ []) in
    let parts : new ≡ (p.ahead ++ (m ∷ [])) ++ (es ++ p.more) = is ∙ (p.written m e ∙ ap (λ (z : List Chunk). (p.ahead ++ (m ∷ [])) ++ z) (sym (append_assoc s.empty (e ∷ []) p.more))) in
    let none : AllByRecursion IsEmpty es = each-append IsEmpty s.empty (e ∷ []) s.none ((j.none, j.room_left), tt) in
    let was : cs ≡ (p.ahead ++ (a ∷ [])) ++ (s.empty ++ (c ∷ p.more)) = s.parts ∙ (ap (λ (z : List Chunk). z ++ (s.empty ++ s.rest)) p.front_is ∙ ap (λ (z : List Chunk). (p.ahead ++ (a ∷ [])) ++ (s.empty ++ z)) p.rest_is) in
    let longer : size m ≡ size a + size c = ap (λ (z : List ℕ). length z) j.is ∙ length-append a.ids.items c.ids.items in
    let old-ids : ids_of cs ≡ ids_of p.ahead ++ (a.ids.items ++ (c.ids.items ++ ids_of p.more)) =
    ap ids_of was ∙ (ids-parts (p.ahead ++ (a ∷ [])) s.empty (c ∷ p.more) s.none
    ∙ (ap (λ l. l ++ (c.ids.items ++ ids_of p.more)) (joined-append p.ahead (a ∷ []))
    ∙ (ap (λ l. (ids_of p.ahead ++ l) ++ (c.ids.items ++ ids_of p.more)) (append-nil a.ids.items)
    ∙ append_assoc (ids_of p.ahead) a.ids.items (c.ids.items ++ ids_of p.more)))) in
    let new-ids : ids_of new ≡ ids_of p.ahead ++ (a.ids.items ++ (c.ids.items ++ ids_of p.more)) =
    ap ids_of parts ∙ (ids-parts (p.ahead ++ (m ∷ [])) es p.more none
    ∙ (ap (λ l. l ++ ids_of p.more) (joined-append p.ahead (m ∷ []))
    ∙ (ap (λ l. (ids_of p.ahead ++ l) ++ ids_of p.more) (append-nil m.ids.items ∙ j.is)
    ∙ (append_assoc (ids_of p.ahead) (a.ids.items ++ c.ids.items) (ids_of p.more)
    ∙ ap (λ l. ids_of p.ahead ++ l) (append_assoc a.ids.items c.ids.items (ids_of p.more)))))) in
    let same : ids_of new ≡ ids_of cs = new-ids ∙ sym old-ids in
    let filled-old : AllByRecursion IsFilled (p.ahead ++ (a ∷ [])) = subst (AllByRecursion IsFilled) p.front_is s.filled in
    let thick-old : AreThick 257 (p.ahead ++ (a ∷ [])) = subst (AreThick 257) p.front_is s.thick in
    let roomy-old : AllByRecursion IsRoomy (c ∷ p.more) = subst (AllByRecursion IsRoomy) p.rest_is s.roomy in
    let ahead-thick : 256 < last_size 257 p.ahead + size m = omega (arith, (thick-back 257 p.ahead (a ∷ []) thick-old).0, longer) in (
      record {
        front = p.ahead ++ (m ∷ []);
        empty = es;
        rest = p.more;
        parts = parts;
        kept_is = omega (arith, s.kept_is, ap (λ (z : List Chunk). length z) p.front_is, length-append p.ahead (m ∷ []), length-append p.ahead (a ∷ []));
        passed_is = omega (arith, s.passed_is, ap (λ (z : List Chunk). length z) p.front_is, length-append p.ahead (m ∷ []), length-append p.ahead (a ∷ []), length-append s.empty (e ∷ []));
        filled = each-append IsFilled p.ahead (m ∷ []) (each-front IsFilled p.ahead (a ∷ []) filled-old) ((omega (arith, longer, p.filled.0), omega (arith, longer, fits, p.first_size, p.second_size), j.room), tt);
        thick = thick-append 257 p.ahead (m ∷ []) (thick-front 257 p.ahead (a ∷ []) thick-old) (ahead-thick, tt);
        none = none;
        roomy = roomy-old.1;
      },
      record {
        ids = same;
        long = omega (
          arith,
          ap (λ (l : List Chunk). length l) parts,
          ap (λ (l : List Chunk). length l) was,
          length-append (p.ahead ++ (m ∷ [])) (es ++ p.more),
          length-append p.ahead (m ∷ []),
          length-append es p.more,
          length-append s.empty (e ∷ []),
          length-append (p.ahead ++ (a ∷ [])) (s.empty ++ (c ∷ p.more)),
          length-append p.ahead (a ∷ []),
          length-append s.empty (c ∷ p.more),
        );
      },
    )

-- ---- empty chunks behind the others become spare ones

pub poured : (kept : ℕ) (cs left spares : List Chunk) (e : Chunk) → cs ≡ left ++ (e ∷ []) → kept ≤ length left → AllByRecursion IsEmpty (drop kept cs) → (take kept left ≡ take kept cs) × (AllByRecursion IsEmpty (drop kept left) × IsEmpty e)
poured kept cs left spares e is le none =
    let cut : drop kept cs ≡ drop kept left ++ (e ∷ []) = ap (drop kept) is ∙ drop-append-le kept left (e ∷ []) le in
    let all : AllByRecursion IsEmpty (drop kept left ++ (e ∷ [])) = subst (AllByRecursion IsEmpty) cut none in
    (sym (ap (take kept) is ∙ take-append-le kept left (e ∷ []) le), (each-front IsEmpty (drop kept left) (e ∷ []) all, (each-back IsEmpty (drop kept left) (e ∷ []) all).0))

-- ---- all chunks are passed over

no-chunks : (xs : List Chunk) → length xs ≡ 0 → xs ≡ []
no-chunks [] h = refl
no-chunks (x ∷ xs) h = absurd (omega arith)

pub record Ended (cs : List Chunk) (kept : ℕ) : Type 0 where
  pub within : kept ≤ length cs
  pub filled : AllByRecursion IsFilled (take kept cs)
  pub thick : AreThick 257 (take kept cs)
  pub none : AllByRecursion IsEmpty (drop kept cs)
  pub ids : ids_of (take kept cs) ≡ ids_of cs

pub settled-end : (cs : List Chunk) (kept : ℕ) → IsSettled cs kept (length cs) → Ended cs kept
settled-end cs kept s =
    let long : length s.rest ≡ 0 = omega (arith, ap (λ (l : List Chunk). length l) s.parts, length-append s.front (s.empty ++ s.rest), length-append s.empty s.rest, s.passed_is) in
    let parts : cs ≡ s.front ++ s.empty = s.parts ∙ ap (λ (l : List Chunk). s.front ++ l) (ap (λ (l : List Chunk). s.empty ++ l) (no-chunks s.rest long) ∙ append-nil s.empty) in
    let first : take kept cs ≡ s.front = ap (take kept) parts ∙ (ap (λ i. take i (s.front ++ s.empty)) (sym s.kept_is) ∙ take-append_seam s.front s.empty) in
    let second : drop kept cs ≡ s.empty = ap (drop kept) parts ∙ (ap (λ i. drop i (s.front ++ s.empty)) (sym s.kept_is) ∙ drop-append_seam s.front s.empty) in
    record {
      within = omega (arith, s.kept_is, s.passed_is);
      filled = subst (AllByRecursion IsFilled) (sym first) s.filled;
      thick = subst (AreThick 257) (sym first) s.thick;
      none = subst (AllByRecursion IsEmpty) (sym second) s.none;
      ids = ap ids_of first ∙ (sym (append-nil (ids_of s.front)) ∙ (ap (λ l. ids_of s.front ++ l) (sym (empties-ids s.empty s.none)) ∙ (sym (joined-append s.front s.empty) ∙ ap ids_of (sym parts))));
    }
