-- What edits do to a file that is cut: it stays cut, and its bytes are spliced.
use Rattle.std.proofs.Common.{◌≡◌, ℕ, zero, suc, ◌+◌, ◌*◌, ◌<◌, ◌≤◌, List, [], ◌∷◌, ◌++◌, length, take, drop, set, get_or, refl, sym, ap, ◌∙◌, arith, append_assoc, Some, Ok, All, Option, append-nil, subst, inl, Bool}
use Rattle.std.specs.List.{concat}
use Rattle.std.proofs.lemmas.List.{length-append, length-set, drop_all, length-take, length-take-le, length-drop, take-append-drop, take-append-le, drop-append-le, set-get_or}
use Rattle.std.proofs.lemmas.List.Elements.{All-set, All-take, All-drop, All-append, All-cons, All-get_or, recursion_from_All}
use Rattle.std.proofs.Math.Seq.{take-append-add, drop-append-add}
use Rattle.frame_cut.specs.declared.file_head.Head.{Head}
use Rattle.frame_cut.specs.declared.limits.Limits.{Limits}
use Rattle.frame_cut.specs.declared.reading.Reading.{Reading}
use Rattle.frame_cut.specs.Splice.{splice}
use Rattle.frame_cut.specs.Volume.{Volume, front_of, behind_traces, bytes_of, start_of}
use Rattle.frame_cut.specs.Heads.{head_of, traces_at}
use Rattle.frame_cut.specs.Frames.{trace_length, front_length}
use Rattle.frame_cut.specs.Parts.{untailed}
use Rattle.frame_cut.specs.Cuts.{IsTrace, IsTail, IsCut}
use Rattle.frame_cut.proofs.HeadFrontLemmas.{has_head, head_of-front}
use Rattle.frame_cut.proofs.OneCutLemmas.{trace_length-append, IsBlock, length-blocks}

-- ---- the length of a trace is read from its front

-- two traces with one front have one length
pub trace_length-front : (h : Head) (t u : List ℕ) → front_length h ≤ length t → front_length h ≤ length u → take (front_length h) t ≡ take (front_length h) u → trace_length h t ≡ trace_length h u
trace_length-front h t u lt lu e =
    let n : ℕ = front_length h in
    let ft : front_length h ≤ length (take n t) = omega (arith, length-take-le n t lt) in
    let fu : front_length h ≤ length (take n u) = omega (arith, length-take-le n u lu) in
    ap (trace_length h) (sym (take-append-drop n t))
    ∙ trace_length-append h (take n t) (drop n t) ft
    ∙ ap (trace_length h) e
    ∙ sym (trace_length-append h (take n u) (drop n u) fu)
    ∙ ap (trace_length h) (take-append-drop n u)

-- ---- other traces, or another textual header

grouped : (v : Volume) → bytes_of v ≡ v.text ++ v.bin ++ (concat v.blocks ++ (concat v.traces ++ behind_traces v))
grouped v = append_assoc (front_of v) (concat v.traces) (behind_traces v) ∙ append_assoc (v.text ++ v.bin) (concat v.blocks) (concat v.traces ++ behind_traces v)

-- a file that is cut stays cut under its head with other whole traces, another textual header and another tail, within the limits
pub recut_with : (reading : Reading) (l : Limits) (v : Volume) (text : List ℕ) (ts : List (List ℕ)) (tail : List ℕ) → IsCut (bytes_of v) reading l v → length text ≡ 3200 → All (IsTrace v.head) ts → length ts ≤ l.traces → IsTail reading v.head tail
    → length (bytes_of (record v { text = text; traces = ts; tail = tail })) ≤ l.bytes → IsCut (bytes_of (record v { text = text; traces = ts; tail = tail })) reading l (record v { text = text; traces = ts; tail = tail })
recut_with reading l v text ts left cut len all few is small =
    let w : Volume = record v { text = text; traces = ts; tail = left } in
    let p = cut.parts in
    let front : length (concat v.blocks) ≡ 3200 * v.head.blocks = length-blocks v.blocks (recursion_from_All IsBlock v.blocks p.blocks.whole) ∙ ap (λ (n : ℕ). 3200 * n) p.blocks.count in
    let tail : length (concat v.trailer) ≡ 3200 * v.head.trailer = length-blocks v.trailer (recursion_from_All IsBlock v.trailer p.trailer.whole) ∙ ap (λ (n : ℕ). 3200 * n) p.trailer.count in
    let room : 3200 * v.head.trailer ≤ length (concat ts ++ behind_traces w) = omega (arith, length-append (concat ts) (behind_traces w), length-append left (concat v.trailer)) in
    let old : head_of (v.text ++ v.bin ++ (concat v.blocks ++ (concat v.traces ++ behind_traces v))) reading l ≡ Ok v.head = ap (λ (s : List ℕ). head_of s reading l) (sym (grouped v)) ∙ p.head in
    let fits : length (text ++ v.bin ++ (concat v.blocks ++ (concat ts ++ behind_traces w))) ≤ l.bytes = omega (arith, ap (λ (s : List ℕ). length s) (grouped w), small) in
    record {
      joined = refl;
      parts = record {
        head = ap (λ (s : List ℕ). head_of s reading l) (grouped w) ∙ head_of-front reading l v.head v.text text v.bin (concat v.blocks) (concat v.traces ++ behind_traces v) (concat ts ++ behind_traces w) p.text len p.bin front room fits old;
        text = len;
        bin = p.bin;
        blocks = p.blocks;
        traces = all;
        few = few;
        tail = is;
        trailer = p.trailer;
      };
    }

-- with the same tail
recut : (reading : Reading) (l : Limits) (v : Volume) (text : List ℕ) (ts : List (List ℕ)) → IsCut (bytes_of v) reading l v → length text ≡ 3200 → All (IsTrace v.head) ts → length ts ≤ l.traces
    → length (bytes_of (record v { text = text; traces = ts })) ≤ l.bytes → IsCut (bytes_of (record v { text = text; traces = ts })) reading l (record v { text = text; traces = ts })
recut reading l v text ts cut len all few small = recut_with reading l v text ts v.tail cut len all few cut.parts.tail small

-- ---- the bytes are spliced

regrouped : (x b new d z : List ℕ) → x ++ b ++ new ++ (d ++ z) ≡ x ++ (b ++ new ++ d ++ z)
regrouped x b new d z = simp append_assoc

-- as many new bytes as old ones keep the length
pub length-splice : (bytes : List ℕ) (a : ℕ) (new : List ℕ) → a + length new ≤ length bytes → length (splice bytes a (length new) new) ≡ length bytes
length-splice bytes a new h =
    omega (arith, length-append (take a bytes ++ new) (drop (a + length new) bytes), length-append (take a bytes) new, length-take a bytes, length-drop (a + length new) bytes)

-- a splice inside a part of a list
pub splice_inside : (x y z : List ℕ) (a n : ℕ) (new : List ℕ) → a + n ≤ length y → splice (x ++ (y ++ z)) (length x + a) n new ≡ x ++ (splice y a n new ++ z)
splice_inside x y z a n new h =
    let low : a ≤ length y = omega arith in
    let at : length x + a + n ≡ length x + (a + n) = omega arith in
    let first : take (length x + a) (x ++ (y ++ z)) ≡ x ++ take a y = take-append-add x (y ++ z) a ∙ ap (λ (s : List ℕ). x ++ s) (take-append-le a y z low) in
    let last : drop (length x + a + n) (x ++ (y ++ z)) ≡ drop (a + n) y ++ z = ap (λ (i : ℕ). drop i (x ++ (y ++ z))) at ∙ drop-append-add x (y ++ z) (a + n) ∙ drop-append-le (a + n) y z h in
    ap (λ (s : List ℕ). s ++ new ++ drop (length x + a + n) (x ++ (y ++ z))) first
    ∙ ap (λ (s : List ℕ). x ++ take a y ++ new ++ s) last
    ∙ regrouped x (take a y) new (drop (a + n) y) z

concat-append : (xs ys : List (List ℕ)) → concat (xs ++ ys) ≡ concat xs ++ concat ys
concat-append [] ys = refl
concat-append (x ∷ xs) ys = ap (λ (s : List ℕ). x ++ s) (concat-append xs ys) ∙ sym (append_assoc x (concat xs) (concat ys))

concat-set : (ts : List (List ℕ)) (p : ℕ) (u : List ℕ) → p < length ts → concat (set ts p u) ≡ concat (take p ts) ++ (u ++ concat (drop (suc p) ts))
concat-set [] p u h = absurd (omega arith)
concat-set (t ∷ ts) zero u h = refl
concat-set (t ∷ ts) (suc p) u h = ap (λ (s : List ℕ). t ++ s) (concat-set ts p u (omega arith)) ∙ sym (append_assoc t (concat (take p ts)) (u ++ concat (drop (suc p) ts)))

concat-split : (ts : List (List ℕ)) (p : ℕ) → p < length ts → concat ts ≡ concat (take p ts) ++ (get_or ts p [] ++ concat (drop (suc p) ts))
concat-split ts p h = ap (λ (s : List (List ℕ)). concat s) (sym (set-get_or ts p [])) ∙ concat-set ts p (get_or ts p []) h

-- what stands in front of trace p
abbrev before : Volume → ℕ → List ℕ
before v p = front_of v ++ concat (take p v.traces)

length-before : (v : Volume) (p : ℕ) → length (before v p) ≡ start_of v p
length-before v p = length-append (front_of v) (concat (take p v.traces))

regrouped_run : (f b u m t : List ℕ) → f ++ (b ++ (u ++ m)) ++ t ≡ f ++ b ++ (u ++ (m ++ t))
regrouped_run f b u m t = simp append_assoc

-- the bytes with a run u of bytes behind those in front of trace p
with_run : (v : Volume) (p : ℕ) (ts : List (List ℕ)) (u more : List ℕ) → concat ts ≡ concat (take p v.traces) ++ (u ++ more) → bytes_of (record v { traces = ts }) ≡ before v p ++ (u ++ (more ++ behind_traces v))
with_run v p ts u more e =
    ap (λ (s : List ℕ). front_of v ++ s ++ behind_traces v) e ∙ regrouped_run (front_of v) (concat (take p v.traces)) u more (behind_traces v)

-- bytes u where u' stood: a splice
spliced : (v : Volume) (p a n : ℕ) (u new more : List ℕ) → a + n ≤ length u → splice (before v p ++ (u ++ (more ++ behind_traces v))) (start_of v p + a) n new ≡ before v p ++ (splice u a n new ++ (more ++ behind_traces v))
spliced v p a n u new more h =
    ap (λ (i : ℕ). splice (before v p ++ (u ++ (more ++ behind_traces v))) (i + a) n new) (sym (length-before v p))
    ∙ splice_inside (before v p) u (more ++ behind_traces v) a n new h

-- bytes spliced inside trace p, counted from 0
pub bytes_with_splice : (v : Volume) (p a n : ℕ) (new : List ℕ) → p < length v.traces → a + n ≤ length (get_or v.traces p [])
    → bytes_of (record v { traces = set v.traces p (splice (get_or v.traces p []) a n new) }) ≡ splice (bytes_of v) (start_of v p + a) n new
bytes_with_splice v p a n new h inside =
    let t : List ℕ = get_or v.traces p [] in
    let more : List ℕ = concat (drop (suc p) v.traces) in
    with_run v p (set v.traces p (splice t a n new)) (splice t a n new) more (concat-set v.traces p (splice t a n new) h)
    ∙ sym (spliced v p a n t new more inside)
    ∙ ap (λ (s : List ℕ). splice s (start_of v p + a) n new) (sym (with_run v p v.traces t more (concat-split v.traces p h)))

-- a trace put in front of trace p, or behind the last one
pub bytes_with_inserted : (v : Volume) (p : ℕ) (u : List ℕ) → bytes_of (record v { traces = take p v.traces ++ u ∷ drop p v.traces }) ≡ splice (bytes_of v) (start_of v p) 0 u
bytes_with_inserted v p u =
    let more : List ℕ = concat (drop p v.traces) in
    let old : concat v.traces ≡ concat (take p v.traces) ++ ([] ++ more) = ap (λ (s : List (List ℕ)). concat s) (sym (take-append-drop p v.traces)) ∙ concat-append (take p v.traces) (drop p v.traces) in
    let at : start_of v p + 0 ≡ start_of v p = omega arith in
    with_run v p (take p v.traces ++ u ∷ drop p v.traces) u more (concat-append (take p v.traces) (u ∷ drop p v.traces))
    ∙ ap (λ (s : List ℕ). before v p ++ (s ++ (more ++ behind_traces v))) (sym (append-nil u))
    ∙ sym (spliced v p 0 0 [] u more (omega arith))
    ∙ ap (λ (s : List ℕ). splice s (start_of v p + 0) 0 u) (sym (with_run v p v.traces [] more old))
    ∙ ap (λ (i : ℕ). splice (bytes_of v) i 0 u) at

-- trace p taken out
pub bytes_with_removed : (v : Volume) (p : ℕ) → p < length v.traces → bytes_of (record v { traces = take p v.traces ++ drop (suc p) v.traces }) ≡ splice (bytes_of v) (start_of v p) (length (get_or v.traces p [])) []
bytes_with_removed v p h =
    let t : List ℕ = get_or v.traces p [] in
    let more : List ℕ = concat (drop (suc p) v.traces) in
    let at : start_of v p + 0 ≡ start_of v p = omega arith in
    let none : splice t 0 (length t) [] ≡ [] = drop_all (0 + length t) t (omega arith) in
    with_run v p (take p v.traces ++ drop (suc p) v.traces) [] more (concat-append (take p v.traces) (drop (suc p) v.traces))
    ∙ ap (λ (s : List ℕ). before v p ++ (s ++ (more ++ behind_traces v))) (sym none)
    ∙ sym (spliced v p 0 (length t) t [] more (omega arith))
    ∙ ap (λ (s : List ℕ). splice s (start_of v p + 0) (length t) []) (sym (with_run v p v.traces t more (concat-split v.traces p h)))
    ∙ ap (λ (i : ℕ). splice (bytes_of v) i (length t) []) at

-- ---- and the file stays cut

-- how long a file is
pub length-bytes : (v : Volume) → length (bytes_of v) ≡ length (front_of v) + length (concat v.traces) + length (behind_traces v)
length-bytes v = length-append (front_of v ++ concat v.traces) (behind_traces v) ∙ ap (λ (n : ℕ). n + length (behind_traces v)) (length-append (front_of v) (concat v.traces))

-- a file that is cut is within the limit
within : (reading : Reading) (l : Limits) (v : Volume) → IsCut (bytes_of v) reading l v → length (bytes_of v) ≤ l.bytes
within reading l v cut = (has_head (bytes_of v) reading l v.head cut.parts.head).small

length-concat-set : (ts : List (List ℕ)) (p : ℕ) (u : List ℕ) → p < length ts → length u ≡ length (get_or ts p []) → length (concat (set ts p u)) ≡ length (concat ts)
length-concat-set [] p u h e = absurd (omega arith)
length-concat-set (t ∷ ts) zero u h e = length-append u (concat ts) ∙ ap (λ (n : ℕ). n + length (concat ts)) e ∙ sym (length-append t (concat ts))
length-concat-set (t ∷ ts) (suc p) u h e =
    length-append t (concat (set ts p u)) ∙ ap (λ (n : ℕ). length t + n) (length-concat-set ts p u (omega arith) e) ∙ sym (length-append t (concat ts))

-- trace p replaced by a whole trace of its length, whose headers give that length too
pub cut_with_trace : (reading : Reading) (l : Limits) (v : Volume) (p : ℕ) (t : List ℕ) → IsCut (bytes_of v) reading l v → p < length v.traces → length t ≡ length (get_or v.traces p []) → trace_length v.head t ≡ Some (length t)
    → IsCut (bytes_of (record v { traces = set v.traces p t })) reading l (record v { traces = set v.traces p t })
cut_with_trace reading l v p t cut h len exact =
    let was : IsTrace v.head (get_or v.traces p []) = All-get_or (IsTrace v.head) v.traces p [] h cut.parts.traces in
    let is : IsTrace v.head t = record { whole = omega (arith, was.whole); exact = exact } in
    let small : length (bytes_of (record v { traces = set v.traces p t })) ≤ l.bytes =
    omega (arith, length-bytes v, length-bytes (record v { traces = set v.traces p t }), length-concat-set v.traces p t h len, within reading l v cut) in
    recut reading l v v.text (set v.traces p t) cut cut.parts.text (All-set (IsTrace v.head) v.traces p t is cut.parts.traces) (omega (arith, cut.parts.few, length-set v.traces p t)) small

-- a whole trace put in front of trace p, or behind the last one, within the limits
pub cut_with_inserted : (reading : Reading) (l : Limits) (v : Volume) (p : ℕ) (t : List ℕ) → IsCut (bytes_of v) reading l v → IsTrace v.head t → length v.traces < l.traces → length (bytes_of v) + length t ≤ l.bytes
    → IsCut (bytes_of (record v { traces = take p v.traces ++ t ∷ drop p v.traces })) reading l (record v { traces = take p v.traces ++ t ∷ drop p v.traces })
cut_with_inserted reading l v p t cut is few small =
    let ts : List (List ℕ) = take p v.traces ++ t ∷ drop p v.traces in
    let all : All (IsTrace v.head) ts = All-append (IsTrace v.head) (take p v.traces) (t ∷ drop p v.traces) (All-take (IsTrace v.head) p v.traces cut.parts.traces) (All-cons (IsTrace v.head) t (drop p v.traces) is (All-drop (IsTrace v.head) p v.traces cut.parts.traces)) in
    let split : length v.traces ≡ length (take p v.traces) + length (drop p v.traces) = ap (λ (s : List (List ℕ)). length s) (sym (take-append-drop p v.traces)) ∙ length-append (take p v.traces) (drop p v.traces) in
    let joined : concat v.traces ≡ concat (take p v.traces) ++ concat (drop p v.traces) = ap (λ (s : List (List ℕ)). concat s) (sym (take-append-drop p v.traces)) ∙ concat-append (take p v.traces) (drop p v.traces) in
    let old : length (concat v.traces) ≡ length (concat (take p v.traces)) + length (concat (drop p v.traces)) = ap (λ (s : List ℕ). length s) joined ∙ length-append (concat (take p v.traces)) (concat (drop p v.traces)) in
    let new : length (concat ts) ≡ length (concat (take p v.traces)) + (length t + length (concat (drop p v.traces))) =
    ap (λ (s : List ℕ). length s) (concat-append (take p v.traces) (t ∷ drop p v.traces)) ∙ length-append (concat (take p v.traces)) (t ++ concat (drop p v.traces)) ∙ ap (λ (n : ℕ). length (concat (take p v.traces)) + n) (length-append t (concat (drop p v.traces))) in
    let number : length ts ≡ length (take p v.traces) + suc (length (drop p v.traces)) = length-append (take p v.traces) (t ∷ drop p v.traces) in
    recut reading l v v.text ts cut cut.parts.text all (omega arith) (omega (arith, length-bytes v, length-bytes (record v { traces = ts })))

-- trace p taken out
pub cut_with_removed : (reading : Reading) (l : Limits) (v : Volume) (p : ℕ) → IsCut (bytes_of v) reading l v → p < length v.traces
    → IsCut (bytes_of (record v { traces = take p v.traces ++ drop (suc p) v.traces })) reading l (record v { traces = take p v.traces ++ drop (suc p) v.traces })
cut_with_removed reading l v p cut h =
    let ts : List (List ℕ) = take p v.traces ++ drop (suc p) v.traces in
    let all : All (IsTrace v.head) ts = All-append (IsTrace v.head) (take p v.traces) (drop (suc p) v.traces) (All-take (IsTrace v.head) p v.traces cut.parts.traces) (All-drop (IsTrace v.head) (suc p) v.traces cut.parts.traces) in
    let t : List ℕ = get_or v.traces p [] in
    let more : List ℕ = concat (drop (suc p) v.traces) in
    let old : length (concat v.traces) ≡ length (concat (take p v.traces)) + (length t + length more) =
    ap (λ (s : List ℕ). length s) (concat-split v.traces p h) ∙ length-append (concat (take p v.traces)) (t ++ more) ∙ ap (λ (n : ℕ). length (concat (take p v.traces)) + n) (length-append t more) in
    let new : length (concat ts) ≡ length (concat (take p v.traces)) + length more = ap (λ (s : List ℕ). length s) (concat-append (take p v.traces) (drop (suc p) v.traces)) ∙ length-append (concat (take p v.traces)) more in
    let number : length ts ≤ length v.traces = omega (arith, length-append (take p v.traces) (drop (suc p) v.traces), length-take p v.traces, length-drop (suc p) v.traces) in
    recut reading l v v.text ts cut cut.parts.text all (omega (arith, number, cut.parts.few)) (omega (arith, length-bytes v, length-bytes (record v { traces = ts }), within reading l v cut))

-- bytes spliced inside the textual header
pub bytes_with_text : (v : Volume) (a n : ℕ) (new : List ℕ) → a + n ≤ length v.text → bytes_of (record v { text = splice v.text a n new }) ≡ splice (bytes_of v) a n new
bytes_with_text v a n new h =
    let more : List ℕ = v.bin ++ (concat v.blocks ++ (concat v.traces ++ behind_traces v)) in
    let old : bytes_of v ≡ v.text ++ more = grouped v ∙ append_assoc v.text v.bin (concat v.blocks ++ (concat v.traces ++ behind_traces v)) in
    let w : Volume = record v { text = splice v.text a n new } in
    let new_is : bytes_of w ≡ splice v.text a n new ++ more = grouped w ∙ append_assoc (splice v.text a n new) v.bin (concat v.blocks ++ (concat v.traces ++ behind_traces v)) in
    let at : 0 + a ≡ a = omega arith in
    new_is ∙ sym (splice_inside [] v.text more a n new h) ∙ ap (λ (s : List ℕ). splice s (0 + a) n new) (sym old) ∙ ap (λ (i : ℕ). splice (bytes_of v) i n new) at

-- another textual header of 3200 bytes
pub cut_with_text : (reading : Reading) (l : Limits) (v : Volume) (text : List ℕ) → IsCut (bytes_of v) reading l v → length text ≡ 3200
    → IsCut (bytes_of (record v { text = text })) reading l (record v { text = text })
cut_with_text reading l v text cut len =
    let old : length (front_of v) ≡ length v.text + length v.bin + length (concat v.blocks) = length-append (v.text ++ v.bin) (concat v.blocks) ∙ ap (λ (n : ℕ). n + length (concat v.blocks)) (length-append v.text v.bin) in
    let new : length (front_of (record v { text = text })) ≡ length text + length v.bin + length (concat v.blocks) = length-append (text ++ v.bin) (concat v.blocks) ∙ ap (λ (n : ℕ). n + length (concat v.blocks)) (length-append text v.bin) in
    recut reading l v text v.traces cut len cut.parts.traces cut.parts.few (omega (arith, length-bytes v, length-bytes (record v { text = text }), within reading l v cut, cut.parts.text))

-- the tail taken away
pub cut_untailed : (reading : Reading) (l : Limits) (v : Volume) → IsCut (bytes_of v) reading l v → IsCut (bytes_of (untailed v)) reading l (untailed v)
cut_untailed reading l v cut =
    let less : length (behind_traces (untailed v)) ≤ length (behind_traces v) = omega (arith, length-append v.tail (concat v.trailer)) in
    recut_with reading l v v.text v.traces [] cut cut.parts.text cut.parts.traces cut.parts.few (inl refl) (omega (arith, less, length-bytes v, length-bytes (untailed v), within reading l v cut))

-- whether a reading keeps a tail does not count where there is none
pub cut_without : (file : List ℕ) (reading : Reading) (l : Limits) (v : Volume) (keeps : Bool) → IsCut file reading l v → v.tail ≡ [] → IsCut file (record reading { tail = keeps }) l v
unfolding head_of
cut_without file reading l v keeps cut none = record {
  joined = cut.joined;
  parts = record { head = cut.parts.head; text = cut.parts.text; bin = cut.parts.bin; blocks = cut.parts.blocks; traces = cut.parts.traces; few = cut.parts.few; tail = inl none; trailer = cut.parts.trailer };
}

-- ---- both at once

-- where trace p of a file that is cut begins, by the head and the traces before it
pub start-is : (reading : Reading) (l : Limits) (v : Volume) (p : ℕ) → IsCut (bytes_of v) reading l v → start_of v p ≡ traces_at v.head.blocks + length (concat (take p v.traces))
start-is reading l v p cut =
    let front : length (concat v.blocks) ≡ 3200 * v.head.blocks = length-blocks v.blocks (recursion_from_All IsBlock v.blocks cut.parts.blocks.whole) ∙ ap (λ (n : ℕ). 3200 * n) cut.parts.blocks.count in
    omega (arith, length-append (v.text ++ v.bin) (concat v.blocks), length-append v.text v.bin, cut.parts.text, cut.parts.bin)

-- bytes spliced inside trace p, counted from 0, under which its headers still give it its length
pub cut_with_splice : (reading : Reading) (l : Limits) (v : Volume) (p at : ℕ) (new : List ℕ) → IsCut (bytes_of v) reading l v → p < length v.traces → at + length new ≤ length (get_or v.traces p [])
    → trace_length v.head (splice (get_or v.traces p []) at (length new) new) ≡ Some (length (get_or v.traces p []))
    → IsCut (splice (bytes_of v) (traces_at v.head.blocks + length (concat (take p v.traces)) + at) (length new) new) reading l (record v { traces = set v.traces p (splice (get_or v.traces p []) at (length new) new) })
cut_with_splice reading l v p at new cut h inside exact =
    let t : List ℕ = get_or v.traces p [] in
    let u : List ℕ = splice t at (length new) new in
    let w : Volume = record v { traces = set v.traces p u } in
    let same : length u ≡ length t = length-splice t at new inside in
    let is : trace_length v.head u ≡ Some (length u) = exact ∙ ap (λ (n : ℕ). let o : Option ℕ = Some n in o) (sym same) in
    let bytes : bytes_of w ≡ splice (bytes_of v) (traces_at v.head.blocks + length (concat (take p v.traces)) + at) (length new) new =
    bytes_with_splice v p at (length new) new h inside ∙ ap (λ (i : ℕ). splice (bytes_of v) (i + at) (length new) new) (start-is reading l v p cut) in
    subst (λ (s : List ℕ). IsCut s reading l w) bytes (cut_with_trace reading l v p u cut h same is)
