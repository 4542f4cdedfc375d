-- A file is cut in one way at most.
use Rattle.std.proofs.Common.{IsTrue, IsFalse, ◌&&◌, ◌||◌, ltb, Option, ◌≡◌, ℕ, ◌+◌, ◌*◌, ◌<◌, ◌≤◌, Bool, true, false, cond, eqb, List, [], ◌∷◌, ◌++◌, length, take, drop, Some, None, Result, Ok, Err, refl, sym, ap, subst, ◌∙◌, append_assoc, arith, ◌⊎◌, inl, inr}
use Rattle.std.specs.List.{concat, AllByRecursion}
use Rattle.std.proofs.lemmas.List.{length-append, take_at, drop_at, append-nil}
use Rattle.std.proofs.lemmas.List.Elements.{recursion_from_All}
use Rattle.std.proofs.lemmas.Bool.{le-ltb}
use Rattle.num_order.specs.declared.order.Order.{Order}
use Rattle.num_order.specs.Number.{unsigned}
use Rattle.frame_cut.specs.declared.file_head.Head.{Head}
use Rattle.frame_cut.specs.declared.limits.Limits.{Limits}
use Rattle.frame_cut.specs.declared.reading.Reading.{Reading}
use Rattle.frame_cut.specs.declared.load_fault.LoadFault.{LoadFault}
use Rattle.frame_cut.specs.Volume.{Volume, front_of, bytes_of}
use Rattle.frame_cut.specs.Frames.{count_within, extension_count, sample_count, trace_length, front_length}
use Rattle.frame_cut.specs.declared.load_fault.LoadFault.TheVariants.{Truncated}
use Rattle.frame_cut.specs.Cuts.{IsTrace, IsTail, AreParts, IsStuck, is_longer, is_torn, refusal_by_length, trace_refusal}
use Rattle.frame_cut.proofs.BlockLemmas.{slice-append}
use Rattle.frame_cut.specs.Heads.{head_of}
use Rattle.frame_cut.specs.Laws.{AtMostOneCut, AtMostOneStuck, NotCutAndStuck, AtMostOneRefusal, NotCutAndRefused}

-- ---- the length of a trace is read from its front

count-front : (b : Bool) (x : ℕ) (o : Order) (t more : List ℕ) → cond b 240 480 ≤ length t
    → cond b (Some 0) (count_within x (unsigned o (take 2 (drop 396 (t ++ more))))) ≡ cond b (Some 0) (count_within x (unsigned o (take 2 (drop 396 t))))
count-front true x o t more h = refl
count-front false x o t more h = ap (λ (s : List ℕ). count_within x (unsigned o s)) (slice-append 396 2 t more (omega arith))

wide-front : (b : Bool) (o : Order) (t more : List ℕ) → cond b 240 480 ≤ length t
    → cond b 0 (unsigned o (take 4 (drop 376 (t ++ more)))) ≡ cond b 0 (unsigned o (take 4 (drop 376 t)))
wide-front true o t more h = refl
wide-front false o t more h = ap (unsigned o) (slice-append 376 4 t more (omega arith))

main-front : (b : Bool) (o : Order) (t more : List ℕ) → cond b 240 480 ≤ length t
    → unsigned o (take 2 (drop 114 (t ++ more))) ≡ unsigned o (take 2 (drop 114 t))
main-front true o t more h = ap (unsigned o) (slice-append 114 2 t more (omega arith))
main-front false o t more h = ap (unsigned o) (slice-append 114 2 t more (omega arith))

extension_count-append : (h : Head) (t more : List ℕ) → front_length h ≤ length t → extension_count h (t ++ more) ≡ extension_count h t
extension_count-append h t more le = count-front (eqb h.extensions 0) h.extensions h.order t more le

sample_count-append : (h : Head) (t more : List ℕ) → front_length h ≤ length t → sample_count h (t ++ more) ≡ sample_count h t
sample_count-append h t more le =
    rw (wide-front (eqb h.extensions 0) h.order t more le, main-front (eqb h.extensions 0) h.order t more le) refl

pub trace_length-append : (h : Head) (t more : List ℕ) → front_length h ≤ length t → trace_length h (t ++ more) ≡ trace_length h t
trace_length-append h t more le =
    rw (extension_count-append h t more le, sample_count-append h t more le) refl

-- ---- equal bytes in equal parts

append_same : (a b c d : List ℕ) → length a ≡ length c → a ++ b ≡ c ++ d → (a ≡ c) × (b ≡ d)
append_same a b c d len e = (
  sym (take_at a b (length a) refl) ∙ ap (take (length a)) e ∙ take_at c d (length a) (sym len),
  sym (drop_at a b (length a) refl) ∙ ap (drop (length a)) e ∙ drop_at c d (length a) (sym len),
)

append_same_end : (a b c d : List ℕ) → length b ≡ length d → a ++ b ≡ c ++ d → (a ≡ c) × (b ≡ d)
append_same_end a b c d len e =
    let whole : length (a ++ b) ≡ length (c ++ d) = ap (λ (s : List ℕ). length s) e in
    append_same a b c d (omega (arith, length-append a b, length-append c d, whole, len)) e

regroup : (a b c d e : List ℕ) → a ++ b ++ c ++ d ++ e ≡ a ++ (b ++ (c ++ (d ++ e)))
regroup a b c d e = simp append_assoc

abbrev pub IsBlock : List ℕ → Type 0
IsBlock b = length b ≡ 3200

pub length-blocks : (bs : List (List ℕ)) → AllByRecursion IsBlock bs → length (concat bs) ≡ 3200 * length bs
length-blocks [] h = refl
length-blocks (b ∷ bs) h = length-append b (concat bs) ∙ omega (arith, h.0, length-blocks bs h.1)

same_blocks : (bs cs : List (List ℕ)) (xs ys : List ℕ) → AllByRecursion IsBlock bs → AllByRecursion IsBlock cs → length bs ≡ length cs
    → concat bs ++ xs ≡ concat cs ++ ys → (bs ≡ cs) × (xs ≡ ys)
same_blocks [] [] xs ys h k len e = (refl, e)
same_blocks [] (c ∷ cs) xs ys h k len e = absurd (omega (arith, len))
same_blocks (b ∷ bs) [] xs ys h k len e = absurd (omega (arith, len))
same_blocks (b ∷ bs) (c ∷ cs) xs ys h k len e =
    let s = append_same b (concat bs ++ xs) c (concat cs ++ ys) (h.0 ∙ sym k.0) (sym (append_assoc b (concat bs) xs) ∙ e ∙ append_assoc c (concat cs) ys) in
    let r = same_blocks bs cs xs ys h.1 k.1 (omega (arith, len)) s.1 in
    (ap (λ (x : List ℕ). x ∷ bs) s.0 ∙ ap (λ (x : List (List ℕ)). c ∷ x) r.0, r.1)

-- ---- where the traces end

-- no bytes are left, or trace p is refused
abbrev pub Stops : Head → Limits → ℕ → List ℕ → Type 0
Stops h l p xs = (xs ≡ []) ⊎ ((f : LoadFault) × (0 < length xs) × (trace_refusal h l p xs ≡ Some f))

front_some : (b : Bool) → 0 < cond b 240 480
front_some true = omega arith
front_some false = omega arith

whole_trace : (h : Head) (l : Limits) (p : ℕ) (u more : List ℕ) → IsTrace h u → p ≤ l.traces → trace_refusal h l p (u ++ more) ≡ None
whole_trace h l p u more is le =
    let whole : front_length h ≤ length u = is.whole in
    let long : front_length h ≤ length (u ++ more) = omega (arith, length-append u more, whole) in
    let holds : length u ≤ length (u ++ more) = omega (arith, length-append u more) in
    rw (le-ltb (length (u ++ more)) (front_length h) long, trace_length-append h u more is.whole, is.exact, le-ltb (length (u ++ more)) (length u) holds, le-ltb l.traces p le) refl

stops_not : (h : Head) (l : Limits) (p : ℕ) (u more xs : List ℕ) → IsTrace h u → p ≤ l.traces → xs ≡ u ++ more → Stops h l p xs → ⊥
stops_not h l p u more xs is le e (inl nil) =
    let whole : front_length h ≤ length u = is.whole in
    let len : length xs ≡ length (u ++ more) = ap (λ (s : List ℕ). length s) e in
    let none : length xs ≡ 0 = ap (λ (s : List ℕ). length s) nil in
    absurd (omega (arith, length-append u more, len, none, whole, front_some (eqb h.extensions 0)))
stops_not h l p u more xs is le e (inr (f, some, refused)) =
    let goes : trace_refusal h l p xs ≡ None = ap (trace_refusal h l p) e ∙ whole_trace h l p u more is le in
    absurd cc

same_length : (h : Head) (t a u b : List ℕ) → IsTrace h t → IsTrace h u → t ++ a ≡ u ++ b → length t ≡ length u
same_length h t a u b is js e =
    let both : Some (length t) ≡ Some (length u) = sym is.exact ∙ sym (trace_length-append h t a is.whole) ∙ ap (trace_length h) e ∙ trace_length-append h u b js.whole ∙ js.exact in
    cc

same_traces : (h : Head) (l : Limits) (p a b : ℕ) (ts us : List (List ℕ)) (xs ys : List ℕ)
    → AllByRecursion (IsTrace h) ts → AllByRecursion (IsTrace h) us → a ≡ p + length ts → b ≡ p + length us → a ≤ l.traces + 1 → b ≤ l.traces + 1
    → Stops h l a xs → Stops h l b ys → concat ts ++ xs ≡ concat us ++ ys → (ts ≡ us) × (xs ≡ ys)
same_traces h l p a b [] [] xs ys is js ea eb la lb sx sy e = (refl, e)
same_traces h l p a b [] (u ∷ us) xs ys is js ea eb la lb sx sy e =
    absurd (stops_not h l a u (concat us ++ ys) xs js.0 (omega (arith, ea, eb, lb)) (e ∙ append_assoc u (concat us) ys) sx)
same_traces h l p a b (t ∷ ts) [] xs ys is js ea eb la lb sx sy e =
    absurd (stops_not h l b t (concat ts ++ xs) ys is.0 (omega (arith, ea, eb, la)) (sym e ∙ append_assoc t (concat ts) xs) sy)
same_traces h l p a b (t ∷ ts) (u ∷ us) xs ys is js ea eb la lb sx sy e =
    let e' : t ++ (concat ts ++ xs) ≡ u ++ (concat us ++ ys) = sym (append_assoc t (concat ts) xs) ∙ e ∙ append_assoc u (concat us) ys in
    let s = append_same t (concat ts ++ xs) u (concat us ++ ys) (same_length h t (concat ts ++ xs) u (concat us ++ ys) is.0 js.0 e') e' in
    let r = same_traces h l (p + 1) a b ts us xs ys is.1 js.1 (omega (arith, ea)) (omega (arith, eb)) la lb sx sy s.1 in
    (ap (λ (x : List ℕ). x ∷ ts) s.0 ∙ ap (λ (x : List (List ℕ)). u ∷ x) r.0, r.1)

-- ---- the parts of one file

ok_is : (a b : Head) → let ra : Result Head LoadFault = Ok a in let rb : Result Head LoadFault = Ok b in ra ≡ rb → a ≡ b
ok_is a b e = cc

same_volume : (v w : Volume) → v.head ≡ w.head → v.text ≡ w.text → v.bin ≡ w.bin → v.blocks ≡ w.blocks → v.traces ≡ w.traces → v.tail ≡ w.tail → v.trailer ≡ w.trailer → v ≡ w
same_volume v w head text bin blocks traces tail trailer =
    ap (λ (x : Head). record v { head = x }) head
    ∙ ap (λ (x : List ℕ). record v { head = w.head; text = x }) text
    ∙ ap (λ (x : List ℕ). record v { head = w.head; text = w.text; bin = x }) bin
    ∙ ap (λ (x : List (List ℕ)). record v { head = w.head; text = w.text; bin = w.bin; blocks = x }) blocks
    ∙ ap (λ (x : List (List ℕ)). record v { head = w.head; text = w.text; bin = w.bin; blocks = w.blocks; traces = x }) traces
    ∙ ap (λ (x : List ℕ). record w { tail = x; trailer = v.trailer }) tail
    ∙ ap (λ (x : List (List ℕ)). record w { trailer = x }) trailer

-- the bytes of parts with these between the traces and the trailer records, in the place of a tail
abbrev joined_with : Volume → List ℕ → List ℕ
joined_with v xs = bytes_of (record v { tail = xs })

-- the same parts with these in the place of a tail
abbrev with_tail : Volume → List ℕ → Volume
with_tail v xs = record v { tail = xs }

-- the part in front of the trailer records
grouped_tail : (a b c d : List ℕ) → a ++ b ++ (c ++ d) ≡ a ++ b ++ c ++ d
grouped_tail a b c d = simp append_assoc

one : (file : List ℕ) (reading : Reading) (l : Limits) (v w : Volume) (xs ys : List ℕ) → AreParts file reading l v → AreParts file reading l w
    → joined_with v xs ≡ file → joined_with w ys ≡ file → Stops v.head l (length v.traces + 1) xs → Stops w.head l (length w.traces + 1) ys → (with_tail v xs ≡ with_tail w ys) × (xs ≡ ys)
one file reading l v w xs ys p q ev ew sx sy =
    let heads : v.head ≡ w.head = ok_is v.head w.head (sym p.head ∙ q.head) in
    let tail_v : AllByRecursion IsBlock v.trailer = recursion_from_All IsBlock v.trailer p.trailer.whole in
    let tail_w : AllByRecursion IsBlock w.trailer = recursion_from_All IsBlock w.trailer q.trailer.whole in
    let tail_count : length v.trailer ≡ length w.trailer = p.trailer.count ∙ ap (λ (h : Head). h.trailer) heads ∙ sym q.trailer.count in
    let block_count : length v.blocks ≡ length w.blocks = p.blocks.count ∙ ap (λ (h : Head). h.blocks) heads ∙ sym q.blocks.count in
    let tail_length : length (concat v.trailer) ≡ length (concat w.trailer) = omega (arith, length-blocks v.trailer tail_v, length-blocks w.trailer tail_w, tail_count) in
    let ends = append_same_end (front_of v ++ concat v.traces ++ xs) (concat v.trailer) (front_of w ++ concat w.traces ++ ys) (concat w.trailer) tail_length (sym (grouped_tail (front_of v) (concat v.traces) xs (concat v.trailer)) ∙ ev ∙ sym ew ∙ grouped_tail (front_of w) (concat w.traces) ys (concat w.trailer)) in
    let tails = same_blocks v.trailer w.trailer [] [] tail_v tail_w tail_count (ap (λ (s : List ℕ). s ++ []) ends.1) in
    let parts = sym (regroup v.text v.bin (concat v.blocks) (concat v.traces) xs) ∙ ends.0 ∙ regroup w.text w.bin (concat w.blocks) (concat w.traces) ys in
    let texts = append_same v.text (v.bin ++ (concat v.blocks ++ (concat v.traces ++ xs))) w.text (w.bin ++ (concat w.blocks ++ (concat w.traces ++ ys))) (p.text ∙ sym q.text) parts in
    let bins = append_same v.bin (concat v.blocks ++ (concat v.traces ++ xs)) w.bin (concat w.blocks ++ (concat w.traces ++ ys)) (p.bin ∙ sym q.bin) texts.1 in
    let blocks = same_blocks v.blocks w.blocks (concat v.traces ++ xs) (concat w.traces ++ ys) (recursion_from_All IsBlock v.blocks p.blocks.whole) (recursion_from_All IsBlock w.blocks q.blocks.whole) block_count bins.1 in
    let traces_v : AllByRecursion (IsTrace v.head) v.traces = recursion_from_All (IsTrace v.head) v.traces p.traces in
    let traces_w : AllByRecursion (IsTrace v.head) w.traces = subst (λ (h : Head). AllByRecursion (IsTrace h) w.traces) (sym heads) (recursion_from_All (IsTrace w.head) w.traces q.traces) in
    let stops_w : Stops v.head l (length w.traces + 1) ys = subst (λ (h : Head). Stops h l (length w.traces + 1) ys) (sym heads) sy in
    let traces = same_traces v.head l 1 (length v.traces + 1) (length w.traces + 1) v.traces w.traces xs ys traces_v traces_w (omega arith) (omega arith) (omega (arith, p.few)) (omega (arith, q.few)) sx stops_w blocks.1 in
    (same_volume (with_tail v xs) (with_tail w ys) heads texts.0 bins.0 blocks.0 traces.0 traces.1 tails.0, traces.1)

-- ---- what stands behind the last trace

both_not : (a b : Bool) → IsTrue a → IsTrue b → IsFalse (a && b) → ⊥
both_not true true s t f = absurd cc
both_not true false s t f = absurd cc
both_not false b s t f = absurd cc

-- less than a trace, whatever its number and the limit: its front is not there, or it is not
torn_by : (h : Head) (l : Limits) (p : ℕ) (rest : List ℕ) (b : Bool) (o : Option ℕ) → IsTrue (b || is_longer o (length rest)) → cond b (Some (Truncated p)) (refusal_by_length l p (length rest) o) ≡ Some (Truncated p)
torn_by h l p rest true o t = refl
torn_by h l p rest false None t = absurd cc
torn_by h l p rest false (Some n) t = rw t refl

pub torn_refused : (h : Head) (l : Limits) (p : ℕ) (rest : List ℕ) → IsTrue (is_torn h rest) → trace_refusal h l p rest ≡ Some (Truncated p)
torn_refused h l p rest t = torn_by h l p rest (ltb (length rest) (front_length h)) (trace_length h rest) t

some_bytes : (xs : List ℕ) → (xs ≡ []) ⊎ (0 < length xs)
some_bytes [] = inl refl
some_bytes (x ∷ xs) = inr (omega arith)

-- no trace begins in a tail
tail_stops : (reading : Reading) (h : Head) (l : Limits) (p : ℕ) (tail : List ℕ) → IsTail reading h tail → Stops h l p tail
tail_stops reading h l p tail (inl none) = inl none
tail_stops reading h l p tail (inr (kept, torn)) = elim (some_bytes tail) [
  | inl none ↦ inl none
  | inr some ↦ inr (Truncated p, some, torn_refused h l p tail torn)
]

pub at_most_one_cut : AtMostOneCut
at_most_one_cut file reading l v w p q =
    (one file reading l v w v.tail w.tail p.parts q.parts p.joined q.joined (tail_stops reading v.head l (length v.traces + 1) v.tail p.parts.tail) (tail_stops reading w.head l (length w.traces + 1) w.tail q.parts.tail)).0

-- where there is no tail
no_tail : (v : Volume) (xs : List ℕ) → v.tail ≡ [] → record (with_tail v xs) { tail = [] } ≡ v
no_tail v xs none = ap (λ (t : List ℕ). with_tail v t) (sym none)

pub at_most_one_stuck : AtMostOneStuck
at_most_one_stuck file reading l v w xs ys a b p q =
    let same = one file reading l v w xs ys p.parts q.parts p.joined q.joined (inr (a, p.some, p.refused)) (inr (b, q.some, q.refused)) in
    let volumes : v ≡ w = sym (no_tail v xs p.untailed) ∙ ap (λ (u : Volume). record u { tail = [] }) same.0 ∙ no_tail w ys q.untailed in
    let refused : Some a ≡ Some b = sym p.refused ∙ ap (λ (u : Volume). trace_refusal u.head l (length u.traces + 1) xs) volumes ∙ ap (trace_refusal w.head l (length w.traces + 1)) same.1 ∙ q.refused in
    (volumes, same.1, cc)

-- a tail that is kept does not stop a walk
kept_not : (reading : Reading) (g h : Head) (tail rest : List ℕ) → g ≡ h → tail ≡ rest → 0 < length rest → IsTail reading g tail → IsFalse (reading.tail && is_torn h rest) → ⊥
kept_not reading g h tail rest e same some (inl none) unkept =
    let nothing : length rest ≡ 0 = ap (λ (s : List ℕ). length s) (sym same ∙ none) in absurd (omega (arith, some, nothing))
kept_not reading g h tail rest e same some (inr (kept, torn)) unkept =
    let t : IsTrue (is_torn h rest) = subst (λ (k : Head). IsTrue (is_torn k rest)) e (subst (λ (s : List ℕ). IsTrue (is_torn g s)) same torn) in
    both_not reading.tail (is_torn h rest) kept t unkept

pub not_cut_and_stuck : NotCutAndStuck
not_cut_and_stuck file reading l v w rest fault p q =
    let same = one file reading l v w v.tail rest p.parts q.parts p.joined q.joined (tail_stops reading v.head l (length v.traces + 1) v.tail p.parts.tail) (inr (fault, q.some, q.refused)) in
    kept_not reading v.head w.head v.tail rest (ap (λ (u : Volume). u.head) same.0) same.1 q.some p.parts.tail q.unkept

-- ---- refusals

stuck_not_refused : (file : List ℕ) (reading : Reading) (l : Limits) (v : Volume) (rest : List ℕ) (a b : LoadFault) → IsStuck file reading l v rest a → head_of file reading l ≡ Err b → ⊥
stuck_not_refused file reading l v rest a b s e =
    let head : head_of file reading l ≡ Ok v.head = s.parts.head in absurd cc

pub at_most_one_refusal : AtMostOneRefusal
at_most_one_refusal file reading l a b (inl p) (inl q) = let same : head_of file reading l ≡ Err a = p in cc
at_most_one_refusal file reading l a b (inl p) (inr (w, ys, q)) = absurd (stuck_not_refused file reading l w ys b a q p)
at_most_one_refusal file reading l a b (inr (v, xs, p)) (inl q) = absurd (stuck_not_refused file reading l v xs a b p q)
at_most_one_refusal file reading l a b (inr (v, xs, p)) (inr (w, ys, q)) = (at_most_one_stuck file reading l v w xs ys a b p q).2

pub not_cut_and_refused : NotCutAndRefused
not_cut_and_refused file reading l v fault p (inl q) = let head : head_of file reading l ≡ Ok v.head = p.parts.head in absurd cc
not_cut_and_refused file reading l v fault p (inr (w, rest, q)) = not_cut_and_stuck file reading l v w rest fault p q
