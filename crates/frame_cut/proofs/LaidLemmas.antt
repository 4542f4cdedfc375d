-- Traces that lie one behind the other, and the parts of a file whose traces lie so.
use Rattle.std.proofs.Common.{◌≡◌, ℕ, zero, suc, ◌+◌, ◌*◌, ◌-◌, ◌<◌, ◌≤◌, List, [], ◌∷◌, ◌++◌, length, take, drop, refl, sym, ap, ◌∙◌, append_assoc, arith, All, Ok, Err, Result, ◌&&◌, Bool, true, false, cond, ltb, leb, eqb, Option, Some, None, subst, inl, inr, ◌⊎◌}
use Rattle.std.specs.Prelude.{option_map}
use Rattle.sample_codes.specs.Formats.{width}
use Rattle.std.specs.List.{concat}
use Rattle.std.proofs.lemmas.List.{length-take, length-take-le, length-drop, length-map, map-append, length_push, take-take, take_all, drop-drop, take-append-drop}
use Rattle.std.proofs.lemmas.List.Elements.{All-from_recursion, All-nil, All-push}
use Rattle.std.proofs.Math.Seq.{take-add}
use Rattle.frame_cut.specs.declared.extent.Extent.{Extent}
use Rattle.frame_cut.specs.declared.file_head.Head.{Head}
use Rattle.frame_cut.specs.declared.limits.Limits.{Limits}
use Rattle.frame_cut.specs.declared.reading.Reading.{Reading}
use Rattle.frame_cut.specs.declared.load_fault.LoadFault.{LoadFault}
use Rattle.frame_cut.specs.Volume.{Volume, front_of, bytes_of}
use Rattle.frame_cut.specs.Layout.{bytes_at, pieces, tail_at, AreContiguous, AreTracesOf, volume_at}
use Rattle.frame_cut.specs.Heads.{head_of, blocks_of}
use Rattle.frame_cut.specs.declared.load_fault.LoadFault.TheVariants.{Truncated, TooManyTraces, ExtensionCount, OutOfMemory}
use Rattle.frame_cut.specs.Frames.{trace_length, front_length, sample_count, count_within, header_unsigned}
use Rattle.frame_cut.specs.Laws.{CutOrRefused}
use Rattle.frame_cut.specs.Walk.{traces_end, left_at, AreWhole, EndsAt, StopsAt}
use Rattle.frame_cut.specs.Cuts.{IsTrace, IsTail, AreParts, IsCut, IsStuck, IsRefused, is_torn, trace_refusal, refusal_by_length}
use Rattle.std.proofs.lemmas.Bool.{cases_lt, ltb-false}
use Rattle.frame_cut.proofs.BlockLemmas.{concat-blocks_of, whole-blocks_of, length-blocks_of}
use Rattle.frame_cut.proofs.HeadFrontLemmas.{has_head}
use Rattle.frame_cut.proofs.OneCutLemmas.{IsBlock, trace_length-append}

pub laid-le : (start : ℕ) (es : List Extent) (end : ℕ) → AreContiguous start es end → start ≤ end
laid-le start [] end h = omega (arith, h)
laid-le start (e ∷ es) end h = let rest = laid-le (start + e.length) es end h.1 in omega arith

-- one more behind the others
pub laid-push : (start : ℕ) (es : List Extent) (end n : ℕ) → AreContiguous start es end → AreContiguous start (es ++ record { start = end; length = n } ∷ []) (end + n)
laid-push start [] end n h = (sym h, ap (λ (i : ℕ). i + n) h)
laid-push start (e ∷ es) end n h = (h.0, laid-push (start + e.length) es end n h.1)

-- the bytes between two places
abbrev pub between : List ℕ → ℕ → ℕ → List ℕ
between file start end = take (end - start) (drop start file)

-- the bytes up to a place, then those up to the next
take-between : (file : List ℕ) (start end : ℕ) → start ≤ end → take start file ++ between file start end ≡ take end file
take-between file start end le =
    let whole : start + (end - start) ≡ end = omega arith in
    sym (take-add start (end - start) file) ∙ ap (λ (n : ℕ). take n file) whole

between-next : (file : List ℕ) (start next end : ℕ) → start ≤ next → next ≤ end → between file start next ++ between file next end ≡ between file start end
between-next file start next end le le' =
    let whole : (next - start) + (end - next) ≡ end - start = omega arith in
    let at : start + (next - start) ≡ next = omega arith in
    ap (λ (i : ℕ). between file start next ++ take (end - next) (drop i file)) (sym at)
    ∙ ap (λ (s : List ℕ). between file start next ++ take (end - next) s) (sym (drop-drop (next - start) start file))
    ∙ sym (take-add (next - start) (end - next) (drop start file))
    ∙ ap (λ (n : ℕ). take n (drop start file)) whole

concat-pieces : (file : List ℕ) (start : ℕ) (es : List Extent) (end : ℕ) → AreContiguous start es end → concat (pieces file es) ≡ between file start end
concat-pieces file start [] end h =
    let none : end - start ≡ 0 = omega (arith, h) in
    ap (λ (n : ℕ). take n (drop start file)) (sym none)
concat-pieces file start (e ∷ es) end h =
    let le = laid-le (start + e.length) es end h.1 in
    let size : e.length ≡ (start + e.length) - start = omega arith in
    ap (λ (i : ℕ). take e.length (drop i file) ++ concat (pieces file es)) h.0
    ∙ ap (λ (s : List ℕ). take e.length (drop start file) ++ s) (concat-pieces file (start + e.length) es end h.1)
    ∙ ap (λ (n : ℕ). take n (drop start file) ++ between file (start + e.length) end) size
    ∙ between-next file start (start + e.length) end (omega arith) le

-- the front of a file with this many extended textual headers
front-laid : (file : List ℕ) (blocks : ℕ) → take 3200 file ++ take 400 (drop 3200 file) ++ concat (blocks_of blocks (drop 3600 file)) ≡ take (3600 + 3200 * blocks) file
front-laid file blocks =
    ap (λ (s : List ℕ). s ++ concat (blocks_of blocks (drop 3600 file))) (sym (take-add 3200 400 file))
    ∙ ap (λ (s : List ℕ). take 3600 file ++ s) (concat-blocks_of blocks (drop 3600 file))
    ∙ sym (take-add 3600 (3200 * blocks) file)

-- the data trailer records at the end of a file
tail-laid : (file : List ℕ) (records : ℕ) → 3200 * records ≤ length file → take (length file - 3200 * records) file ++ concat (blocks_of records (drop (length file - 3200 * records) file)) ≡ file
tail-laid file records le =
    let whole : (length file - 3200 * records) + 3200 * records ≡ length file = omega arith in
    ap (λ (s : List ℕ). take (length file - 3200 * records) file ++ s) (concat-blocks_of records (drop (length file - 3200 * records) file))
    ∙ sym (take-add (length file - 3200 * records) (3200 * records) file)
    ∙ ap (λ (n : ℕ). take n file) whole
    ∙ take_all (length file) file (omega arith)

-- the front and the traces up to a place
pub front-pieces : (file : List ℕ) (h : Head) (es : List Extent) (n at : ℕ) → h.traces_at ≡ 3600 + 3200 * h.blocks → AreContiguous h.traces_at es at → front_of (volume_at file h es n) ++ concat (pieces file es) ≡ take at file
front-pieces file h es n at first laid =
    ap (λ (s : List ℕ). s ++ concat (pieces file es)) (front-laid file h.blocks ∙ ap (λ (n : ℕ). take n file) (sym first))
    ∙ ap (λ (s : List ℕ). take h.traces_at file ++ s) (concat-pieces file h.traces_at es at laid)
    ∙ take-between file h.traces_at at (laid-le h.traces_at es at laid)

-- the parts of a laid file joined are the file
pub joined-laid : (file : List ℕ) (h : Head) (es : List Extent) (n : ℕ) → AreTracesOf file h es n → bytes_of (volume_at file h es n) ≡ file
joined-laid file h es n a =
    let records : 3200 * h.trailer ≤ length file = omega (arith, a.whole) in
    let at : ℕ = length file - 3200 * h.trailer - n in
    let whole : at + n ≡ length file - 3200 * h.trailer = omega (arith, a.whole) in
    let back : List ℕ = concat (blocks_of h.trailer (drop (length file - 3200 * h.trailer) file)) in
    ap (λ (s : List ℕ). s ++ (tail_at file h n ++ back)) (front-pieces file h es n at a.front a.laid)
    ∙ sym (append_assoc (take at file) (tail_at file h n) back)
    ∙ ap (λ (s : List ℕ). s ++ back) (sym (take-add at n file) ∙ ap (λ (k : ℕ). take k file) whole)
    ∙ tail-laid file h.trailer records

-- so many bytes as are left at a place are those that are left there
pub tail-left : (file : List ℕ) (h : Head) (at : ℕ) → at ≤ traces_end file h → tail_at file h (traces_end file h - at) ≡ left_at file h at
tail-left file h at le =
    let back : length file - 3200 * h.trailer - (traces_end file h - at) ≡ at = omega arith in
    ap (λ (i : ℕ). take (traces_end file h - at) (drop i file)) back

-- ---- one trace more

-- a trace that is not refused: its front is there, it is there, and the limit allows it
not_refused : (b c d : Bool) (x y : LoadFault) → cond b (Some x) (cond c (Some y) (cond d (Some TooManyTraces) None)) ≡ None → (b ≡ false) × (c ≡ false) × (d ≡ false)
not_refused true c d x y e = absurd cc
not_refused false true d x y e = absurd cc
not_refused false false true x y e = absurd cc
not_refused false false false x y e = (refl, refl, refl)

passes : (h : Head) (l : Limits) (p n : ℕ) (rest : List ℕ) → trace_refusal h l p rest ≡ None → trace_length h rest ≡ Some n → (front_length h ≤ length rest) × (n ≤ length rest) × (p ≤ l.traces)
passes h l p n rest e len =
    let known : cond (ltb (length rest) (front_length h)) (Some (Truncated p)) (refusal_by_length l p (length rest) (Some n)) ≡ None =
    ap (λ (o : Option ℕ). cond (ltb (length rest) (front_length h)) (Some (Truncated p)) (refusal_by_length l p (length rest) o)) (sym len) ∙ e in
    let tests = not_refused (ltb (length rest) (front_length h)) (ltb (length rest) n) (ltb l.traces p) (Truncated p) (Truncated p) known in
    (ltb-false (length rest) (front_length h) tests.0, ltb-false (length rest) n tests.1, ltb-false l.traces p tests.2)

-- a trace is no shorter than its front
some-is : (a b : ℕ) → let x : Option ℕ = Some a in let y : Option ℕ = Some b in x ≡ y → a ≡ b
some-is a b e = cc

within-le : (d f : Bool) (x c w n : ℕ) → (d ≡ false → 0 < c) → 0 < x → option_map (λ (e : ℕ). 240 * (1 + e) + w) (cond d (Some x) (cond f (Some c) None)) ≡ Some n → 480 ≤ n
within-le true f x c w n hc hx e = omega (arith, some-is (240 * (1 + x) + w) n e)
within-le false true x c w n hc hx e = omega (arith, hc refl, some-is (240 * (1 + c) + w) n e)
within-le false false x c w n hc hx e = absurd cc

positive : (c : ℕ) → eqb c 0 ≡ false → 0 < c
positive zero e = absurd cc
positive (suc c) e = omega arith

front-by : (b : Bool) (x c w n : ℕ) → (b ≡ false → 0 < x) → option_map (λ (e : ℕ). 240 * (1 + e) + w) (cond b (Some 0) (count_within x c)) ≡ Some n → cond b 240 480 ≤ n
front-by true x c w n hx e = omega (arith, some-is (240 * (1 + 0) + w) n e)
front-by false x c w n hx e = within-le (eqb c 0) (leb c x) x c w n (positive c) (hx refl) e

front-le : (h : Head) (t : List ℕ) (n : ℕ) → trace_length h t ≡ Some n → front_length h ≤ n
front-le h t n e = front-by (eqb h.extensions 0) h.extensions (header_unsigned h 1 157 2 t) (width h.format * sample_count h t) n (positive h.extensions) e

-- the bytes of an extent inside the bytes that are left
bytes-left : (file : List ℕ) (h : Head) (at n : ℕ) → n ≤ length (left_at file h at) → take n (left_at file h at) ≡ take n (drop at file)
bytes-left file h at n le = take-take n (traces_end file h - at) (drop at file) (omega (arith, length-take (traces_end file h - at) (drop at file)))

pieces-push : (file : List ℕ) (es : List Extent) (e : Extent) → pieces file (es ++ e ∷ []) ≡ pieces file es ++ bytes_at file e ∷ []
pieces-push file es e = map-append (bytes_at file) es (e ∷ [])

-- the trace that begins at a place, when it is not refused
one_trace : (file : List ℕ) (h : Head) (at n : ℕ) → front_length h ≤ length (left_at file h at) → n ≤ length (left_at file h at) → trace_length h (left_at file h at) ≡ Some n → IsTrace h (take n (drop at file))
one_trace file h at n front inside len =
    let rest : List ℕ = left_at file h at in
    let size : length (take n rest) ≡ n = length-take-le n rest inside in
    let whole : front_length h ≤ length (take n rest) = omega (arith, front-le h rest n len, size) in
    let exact : trace_length h (take n rest) ≡ Some (length (take n rest)) =
    sym (trace_length-append h (take n rest) (drop n rest) whole) ∙ ap (trace_length h) (take-append-drop n rest) ∙ len ∙ ap (λ (k : ℕ). let o : Option ℕ = Some k in o) (sym size) in
    let is : IsTrace h (take n rest) = record { whole = whole; exact = exact } in
    subst (IsTrace h) (bytes-left file h at n inside) is

-- one step of the walk
pub whole-push : (file : List ℕ) (h : Head) (l : Limits) (es : List Extent) (at n : ℕ) → AreWhole file h l es at → trace_refusal h l (length es + 1) (left_at file h at) ≡ None → trace_length h (left_at file h at) ≡ Some n
    → AreWhole file h l (es ++ record { start = at; length = n } ∷ []) (at + n)
whole-push file h l es at n w e len =
    let p = passes h l (length es + 1) n (left_at file h at) e len in
    let is : IsTrace h (take n (drop at file)) = one_trace file h at n p.0 p.1 len in
    record {
      laid = laid-push h.traces_at es at n w.laid;
      traces = subst (λ (ts : List (List ℕ)). All (IsTrace h) ts) (sym (pieces-push file es (record { start = at; length = n }))) (All-push (IsTrace h) (pieces file es) (take n (drop at file)) w.traces is);
      few = omega (arith, p.2, length_push es (record { start = at; length = n }));
    }

front-least : (b : Bool) → 240 ≤ cond b 240 480
front-least true = omega arith
front-least false = omega arith

-- the step stays in front of the data trailer records, and goes on
pub step-le : (file : List ℕ) (h : Head) (l : Limits) (p at n : ℕ) → at ≤ traces_end file h → trace_refusal h l p (left_at file h at) ≡ None → trace_length h (left_at file h at) ≡ Some n → (at + n ≤ traces_end file h) × (240 ≤ n)
step-le file h l p at n le e len =
    let q = passes h l p n (left_at file h at) e len in
    (omega (arith, q.1, length-take (traces_end file h - at) (drop at file)), omega (arith, front-le h (left_at file h at) n len, front-least (eqb h.extensions 0)))

-- ---- the end of the walk

parts_of : (file : List ℕ) (reading : Reading) (l : Limits) (h : Head) (es : List Extent) (n at : ℕ) → head_of file reading l ≡ Ok h → AreWhole file h l es at → IsTail reading h (tail_at file h n) → AreParts file reading l (volume_at file h es n)
parts_of file reading l h es n at e w tail =
    let k = has_head file reading l h e in
    let room : length (drop 3600 file) ≡ length file - 3600 = length-drop 3600 file in
    let records : length (drop (traces_end file h) file) ≡ length file - traces_end file h = length-drop (traces_end file h) file in
    record {
      head = e;
      text = length-take-le 3200 file (omega (arith, k.whole));
      bin = length-take-le 400 (drop 3200 file) (omega (arith, k.whole, length-drop 3200 file));
      blocks = record { count = length-blocks_of h.blocks (drop 3600 file); whole = All-from_recursion IsBlock (blocks_of h.blocks (drop 3600 file)) (whole-blocks_of h.blocks (drop 3600 file) (omega (arith, k.whole))) };
      traces = w.traces;
      few = omega (arith, w.few, length-map es (bytes_at file));
      tail = tail;
      trailer = record { count = length-blocks_of h.trailer (drop (traces_end file h) file); whole = All-from_recursion IsBlock (blocks_of h.trailer (drop (traces_end file h) file)) (whole-blocks_of h.trailer (drop (traces_end file h) file) (omega (arith, k.whole))) };
    }

pub laid_from : (file : List ℕ) (reading : Reading) (l : Limits) (h : Head) (es : List Extent) (n at : ℕ) → head_of file reading l ≡ Ok h → EndsAt file reading h l es at → n ≡ traces_end file h - at → AreTracesOf file h es n
laid_from file reading l h es n at e w is =
    let k = has_head file reading l h e in
    let le = laid-le h.traces_at es at w.whole.laid in
    let place : at ≡ length file - 3200 * h.trailer - n = omega (arith, w.inside, is) in
    record { front = k.first; laid = subst (AreContiguous h.traces_at es) place w.whole.laid; whole = omega (arith, k.whole, k.first, le, w.inside, is) }

-- all traces are whole, and what is left is a tail that is kept: the file is cut
pub cut_from : (file : List ℕ) (reading : Reading) (l : Limits) (h : Head) (es : List Extent) (n at : ℕ) → head_of file reading l ≡ Ok h → EndsAt file reading h l es at → n ≡ traces_end file h - at → IsCut file reading l (volume_at file h es n)
cut_from file reading l h es n at e w is =
    let bytes : left_at file h at ≡ tail_at file h n = sym (tail-left file h at w.inside) ∙ ap (tail_at file h) (sym is) in
    let tail : IsTail reading h (tail_at file h n) = subst (λ (s : List ℕ). IsTail reading h s) bytes w.tail in
    record { joined = joined-laid file h es n (laid_from file reading l h es n at e w is); parts = parts_of file reading l h es n at e w.whole tail }

-- the walk stops: the file is refused
pub refused_from : (file : List ℕ) (reading : Reading) (l : Limits) (h : Head) (es : List Extent) (at : ℕ) (fault : LoadFault) → head_of file reading l ≡ Ok h → StopsAt file reading h l es at fault → IsRefused file reading l fault
refused_from file reading l h es at fault e s =
    let k = has_head file reading l h e in
    let v : Volume = volume_at file h es 0 in
    let number : length (pieces file es) ≡ length es = length-map es (bytes_at file) in
    let front : front_of v ++ concat (pieces file es) ≡ take at file = front-pieces file h es 0 at k.first s.whole.laid in
    let joined : front_of v ++ concat v.traces ++ (left_at file h at ++ concat v.trailer) ≡ file =
    ap (λ (b : List ℕ). b ++ (left_at file h at ++ concat v.trailer)) front
    ∙ sym (append_assoc (take at file) (left_at file h at) (concat v.trailer))
    ∙ ap (λ (b : List ℕ). b ++ concat v.trailer) (take-between file at (traces_end file h) (omega (arith, s.some)))
    ∙ tail-laid file h.trailer (omega (arith, k.whole)) in
    let some : 0 < length (left_at file h at) = omega (arith, s.some, length-take (traces_end file h - at) (drop at file), length-drop at file) in
    let refused : trace_refusal h l (length (pieces file es) + 1) (left_at file h at) ≡ Some fault = ap (λ (n : ℕ). trace_refusal h l (n + 1) (left_at file h at)) number ∙ s.refused in
    let stuck : IsStuck file reading l v (left_at file h at) fault = record { joined = joined; parts = parts_of file reading l h es 0 at e s.whole (inl refl); untailed = refl; unkept = s.unkept; some = some; refused = refused } in
    inr (v, left_at file h at, stuck)

-- what the walk says of a file that it does not cut
pub stopped : (file : List ℕ) (reading : Reading) (l : Limits) (h : Head) (fault : LoadFault) → head_of file reading l ≡ Ok h → (fault ≡ OutOfMemory) ⊎ ((es : List Extent) × (at : ℕ) × StopsAt file reading h l es at fault)
    → (fault ≡ OutOfMemory) ⊎ IsRefused file reading l fault
stopped file reading l h fault e (inl none) = inl none
stopped file reading l h fault e (inr (es, at, s)) = inr (refused_from file reading l h es at fault e s)

-- where no bytes are left
pub nothing_left : (file : List ℕ) (h : Head) (at : ℕ) → at ≡ traces_end file h → left_at file h at ≡ []
nothing_left file h at last =
    let none : traces_end file h - at ≡ 0 = omega (arith, last) in
    ap (λ (n : ℕ). take n (drop at file)) none

-- the traces end where the data trailer records begin
pub ends_there : (file : List ℕ) (reading : Reading) (l : Limits) (h : Head) (es : List Extent) (at : ℕ) → AreWhole file h l es at → at ≡ traces_end file h → EndsAt file reading h l es at
ends_there file reading l h es at w last = record { whole = w; inside = omega (arith, last); tail = inl (nothing_left file h at last) }

both_true : (a b : Bool) → (a && b) ≡ true → (a ≡ true) × (b ≡ true)
both_true true true e = (refl, refl)
both_true true false e = absurd cc
both_true false b e = absurd cc

-- or in front of less than a trace, which the reading keeps
pub ends_torn : (file : List ℕ) (reading : Reading) (l : Limits) (h : Head) (es : List Extent) (at : ℕ) → AreWhole file h l es at → at ≤ traces_end file h → (reading.tail && is_torn h (left_at file h at)) ≡ true → EndsAt file reading h l es at
ends_torn file reading l h es at w le kept = record { whole = w; inside = le; tail = inr (both_true reading.tail (is_torn h (left_at file h at)) kept) }

-- ---- each file is cut or refused

abbrev Outcome : List ℕ → Reading → Limits → Type 0
Outcome file reading l = ((v : Volume) × IsCut file reading l v) ⊎ ((fault : LoadFault) × IsRefused file reading l fault)

never : (b : Bool) (x y : LoadFault) → cond b (Some x) (Some y) ≡ None → ⊥
never true x y e = absurd cc
never false x y e = absurd cc

length_when_passed : (h : Head) (l : Limits) (p : ℕ) (rest : List ℕ) (o : Option ℕ) → trace_length h rest ≡ o → trace_refusal h l p rest ≡ None → (n : ℕ) × (trace_length h rest ≡ Some n)
length_when_passed h l p rest None e passed = absurd (never (ltb (length rest) (front_length h)) (Truncated p) (ExtensionCount p) (ap (λ (o : Option ℕ). cond (ltb (length rest) (front_length h)) (Some (Truncated p)) (refusal_by_length l p (length rest) o)) (sym e) ∙ passed))
length_when_passed h l p rest (Some n) e passed = (n, e)

whole_to_end : (file : List ℕ) (reading : Reading) (l : Limits) (h : Head) (es : List Extent) (at : ℕ) → head_of file reading l ≡ Ok h → AreWhole file h l es at → at ≡ traces_end file h → Outcome file reading l
whole_to_end file reading l h es at e w last = inl (volume_at file h es (traces_end file h - at), cut_from file reading l h es (traces_end file h - at) at e (ends_there file reading l h es at w last) refl)

-- a trace that is refused is a tail, or refuses the file
at_refused : (file : List ℕ) (reading : Reading) (l : Limits) (h : Head) (es : List Extent) (at : ℕ) (fault : LoadFault) (b : Bool) → head_of file reading l ≡ Ok h → AreWhole file h l es at → at < traces_end file h → trace_refusal h l (length es + 1) (left_at file h at) ≡ Some fault
    → (reading.tail && is_torn h (left_at file h at)) ≡ b → Outcome file reading l
at_refused file reading l h es at fault true e w some found kept = inl (volume_at file h es (traces_end file h - at), cut_from file reading l h es (traces_end file h - at) at e (ends_torn file reading l h es at w (omega (arith, some)) kept) refl)
at_refused file reading l h es at fault false e w some found kept = inr (fault, refused_from file reading l h es at fault e (record { whole = w; some = some; unkept = kept; refused = found }))

-- what a trace is found to be decides, where the rest of the walk decides
at_trace : (file : List ℕ) (reading : Reading) (l : Limits) (h : Head) (es : List Extent) (at : ℕ) (o : Option LoadFault) → head_of file reading l ≡ Ok h → AreWhole file h l es at → at < traces_end file h → trace_refusal h l (length es + 1) (left_at file h at) ≡ o
    → ((n : ℕ) → AreWhole file h l (es ++ record { start = at; length = n } ∷ []) (at + n) → at + n ≤ traces_end file h → 240 ≤ n → Outcome file reading l) → Outcome file reading l
at_trace file reading l h es at (Some fault) e w some found more = at_refused file reading l h es at fault (reading.tail && is_torn h (left_at file h at)) e w some found refl
at_trace file reading l h es at None e w some found more =
    let len = length_when_passed h l (length es + 1) (left_at file h at) (trace_length h (left_at file h at)) refl found in
    let le = step-le file h l (length es + 1) at len.0 (omega (arith, some)) found len.1 in
    more len.0 (whole-push file h l es at len.0 w found len.1) le.0 le.1

-- the walk from a place on, in so many steps at most
walked : (file : List ℕ) (reading : Reading) (l : Limits) (h : Head) → head_of file reading l ≡ Ok h → (steps : ℕ) (es : List Extent) (at : ℕ) → AreWhole file h l es at → at ≤ traces_end file h → traces_end file h ≤ at + steps → Outcome file reading l
walked file reading l h e zero es at w le enough = whole_to_end file reading l h es at e w (omega arith)
walked file reading l h e (suc steps) es at w le enough =
    elim (cases_lt at (traces_end file h)) [
      | inl some ↦ at_trace file reading l h es at (trace_refusal h l (length es + 1) (left_at file h at)) e w some refl
          (λ n more inside long. walked file reading l h e steps (es ++ record { start = at; length = n } ∷ []) (at + n) more inside (omega arith))
      | inr end ↦ whole_to_end file reading l h es at e w (omega arith)
    ]

by_head : (file : List ℕ) (reading : Reading) (l : Limits) (r : Result Head LoadFault) → head_of file reading l ≡ r → Outcome file reading l
by_head file reading l (Err fault) e = inr (fault, inl e)
by_head file reading l (Ok h) e =
    let k = has_head file reading l h e in
    let none : AreWhole file h l [] h.traces_at = record { laid = refl; traces = All-nil (IsTrace h); few = omega arith } in
    walked file reading l h e (length file) [] h.traces_at none (omega (arith, k.whole, k.first)) (omega arith)

pub cut_or_refused : CutOrRefused
cut_or_refused file reading l = by_head file reading l (head_of file reading l) refl
