-- Whole traces put in, taken out and moved leave a file that is cut.
use Rattle.std.proofs.Common.{◌≡◌, ℕ, zero, suc, ◌+◌, ◌*◌, ◌-◌, ◌<◌, ◌≤◌, Bool, true, false, cond, eqb, List, [], ◌∷◌, ◌++◌, length, take, drop, replicate, get_or, Option, Some, refl, sym, ap, subst, ◌∙◌, arith}
use Rattle.std.specs.Prelude.{insert, remove}
use Rattle.std.proofs.lemmas.Bool.{eqb-true}
use Rattle.std.proofs.lemmas.List.{length-append, length-replicate, length-take, length-drop, drop-replicate}
use Rattle.std.proofs.lemmas.List.Edits.{length-remove}
use Rattle.std.proofs.lemmas.List.Elements.{All-get_or}
use Rattle.num_order.specs.declared.order.Order.{Order}
use Rattle.num_order.specs.declared.order.Order.TheVariants.{Big, Little}
use Rattle.num_order.specs.Number.{low_first, high_first, unsigned}
use Rattle.sample_codes.specs.Formats.{width}
use Rattle.frame_cut.specs.declared.file_head.Head.{Head}
use Rattle.frame_cut.specs.declared.limits.Limits.{Limits}
use Rattle.frame_cut.specs.declared.reading.Reading.{Reading}
use Rattle.frame_cut.specs.Cuts.{IsTrace, IsCut}
use Rattle.frame_cut.specs.Frames.{count_within, or_else, header_unsigned, extension_count, extension_samples, sample_count, length_with, front_length}
use Rattle.frame_cut.specs.Splice.{splice}
use Rattle.frame_cut.specs.Traces.{count_of, trace_at}
use Rattle.frame_cut.specs.Volume.{Volume, bytes_of, start_of}
use Rattle.frame_cut.proofs.EditLemmas.{bytes_with_inserted, bytes_with_removed, cut_with_inserted, cut_with_removed}
use Rattle.frame_cut.proofs.HeadFrontLemmas.{has_head}
use Rattle.frame_cut.specs.Parts.{with_inserted, without, with_moved}
use Rattle.bench_rules.specs.WholeTraces.{bytes_after_insert, bytes_after_delete, bytes_after_move, blank_trace, trace_start}

-- ---- a trace of zeros is a whole trace

low-zeros : (n : ℕ) → low_first (replicate n 0) ≡ 0
low-zeros zero = refl
low-zeros (suc n) = let rest = low-zeros n in omega arith

high-zeros : (n : ℕ) → high_first (replicate n 0) ≡ 0
high-zeros zero = refl
high-zeros (suc n) = let rest = high-zeros n in omega arith

pub zero-number : (o : Order) (n : ℕ) → unsigned o (replicate n 0) ≡ 0
zero-number Big n = high-zeros n
zero-number Little n = low-zeros n

-- so many zeros at the front of zeros
take-zeros : (size n : ℕ) → (k : ℕ) × (take {A = ℕ} size (replicate n 0) ≡ replicate k 0)
take-zeros zero n = (0, refl)
take-zeros (suc size) zero = (0, refl)
take-zeros (suc size) (suc n) = let rest = take-zeros size n in (suc rest.0, ap (λ (s : List ℕ). 0 ∷ s) rest.1)

-- a number in a header of zeros
zero-field : (h : Head) (extension byte size n : ℕ) → header_unsigned h extension byte size (replicate n 0) ≡ 0
zero-field h extension byte size n =
    let at : ℕ = 240 * extension + byte - 1 in
    let some = take-zeros size (n - at) in
    ap (λ (s : List ℕ). unsigned h.order (take size s)) (drop-replicate at n 0)
    ∙ ap (unsigned h.order) some.1
    ∙ zero-number h.order some.0

extensions-by : (none : Bool) (x m : ℕ) → (none ≡ true → x ≡ 0) → m ≡ 0 → cond none (Some 0) (count_within x m) ≡ Some x
extensions-by true x m e z = ap (λ (k : ℕ). let o : Option ℕ = Some k in o) (sym (e refl))
extensions-by false x m e z = rw z refl

pub blank-extensions : (h : Head) (n : ℕ) → extension_count h (replicate n 0) ≡ Some h.extensions
blank-extensions h n = extensions-by (eqb h.extensions 0) h.extensions _ (λ e. eqb-true h.extensions 0 e) (zero-field h 1 157 2 n)

no_samples-by : (none : Bool) (m : ℕ) → m ≡ 0 → cond none 0 m ≡ 0
no_samples-by true m z = refl
no_samples-by false m z = z

samples-by : (fixed : Bool) (wide short n : ℕ) → wide ≡ 0 → short ≡ 0 → cond fixed n (or_else wide (or_else short n)) ≡ n
samples-by true wide short n e f = refl
samples-by false wide short n e f = rw (e, f) refl

pub blank-samples : (h : Head) (n : ℕ) → sample_count h (replicate n 0) ≡ h.samples
blank-samples h n =
    samples-by h.fixed (extension_samples h (replicate n 0)) (header_unsigned h 0 115 2 (replicate n 0)) h.samples
    (no_samples-by (eqb h.extensions 0) _ (zero-field h 1 137 4 n)) (zero-field h 0 115 2 n)

-- no extension leaves one header, and one or more leave two
front-by : (none : Bool) (x w n : ℕ) → (x ≡ 0 → none ≡ true) → cond none 240 480 ≤ 240 * (1 + x) + w * n
front-by true x w n e = omega arith
front-by false zero w n e = let no : false ≡ true = e refl in absurd cc
front-by false (suc x) w n e = omega arith

pub length-blank : (h : Head) → length (blank_trace h) ≡ length_with h h.extensions h.samples
length-blank h = length-replicate (length_with h h.extensions h.samples) 0

pub blank_is_trace : (h : Head) → IsTrace h (blank_trace h)
blank_is_trace h =
    let n : ℕ = length_with h h.extensions h.samples in
    let front : front_length h ≤ n = front-by (eqb h.extensions 0) h.extensions (width h.format) h.samples (λ e. rw e refl) in
    record {
      whole = omega (arith, length-blank h, front);
      exact = rw (blank-extensions h n, blank-samples h n) (ap (λ (k : ℕ). let o : Option ℕ = Some k in o) (sym (length-blank h)));
    }

-- ---- traces put in and taken out

pub cut_inserted : (reading : Reading) (l : Limits) (v : Volume) (p : ℕ) (t : List ℕ) → IsCut (bytes_of v) reading l v → IsTrace v.head t → count_of v + 1 ≤ l.traces → length (bytes_of v) + length t ≤ l.bytes
    → IsCut (bytes_after_insert v p t) reading l (with_inserted v p t)
cut_inserted reading l v p t cut is few small =
    subst (λ (file : List ℕ). IsCut file reading l (with_inserted v p t)) (bytes_with_inserted v (p - 1) t)
    (cut_with_inserted reading l v (p - 1) t cut is (omega arith) small)

pub cut_deleted : (reading : Reading) (l : Limits) (v : Volume) (p : ℕ) → IsCut (bytes_of v) reading l v → 1 ≤ p → p ≤ count_of v → IsCut (bytes_after_delete v p) reading l (without v p)
cut_deleted reading l v p cut first last =
    let there : p - 1 < length v.traces = omega arith in
    subst (λ (file : List ℕ). IsCut file reading l (without v p)) (bytes_with_removed v (p - 1) there) (cut_with_removed reading l v (p - 1) cut there)

-- ---- a trace moved

-- a trace taken out and put in again at its place
put_back : (xs : List (List ℕ)) (p : ℕ) → p < length xs → insert (remove xs p) p (get_or xs p []) ≡ xs
put_back [] p h = absurd (omega arith)
put_back (x ∷ xs) zero h = refl
put_back (x ∷ xs) (suc p) h = ap (λ (s : List (List ℕ)). x ∷ s) (put_back xs p (omega arith))

-- bytes put in anywhere make the rest no shorter
length-insert : (bytes : List ℕ) (at : ℕ) (new : List ℕ) → length (splice bytes at 0 new) ≡ length bytes + length new
length-insert bytes at new =
    omega (arith, length-append (take at bytes ++ new) (drop (at + 0) bytes), length-append (take at bytes) new, length-take at bytes, length-drop (at + 0) bytes)

-- a trace is as long as the file without it is shorter
pub length-without : (v : Volume) (p : ℕ) → 1 ≤ p → p ≤ count_of v → length (bytes_of (without v p)) + length (trace_at v p) ≡ length (bytes_of v)
length-without v p first last =
    let there : p - 1 < length v.traces = omega arith in
    let t : List ℕ = trace_at v p in
    sym (length-insert (bytes_of (without v p)) (start_of (without v p) (p - 1)) t)
    ∙ ap (λ (s : List ℕ). length s) (sym (bytes_with_inserted (without v p) (p - 1) t))
    ∙ ap (λ (ts : List (List ℕ)). length (bytes_of (record v { traces = ts }))) (put_back v.traces (p - 1) there)

pub cut_moved : (reading : Reading) (l : Limits) (v : Volume) (a b : ℕ) → IsCut (bytes_of v) reading l v → 1 ≤ a → a ≤ count_of v → IsCut (bytes_after_move v a b) reading l (with_moved v a b)
cut_moved reading l v a b cut first last =
    let w : Volume = without v a in
    let there : a - 1 < length v.traces = omega arith in
    let t : List ℕ = trace_at v a in
    let is : IsTrace v.head t = All-get_or (IsTrace v.head) v.traces (a - 1) [] there cut.parts.traces in
    let out : IsCut (bytes_of w) reading l w = cut_with_removed reading l v (a - 1) cut there in
    let fewer : count_of w + 1 ≡ count_of v = length-remove v.traces (a - 1) there in
    let small : length (bytes_of v) ≤ l.bytes = (has_head (bytes_of v) reading l v.head cut.parts.head).small in
    let in_again = cut_inserted reading l w b t out is (omega (arith, fewer, cut.parts.few)) (omega (arith, length-without v a first last, small)) in
    subst (λ (file : List ℕ). IsCut (splice file (trace_start w b) 0 t) reading l (with_moved v a b)) (bytes_with_removed v (a - 1) there) in_again
