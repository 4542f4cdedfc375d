-- How long a volume is once a trace of it is changed, put in, taken out or moved.
use Rattle.std.proofs.Common.{◌≡◌, ℕ, suc, zero, ◌+◌, ◌*◌, ◌<◌, ◌≤◌, ◌-◌, List, [], ◌∷◌, ◌++◌, length, take, drop, set, get_or, refl, ap, sym, ◌∙◌, arith, inl, inr, length-append, length-take, length-drop}
use Rattle.std.proofs.lemmas.Bool.{cases_eq}
use Rattle.std.proofs.lemmas.List.{take-append-drop, set_split, set-get_or, length-set, get_or-set_same, get_or-set_other}
use Rattle.std.proofs.lemmas.List.Edits.{swap_is, length-swap}
use Rattle.std.proofs.lemmas.List.Folds.{concat-append}
use Rattle.std.specs.List.{concat, insert, remove, swap}
use Rattle.std.specs.Prelude.{slice_index_or}
use Rattle.frame_cut.specs.Splice.{splice}
use Rattle.frame_cut.specs.Volume.{Volume, bytes_of}
use Rattle.frame_cut.proofs.EditLemmas.{length-bytes}
use Rattle.frame_cut.specs.Parts.{put_each_at}
use Rattle.trace_store.specs.Swapped.{with_swapped, ArePlaces}

-- a splice keeps the length
pub length-splice : (file : List ℕ) (a : ℕ) (new : List ℕ) → a + length new ≤ length file → length (splice file a (length new) new) ≡ length file
length-splice file a new h =
    omega (arith, length-append (take a file ++ new) (drop (a + length new) file), length-append (take a file) new, length-take a file, length-drop (a + length new) file)

-- how long all these traces are together
abbrev pub total : List (List ℕ) → ℕ
total ts = length (concat ts)

total-append : (xs ys : List (List ℕ)) → total (xs ++ ys) ≡ total xs + total ys
total-append xs ys = ap (λ (s : List ℕ). length s) (concat-append xs ys) ∙ length-append (concat xs) (concat ys)

total-around : (xs : List (List ℕ)) (t : List ℕ) (ys : List (List ℕ)) → total (xs ++ t ∷ ys) ≡ total xs + (length t + total ys)
total-around xs t ys = total-append xs (t ∷ ys) ∙ ap (λ (n : ℕ). total xs + n) (length-append t (concat ys))

total-parts : (ts : List (List ℕ)) (i : ℕ) → i < length ts → total ts ≡ total (take i ts) + (length (get_or ts i []) + total (drop (suc i) ts))
total-parts ts i h = ap (λ (x : List (List ℕ)). total x) (sym (set-get_or ts i []) ∙ set_split ts i (get_or ts i []) h) ∙ total-around (take i ts) (get_or ts i []) (drop (suc i) ts)

pub total-set : (ts : List (List ℕ)) (i : ℕ) (t : List ℕ) → i < length ts → total (set ts i t) + length (get_or ts i []) ≡ total ts + length t
total-set ts i t h = omega (arith, ap (λ (x : List (List ℕ)). total x) (set_split ts i t h) ∙ total-around (take i ts) t (drop (suc i) ts), total-parts ts i h)

pub total-insert : (ts : List (List ℕ)) (i : ℕ) (t : List ℕ) → total (insert ts i t) ≡ total ts + length t
total-insert ts i t = omega (arith, total-around (take i ts) t (drop i ts), ap (λ (x : List (List ℕ)). total x) (sym (take-append-drop i ts)) ∙ total-append (take i ts) (drop i ts))

pub total-remove : (ts : List (List ℕ)) (i : ℕ) → i < length ts → total (remove ts i) + length (get_or ts i []) ≡ total ts
total-remove ts i h = omega (arith, total-append (take i ts) (drop (suc i) ts), total-parts ts i h)

-- traces that change places leave how long they are together
pub total-swap : (ts : List (List ℕ)) (i j : ℕ) → i < length ts → j < length ts → total (swap ts i j) ≡ total ts
total-swap ts i j i_there j_there =
    let first : List (List ℕ) = set ts i (get_or ts j []) in
    let still : j < length first = omega (arith, j_there, length-set ts i (get_or ts j [])) in
    let there : length (get_or first j []) ≡ length (get_or ts j []) = ap (λ (t : List ℕ). length t) (elim (cases_eq j i) [
      | inl e ↦ ap (λ (k : ℕ). get_or first k []) e ∙ get_or-set_same ts i (get_or ts j []) [] i_there
      | inr ne ↦ get_or-set_other ts i j (get_or ts j []) [] ne
    ]) in
    ap (λ (x : List (List ℕ)). total x) (sym (swap_is ts i j [] i_there j_there))
    ∙ omega (arith, there, total-set ts i (get_or ts j []) i_there, total-set first j (get_or ts i []) still)

pub total-swapped : (ts : List (List ℕ)) (pairs : List (ℕ × ℕ)) → ArePlaces (length ts) pairs → total (with_swapped ts pairs) ≡ total ts
total-swapped ts [] places = refl
total-swapped ts (pair ∷ pairs) places =
    let first : pair.0 - 1 < length ts = omega (arith, places.0, places.1) in
    let second : pair.1 - 1 < length ts = omega (arith, places.2, places.3) in
    let same : length (swap ts (pair.0 - 1) (pair.1 - 1)) ≡ length ts = length-swap ts (pair.0 - 1) (pair.1 - 1) in
    total-swapped (swap ts (pair.0 - 1) (pair.1 - 1)) pairs (rw same places.4) ∙ total-swap ts (pair.0 - 1) (pair.1 - 1) first second

-- bytes that are laid over traces, and over no byte behind one of them, leave how long the traces are
pub total-put_each : (ts : List (List ℕ)) (place at size : ℕ) (bytes : List ℕ) (n : ℕ) → 0 < size → length bytes ≡ n * size
    → ((k : ℕ) → k < n → at + size ≤ length (slice_index_or ts (place + k) [])) → total (put_each_at ts place at size bytes) ≡ total ts
total-put_each [] place at size bytes n some e room = refl
total-put_each (t ∷ ts) (suc place) at size bytes n some e room =
    omega (arith, length-append t (concat (put_each_at ts place at size bytes)), length-append t (concat ts), total-put_each ts place at size bytes n some e (λ k h. let next : suc place + k ≡ suc (place + k) = omega arith in rw next at (room k h)))
total-put_each (t ∷ ts) zero at size [] n some e room = refl
total-put_each (t ∷ ts) zero at size (b ∷ bs) zero some e room = absurd (omega (arith, e))
total-put_each (t ∷ ts) zero at size (b ∷ bs) (suc n) some e room =
    let part : List ℕ = take size (b ∷ bs) in
    let rest : List ℕ = drop size (b ∷ bs) in
    let whole : length part ≡ size = omega (arith, e, length-take size (b ∷ bs)) in
    let less : length rest ≡ n * size = omega (arith, e, length-drop size (b ∷ bs)) in
    let here : at + length part ≤ length t = omega (arith, whole, room 0 (omega arith)) in
    let same : length (splice t at size part) ≡ length t = ap (λ (m : ℕ). length (splice t at m part)) (sym whole) ∙ length-splice t at part here in
    let others = total-put_each ts zero at size rest n some less (λ k h. let next : 0 + suc k ≡ suc (0 + k) = omega arith in rw next at (room (suc k) (omega (arith, h)))) in
    omega (arith, same, others, length-append (splice t at size part) (concat (put_each_at ts zero at size rest)), length-append t (concat ts))

-- a file with other traces is longer by as much as its traces are
pub length-with : (v : Volume) (ts : List (List ℕ)) → length (bytes_of (record v { traces = ts })) + total v.traces ≡ length (bytes_of v) + total ts
length-with v ts = omega (arith, length-bytes v, length-bytes (record v { traces = ts }))

-- a trace is no longer than its file
pub trace-within : (v : Volume) (i : ℕ) → i < length v.traces → length (get_or v.traces i []) ≤ length (bytes_of v)
trace-within v i h = omega (arith, length-bytes v, total-parts v.traces i h)
