-- What the first bytes of a file tell of it.
use Rattle.std.proofs.Common.{◌≡◌, ℕ, ◌+◌, ◌*◌, ◌-◌, ◌≤◌, ◌<◌, true, false, ltb, List, ◌++◌, length, take, drop, Option, Some, None, Result, Err, refl, sym, ap, ap₂, subst, ◌∙◌, arith, negsuc, zero, append_assoc}
use Rattle.std.proofs.lemmas.Bool.{le-ltb, lt-ltb}
use Rattle.std.proofs.lemmas.List.{drop-append-le, length-append, length-drop, length-take-le, take-append-drop, take-append-le, take_all, take_rest}
use Rattle.std.proofs.Math.Seq.{take-append_seam}
use Rattle.frame_cut.specs.declared.file_head.Head.{Head}
use Rattle.frame_cut.specs.declared.limits.Limits.{Limits}
use Rattle.frame_cut.specs.declared.reading.Reading.{Reading}
use Rattle.frame_cut.specs.declared.load_fault.LoadFault.{LoadFault}
use Rattle.frame_cut.specs.declared.load_fault.LoadFault.TheVariants.{TooLarge, Short, Truncated, TooManyTraces}
use Rattle.frame_cut.specs.Cuts.{refusal_by_length, trace_refusal}
use Rattle.frame_cut.specs.Frames.{front_length, trace_length}
use Rattle.frame_cut.specs.Fronts.{BeginsWith, Tells}
use Rattle.frame_cut.specs.Heads.{head_of, head_from, blocks_to_end}
use Rattle.frame_cut.specs.Walk.{left_at, traces_end}
use Rattle.frame_cut.proofs.EditLemmas.{trace_length-front}
use Rattle.frame_cut.proofs.BlockLemmas.{blocks_for-front, blocks_for-le, slice-append}

-- what is told of a head is told of one that is the same
pub tells_to : (r : Result (Option Head) LoadFault) (x y : Result Head LoadFault) → x ≡ y → Tells r x → Tells r y
tells_to r x y e t = subst (Tells r) e t

-- the bytes are their front and what follows it
pub joined : (front : List ℕ) (n : ℕ) (file : List ℕ) → BeginsWith front n file → file ≡ front ++ drop (length front) file
joined front n file begun = sym (take-append-drop (length front) file) ∙ ap (λ (s : List ℕ). s ++ drop (length front) file) begun.begins

-- bytes begin with themselves
pub begins_itself : (file : List ℕ) → BeginsWith file (length file) file
begins_itself file = record { begins = take_all (length file) file (omega arith); long = refl }

-- where the front is the whole
pub whole_front : (front : List ℕ) (n : ℕ) (file : List ℕ) → BeginsWith front n file → length front ≡ n → file ≡ front
whole_front front n file begun whole =
    sym (take_all (length front) file (omega (arith, begun.long))) ∙ begun.begins

-- what stands behind the file headers
pub rest_begins : (front : List ℕ) (n : ℕ) (file : List ℕ) → BeginsWith front n file → 3600 ≤ length front → BeginsWith (take (length front - 3600) (drop 3600 front)) (n - 3600) (drop 3600 file)
rest_begins front n file begun whole =
    let seam : drop 3600 file ≡ drop 3600 front ++ drop (length front) file = ap (drop 3600) (joined front n file begun) ∙ drop-append-le 3600 front (drop (length front) file) whole in
    let same : take (length front - 3600) (drop 3600 front) ≡ drop 3600 front = take_rest front 3600 in
    let here : BeginsWith (drop 3600 front) (n - 3600) (drop 3600 file) = record {
      begins = ap (take (length (drop 3600 front))) seam ∙ take-append_seam (drop 3600 front) (drop (length front) file);
      long = omega (arith, length-drop 3600 file, begun.long);
    } in
    subst (λ (s : List ℕ). BeginsWith s (n - 3600) (drop 3600 file)) (sym same) here

-- the binary header
pub bin_begins : (front : List ℕ) (n : ℕ) (file : List ℕ) → BeginsWith front n file → 3600 ≤ length front → take 400 (drop 3200 front) ≡ take 400 (drop 3200 file)
bin_begins front n file begun whole =
    sym (slice-append 3200 400 front (drop (length front) file) (omega (arith, whole))) ∙ sym (ap (λ (s : List ℕ). take 400 (drop 3200 s)) (joined front n file begun))

-- the head, where the file has its file headers and no more bytes than the limit
pub sizes_told : (front : List ℕ) (n : ℕ) (file : List ℕ) (reading : Reading) (l : Limits) (r : Result (Option Head) LoadFault) → BeginsWith front n file → n ≤ l.bytes → 3600 ≤ length front → length front ≤ n
    → ((all : List ℕ) → BeginsWith (take (length front - 3600) (drop 3600 front)) (n - 3600) all → Tells r (head_from reading (take 400 (drop 3200 front)) all)) → Tells r (head_of file reading l)
unfolding head_of
sizes_told front n file reading l r begun small whole inside told =
    let known : Tells r (head_from reading (take 400 (drop 3200 front)) (drop 3600 file)) = told (drop 3600 file) (rest_begins front n file begun whole) in
    let same : head_from reading (take 400 (drop 3200 front)) (drop 3600 file) ≡ head_from reading (take 400 (drop 3200 file)) (drop 3600 file) = ap (λ (s : List ℕ). head_from reading s (drop 3600 file)) (bin_begins front n file begun whole) in
    let over : ltb l.bytes (length file) ≡ false = le-ltb l.bytes (length file) (omega (arith, begun.long, small)) in
    let short : ltb (length file) 3600 ≡ false = le-ltb (length file) 3600 (omega (arith, begun.long, whole, inside)) in
    tells_to r _ _ (same ∙ sym (rw (over, short) refl)) known

-- it is refused by its length
pub too_large : (front : List ℕ) (n : ℕ) (file : List ℕ) (reading : Reading) (l : Limits) → BeginsWith front n file → l.bytes < n → head_of file reading l ≡ Err TooLarge
unfolding head_of
too_large front n file reading l begun over =
    let is : ltb l.bytes (length file) ≡ true = ap (ltb l.bytes) begun.long ∙ lt-ltb l.bytes n over in rw is refl

pub too_short : (front : List ℕ) (n : ℕ) (file : List ℕ) (reading : Reading) (l : Limits) → BeginsWith front n file → n ≤ l.bytes → n < 3600 → head_of file reading l ≡ Err (Short n)
unfolding head_of
too_short front n file reading l begun small short =
    let over : ltb l.bytes (length file) ≡ false = le-ltb l.bytes (length file) (omega (arith, begun.long, small)) in
    let is : ltb (length file) 3600 ≡ true = ap (λ (k : ℕ). ltb k 3600) begun.long ∙ lt-ltb n 3600 short in
    rw (over, is) (ap (λ (k : ℕ). let r : Result Head LoadFault = Err (Short k) in r) begun.long)

-- ---- the extended textual headers

-- the block that ends the text is found where it stands in the front
pub end_in_front : (rest : List ℕ) (n : ℕ) (all : List ℕ) (k : ℕ) → BeginsWith rest n all → blocks_to_end rest ≡ Some k → blocks_to_end all ≡ Some k
end_in_front rest n all k begun found =
    let front : List ℕ = take (3200 * k) rest in
    let inside : 3200 * k ≤ length rest = blocks_for-le (negsuc zero) k rest found in
    let long : length front ≡ 3200 * k = length-take-le (3200 * k) rest inside in
    let here : blocks_to_end (front ++ drop (3200 * k) rest) ≡ Some k = ap blocks_to_end (take-append-drop (3200 * k) rest) ∙ found in
    let there : blocks_to_end (front ++ (drop (3200 * k) rest ++ drop (length rest) all)) ≡ Some k =
    blocks_for-front (negsuc zero) k front (drop (3200 * k) rest) (drop (3200 * k) rest ++ drop (length rest) all) long here in
    let seam : all ≡ front ++ (drop (3200 * k) rest ++ drop (length rest) all) =
    joined rest n all begun ∙ ap (λ (s : List ℕ). s ++ drop (length rest) all) (sym (take-append-drop (3200 * k) rest)) ∙ append_assoc front (drop (3200 * k) rest) (drop (length rest) all) in
    ap blocks_to_end seam ∙ there

-- none is, where the front is the whole and has none
pub no_end : (rest : List ℕ) (n : ℕ) (all : List ℕ) → BeginsWith rest n all → length rest ≡ n → blocks_to_end rest ≡ None → blocks_to_end all ≡ None
no_end rest n all begun whole none = ap blocks_to_end (whole_front rest n all begun whole) ∙ none

-- ---- the traces

-- the front of a trace gives the length that the bytes which begin with it give
pub front_tells : (h : Head) (front : List ℕ) (n : ℕ) (rest : List ℕ) → BeginsWith front n rest → front_length h ≤ length front → trace_length h rest ≡ trace_length h front
front_tells h front n rest begun le =
    let seam : rest ≡ front ++ drop (length front) rest = joined front n rest begun in
    let long : length rest ≡ length front + length (drop (length front) rest) = ap length seam ∙ length-append front (drop (length front) rest) in
    trace_length-front h rest front (omega arith) le (ap (take (front_length h)) seam ∙ take-append-le (front_length h) front (drop (length front) rest) le)

-- the refusal by the length, where the front is there
pub refusal_is : (h : Head) (l : Limits) (p : ℕ) (rest : List ℕ) (n : ℕ) (x : Option ℕ) → length rest ≡ n → front_length h ≤ n → trace_length h rest ≡ x → trace_refusal h l p rest ≡ refusal_by_length l p n x
refusal_is h l p rest n x long le is =
    let there : ltb (length rest) (front_length h) ≡ false = le-ltb (length rest) (front_length h) (omega (arith, long)) in
    rw there (ap₂ (refusal_by_length l p) long is)

-- the bytes that are left end in the trace
pub ends_in : (l : Limits) (p left n : ℕ) → left < n → refusal_by_length l p left (Some n) ≡ Some (Truncated p)
ends_in l p left n short = rw (lt-ltb left n short) refl

-- it is one trace too many
pub one_too_many : (l : Limits) (p left n : ℕ) → n ≤ left → l.traces < p → refusal_by_length l p left (Some n) ≡ Some TooManyTraces
one_too_many l p left n fits many = rw (le-ltb left n fits, lt-ltb l.traces p many) refl

-- or it is not refused
pub passes : (l : Limits) (p left n : ℕ) → n ≤ left → p ≤ l.traces → refusal_by_length l p left (Some n) ≡ None
passes l p left n fits few = rw (le-ltb left n fits, le-ltb l.traces p few) refl

-- the bytes that are left for the traces begin with themselves
pub left_begins : (file : List ℕ) (h : Head) (at : ℕ) → BeginsWith (left_at file h at) (traces_end file h - at) (left_at file h at)
left_begins file h at = record {
  begins = (begins_itself (left_at file h at)).begins;
  long = length-take-le (traces_end file h - at) (drop at file) (omega (arith, length-drop at file));
}
