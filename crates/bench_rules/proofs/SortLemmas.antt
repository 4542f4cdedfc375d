-- Traces in the order of numbers: the same traces, in a file that is cut.
use Rattle.std.proofs.Common.{◌≡◌, ℕ, ℤ, zero, suc, ◌+◌, ◌-◌, ◌≤◌, Bool, true, false, cond, List, [], ◌∷◌, ◌++◌, length, map, take, drop, get_or, All, Option, Some, None, refl, sym, ap, subst, ◌∙◌, arith, append_assoc, append-nil}
use Rattle.std.specs.Prelude.{option_map, option_and_then, sum_by, unwrap_or}
use Rattle.std.specs.List.{concat, range_with_len}
use Rattle.std.specs.List.Sorted.{IsPermutation}
use Rattle.std.proofs.lemmas.List.{length-append, drop_all, take-append-drop, length-take-le, length-drop, take_at, drop_more, drop-drop}
use Rattle.std.proofs.lemmas.List.Concat.{concat_is, length-flat_map}
use Rattle.std.proofs.lemmas.List.Folds.{concat-append}
use Rattle.std.proofs.lemmas.List.Sorted.{IsPermutation-refl, IsPermutation-trans, IsPermutation-cons, IsPermutation-map, IsPermutation-middle, IsPermutation-append, IsPermutation-append_right, All-permutation, sum_by-IsPermutation, length_permutation}
use Rattle.field_map.specs.declared.place.Place.{Place}
use Rattle.frame_cut.specs.declared.limits.Limits.{Limits}
use Rattle.frame_cut.specs.declared.reading.Reading.{Reading}
use Rattle.frame_cut.specs.Cuts.{IsTrace, IsCut}
use Rattle.frame_cut.specs.Splice.{splice}
use Rattle.frame_cut.specs.Traces.{count_of, trace_at}
use Rattle.frame_cut.specs.Volume.{Volume, front_of, behind_traces, bytes_of}
use Rattle.frame_cut.proofs.EditLemmas.{recut_with, splice_inside, length-bytes}
use Rattle.frame_cut.proofs.HeadFrontLemmas.{has_head}
use Rattle.bench_rules.specs.ManyTraces.{each_of, positions}
use Rattle.bench_rules.specs.Sorted.{are_in_front, put_in_order, in_order, with_order, with_traces_as}
use Rattle.bench_rules.specs.Tables.{row_of, table_of}
use Rattle.bench_rules.specs.WholeTraces.{trace_start}

-- ---- the same rows

abbrev Row : Type 0
Row = ℕ × List ℤ

put-by : (b : Bool) (row other : Row) (others more : List Row) → IsPermutation (row ∷ others) more
    → IsPermutation (row ∷ other ∷ others) (cond b (other ∷ more) (row ∷ other ∷ others))
put-by true row other others more h = IsPermutation-trans _ _ _ (IsPermutation-middle (row ∷ []) other others) (IsPermutation-cons other _ _ h)
put-by false row other others more h = IsPermutation-refl _

put-permutes : (falls : List Bool) (row : Row) (rows : List Row) → IsPermutation (row ∷ rows) (put_in_order falls row rows)
put-permutes falls row [] = IsPermutation-refl _
put-permutes falls row (other ∷ others) = put-by (are_in_front falls other.1 row.1) row other others _ (put-permutes falls row others)

pub in_order-permutes : (falls : List Bool) (rows : List Row) → IsPermutation rows (in_order falls rows)
in_order-permutes falls [] = IsPermutation-refl _
in_order-permutes falls (row ∷ rows) = IsPermutation-trans _ _ _ (IsPermutation-cons row _ _ (in_order-permutes falls rows)) (put-permutes falls row (in_order falls rows))

-- ---- their positions

-- a row of a position, in front of rows of others
paired : (p : ℕ) (o : Option (List ℤ)) (rest : Option (List Row)) (ps : List ℕ) (rows : List Row) → ((rs : List Row) → rest ≡ Some rs → map (λ row. row.0) rs ≡ ps)
    → option_and_then (λ row. option_map (λ rs. row ∷ rs) rest) (option_map (λ xs. (p, xs)) o) ≡ Some rows → map (λ row. row.0) rows ≡ p ∷ ps
paired p None rest ps rows h e = absurd cc
paired p (Some xs) None ps rows h e = absurd cc
paired p (Some xs) (Some rs) ps rows h e =
    let is : rows ≡ (p, xs) ∷ rs = ap (λ (r : Option (List Row)). unwrap_or r []) (sym e) in
    ap (map (λ row. row.0)) is ∙ ap (λ qs. p ∷ qs) (h rs refl)

-- the rows of positions stand as these do
pub rows-stand : (g : ℕ → Option (List ℤ)) (ps : List ℕ) (rows : List Row) → each_of (λ p. option_map (λ xs. (p, xs)) (g p)) ps ≡ Some rows → map (λ row. row.0) rows ≡ ps
rows-stand g [] rows e = ap (λ (r : Option (List Row)). map (λ row. row.0) (unwrap_or r [])) (sym e)
rows-stand g (p ∷ ps) rows e = paired p (g p) (each_of (λ q. option_map (λ xs. (q, xs)) (g q)) ps) ps rows (λ rs h. rows-stand g ps rs h) e

-- an order is one of the positions that it is of
pub ordered-permutes : (v : Volume) (places : List Place) (falls : List Bool) (a b : ℕ) (rows : List Row) → table_of v places a b ≡ Some rows → IsPermutation (positions a b) (map (λ row. row.0) (in_order falls rows))
ordered-permutes v places falls a b rows e =
    subst (λ ps. IsPermutation ps (map (λ row. row.0) (in_order falls rows))) (rows-stand (λ p. row_of v.head places (trace_at v p)) (positions a b) rows e)
    (IsPermutation-map (λ (row : Row). row.0) rows (in_order falls rows) (in_order-permutes falls rows))

-- ---- lists joined end to end

regrouped : (first x y z last : List ℕ) → first ++ (x ++ (y ++ z)) ++ last ≡ (first ++ x) ++ (y ++ (z ++ last))
regrouped first x y z last = simp append_assoc

length-concat : (ts : List (List ℕ)) → length (concat ts) ≡ sum_by (λ (t : List ℕ). length t) ts
length-concat ts = ap (λ (s : List ℕ). length s) (concat_is ts) ∙ length-flat_map (λ (t : List ℕ). t) ts

joined : (first : List ℕ) (xs ys zs : List (List ℕ)) (last : List ℕ) → first ++ concat (xs ++ (ys ++ zs)) ++ last ≡ (first ++ concat xs) ++ (concat ys ++ (concat zs ++ last))
joined first xs ys zs last =
    ap (λ s. first ++ s ++ last) (concat-append xs (ys ++ zs) ∙ ap (λ s. concat xs ++ s) (concat-append ys zs)) ∙ regrouped first (concat xs) (concat ys) (concat zs) last

-- ---- the traces at positions

pub read-positions : {X : Type 0} (xs : List X) (d : X) (k n : ℕ) → k + n ≤ length xs → map (λ p. get_or xs (p - 1) d) (range_with_len (k + 1) n) ≡ take n (drop k xs)
read-positions xs d k zero h = refl
read-positions xs d k (suc n) h =
    let here : k + 1 - 1 ≡ k = omega arith in
    ap (λ i. get_or xs i d ∷ map (λ p. get_or xs (p - 1) d) (range_with_len (k + 1 + 1) n)) here
    ∙ ap (λ l. get_or xs k d ∷ l) (read-positions xs d (k + 1) n (omega (arith, h)) ∙ ap (λ i. take n (drop i xs)) (omega arith))
    ∙ ap (take (suc n)) (sym (drop_more xs k d (omega (arith, h))))

-- a file that is cut stays cut with its traces in another order
pub cut_permuted : (reading : Reading) (l : Limits) (v : Volume) (ts : List (List ℕ)) → IsCut (bytes_of v) reading l v → IsPermutation v.traces ts → IsCut (bytes_of (record v { traces = ts })) reading l (record v { traces = ts })
cut_permuted reading l v ts cut same =
    let w : Volume = record v { traces = ts } in
    let all : All (IsTrace v.head) ts = All-permutation (IsTrace v.head) v.traces ts same cut.parts.traces in
    let count : length ts ≡ length v.traces = length_permutation v.traces ts same in
    let long : length (concat ts) ≡ length (concat v.traces) = length-concat ts ∙ (sum_by-IsPermutation (λ (t : List ℕ). length t) v.traces ts same ∙ sym (length-concat v.traces)) in
    let small : length (bytes_of v) ≤ l.bytes = (has_head (bytes_of v) reading l v.head cut.parts.head).small in
    recut_with reading l v v.text ts v.tail cut cut.parts.text all (omega (arith, count, cut.parts.few)) cut.parts.tail (omega (arith, length-bytes v, length-bytes w, long, small))

module _ (v : Volume) (a b : ℕ) (order : List ℕ) (low : 1 ≤ a) (high : a ≤ b) (last : b ≤ count_of v) (same : IsPermutation (positions a b) order) where
  abbrev front : List (List ℕ)
  front = take (a - 1) v.traces

  abbrev middle : List (List ℕ)
  middle = take (b + 1 - a) (drop (a - 1) v.traces)

  abbrev behind : List (List ℕ)
  behind = drop b v.traces

  abbrev new : List (List ℕ)
  new = map (trace_at v) order

  old-middle : map (trace_at v) (positions a b) ≡ middle
  old-middle =
      let from : a ≡ a - 1 + 1 = omega (arith, low) in
      ap (λ i. map (trace_at v) (range_with_len i (b + 1 - a))) from ∙ read-positions v.traces [] (a - 1) (b + 1 - a) (omega (arith, low, high, last))

  middle-permutes : IsPermutation middle new
  middle-permutes = subst (λ ts. IsPermutation ts (map (trace_at v) order)) old-middle (IsPermutation-map (trace_at v) (positions a b) order same)

  whole : v.traces ≡ front ++ (middle ++ behind)
  whole =
      let on : a - 1 + (b + 1 - a) ≡ b = omega (arith, low, high) in
      sym (take-append-drop (a - 1) v.traces)
      ∙ ap (λ ts. take (a - 1) v.traces ++ ts) (sym (take-append-drop (b + 1 - a) (drop (a - 1) v.traces)) ∙ ap (λ ts. take (b + 1 - a) (drop (a - 1) v.traces) ++ ts) (drop-drop (b + 1 - a) (a - 1) v.traces ∙ ap (λ i. drop i v.traces) on))

  -- the file with them there
  abbrev sorted : Volume
  sorted = with_order v a b order

  abbrev lead : List ℕ
  lead = front_of v ++ concat front

  length-new : length (concat new) ≡ length (concat middle)
  length-new = length-concat new ∙ (sum_by-IsPermutation (λ (t : List ℕ). length t) middle new middle-permutes ∙ sym (length-concat middle))

  old-bytes : bytes_of v ≡ lead ++ (concat middle ++ (concat behind ++ behind_traces v))
  old-bytes = ap (λ ts. front_of v ++ concat ts ++ behind_traces v) whole ∙ joined (front_of v) front middle behind (behind_traces v)

  new-bytes : bytes_of sorted ≡ lead ++ (concat new ++ (concat behind ++ behind_traces v))
  new-bytes = ap (λ ts. front_of v ++ concat ts ++ behind_traces v) (append_assoc (take (a - 1) v.traces) (map (trace_at v) order) (drop b v.traces)) ∙ joined (front_of v) front new behind (behind_traces v)

  first-at : trace_start v a ≡ length lead
  first-at = sym (length-append (front_of v) (concat (take (a - 1) v.traces)))

  length-front : length front ≡ a - 1
  length-front = length-take-le (a - 1) v.traces (omega (arith, low, high, last))

  length-middle : length middle ≡ b + 1 - a
  length-middle = length-take-le (b + 1 - a) (drop (a - 1) v.traces) (omega (arith, length-drop (a - 1) v.traces, low, high, last))

  -- the traces before trace b + 1 are the front and the middle
  up-to : take b v.traces ≡ front ++ middle
  up-to =
      let long : length (front ++ middle) ≡ b = omega (arith, length-append front middle, length-front, length-middle, low, high) in
      ap (take b) (whole ∙ sym (append_assoc front middle behind)) ∙ take_at (front ++ middle) behind b long

  behind-at : trace_start v (b + 1) ≡ length lead + length (concat middle)
  behind-at =
      let at : b + 1 - 1 ≡ b = omega arith in
      ap (λ i. length (front_of v) + length (concat (take i v.traces))) at
      ∙ ap (λ ts. length (front_of v) + length (concat ts)) up-to
      ∙ omega (arith, ap (λ (bs : List ℕ). length bs) (concat-append front middle), length-append (concat front) (concat middle), length-append (front_of v) (concat front))

  pub bytes-sorted : bytes_of (with_order v a b order) ≡ with_traces_as v a b order
  bytes-sorted =
      let n : ℕ = trace_start v (b + 1) - trace_start v a in
      let size : n ≡ length (concat middle) = omega (arith, first-at, behind-at) in
      let at : trace_start v a ≡ length lead + 0 = omega (arith, first-at) in
      let rest : List ℕ = concat behind ++ behind_traces v in
      let none : drop (0 + length (concat middle)) (concat middle) ≡ [] = drop_all (0 + length (concat middle)) (concat middle) (omega arith) in
      let all : splice (concat middle) 0 (length (concat middle)) (concat new) ≡ concat new = ap (λ s. concat new ++ s) none ∙ append-nil (concat new) in
      new-bytes
      ∙ ap (λ s. lead ++ (s ++ rest)) (sym all)
      ∙ sym (splice_inside lead (concat middle) rest 0 (length (concat middle)) (concat new) (omega arith))
      ∙ ap (λ s. splice s (length lead + 0) (length (concat middle)) (concat new)) (sym old-bytes)
      ∙ ap (λ i. splice (bytes_of v) i (length (concat middle)) (concat new)) (sym at)
      ∙ ap (λ i. splice (bytes_of v) (trace_start v a) i (concat new)) (sym size)

  pub traces-permute : IsPermutation v.traces (with_order v a b order).traces
  traces-permute =
      subst (λ ts. IsPermutation ts (take (a - 1) v.traces ++ map (trace_at v) order ++ drop b v.traces)) (sym (whole ∙ sym (append_assoc front middle behind)))
      (IsPermutation-append (front ++ middle) (front ++ new) behind behind (IsPermutation-append_right front middle new middle-permutes) (IsPermutation-refl behind))

  pub cut_sorted : (reading : Reading) (l : Limits) → IsCut (bytes_of v) reading l v → IsCut (with_traces_as v a b order) reading l (with_order v a b order)
  cut_sorted reading l cut = subst (λ (file : List ℕ). IsCut file reading l (with_order v a b order)) bytes-sorted (cut_permuted reading l v (with_order v a b order).traces cut traces-permute)
