-- What is known of a volume and the records beside its traces whatever was read: it stays known through each edit.
use Rattle.std.proofs.Common.{◌≡◌, ℕ, zero, suc, ◌+◌, ◌*◌, ◌-◌, ◌<◌, ◌≤◌, ◌^◌, List, [], ◌∷◌, ◌++◌, length, take, drop, map, get_or, All, refl, sym, ap, ap₂, subst, ◌∙◌, arith, Some, Option}
use Rattle.std.specs.Prelude.{slice_get, slice_set, sum_by, ◌==◌, if◌then◌else◌, Bool, true, false, None}
use Rattle.std.specs.List.{concat, insert, remove, AllByRecursion}
use Rattle.std.specs.List.Sorted.{IsPermutation}
use Rattle.std.proofs.lemmas.List.{get_or-map, length-append, length-map, length-set, length-drop, length-take-le, map-set, take-append-drop}
use Rattle.std.proofs.lemmas.List.Edits.{length-remove}
use Rattle.std.proofs.lemmas.List.Elements.{All-append, All-cons, All-drop, All-get_or, All-nil, All-set, All-take, recursion_from_All}
use Rattle.std.proofs.lemmas.List.Sorted.{All-permutation, sum_by-IsPermutation, length_permutation}
use Rattle.std.proofs.lemmas.List.Sums.{sum_by-cons}
use Rattle.std.proofs.lemmas.Option.{slice_get-get_or}
use Rattle.record_table.proofs.ListLemmas.{map-insert, map-remove}
use Rattle.field_map.specs.Pairs.{Pairs}
use Rattle.frame_cut.specs.declared.file_head.Head.{Head}
use Rattle.frame_cut.specs.declared.limits.Limits.{Limits}
use Rattle.frame_cut.specs.declared.reading.Reading.{Reading}
use Rattle.frame_cut.specs.Cuts.{IsTrace, IsCut}
use Rattle.frame_cut.specs.Parts.{untailed, put_each_at, with_header_bytes, with_inserted, with_line, with_moved, without}
use Rattle.frame_cut.specs.Splice.{splice}
use Rattle.frame_cut.specs.Traces.{count_of, trace_at, with_trace}
use Rattle.frame_cut.specs.Volume.{Volume, bytes_of, front_of}
use Rattle.frame_cut.proofs.EditLemmas.{length-bytes, length-splice}
use Rattle.frame_cut.proofs.HeadFrontLemmas.{has_head}
use Rattle.trace_store.specs.Moved.{put_back, with_moved as records_moved}
use Rattle.trace_store.specs.Swapped.{with_swapped, with_places_swapped, ArePlaces}
use Rattle.trace_record.specs.Facts.{Facts, facts_of}
use Rattle.trace_record.specs.OfTrace.{record_of}
use Rattle.trace_record.specs.Packed.{record_in}
use Rattle.trace_record.specs.declared.packed_record.PackedRecord.{PackedRecord}
use Rattle.trace_record.specs.declared.record.Record.{Record}
use Rattle.live_reports.specs.Reports.{AreFew}
use Rattle.many_traces.proofs.SortedTraceLemmas.{map-swapped, swapped-permutes}
use Rattle.volume_records.specs.OfVolume.{numbers_of, records_of}
use Rattle.volume_records.proofs.FewLemmas.{samples_within}
use Rattle.bench_rules.proofs.SpliceLemmas.{length-with_trace}
use Rattle.bench_rules.proofs.WholeTraceLemmas.{length-without}
use Rattle.live_volume.specs.Held.{AreMeasured, HasFrame}

-- ---- records that are measured are few

abbrev number : Record → ℕ
number r = r.number

abbrev long : List ℕ → ℕ
long t = length t

-- no more samples than bytes, behind a main header
abbrev Fits : ℕ × ℕ → Type 0
Fits s = (s.0 ≤ s.1) × (240 ≤ s.1)

numbers_sum : (sizes : List (ℕ × ℕ)) (rs : List Record) → map (λ (s : ℕ × ℕ). s.0) sizes ≡ map number rs → sum_by number rs ≡ sum_by (λ (s : ℕ × ℕ). s.0) sizes
numbers_sum [] [] e = refl
numbers_sum [] (r ∷ rs) e = absurd cc
numbers_sum (s ∷ ss) [] e = absurd cc
numbers_sum (s ∷ ss) (r ∷ rs) e =
    let here : s.0 ≡ r.number = ap (λ (ns : List ℕ). get_or ns 0 0) e in
    omega (arith, here, numbers_sum ss rs (ap (λ (ns : List ℕ). drop 1 ns) e), sum_by-cons number r rs, sum_by-cons (λ (s : ℕ × ℕ). s.0) s ss)

lengths_sum : (sizes : List (ℕ × ℕ)) (ts : List (List ℕ)) → map (λ (s : ℕ × ℕ). s.1) sizes ≡ map long ts → length (concat ts) ≡ sum_by (λ (s : ℕ × ℕ). s.1) sizes
lengths_sum [] [] e = refl
lengths_sum [] (t ∷ ts) e = absurd cc
lengths_sum (s ∷ ss) [] e = absurd cc
lengths_sum (s ∷ ss) (t ∷ ts) e =
    let here : s.1 ≡ length t = ap (λ (ns : List ℕ). get_or ns 0 0) e in
    omega (arith, here, lengths_sum ss ts (ap (λ (ns : List ℕ). drop 1 ns) e), length-append t (concat ts), sum_by-cons (λ (s : ℕ × ℕ). s.1) s ss)

sums_within : (sizes : List (ℕ × ℕ)) → AllByRecursion Fits sizes → sum_by (λ (s : ℕ × ℕ). s.0) sizes ≤ sum_by (λ (s : ℕ × ℕ). s.1) sizes
sums_within [] all = omega arith
sums_within (s ∷ ss) all = omega (arith, all.0.0, sums_within ss all.1, sum_by-cons (λ (s : ℕ × ℕ). s.0) s ss, sum_by-cons (λ (s : ℕ × ℕ). s.1) s ss)

-- there are as many records as traces
pub as_many : (rs : List Record) (ts : List (List ℕ)) → AreMeasured rs ts → length rs ≡ length ts
as_many rs ts m =
    sym (length-map rs number) ∙ ap (λ (ns : List ℕ). length ns) (sym m.numbers) ∙ length-map m.sizes (λ (s : ℕ × ℕ). s.0)
    ∙ sym (length-map m.sizes (λ (s : ℕ × ℕ). s.1)) ∙ ap (λ (ns : List ℕ). length ns) m.lengths ∙ length-map ts long

-- the records of a volume within its limits are few enough for the reports
pub few_measured : (limits : Limits) (v : Volume) (rs : List Record) → HasFrame limits v → limits.traces < 2 ^ 32 → AreMeasured rs v.traces → AreFew rs
few_measured limits v rs frame counted m =
    let samples : sum_by number rs ≤ length (concat v.traces) =
    omega (arith, numbers_sum m.sizes rs m.numbers, lengths_sum m.sizes v.traces m.lengths, sums_within m.sizes (recursion_from_All Fits m.sizes m.within)) in
    record {
      records = omega (arith, as_many rs v.traces m, frame.few, counted);
      samples = omega (arith, samples, length-bytes v, frame.small, limits.small);
    }

-- ---- what is known of one of them

-- the record and the trace at a place
pub measured_at : (rs : List Record) (ts : List (List ℕ)) (i : ℕ) (r : Record) → AreMeasured rs ts → i < length ts → slice_get rs i ≡ Some r → (r.number ≤ length (get_or ts i [])) × (240 ≤ length (get_or ts i []))
measured_at rs ts i r m there is =
    let many : length m.sizes ≡ length ts = sym (length-map m.sizes (λ (s : ℕ × ℕ). s.1)) ∙ ap (λ (ns : List ℕ). length ns) m.lengths ∙ length-map ts long in
    let inside : i < length m.sizes = omega (arith, many, there) in
    let within : i < length rs = omega (arith, as_many rs ts m, there) in
    let s : ℕ × ℕ = get_or m.sizes i (0, 240) in
    let first : s.0 ≡ (get_or rs i r).number =
    sym (get_or-map (λ (s : ℕ × ℕ). s.0) m.sizes i (0, 240) 0 inside) ∙ ap (λ (ns : List ℕ). get_or ns i 0) m.numbers ∙ get_or-map number rs i r 0 within in
    let second : s.1 ≡ length (get_or ts i []) =
    sym (get_or-map (λ (s : ℕ × ℕ). s.1) m.sizes i (0, 240) 0 inside) ∙ ap (λ (ns : List ℕ). get_or ns i 0) m.lengths ∙ get_or-map long ts i [] 0 there in
    let here : get_or rs i r ≡ r = some_is (get_or rs i r) r (sym (slice_get-get_or rs i r within) ∙ is) in
    let fits : Fits s = All-get_or Fits m.sizes i (0, 240) inside m.within in
    (omega (arith, fits.0, first, second, ap number here), omega (arith, fits.1, second))
  where
    some_is : (a b : Record) → (let x : Option Record = Some a in x) ≡ Some b → a ≡ b
    some_is a b e = cc

-- each trace has a main header
pub has_header : (rs : List Record) (ts : List (List ℕ)) (i : ℕ) → AreMeasured rs ts → i < length ts → 240 ≤ length (get_or ts i [])
has_header rs ts i m there =
    let many : length m.sizes ≡ length ts = sym (length-map m.sizes (λ (s : ℕ × ℕ). s.1)) ∙ ap (λ (ns : List ℕ). length ns) m.lengths ∙ length-map ts long in
    let inside : i < length m.sizes = omega (arith, many, there) in
    let fits : Fits (get_or m.sizes i (0, 240)) = All-get_or Fits m.sizes i (0, 240) inside m.within in
    let second : (get_or m.sizes i (0, 240)).1 ≡ length (get_or ts i []) =
    sym (get_or-map (λ (s : ℕ × ℕ). s.1) m.sizes i (0, 240) 0 inside) ∙ ap (λ (ns : List ℕ). get_or ns i 0) m.lengths ∙ get_or-map long ts i [] 0 there in
    omega (arith, fits.1, second)

-- ---- edits

-- the same numbers and lengths
pub measured_again : (rs qs : List Record) (ts us : List (List ℕ)) → map number qs ≡ map number rs → map long us ≡ map long ts → AreMeasured rs ts → AreMeasured qs us
measured_again rs qs ts us e f m = record { sizes = m.sizes; numbers = m.numbers ∙ sym e; lengths = m.lengths ∙ sym f; within = m.within }

-- another record and trace at a place
pub measured_set : (rs : List Record) (ts : List (List ℕ)) (i : ℕ) (r : Record) (t : List ℕ) → r.number ≤ length t → 240 ≤ length t → AreMeasured rs ts → AreMeasured (slice_set rs i r) (slice_set ts i t)
measured_set rs ts i r t few header m =
    let s : ℕ × ℕ = (r.number, length t) in
    record {
      sizes = slice_set m.sizes i s;
      numbers = map-set (λ (s : ℕ × ℕ). s.0) m.sizes i s ∙ ap (λ (ns : List ℕ). slice_set ns i r.number) m.numbers ∙ sym (map-set number rs i r);
      lengths = map-set (λ (s : ℕ × ℕ). s.1) m.sizes i s ∙ ap (λ (ns : List ℕ). slice_set ns i (length t)) m.lengths ∙ sym (map-set long ts i t);
      within = All-set Fits m.sizes i s (few, header) m.within;
    }

all_inserted : (xs : List (ℕ × ℕ)) (i : ℕ) (s : ℕ × ℕ) → Fits s → All Fits xs → All Fits (insert xs i s)
all_inserted xs i s fits all = All-append Fits (take i xs) (s ∷ drop i xs) (All-take Fits i xs all) (All-cons Fits s (drop i xs) fits (All-drop Fits i xs all))

-- a record and a trace more
pub measured_insert : (rs : List Record) (ts : List (List ℕ)) (i : ℕ) (r : Record) (t : List ℕ) → r.number ≤ length t → 240 ≤ length t → AreMeasured rs ts → AreMeasured (insert rs i r) (insert ts i t)
measured_insert rs ts i r t few header m =
    let s : ℕ × ℕ = (r.number, length t) in
    record {
      sizes = insert m.sizes i s;
      numbers = map-insert (λ (s : ℕ × ℕ). s.0) m.sizes i s ∙ ap (λ (ns : List ℕ). insert ns i r.number) m.numbers ∙ sym (map-insert number rs i r);
      lengths = map-insert (λ (s : ℕ × ℕ). s.1) m.sizes i s ∙ ap (λ (ns : List ℕ). insert ns i (length t)) m.lengths ∙ sym (map-insert long ts i t);
      within = all_inserted m.sizes i s (few, header) m.within;
    }

-- one of each less
pub measured_remove : (rs : List Record) (ts : List (List ℕ)) (i : ℕ) → AreMeasured rs ts → AreMeasured (remove rs i) (remove ts i)
measured_remove rs ts i m = record {
  sizes = remove m.sizes i;
  numbers = map-remove (λ (s : ℕ × ℕ). s.0) m.sizes i ∙ ap (λ (ns : List ℕ). remove ns i) m.numbers ∙ sym (map-remove number rs i);
  lengths = map-remove (λ (s : ℕ × ℕ). s.1) m.sizes i ∙ ap (λ (ns : List ℕ). remove ns i) m.lengths ∙ sym (map-remove long ts i);
  within = All-append Fits (take i m.sizes) (drop (suc i) m.sizes) (All-take Fits i m.sizes m.within) (All-drop Fits (suc i) m.sizes m.within);
}

-- one of each at another place
pub measured_moved : (rs : List Record) (ts : List (List ℕ)) (i j : ℕ) → i < length ts → AreMeasured rs ts → AreMeasured (records_moved rs i j) (insert (remove ts i) j (get_or ts i []))
measured_moved rs ts i j there m =
    let inside : i < length rs = omega (arith, as_many rs ts m, there) in
    by (slice_get rs i) refl inside
  where
    some_there : (qs : List Record) (k : ℕ) → k < length qs → slice_get qs k ≡ None → ⊥
    some_there [] k less e = omega (arith, less)
    some_there (q ∷ qs) zero less e = absurd cc
    some_there (q ∷ qs) (suc k) less e = some_there qs k (omega (arith, less)) e

    by : (o : Option Record) → slice_get rs i ≡ o → i < length rs → AreMeasured (put_back o (remove rs i) j) (insert (remove ts i) j (get_or ts i []))
    by None e inside = absurd (some_there rs i inside e)
    by (Some r) e inside = let here = measured_at rs ts i r m there e in measured_insert (remove rs i) (remove ts i) j r (get_or ts i []) here.0 here.1 (measured_remove rs ts i m)

-- pairs of them in the place of one another
pub measured_swapped : (rs : List Record) (ts : List (List ℕ)) (pairs : List (ℕ × ℕ)) → ArePlaces (length ts) pairs → AreMeasured rs ts → AreMeasured (with_swapped rs pairs) (with_swapped ts pairs)
measured_swapped rs ts pairs places m =
    let many : length m.sizes ≡ length ts = sym (length-map m.sizes (λ (s : ℕ × ℕ). s.1)) ∙ ap (λ (ns : List ℕ). length ns) m.lengths ∙ length-map ts long in
    let same : IsPermutation m.sizes (with_swapped m.sizes pairs) = swapped-permutes m.sizes pairs (subst (λ (n : ℕ). ArePlaces n pairs) (sym many) places) in
    record {
      sizes = with_swapped m.sizes pairs;
      numbers = sym (map-swapped (λ (s : ℕ × ℕ). s.0) m.sizes pairs) ∙ ap (λ (ns : List ℕ). with_swapped ns pairs) m.numbers ∙ map-swapped number rs pairs;
      lengths = sym (map-swapped (λ (s : ℕ × ℕ). s.1) m.sizes pairs) ∙ ap (λ (ns : List ℕ). with_swapped ns pairs) m.lengths ∙ map-swapped long ts pairs;
      within = All-permutation Fits m.sizes (with_swapped m.sizes pairs) same m.within;
    }

-- ---- lengths of traces that bytes are laid over

pub lengths_put : (ts : List (List ℕ)) (i at : ℕ) (bytes : List ℕ) → at + length bytes ≤ length (get_or ts i []) → map long (slice_set ts i (splice (get_or ts i []) at (length bytes) bytes)) ≡ map long ts
lengths_put ts i at bytes inside =
    map-set long ts i (splice (get_or ts i []) at (length bytes) bytes)
    ∙ ap (λ (n : ℕ). slice_set (map long ts) i n) (length-splice (get_or ts i []) at bytes inside)
    ∙ again ts i
  where
    again : (us : List (List ℕ)) (k : ℕ) → slice_set (map long us) k (length (get_or us k [])) ≡ map long us
    again [] k = refl
    again (u ∷ us) zero = refl
    again (u ∷ us) (suc k) = ap (λ (ns : List ℕ). length u ∷ ns) (again us k)

-- each of so many traces from one on has room
abbrev pub HaveRoom : List (List ℕ) → (p end count : ℕ) → Type 0
HaveRoom ts p end count = (k i : ℕ) → k < count → i ≡ p + k → end ≤ length (get_or ts i [])

pub lengths_put_each : (ts : List (List ℕ)) (p at size count : ℕ) (bytes : List ℕ) → length bytes ≡ count * size → HaveRoom ts p (at + size) count → map long (put_each_at ts p at size bytes) ≡ map long ts
lengths_put_each [] p at size count bytes e inside = refl
lengths_put_each (t ∷ ts) (suc p) at size count bytes e inside =
    ap (λ (ns : List ℕ). length t ∷ ns) (lengths_put_each ts p at size count bytes e (λ k i less is. inside k (suc i) less (omega (arith, is))))
lengths_put_each (t ∷ ts) zero at size count [] e inside = refl
lengths_put_each (t ∷ ts) zero at size zero (b ∷ bs) e inside = absurd (omega arith)
lengths_put_each (t ∷ ts) zero at size (suc count) (b ∷ bs) e inside =
    let new : List ℕ = take size (b ∷ bs) in
    let full : length new ≡ size = length-take-le size (b ∷ bs) (omega arith) in
    let here : at + length new ≤ length t = omega (arith, full, inside 0 0 (omega arith) (omega arith)) in
    let left : length (drop size (b ∷ bs)) ≡ count * size = omega (arith, length-drop size (b ∷ bs)) in
    ap₂ (λ (n : ℕ) (ns : List ℕ). n ∷ ns) (ap (λ (n : ℕ). length (splice t at n new)) (sym full) ∙ length-splice t at new here)
    (lengths_put_each ts zero at size count (drop size (b ∷ bs)) left (λ k i less is. inside (suc k) (suc i) (omega (arith, less)) (omega (arith, is))))

-- ---- the frame

-- with other traces, within the limits
pub frame_with : (limits : Limits) (v : Volume) (ts : List (List ℕ)) → HasFrame limits v → length ts ≤ limits.traces → length (bytes_of (record v { traces = ts })) ≤ limits.bytes → HasFrame limits (record v { traces = ts })
frame_with limits v ts f few small = record { text = f.text; bin = f.bin; blocks = f.blocks; trailer = f.trailer; few = few; small = small }

lengths_concat : (ts us : List (List ℕ)) → map long us ≡ map long ts → length (concat us) ≡ length (concat ts)
lengths_concat [] [] e = refl
lengths_concat [] (u ∷ us) e = absurd cc
lengths_concat (t ∷ ts) [] e = absurd cc
lengths_concat (t ∷ ts) (u ∷ us) e =
    omega (arith, ap (λ (ns : List ℕ). get_or ns 0 0) e, lengths_concat ts us (ap (λ (ns : List ℕ). drop 1 ns) e), length-append t (concat ts), length-append u (concat us))

-- with traces of the same lengths
pub frame_again : (limits : Limits) (v : Volume) (ts : List (List ℕ)) → HasFrame limits v → map long ts ≡ map long v.traces → HasFrame limits (record v { traces = ts })
frame_again limits v ts f e =
    let w : Volume = record v { traces = ts } in
    let many : length ts ≡ length v.traces = sym (length-map ts long) ∙ ap (λ (ns : List ℕ). length ns) e ∙ length-map v.traces long in
    frame_with limits v ts f (omega (arith, many, f.few)) (omega (arith, f.small, length-bytes v, length-bytes w, lengths_concat v.traces ts e))

concat_append : (xs ys : List (List ℕ)) → length (concat (xs ++ ys)) ≡ length (concat xs) + length (concat ys)
concat_append [] ys = omega arith
concat_append (x ∷ xs) ys = omega (arith, length-append x (concat xs), length-append x (concat (xs ++ ys)), concat_append xs ys)

-- how long the file is with a trace more
pub length-inserted : (v : Volume) (p : ℕ) (t : List ℕ) → length (bytes_of (with_inserted v p t)) ≡ length (bytes_of v) + length t
length-inserted v p t =
    let i : ℕ = p - 1 in
    let ts : List (List ℕ) = v.traces in
    omega (
      arith,
      length-bytes v,
      length-bytes (with_inserted v p t),
      concat_append (take i ts) (t ∷ drop i ts),
      length-append t (concat (drop i ts)),
      concat_append (take i ts) (drop i ts),
      ap (λ (us : List (List ℕ)). length (concat us)) (take-append-drop i ts),
    )

count-inserted : (ts : List (List ℕ)) (i : ℕ) (t : List ℕ) → length (insert ts i t) ≡ length ts + 1
count-inserted ts i t =
    omega (arith, length-append (take i ts) (t ∷ drop i ts), length-append (take i ts) (drop i ts), ap (λ (us : List (List ℕ)). length us) (take-append-drop i ts))

pub frame_inserted : (limits : Limits) (v : Volume) (p : ℕ) (t : List ℕ) → HasFrame limits v → count_of v + 1 ≤ limits.traces → length (bytes_of v) + length t ≤ limits.bytes → HasFrame limits (with_inserted v p t)
frame_inserted limits v p t f few small =
    frame_with limits v (insert v.traces (p - 1) t) f (omega (arith, few, count-inserted v.traces (p - 1) t)) (omega (arith, small, length-inserted v p t))

-- without trace p
pub frame_without : (limits : Limits) (v : Volume) (p : ℕ) → HasFrame limits v → 1 ≤ p → p ≤ count_of v → HasFrame limits (without v p)
frame_without limits v p f first last =
    let there : p - 1 < length v.traces = omega (arith, first, last) in
    frame_with limits v (remove v.traces (p - 1)) f (omega (arith, f.few, length-remove v.traces (p - 1) there)) (omega (arith, f.small, length-without v p first last))

pub frame_moved : (limits : Limits) (v : Volume) (a b : ℕ) → HasFrame limits v → 1 ≤ a → a ≤ count_of v → HasFrame limits (with_moved v a b)
frame_moved limits v a b f first last =
    let there : a - 1 < length v.traces = omega (arith, first, last) in
    frame_inserted limits (without v a) b (trace_at v a) (frame_without limits v a f first last) (omega (arith, f.few, length-remove v.traces (a - 1) there)) (omega (arith, f.small, length-without v a first last))

concat_sum : (ts : List (List ℕ)) → length (concat ts) ≡ sum_by long ts
concat_sum [] = refl
concat_sum (t ∷ ts) = omega (arith, length-append t (concat ts), concat_sum ts, sum_by-cons long t ts)

pub frame_swapped : (limits : Limits) (v : Volume) (pairs : List (ℕ × ℕ)) → HasFrame limits v → ArePlaces (count_of v) pairs → HasFrame limits (with_places_swapped v pairs)
frame_swapped limits v pairs f places =
    let ts : List (List ℕ) = with_swapped v.traces pairs in
    let same : IsPermutation v.traces ts = swapped-permutes v.traces pairs places in
    frame_with limits v ts f (omega (arith, f.few, length_permutation v.traces ts same))
    (omega (arith, f.small, length-bytes v, length-bytes (with_places_swapped v pairs), concat_sum v.traces, concat_sum ts, sum_by-IsPermutation long v.traces ts same))

pub frame_replaced : (limits : Limits) (v : Volume) (p : ℕ) (t : List ℕ) → HasFrame limits v → 1 ≤ p → p ≤ count_of v → length (bytes_of v) - length (trace_at v p) + length t ≤ limits.bytes → HasFrame limits (with_trace v p t)
frame_replaced limits v p t f first last small =
    frame_with limits v (slice_set v.traces (p - 1) t) f (omega (arith, f.few, length-set v.traces (p - 1) t)) (omega (arith, small, length-with_trace v p t first last, length-without v p first last))

front_long : (v : Volume) → length (front_of v) ≡ length v.text + length v.bin + length (concat v.blocks)
front_long v = omega (arith, length-append (v.text ++ v.bin) (concat v.blocks), length-append v.text v.bin)

-- with another line of the textual header
pub frame_line : (limits : Limits) (v : Volume) (q : ℕ) (line : List ℕ) → HasFrame limits v → 1 ≤ q → q ≤ 40 → length line ≡ 80 → HasFrame limits (with_line v q line)
frame_line limits v q line f first last long_line =
    let w : Volume = with_line v q line in
    let inside : 80 * (q - 1) + length line ≤ length v.text = omega (arith, f.text, first, last, long_line) in
    let same : length w.text ≡ length v.text = length-splice v.text (80 * (q - 1)) line inside in
    record {
      text = same ∙ f.text;
      bin = f.bin;
      blocks = f.blocks;
      trailer = f.trailer;
      few = f.few;
      small = omega (arith, f.small, length-bytes v, length-bytes w, front_long v, front_long w, same);
    }

-- with other bytes in the binary header
pub frame_header : (limits : Limits) (v : Volume) (at : ℕ) (new : List ℕ) → HasFrame limits v → at + length new ≤ 400 → HasFrame limits (with_header_bytes v at new)
frame_header limits v at new f room =
    let w : Volume = with_header_bytes v at new in
    let inside : at + length new ≤ length v.bin = omega (arith, f.bin, room) in
    let same : length w.bin ≡ length v.bin = length-splice v.bin at new inside in
    record {
      text = f.text;
      bin = same ∙ f.bin;
      blocks = f.blocks;
      trailer = f.trailer;
      few = f.few;
      small = omega (arith, f.small, length-bytes v, length-bytes w, front_long v, front_long w, same);
    }

-- without its tail
pub frame_untailed : (limits : Limits) (v : Volume) → HasFrame limits v → HasFrame limits (untailed v)
frame_untailed limits v f = record {
  text = f.text;
  bin = f.bin;
  blocks = f.blocks;
  trailer = f.trailer;
  few = f.few;
  small = omega (arith, f.small, length-bytes v, length-bytes (untailed v), length-append v.tail (concat v.trailer));
}

-- ---- a file that is cut

-- its frame is as its head says
pub frame_of_cut : (reading : Reading) (limits : Limits) (v : Volume) → IsCut (bytes_of v) reading limits v → HasFrame limits v
frame_of_cut reading limits v cut = record {
  text = cut.parts.text;
  bin = cut.parts.bin;
  blocks = cut.parts.blocks.count;
  trailer = cut.parts.trailer.count;
  few = cut.parts.few;
  small = (has_head (bytes_of v) reading limits v.head cut.parts.head).small;
}

-- a whole trace has a main header
pub header_of_trace : (h : Head) (t : List ℕ) → IsTrace h t → 240 ≤ length t
header_of_trace h t is = omega (arith, is.whole, by (h.extensions == 0))
  where
    by : (b : Bool) → 240 ≤ (if b then 240 else 2 * 240)
    by true = omega arith
    by false = omega arith

-- and no more samples than bytes
pub number_of_trace : (h : Head) (fields : Pairs) (t : List ℕ) (r : Record) → IsTrace h t → facts_of r ≡ record_of h fields t → r.number ≤ length t
number_of_trace h fields t r is e = omega (arith, samples_within h t is, ap (λ (f : Facts). f.number) e)

measured_each : (h : Head) (fields : Pairs) (rs : List Record) (ts : List (List ℕ)) → AllByRecursion (IsTrace h) ts → map facts_of rs ≡ map (record_of h fields) ts → AreMeasured rs ts
measured_each h fields [] [] all e = record { sizes = []; numbers = refl; lengths = refl; within = All-nil Fits }
measured_each h fields [] (t ∷ ts) all e = absurd cc
measured_each h fields (r ∷ rs) [] all e = absurd cc
measured_each h fields (r ∷ rs) (t ∷ ts) all e =
    let rest = measured_each h fields rs ts all.1 (ap (λ (fs : List Facts). drop 1 fs) e) in
    let here : facts_of r ≡ record_of h fields t = ap (λ (fs : List Facts). get_or fs 0 (facts_of r)) e in
    let s : ℕ × ℕ = (r.number, length t) in
    record {
      sizes = s ∷ rest.sizes;
      numbers = ap (λ (ns : List ℕ). r.number ∷ ns) rest.numbers;
      lengths = ap (λ (ns : List ℕ). length t ∷ ns) rest.lengths;
      within = All-cons Fits s rest.sizes (number_of_trace h fields t r all.0 here, header_of_trace h t all.0) rest.within;
    }

-- its records are measured
pub measured_of_cut : (reading : Reading) (limits : Limits) (v : Volume) (fields : Pairs) (rs : List Record) → IsCut (bytes_of v) reading limits v → map facts_of rs ≡ records_of v fields → AreMeasured rs v.traces
measured_of_cut reading limits v fields rs cut e = measured_each v.head fields rs v.traces (recursion_from_All (IsTrace v.head) v.traces cut.parts.traces) e

-- ---- records made anew

zipped : (rs : List Record) (ts : List (List ℕ)) → length rs ≡ length ts → ((j : ℕ) → j < length ts → get_or (map number rs) j 0 ≤ length (get_or ts j [])) → ((j : ℕ) → j < length ts → 240 ≤ length (get_or ts j []))
    → AreMeasured rs ts
zipped [] [] same within header = record { sizes = []; numbers = refl; lengths = refl; within = All-nil Fits }
zipped [] (t ∷ ts) same within header = absurd (omega arith)
zipped (r ∷ rs) [] same within header = absurd (omega arith)
zipped (r ∷ rs) (t ∷ ts) same within header =
    let rest = zipped rs ts (omega (arith, same)) (λ j less. within (suc j) (omega (arith, less))) (λ j less. header (suc j) (omega (arith, less))) in
    let s : ℕ × ℕ = (r.number, length t) in
    record {
      sizes = s ∷ rest.sizes;
      numbers = ap (λ (ns : List ℕ). r.number ∷ ns) rest.numbers;
      lengths = ap (λ (ns : List ℕ). length t ∷ ns) rest.lengths;
      within = All-cons Fits s rest.sizes (within 0 (omega arith), header 0 (omega arith)) rest.within;
    }

-- beside the same traces
pub measured_anew : (rs qs : List Record) (ts : List (List ℕ)) → AreMeasured rs ts → length qs ≡ length ts → ((j : ℕ) → j < length ts → get_or (map number qs) j 0 ≤ length (get_or ts j [])) → AreMeasured qs ts
measured_anew rs qs ts m same within = zipped qs ts same within (λ j less. has_header rs ts j m less)

-- the numbers of packed records are those of the records
pub numbers_are : (ps : List PackedRecord) → numbers_of ps ≡ map number (map record_in ps)
numbers_are [] = refl
numbers_are (p ∷ ps) = ap (λ (ns : List ℕ). (record_in p).number ∷ ns) (numbers_are ps)
