-- The pass that makes the rows, and the slice that records give.
use Rattle.std.specs.Prelude.{◌≡◌, ℕ, ℤ, ◌+◌, ◌*◌, ◌-◌, ◌<◌, ◌≤◌, IsTrue, List, [], ◌∷◌, ◌++◌, All, map, take, slice_get, slice_range, Option, Some, None, option_map, IfSome, refl, length}
use Rattle.std.proofs.Common.{arith, sym, ap, ◌∙◌, zero, suc, add-one, append_assoc, append-nil, drop, drop-drop, get_or}
use Rattle.std.proofs.Math.Seq.{drop-nil}
use Rattle.std.proofs.lemmas.Bool.{lt-ltb}
use Rattle.std.proofs.lemmas.List.Elements.{All-nil, All-cons, All-append, All-same}
use Rattle.std.specs.List.{zip}
use Rattle.field_map.specs.Pairs.{Pairs}
use Rattle.frame_cut.specs.declared.file_head.Head.{Head}
use Rattle.frame_cut.specs.Frames.{extensions_of, sample_count}
use Rattle.sample_codes.specs.declared.format.Format.{Format}
use Rattle.sample_codes.specs.declared.value_format.ValueFormat.{ValueFormat}
use Rattle.sample_codes.specs.Formats.{value_width, width, values, sample_value}
use Rattle.sample_codes.proofs.WidthLemmas.{width-values}
use Rattle.trace_view.specs.Values.{bytes_of_sample, sample_of}
use Rattle.trace_record.specs.Facts.{Facts, facts_of}
use Rattle.trace_record.specs.OfTrace.{record_of}
use Rattle.trace_record.specs.Packed.{record_in}
use Rattle.trace_record.specs.declared.packed_record.PackedRecord.{PackedRecord}
use Rattle.bench_rules.specs.declared.row.Row.{Row}
use Rattle.time_slice.specs.Fitting.{value_fits}
use Rattle.time_slice.specs.Laws.{RowsAreOfTraces}
use Rattle.bench_rules.specs.SlicesOfRecords.{with_sample_of}
use Rattle.bench_rules.specs.Slices.{row_of, rows_from, slice_rows, with_sample}

-- the bytes of a sample at their place in the trace
pub sample_at : (h : Head) (f : ValueFormat) (t : List ℕ) (k e w j : ℕ) (bytes : List ℕ) → values h.format ≡ Some f → k < sample_count h t → e ≡ extensions_of h t → w ≡ value_width f → j ≡ k
    → bytes ≡ slice_range t (240 * (1 + e) + w * j) (240 * (1 + e) + w * j + w) → Some (sample_value h.order f bytes) ≡ sample_of h t k
sample_at h f t k e w j bytes reads there headers narrow number here =
    let wide : w ≡ width h.format = narrow ∙ sym (width-values h.format f reads) in
    let place : ℕ = 240 * (1 + e) + w * j in
    let size : place + w - place ≡ w = omega arith in
    let at : drop place t ≡ drop (width h.format * k) (drop (240 * (1 + extensions_of h t)) t) =
    rw (headers, wide, number) (sym (drop-drop (width h.format * k) (240 * (1 + extensions_of h t)) t)) in
    let bytes_are : bytes ≡ bytes_of_sample h t k = here ∙ ap (λ (n : ℕ). take n (drop place t)) (size ∙ wide) ∙ ap (λ (bs : List ℕ). take (width h.format) bs) at in
    rw (lt-ltb k (sample_count h t) there)
    (ap (λ (bs : List ℕ). Some (sample_value h.order f bs)) bytes_are
    ∙ ap (λ (o : Option ValueFormat). option_map (λ g. sample_value h.order g (bytes_of_sample h t k)) o) (sym reads))

-- a row more whose sample the format has
pub fits_more : (f : Format) (old new : List Row) (p : ℕ) (facts : Facts) (s : Option ℤ) → new ≡ old ++ row_of p facts s → IfSome s (λ v. IsTrue (value_fits f v))
    → All (λ r. IsTrue (value_fits f r.value)) old → All (λ r. IsTrue (value_fits f r.value)) new
fits_more f old new p facts s grew fits all = All-same (λ r. IsTrue (value_fits f r.value)) new (old ++ row_of p facts s) grew (All-append (λ r. IsTrue (value_fits f r.value)) old (row_of p facts s) all (by s fits))
  where
    by : (s : Option ℤ) → IfSome s (λ v. IsTrue (value_fits f v)) → All (λ r. IsTrue (value_fits f r.value)) (row_of p facts s)
    by None fits = All-nil (λ r. IsTrue (value_fits f r.value))
    by (Some v) fits = All-cons (λ r. IsTrue (value_fits f r.value)) (record { inline = facts.inline; crossline = facts.crossline; position = p; value = v }) [] fits (All-nil (λ r. IsTrue (value_fits f r.value)))

-- the facts and samples that are left of those of all traces: the next trace's, and those behind it
left_at : (h : Head) (k i : ℕ) (ps : List PackedRecord) (ts : List (List ℕ)) (packed : PackedRecord) → slice_get ps i ≡ Some packed → i < length ts
    → drop i (with_sample_of h k (map record_in ps) ts) ≡ (facts_of (record_in packed), sample_of h (get_or ts i []) k) ∷ drop (suc i) (with_sample_of h k (map record_in ps) ts)
left_at h k zero [] ts packed here there = absurd cc
left_at h k (suc i) [] ts packed here there = absurd cc
left_at h k i (p ∷ ps) [] packed here there = absurd (omega arith)
left_at h k zero (p ∷ ps) (t ∷ ts) packed here there =
    let same : p ≡ packed = cc in
    ap (λ (q : PackedRecord). (facts_of (record_in q), sample_of h t k) ∷ with_sample_of h k (map record_in ps) ts) same
left_at h k (suc i) (p ∷ ps) (t ∷ ts) packed here there = left_at h k i ps ts packed here (omega arith)

-- none is left behind the last trace
none_left : (h : Head) (k i : ℕ) (ps : List PackedRecord) (ts : List (List ℕ)) → length ts ≤ i → drop i (with_sample_of h k (map record_in ps) ts) ≡ []
none_left h k i [] [] last = drop-nil i
none_left h k i [] (t ∷ ts) last = drop-nil i
none_left h k i (p ∷ ps) [] last = drop-nil i
none_left h k zero (p ∷ ps) (t ∷ ts) last = absurd (omega arith)
none_left h k (suc i) (p ∷ ps) (t ∷ ts) last = none_left h k i ps ts (omega arith)

-- what is written and what is left are the whole, before and after one trace
pub row_is_written : (h : Head) (k i : ℕ) (ps : List PackedRecord) (ts : List (List ℕ)) (packed : PackedRecord) (s : Option ℤ) (old new all : List Row)
    → slice_get ps i ≡ Some packed → i < length ts → s ≡ sample_of h (get_or ts i []) k → new ≡ old ++ row_of (i + 1) (facts_of (record_in packed)) s
    → old ++ rows_from (i + 1) (drop i (with_sample_of h k (map record_in ps) ts)) ≡ all → new ++ rows_from (i + 1 + 1) (drop (i + 1) (with_sample_of h k (map record_in ps) ts)) ≡ all
row_is_written h k i ps ts packed s old new all here there is grew told =
    let ws : List (Facts × Option ℤ) = with_sample_of h k (map record_in ps) ts in
    let item : Facts × Option ℤ = (facts_of (record_in packed), sample_of h (get_or ts i []) k) in
    let left : drop i ws ≡ item ∷ drop (i + 1) ws = left_at h k i ps ts packed here there ∙ ap (λ (n : ℕ). item ∷ drop n ws) (sym (add-one i)) in
    ap (λ (rows : List Row). rows ++ rows_from (i + 1 + 1) (drop (i + 1) ws)) (grew ∙ ap (λ (o : Option ℤ). old ++ row_of (i + 1) (facts_of (record_in packed)) o) is)
    ∙ append_assoc old (row_of (i + 1) item.0 item.1) (rows_from (i + 1 + 1) (drop (i + 1) ws))
    ∙ ap (λ (l : List (Facts × Option ℤ)). old ++ rows_from (i + 1) l) (sym left)
    ∙ told

-- where no trace is left, the whole is written
pub all_written : (h : Head) (k i : ℕ) (ps : List PackedRecord) (ts : List (List ℕ)) (rows all : List Row) → length ts ≤ i
    → rows ++ rows_from (i + 1) (drop i (with_sample_of h k (map record_in ps) ts)) ≡ all → rows ≡ all
all_written h k i ps ts rows all last told =
    sym (append-nil rows) ∙ ap (λ (l : List (Facts × Option ℤ)). rows ++ rows_from (i + 1) l) (sym (none_left h k i ps ts last)) ∙ told

-- facts beside the samples of their own traces
pub beside_own : (h : Head) (fields : Pairs) (k : ℕ) (traces : List (List ℕ)) → zip (map (record_of h fields) traces) (map (λ t. sample_of h t k) traces) ≡ with_sample h fields k traces
beside_own h fields k [] = refl
beside_own h fields k (t ∷ ts) = ap (λ l. (record_of h fields t, sample_of h t k) ∷ l) (beside_own h fields k ts)

pub rows_are_of_traces : RowsAreOfTraces
rows_are_of_traces h fields k records traces same =
    ap (λ (fs : List Facts). slice_rows (zip fs (map (λ t. sample_of h t k) traces))) same ∙ ap (λ ts. slice_rows ts) (beside_own h fields k traces)
