-- The records of a file are few enough for the running values.
use Rattle.std.proofs.Common.{◌≡◌, ℕ, suc, ◌+◌, ◌*◌, ◌<◌, ◌≤◌, ◌^◌, List, [], ◌∷◌, length, get_or, refl, sym, ap, subst, ◌∙◌, arith}
use Rattle.std.specs.Prelude.{map, sum_by, slice_set}
use Rattle.std.specs.List.{concat, AllByRecursion}
use Rattle.std.proofs.Math.Nat.{mul-le-mul_right}
use Rattle.std.proofs.lemmas.List.{length-append, length-map, map-set, get_or-set_same, get_or-set_other}
use borrow.Author.Count.{below_more}
use Rattle.std.proofs.lemmas.List.Elements.{recursion_from_All}
use Rattle.std.proofs.lemmas.List.Sums.{sum_by-cons}
use Rattle.sample_codes.specs.Formats.{width}
use Rattle.sample_codes.proofs.WidthLemmas.{width-positive}
use Rattle.field_map.specs.Pairs.{Pairs}
use Rattle.frame_cut.specs.declared.file_head.Head.{Head}
use Rattle.frame_cut.specs.declared.limits.Limits.{Limits}
use Rattle.frame_cut.specs.declared.reading.Reading.{Reading}
use Rattle.frame_cut.specs.Cuts.{IsTrace, IsCut}
use Rattle.frame_cut.specs.Frames.{sample_count}
use Rattle.frame_cut.specs.Traces.{count_of}
use Rattle.frame_cut.specs.Volume.{Volume, bytes_of}
use Rattle.frame_cut.proofs.EditLemmas.{length-bytes}
use Rattle.frame_cut.proofs.HeadFrontLemmas.{has_head}
use Rattle.trace_record.specs.Facts.{Facts, facts_of}
use Rattle.trace_record.specs.OfTrace.{record_of}
use Rattle.trace_record.specs.declared.record.Record.{Record}
use Rattle.live_reports.specs.Reports.{AreFew}
use Rattle.trace_record.specs.Packed.{record_in}
use Rattle.trace_record.specs.declared.packed_record.PackedRecord.{PackedRecord}
use Rattle.volume_records.specs.OfVolume.{records_of, numbers_of, IsOfFile}
use Rattle.volume_records.proofs.HeaderLemmas.{measured}
use Rattle.volume_records.proofs.RecordLemmas.{length-records}

-- a trace has no more samples than bytes
pub samples_within : (h : Head) (t : List ℕ) → IsTrace h t → sample_count h t ≤ length t
samples_within h t is =
    let n : ℕ = sample_count h t in
    let least : 1 * n ≤ width h.format * n = mul-le-mul_right n (width-positive h.format) in
    omega (arith, least, (measured h t is).whole)

-- nor have all traces together
all_within : (h : Head) (fields : Pairs) (ts : List (List ℕ)) → AllByRecursion (IsTrace h) ts → sum_by (λ (f : Facts). f.number) (map (record_of h fields) ts) ≤ length (concat ts)
all_within h fields [] all = omega arith
all_within h fields (t ∷ ts) all =
    omega (arith, sum_by-cons (λ (f : Facts). f.number) (record_of h fields t) (map (record_of h fields) ts), length-append t (concat ts), samples_within h t all.0, all_within h fields ts all.1)

-- the samples of records are those of their facts
samples-map : (rs : List Record) → sum_by (λ (r : Record). r.number) rs ≡ sum_by (λ (f : Facts). f.number) (map facts_of rs)
samples-map [] = refl
samples-map (r ∷ rs) =
    omega (arith, sum_by-cons (λ (f : Facts). f.number) (facts_of r) (map facts_of rs), sum_by-cons (λ (q : Record). q.number) r rs, samples-map rs)

-- the records of a file whose traces are counted in 32 bits are few
pub cut_is_few : (v : Volume) (fields : Pairs) (rs : List Record) → IsOfFile v → count_of v < 2 ^ 32 → map facts_of rs ≡ records_of v fields → AreFew rs
cut_is_few v fields rs (reading, limits, cut) few e =
    let same : sum_by (λ (r : Record). r.number) rs ≡ sum_by (λ (f : Facts). f.number) (records_of v fields) = samples-map rs ∙ ap (λ (fs : List Facts). sum_by (λ (f : Facts). f.number) fs) e in
    let within = all_within v.head fields v.traces (recursion_from_All (IsTrace v.head) v.traces cut.parts.traces) in
    let file = (has_head (bytes_of v) reading limits v.head cut.parts.head).small in
    record {
      records = omega (arith, few, length-records v fields rs e);
      samples = omega (arith, same, within, length-bytes v, file, limits.small);
    }

-- the parts into which a file is cut are a volume of a file
pub of_cut : (file : List ℕ) (reading : Reading) (limits : Limits) (v : Volume) → IsCut file reading limits v → IsOfFile v
of_cut file reading limits v cut = (reading, limits, subst (λ (bytes : List ℕ). IsCut bytes reading limits v) (sym cut.joined) cut)

-- all traces have no fewer bytes than the records that stand beside them tell samples
numbers_within : (ps : List PackedRecord) (ts : List (List ℕ)) → length ps ≡ length ts → ((j : ℕ) → j < length ts → get_or (numbers_of ps) j 0 ≤ length (get_or ts j []))
    → sum_by (λ (r : Record). r.number) (map record_in ps) ≤ length (concat ts)
numbers_within [] ts same within = omega arith
numbers_within (p ∷ ps) [] same within = absurd (omega arith)
numbers_within (p ∷ ps) (t ∷ ts) same within =
    omega (
      arith,
      sum_by-cons (λ (r : Record). r.number) (record_in p) (map record_in ps),
      length-append t (concat ts),
      within 0 (omega arith),
      numbers_within ps ts (omega arith) (λ j less. within (suc j) (omega arith)),
    )

-- so that the records of a small volume are few
pub numbers_are_few : (v : Volume) (ps : List PackedRecord) → length (bytes_of v) ≤ 2 ^ 40 → count_of v < 2 ^ 32 → length ps ≡ count_of v
    → ((j : ℕ) → j < count_of v → get_or (numbers_of ps) j 0 ≤ length (get_or v.traces j [])) → AreFew (map record_in ps)
numbers_are_few v ps small few same within =
    let all : sum_by (λ (r : Record). r.number) (map record_in ps) ≤ length (concat v.traces) = numbers_within ps v.traces same within in
    record {
      records = omega (arith, length-map ps record_in, few, same);
      samples = omega (arith, all, length-bytes v, small);
    }

-- one record more tells no more samples than its trace has bytes
pub numbers_more : (old new : List PackedRecord) (ts : List (List ℕ)) (k : ℕ) (packed : PackedRecord) (n : ℕ) → k < length old → new ≡ slice_set old k packed → (record_in packed).number ≡ n → n ≤ length (get_or ts k [])
    → ((j : ℕ) → j < k → get_or (numbers_of old) j 0 ≤ length (get_or ts j [])) → (j : ℕ) → j < k + 1 → get_or (numbers_of new) j 0 ≤ length (get_or ts j [])
numbers_more old new ts k packed n there put is few before =
    let number = λ (p : PackedRecord). (record_in p).number in
    let grew : numbers_of new ≡ slice_set (numbers_of old) k (number packed) = ap numbers_of put ∙ map-set number old k packed in
    let many : length (numbers_of old) ≡ length old = length-map old number in
    let here : get_or (numbers_of new) k 0 ≡ number packed = ap (λ (ns : List ℕ). get_or ns k 0) grew ∙ get_or-set_same (numbers_of old) k (number packed) 0 (omega (arith, many, there)) in
    below_more (λ (j : ℕ). get_or (numbers_of new) j 0 ≤ length (get_or ts j [])) k
    (λ (j : ℕ) (less : j < k).
    let apart : j ≡ k → ⊥ = λ (e : j ≡ k). omega (arith, e, less) in
    let other : get_or (numbers_of new) j 0 ≡ get_or (numbers_of old) j 0 = ap (λ (ns : List ℕ). get_or ns j 0) grew ∙ get_or-set_other (numbers_of old) k j (number packed) 0 apart in
    omega (arith, other, before j less))
    (omega (arith, here, is, few))
