-- The records of a volume after bytes were laid over the headers of traces that follow one another, so many over each.
use Rattle.std.proofs.Common.{◌≡◌, ℕ, zero, suc, ◌+◌, ◌*◌, ◌-◌, ◌/◌, ◌<◌, ◌≤◌, List, [], ◌∷◌, ◌++◌, length, take, drop, get_or, refl, sym, ap, ap₂, subst, ◌∙◌, arith}
use Rattle.std.specs.Prelude.{map}
use Rattle.std.specs.List.{zip, AllByRecursion}
use Rattle.std.proofs.Math.Nat.{mod-eq-sub-div-mul, div-mul-le_self}
use Rattle.std.proofs.lemmas.List.{length-map, length-drop, length-take-le, map-append, append_assoc, take-map, drop-map, drop-drop, take-append-drop}
use Rattle.std.proofs.lemmas.List.Elements.{recursion_from_All}
use Rattle.field_map.specs.Pairs.{Pairs}
use Rattle.frame_cut.specs.declared.file_head.Head.{Head}
use Rattle.frame_cut.specs.Cuts.{IsTrace}
use Rattle.frame_cut.specs.Frames.{extensions_of}
use Rattle.frame_cut.specs.Parts.{put_each_at, with_each}
use Rattle.frame_cut.specs.Splice.{splice}
use Rattle.frame_cut.specs.Traces.{count_of}
use Rattle.frame_cut.specs.Volume.{Volume}
use Rattle.trace_store.specs.Each.{part_of}
use Rattle.trace_view.specs.Values.{samples_at}
use Rattle.trace_record.specs.Facts.{Facts, facts_of, with_samples_of}
use Rattle.trace_record.specs.OfTrace.{record_of}
use Rattle.trace_record.specs.declared.record.Record.{Record}
use Rattle.live_reports.specs.Exchanged.{with_records}
use Rattle.volume_records.specs.OfVolume.{records_of, headers_of, AreHeaderParts}
use Rattle.volume_records.proofs.HeaderLemmas.{record-kept}

-- ---- the traces that stay, and those that are changed

-- there are as many
pub length-put_each : (ts : List (List ℕ)) (p at size : ℕ) (bytes : List ℕ) → length (put_each_at ts p at size bytes) ≡ length ts
length-put_each [] p at size bytes = refl
length-put_each (t ∷ ts) (suc p) at size bytes = ap suc (length-put_each ts p at size bytes)
length-put_each (t ∷ ts) zero at size [] = refl
length-put_each (t ∷ ts) zero at size (b ∷ bs) = ap suc (length-put_each ts zero at size (drop size (b ∷ bs)))

-- those in front of the first one stay
put_each-front : (ts : List (List ℕ)) (p at size : ℕ) (bytes : List ℕ) → take p (put_each_at ts p at size bytes) ≡ take p ts
put_each-front [] p at size bytes = refl
put_each-front (t ∷ ts) zero at size bytes = refl
put_each-front (t ∷ ts) (suc p) at size bytes = ap (λ (l : List (List ℕ)). t ∷ l) (put_each-front ts p at size bytes)

-- the rest of bytes that are so many parts
parts-left : (bytes : List ℕ) (size count : ℕ) → length bytes ≡ suc count * size → length (drop size bytes) ≡ count * size
parts-left bytes size count long = omega (arith, length-drop size bytes)

-- those behind the last one stay
put_each-behind : (ts : List (List ℕ)) (p at size count n : ℕ) (bytes : List ℕ) → length bytes ≡ count * size → n ≡ p + count → drop n (put_each_at ts p at size bytes) ≡ drop n ts
put_each-behind [] p at size count n bytes long e = refl
put_each-behind (t ∷ ts) (suc p) at size count zero bytes long e = absurd (omega arith)
put_each-behind (t ∷ ts) (suc p) at size count (suc n) bytes long e = put_each-behind ts p at size count n bytes long (omega arith)
put_each-behind (t ∷ ts) zero at size count n [] long e = refl
put_each-behind (t ∷ ts) zero at size zero n (b ∷ bs) long e = absurd (omega arith)
put_each-behind (t ∷ ts) zero at size (suc count) zero (b ∷ bs) long e = absurd (omega arith)
put_each-behind (t ∷ ts) zero at size (suc count) (suc n) (b ∷ bs) long e =
    put_each-behind ts zero at size count n (drop size (b ∷ bs)) (parts-left (b ∷ bs) size count long) (omega arith)

-- the record of each trace with the samples of the facts at its place
abbrev headers_over : Head → Pairs → List (List ℕ) → List Facts → List Facts
headers_over h fields ts known = map (λ p. with_samples_of (record_of h fields p.0) p.1) (zip ts known)

-- traces that stay have the records that they had
headers-same : (h : Head) (fields : Pairs) (ts : List (List ℕ)) → headers_over h fields ts (map (record_of h fields) ts) ≡ map (record_of h fields) ts
headers-same h fields [] = refl
headers-same h fields (t ∷ ts) = ap (λ (fs : List Facts). record_of h fields t ∷ fs) (headers-same h fields ts)

-- traces over whose headers bytes are laid, which leave them as many header extensions, have the samples that they had
headers-put_each : (h : Head) (fields : Pairs) (ts : List (List ℕ)) (p at size count : ℕ) (bytes : List ℕ) → 0 < size → length bytes ≡ count * size → AllByRecursion (IsTrace h) ts
    → ((k i : ℕ) → k < count → i ≡ p + k → i < length ts → at + size ≤ samples_at h (get_or ts i []))
    → ((k i j : ℕ) → k < count → i ≡ p + k → j ≡ k * size → i < length ts → IsTrace h (splice (get_or ts i []) at size (take size (drop j bytes))))
    → ((k i j : ℕ) → k < count → i ≡ p + k → j ≡ k * size → i < length ts → extensions_of h (splice (get_or ts i []) at size (take size (drop j bytes))) ≡ extensions_of h (get_or ts i []))
    → headers_over h fields (put_each_at ts p at size bytes) (map (record_of h fields) ts) ≡ map (record_of h fields) (put_each_at ts p at size bytes)
headers-put_each h fields [] p at size count bytes some long all front whole kept = refl
headers-put_each h fields (t ∷ ts) (suc p) at size count bytes some long all front whole kept =
    ap (λ (fs : List Facts). record_of h fields t ∷ fs)
    (headers-put_each h fields ts p at size count bytes some long all.1
    (λ k i less e inside. front k (suc i) less (omega arith) (omega arith))
    (λ k i j less e f inside. whole k (suc i) j less (omega arith) f (omega arith))
    (λ k i j less e f inside. kept k (suc i) j less (omega arith) f (omega arith)))
headers-put_each h fields (t ∷ ts) zero at size count [] some long all front whole kept = headers-same h fields (t ∷ ts)
headers-put_each h fields (t ∷ ts) zero at size zero (b ∷ bs) some long all front whole kept = absurd (omega arith)
headers-put_each h fields (t ∷ ts) zero at size (suc count) (b ∷ bs) some long all front whole kept =
    let bytes : List ℕ = b ∷ bs in
    let new : List ℕ = take size bytes in
    let u : List ℕ = splice t at size new in
    let full : length new ≡ size = length-take-le size bytes (omega arith) in
    let inside : at + size ≤ samples_at h t = front 0 0 (omega arith) (omega arith) (omega arith) in
    let is : u ≡ splice t at (length new) new = ap (λ n. splice t at n new) (sym full) in
    let here : with_samples_of (record_of h fields u) (record_of h fields t) ≡ record_of h fields u =
    record-kept h fields t u new at all.0 (whole 0 0 0 (omega arith) (omega arith) (omega arith) (omega arith)) is (omega (arith, full, inside))
    (kept 0 0 0 (omega arith) (omega arith) (omega arith) (omega arith)) in
    ap₂ (λ (f : Facts) (fs : List Facts). f ∷ fs) here
    (headers-put_each h fields ts zero at size count (drop size bytes) some (parts-left bytes size count long) all.1
    (λ k i less e within. front (suc k) (suc i) (omega arith) (omega arith) (omega arith))
    (λ k i j less e f within.
    subst (λ (l : List ℕ). IsTrace h (splice (get_or ts i []) at size (take size l))) (sym (drop-drop j size bytes))
    (whole (suc k) (suc i) (size + j) (omega arith) (omega arith) (omega arith) (omega arith)))
    (λ k i j less e f within.
    subst (λ (l : List ℕ). extensions_of h (splice (get_or ts i []) at size (take size l)) ≡ extensions_of h (get_or ts i [])) (sym (drop-drop j size bytes))
    (kept (suc k) (suc i) (size + j) (omega arith) (omega arith) (omega arith) (omega arith))))

-- ---- the numbers of samples

-- facts with the samples of others have their numbers of samples
numbers-headers : (h : Head) (fields : Pairs) (ts : List (List ℕ)) (known : List Facts) → length ts ≡ length known → map (λ (f : Facts). f.number) (headers_over h fields ts known) ≡ map (λ (f : Facts). f.number) known
numbers-headers h fields [] [] same = refl
numbers-headers h fields [] (f ∷ fs) same = absurd (omega arith)
numbers-headers h fields (t ∷ ts) [] same = absurd (omega arith)
numbers-headers h fields (t ∷ ts) (f ∷ fs) same = ap (λ (ns : List ℕ). f.number ∷ ns) (numbers-headers h fields ts fs (omega arith))

numbers-facts : (rs : List Record) → map (λ (r : Record). r.number) rs ≡ map (λ (f : Facts). f.number) (map facts_of rs)
numbers-facts [] = refl
numbers-facts (r ∷ rs) = ap (λ (ns : List ℕ). r.number ∷ ns) (numbers-facts rs)

-- ---- a list with a part put in its place again

pub part-again : {T : Type 0} (xs : List T) (p n : ℕ) → take p xs ++ take n (drop p xs) ++ drop (p + n) xs ≡ xs
part-again xs p n =
    append_assoc (take p xs) (take n (drop p xs)) (drop (p + n) xs)
    ∙ ap (λ l. take p xs ++ (take n (drop p xs) ++ l)) (sym (drop-drop n p xs))
    ∙ ap (λ l. take p xs ++ l) (take-append-drop n (drop p xs))
    ∙ take-append-drop p xs

-- what is made of each record, where new ones stand in for others
pub map-with_records : {T : Type 0} (f : Record → T) (rs : List Record) (p n : ℕ) (new : List Record) → length new ≡ n → map f (with_records rs p new) ≡ take p (map f rs) ++ map f new ++ drop (p + n) (map f rs)
map-with_records f rs p n new long =
    map-append f (take p rs ++ new) (drop (p + length new) rs)
    ∙ ap (λ l. l ++ map f (drop (p + length new) rs)) (map-append f (take p rs) new)
    ∙ ap (λ l. l ++ map f new ++ map f (drop (p + length new) rs)) (sym (take-map f p rs))
    ∙ ap (λ l. take p (map f rs) ++ map f new ++ l) (sym (drop-map f (p + length new) rs))
    ∙ ap (λ i. take p (map f rs) ++ map f new ++ drop (p + i) (map f rs)) long

-- ---- the records

module _ (v : Volume) (fields : Pairs) (a at size : ℕ) (bytes : List ℕ) (rs new : List Record) (parts : AreHeaderParts v a at size bytes) (e : map facts_of rs ≡ records_of v fields)
    (made : map facts_of new ≡ take (length bytes / size) (drop (a - 1) (headers_of (with_each v a at size bytes) fields (map facts_of rs)))) where
  abbrev count : ℕ
  count = length bytes / size

  -- the bytes are so many parts
  whole_parts : length bytes ≡ count * size
  whole_parts = let exact = parts.exact in omega (arith, exact, mod-eq-sub-div-mul (length bytes) size, div-mul-le_self (length bytes) size)

  -- each trace has the samples that it had
  headers-with_each : headers_of (with_each v a at size bytes) fields (records_of v fields) ≡ records_of (with_each v a at size bytes) fields
  headers-with_each =
      headers-put_each v.head fields v.traces (a - 1) at size count bytes parts.some whole_parts (recursion_from_All (IsTrace v.head) v.traces parts.traces)
      (λ k i less e inside. subst (λ q. at + size ≤ samples_at v.head (get_or v.traces q [])) (sym e) (parts.front k less))
      (λ k i j less e f inside. subst (λ q. IsTrace v.head (splice (get_or v.traces i []) at size (take size (drop q bytes)))) (sym f)
      (subst (λ q. IsTrace v.head (splice (get_or v.traces q []) at size (part_of bytes size k))) (sym e) (parts.whole k less)))
      (λ k i j less e f inside. subst (λ q. extensions_of v.head (splice (get_or v.traces i []) at size (take size (drop q bytes))) ≡ extensions_of v.head (get_or v.traces i [])) (sym f)
      (subst (λ q. extensions_of v.head (splice (get_or v.traces q []) at size (part_of bytes size k)) ≡ extensions_of v.head (get_or v.traces q [])) (sym e) (parts.kept k less)))

  headers : headers_of (with_each v a at size bytes) fields (map facts_of rs) ≡ records_of (with_each v a at size bytes) fields
  headers = ap (λ (fs : List Facts). headers_of (with_each v a at size bytes) fields fs) e ∙ headers-with_each

  -- the records of their traces
  pub made_so : map facts_of new ≡ take count (drop (a - 1) (records_of (with_each v a at size bytes) fields))
  made_so = made ∙ ap (λ (fs : List Facts). take count (drop (a - 1) fs)) headers

  -- there is a new record for each part
  pub length-with_each : length new ≡ count
  length-with_each =
      let w : List Facts = records_of (with_each v a at size bytes) fields in
      let many : length w ≡ count_of v = length-map (put_each_at v.traces (a - 1) at size bytes) (record_of v.head fields) ∙ length-put_each v.traces (a - 1) at size bytes in
      let last = parts.last in
      sym (length-map new facts_of) ∙ ap (λ (fs : List Facts). length fs) made_so ∙ length-take-le count (drop (a - 1) w) (omega (arith, many, last, length-drop (a - 1) w))

  -- the new records stand in for the old ones
  pub records-with_each : map facts_of (with_records rs (a - 1) new) ≡ records_of (with_each v a at size bytes) fields
  records-with_each =
      let p : ℕ = a - 1 in
      let made_of = record_of v.head fields in
      let us : List (List ℕ) = put_each_at v.traces p at size bytes in
      let w : List Facts = map made_of us in
      let before : take p (map facts_of rs) ≡ take p w =
      ap (λ (fs : List Facts). take p fs) e ∙ take-map made_of p v.traces ∙ ap (λ (ts : List (List ℕ)). map made_of ts) (sym (put_each-front v.traces p at size bytes)) ∙ sym (take-map made_of p us) in
      let after : drop (p + count) (map facts_of rs) ≡ drop (p + count) w =
      ap (λ (fs : List Facts). drop (p + count) fs) e ∙ drop-map made_of (p + count) v.traces
      ∙ ap (λ (ts : List (List ℕ)). map made_of ts) (sym (put_each-behind v.traces p at size count (p + count) bytes whole_parts refl)) ∙ sym (drop-map made_of (p + count) us) in
      map-with_records facts_of rs p count new length-with_each
      ∙ ap₂ (λ (l m : List Facts). l ++ map facts_of new ++ m) before after
      ∙ ap (λ (l : List Facts). take p w ++ l ++ drop (p + count) w) made_so
      ∙ part-again w p count
