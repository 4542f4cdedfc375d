-- The pass that makes the records.
use Rattle.std.proofs.Common.{◌≡◌, ℕ, ◌+◌, ◌-◌, ◌<◌, ◌≤◌, List, [], ◌∷◌, ◌++◌, length, take, drop, get_or, Some, sym, ap, ap₂, subst, ◌∙◌, arith}
use Rattle.std.specs.Prelude.{map, slice_get}
use Rattle.std.specs.List.{zip}
use borrow.Author.Count.{below_more}
use Rattle.std.proofs.lemmas.List.{length-map, length-drop, get_or-drop, get_or-map, get_or_append_left, get_or_push, map-append, take-map, take_more, take_all}
use Rattle.std.proofs.lemmas.Option.{get_or_from_slice_get, slice_get_within}
use Rattle.std.proofs.lemmas.Slice.Zip.{get_or-zip, length-zip}
use Rattle.field_map.specs.Pairs.{Pairs}
use Rattle.frame_cut.specs.Traces.{count_of, trace_at}
use Rattle.frame_cut.specs.Volume.{Volume}
use Rattle.trace_record.specs.Facts.{Facts, facts_of, with_samples_of}
use Rattle.trace_record.specs.OfTrace.{record_of}
use Rattle.trace_record.specs.declared.record.Record.{Record}
use Rattle.volume_records.specs.OfVolume.{records_of, headers_of}

-- the first items of what is made of each, with one more
first-more : {T U : Type 0} (f : T → U) (xs : List T) (n : ℕ) (d : T) → n < length xs → take (n + 1) (map f xs) ≡ take n (map f xs) ++ f (get_or xs n d) ∷ []
first-more f xs n d there =
    take-map f (n + 1) xs
    ∙ ap (map f) (take_more xs n d there)
    ∙ map-append f (take n xs) (get_or xs n d ∷ [])
    ∙ ap (λ l. l ++ f (get_or xs n d) ∷ []) (sym (take-map f n xs))

-- one record more
pub one_record_more : (v : Volume) (fields : Pairs) (n : ℕ) (old new : List Record) (r : Record) → n < count_of v → map facts_of old ≡ take n (records_of v fields) → facts_of r ≡ record_of v.head fields (trace_at v (n + 1)) → new ≡ old ++ r ∷ []
    → map facts_of new ≡ take (n + 1) (records_of v fields)
one_record_more v fields n old new r there e is grew =
    let place : n + 1 - 1 ≡ n = omega arith in
    let here : facts_of r ≡ record_of v.head fields (get_or v.traces n []) = is ∙ ap (λ i. record_of v.head fields (get_or v.traces i [])) place in
    ap (map facts_of) grew
    ∙ map-append facts_of old (r ∷ [])
    ∙ ap₂ (λ (fs : List Facts) (f : Facts). fs ++ f ∷ []) e here
    ∙ sym (first-more (record_of v.head fields) v.traces n [] there)

-- one record more of those from a place on
pub one_record_behind : (v w : Volume) (fields : Pairs) (p n q : ℕ) (old new : List Record) (r : Record) → w ≡ v → p + n < count_of v → q ≡ p + n + 1 → map facts_of old ≡ take n (drop p (records_of v fields))
    → facts_of r ≡ record_of w.head fields (trace_at w q) → new ≡ old ++ r ∷ [] → map facts_of new ≡ take (n + 1) (drop p (records_of v fields))
one_record_behind v w fields p n q old new r same there place e is grew =
    let all : List Facts = records_of v fields in
    let made = record_of v.head fields in
    let spot : q - 1 ≡ p + n = omega (arith, place) in
    let here : facts_of r ≡ get_or (drop p all) n (facts_of r) =
    is
    ∙ ap (λ (u : Volume). record_of u.head fields (trace_at u q)) same
    ∙ ap (λ k. made (get_or v.traces k [])) spot
    ∙ sym (get_or-map made v.traces (p + n) [] (facts_of r) there)
    ∙ sym (get_or-drop p all n (facts_of r)) in
    ap (map facts_of) grew
    ∙ map-append facts_of old (r ∷ [])
    ∙ ap₂ (λ (fs : List Facts) (f : Facts). fs ++ f ∷ []) e here
    ∙ sym (take_more (drop p all) n (facts_of r) (omega (arith, there, length-drop p all, length-map v.traces made)))

-- and it tells no more samples than its trace has bytes
pub one_few_more : (v w : Volume) (a n : ℕ) (old new : List Record) (r : Record) → w ≡ v → length old ≡ n → new ≡ old ++ r ∷ [] → r.number ≤ length (trace_at w (a + n))
    → ((j : ℕ) → j < n → get_or (map (λ (q : Record). q.number) old) j 0 ≤ length (trace_at v (a + j))) → (j : ℕ) → j < n + 1 → get_or (map (λ (q : Record). q.number) new) j 0 ≤ length (trace_at v (a + j))
one_few_more v w a n old new r same count grew few before =
    let number = λ (q : Record). q.number in
    let numbers : List ℕ = map number old in
    let long : length numbers ≡ n = length-map old number ∙ count in
    let all : map number new ≡ numbers ++ r.number ∷ [] = ap (map number) grew ∙ map-append number old (r ∷ []) in
    let last : get_or (map number new) n 0 ≡ r.number = ap (λ (ns : List ℕ). get_or ns n 0) all ∙ get_or_push numbers r.number 0 n long in
    let here : r.number ≤ length (trace_at v (a + n)) = subst (λ (u : Volume). r.number ≤ length (trace_at u (a + n))) same few in
    below_more (λ (j : ℕ). get_or (map number new) j 0 ≤ length (trace_at v (a + j))) n
    (λ (j : ℕ) (less : j < n).
    let other : get_or (map number new) j 0 ≡ get_or numbers j 0 = ap (λ (ns : List ℕ). get_or ns j 0) all ∙ get_or_append_left numbers (r.number ∷ []) 0 j (omega (arith, less, long)) in
    omega (arith, other, before j less))
    (omega (arith, last, here))

-- and all of them
pub all_records : (v : Volume) (fields : Pairs) (n : ℕ) (rs : List Record) → count_of v ≤ n → map facts_of rs ≡ take n (records_of v fields) → map facts_of rs ≡ records_of v fields
all_records v fields n rs whole e = e ∙ take_all n (records_of v fields) (omega (arith, length-map v.traces (record_of v.head fields), whole))

-- one record more of the headers of a trace, with the samples of the record that is held at its place
pub one_header_more : (v w : Volume) (fields : Pairs) (known : List Record) (p n q : ℕ) (old new : List Record) (r held : Record) → w ≡ v → p + n < count_of v → slice_get known (p + n) ≡ Some held → q ≡ p + n + 1
    → map facts_of old ≡ take n (drop p (headers_of v fields (map facts_of known))) → facts_of r ≡ with_samples_of (record_of w.head fields (trace_at w q)) (facts_of held) → new ≡ old ++ r ∷ []
    → map facts_of new ≡ take (n + 1) (drop p (headers_of v fields (map facts_of known)))
one_header_more v w fields known p n q old new r held same there known_there place e is grew =
    let i : ℕ = p + n in
    let fs : List Facts = map facts_of known in
    let made = λ (x : List ℕ × Facts). with_samples_of (record_of v.head fields x.0) x.1 in
    let h : List Facts = headers_of v fields fs in
    let inside : i < length known = slice_get_within known i held known_there in
    let many : length fs ≡ length known = length-map known facts_of in
    let among : i < length fs = omega arith in
    let long : i < length (zip v.traces fs) = omega (arith, length-zip v.traces fs) in
    let there_too : n < length (drop p h) = omega (arith, length-drop p h, length-map (zip v.traces fs) made) in
    let spot : q - 1 ≡ i = omega arith in
    let fact : get_or fs i (facts_of held) ≡ facts_of held = get_or-map facts_of known i held (facts_of held) inside ∙ ap facts_of (get_or_from_slice_get known i held held known_there) in
    let here : facts_of r ≡ get_or (drop p h) n (facts_of r) =
    is
    ∙ ap (λ (u : Volume). with_samples_of (record_of u.head fields (trace_at u q)) (facts_of held)) same
    ∙ ap (λ k. with_samples_of (record_of v.head fields (get_or v.traces k [])) (facts_of held)) spot
    ∙ ap (λ (f : Facts). with_samples_of (record_of v.head fields (get_or v.traces i [])) f) (sym fact)
    ∙ ap made (sym (get_or-zip v.traces fs i ([], facts_of held) there among))
    ∙ sym (get_or-map made (zip v.traces fs) i ([], facts_of held) (facts_of r) long)
    ∙ sym (get_or-drop p h n (facts_of r)) in
    ap (map facts_of) grew
    ∙ map-append facts_of old (r ∷ [])
    ∙ ap₂ (λ (l : List Facts) (f : Facts). l ++ f ∷ []) e here
    ∙ sym (take_more (drop p h) n (facts_of r) there_too)

-- one number of samples more, which is that of the record that is held at its place
pub one_number_more : (known : List Record) (p n : ℕ) (old new : List Record) (r held : Record) → slice_get known (p + n) ≡ Some held → r.number ≡ held.number → new ≡ old ++ r ∷ []
    → map (λ (q : Record). q.number) old ≡ take n (drop p (map (λ (q : Record). q.number) known)) → map (λ (q : Record). q.number) new ≡ take (n + 1) (drop p (map (λ (q : Record). q.number) known))
one_number_more known p n old new r held there is grew e =
    let number = λ (q : Record). q.number in
    let inside : p + n < length known = slice_get_within known (p + n) held there in
    let among : n < length (drop p (map number known)) = omega (arith, length-drop p (map number known), length-map known number) in
    let here : r.number ≡ get_or (drop p (map number known)) n 0 =
    is ∙ ap number (sym (get_or_from_slice_get known (p + n) held held there)) ∙ sym (get_or-map number known (p + n) held 0 inside) ∙ sym (get_or-drop p (map number known) n 0) in
    ap (map number) grew
    ∙ map-append number old (r ∷ [])
    ∙ ap₂ (λ (l : List ℕ) (k : ℕ). l ++ k ∷ []) e here
    ∙ sym (take_more (drop p (map number known)) n 0 among)
