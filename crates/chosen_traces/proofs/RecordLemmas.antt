-- Conditions on the records of traces, and the records in order.
use Rattle.std.proofs.Common.{◌≡◌, ℕ, zero, suc, ◌+◌, ◌-◌, ◌<◌, ◌≤◌, ◌==◌, Bool, true, false, ◌&&◌, List, [], ◌∷◌, ◌++◌, length, map, drop, get_or, Option, Some, None, pos, refl, sym, ap, ap₂, subst, ◌∙◌, arith}
use Rattle.std.specs.Prelude.{slice_get, option_map, option_and_then, nat_le, IfSome}
use Rattle.std.specs.List.{list_all}
use Rattle.std.specs.Option.{MatchOption, option_map_or}
use Rattle.std.proofs.lemmas.Bool.{and_parts, and_from, eqb-true}
use Rattle.std.proofs.lemmas.Bool.Decides.{nat_tests}
use Rattle.std.proofs.Math.ListN.{drop_of_length-le}
use Rattle.std.proofs.lemmas.List.{drop_more, length-map}
use Rattle.std.proofs.lemmas.List.Folds.{list_all-append}
use Rattle.std.proofs.lemmas.Option.{get_or_from_slice_get, slice_get-map}
use Rattle.field_map.specs.declared.place.Place.{Place}
use Rattle.field_map.specs.Pairs.{Pairs, place_of, signed_at}
use Rattle.frame_cut.specs.declared.file_head.Head.{Head}
use Rattle.frame_cut.specs.Frames.{extensions_of, header_bytes}
use Rattle.frame_cut.specs.Traces.{count_of, trace_at}
use Rattle.frame_cut.specs.Volume.{Volume}
use Rattle.num_order.specs.Number.{num}
use Rattle.trace_view.specs.Values.{has_floats, has_place, is_in_header, value_at, value_of}
use Rattle.trace_record.specs.declared.packed_record.PackedRecord.{PackedRecord}
use Rattle.trace_record.specs.declared.record.Record.{Record}
use Rattle.trace_record.specs.Facts.{Facts, facts_of}
use Rattle.trace_record.specs.OfTrace.{bound_value, record_of}
use Rattle.trace_record.specs.Packed.{record_in}
use Rattle.edit_overlay.specs.CountedVolume.{CountedVolume}
use Rattle.bench_rules.specs.declared.test.Test.{Test}
use Rattle.bench_rules.specs.Conditions.{meets, test_in}
use Rattle.bench_rules.specs.SampleFacts.{amplitudes_at}
use Rattle.bench_rules.specs.RecordNumbers.{is_one_number}
use Rattle.bench_rules.specs.Live.{AreRecordsOf}
use Rattle.bench_rules.specs.ManyTraces.{each_of}
use Rattle.bench_rules.specs.State.{State}
use Rattle.bench_rules.proofs.TestLemmas.{goes_on, said}
use Rattle.chosen_traces.specs.declared.record_tests.RecordTest.{RecordTest}
use Rattle.chosen_traces.specs.RecordTests.{amplitudes_beside, hold, holds, AreTestsOf, HasRecords, IsSideOf, IsTestOf}

-- ---- one number

-- the parts of one place
record AreOne (place other : Place) : Type 0 where
  inside : is_in_header place ≡ true
  main : place.extension ≡ 0
  other_main : other.extension ≡ 0
  byte : place.byte ≡ other.byte
  size : place.kind.size ≡ other.kind.size
  signed : place.kind.signed ≡ true
  other_signed : other.kind.signed ≡ true

seven : (a b c d e f g : Bool) → (a && b && c && d && e && f && g) ≡ true → (a ≡ true) × (b ≡ true) × (c ≡ true) × (d ≡ true) × (e ≡ true) × (f ≡ true) × (g ≡ true)
seven a b c d e f g x =
    let p = and_parts (a && b && c && d && e && f) g x in
    let q = and_parts (a && b && c && d && e) f p.0 in
    let r = and_parts (a && b && c && d) e q.0 in
    let s = and_parts (a && b && c) d r.0 in
    let t = and_parts (a && b) c s.0 in
    let u = and_parts a b t.0 in
    (u.0, u.1, t.1, s.1, r.1, q.1, p.1)

are-one : (place other : Place) → is_one_number place other ≡ true → AreOne place other
are-one place other e =
    let all = seven (is_in_header place) (place.extension == 0) (other.extension == 0) (place.byte == other.byte) (place.kind.size == other.kind.size) place.kind.signed other.kind.signed e in
    record {
      inside = all.0;
      main = eqb-true place.extension 0 all.1;
      other_main = eqb-true other.extension 0 all.2;
      byte = eqb-true place.byte other.byte all.3;
      size = eqb-true place.kind.size other.kind.size all.4;
      signed = all.5;
      other_signed = all.6;
    }

zero-least : (n : ℕ) → nat_le 0 n ≡ true
zero-least n = grind (arith, nat_tests)

-- each trace has the place, and there the number of the other
number-there : (h : Head) (t : List ℕ) (place other : Place) → is_one_number place other ≡ true → value_of h t place ≡ Some (value_at h t other)
number-there h t place other e =
    let one = are-one place other e in
    let main = one.main ∙ sym one.other_main in
    let signed = one.signed ∙ sym one.other_signed in
    let byte = one.byte in
    let size = one.size in
    let same : value_at h t place ≡ value_at h t other = λ i. num h.order (record { size = size i; signed = signed i }) (header_bytes (main i) (byte i) (size i) t) in
    let has : has_place h t place ≡ true = and_from (is_in_header place) (nat_le place.extension (extensions_of h t)) one.inside (ap (λ (n : ℕ). nat_le n (extensions_of h t)) one.main ∙ zero-least (extensions_of h t)) in
    rw has (ap (λ x. Some x) same)

-- the number of a name
pub named_there : (h : Head) (fields : Pairs) (t name : List ℕ) (place other : Place) → place_of fields name ≡ Some other → is_one_number place other ≡ true → value_of h t place ≡ Some (bound_value h fields t name)
named_there h fields t name place other at e = number-there h t place other e ∙ ap (λ o. Some (option_map_or (value_at h t) o (pos 0))) (sym at)

-- the sequence number
pub sequence_there : (h : Head) (t : List ℕ) (place : Place) → is_one_number place (signed_at 5 4) ≡ true → value_of h t place ≡ Some (value_at h t (signed_at 5 4))
sequence_there h t place e = number-there h t place (signed_at 5 4) e

-- ---- conditions

pub one_test : (fields : Pairs) (test : Test) (told : RecordTest) → told.comparison ≡ test.comparison → IsSideOf fields test.left told.left → IsSideOf fields test.right told.right → IsTestOf fields test told
one_test fields test told same left right = λ h t. rw (left h t, right h t, same) refl

-- one more
pub hold-more : (floats : Bool) (f : Facts) (told made : List RecordTest) (one : RecordTest) → made ≡ told ++ one ∷ [] → hold floats f made ≡ (hold floats f told && holds floats f one)
hold-more floats f told made one pushed = ap (λ xs. hold floats f xs) pushed ∙ list_all-append (holds floats f) told (one ∷ []) ∙ ap (λ b. hold floats f told && b) (and-all (holds floats f one))
  where
    and-all : (b : Bool) → (b && true) ≡ b
    and-all true = refl
    and-all false = refl

-- the conditions so far, with one more
pub tests_more : (fields : Pairs) (tests : List Test) (told made : List RecordTest) (i : ℕ) (d : Test) (one : RecordTest) → i < length tests → IsTestOf fields (get_or tests i d) one → made ≡ told ++ one ∷ []
    → ((h : Head) (t : List ℕ) → meets h t tests ≡ said (hold (has_floats h) (record_of h fields t) told) (each_of (test_in h t) (drop i tests)))
    → (h : Head) (t : List ℕ) → meets h t tests ≡ said (hold (has_floats h) (record_of h fields t) made) (each_of (test_in h t) (drop (i + 1) tests))
tests_more fields tests told made i d one below is pushed far = λ h t.
    goes_on (test_in h t) tests i d (hold (has_floats h) (record_of h fields t) told) (holds (has_floats h) (record_of h fields t) one) (meets h t tests) below (sym (is h t)) (far h t)
    ∙ ap (λ (b : Bool). said b (each_of (test_in h t) (drop (i + 1) tests))) (sym (hold-more (has_floats h) (record_of h fields t) told made one pushed))

-- each item so far is told
pub told_more : {X : Type 0} (p : X → Bool) (xs : List X) (i : ℕ) (d : X) → i < length xs → p (get_or xs i d) ≡ true → list_all p xs ≡ list_all p (drop i xs) → list_all p xs ≡ list_all p (drop (i + 1) xs)
told_more p xs i d below e far = far ∙ ap (λ ys. list_all p ys) (drop_more xs i d below) ∙ ap (λ b. b && list_all p (drop (i + 1) xs)) e

-- one is not
pub told_stops : {X : Type 0} (p : X → Bool) (xs : List X) (i : ℕ) (d : X) → i < length xs → p (get_or xs i d) ≡ false → list_all p xs ≡ list_all p (drop i xs) → list_all p xs ≡ false
told_stops p xs i d below e far = far ∙ ap (λ ys. list_all p ys) (drop_more xs i d below) ∙ ap (λ b. b && list_all p (drop (i + 1) xs)) e

-- all are
pub told_ends : {X : Type 0} (p : X → Bool) (xs : List X) (i : ℕ) → length xs ≤ i → list_all p xs ≡ list_all p (drop i xs) → list_all p xs ≡ true
told_ends p xs i past far = far ∙ ap (λ ys. list_all p ys) (drop_of_length-le xs past)

-- ---- records in order

-- what is given of a list and left of it, from a place on
abbrev Given : List Record → ℕ → Option Record → List Record → Type 0
Given records place given left = MatchOption given ((drop place records ≡ []) × (left ≡ [])) (λ next. drop place records ≡ next ∷ left)

-- the first of those from a place on is the one at the place
pub given_is : (records : List Record) (place : ℕ) (given : Option Record) (left : List Record) → Given records place given left → given ≡ slice_get records place
given_is [] place None left told = refl
given_is [] zero (Some next) left told = absurd cc
given_is [] (suc place) (Some next) left told = absurd cc
given_is (first ∷ rest) zero None left told = let none : first ∷ rest ≡ [] = told.0 in absurd cc
given_is (first ∷ rest) zero (Some next) left told = let same : first ≡ next = cc in ap Some (sym same)
given_is (first ∷ rest) (suc place) given left told = given_is rest place given left told

-- and the others are those from the next place on
pub left_is : (records : List Record) (place : ℕ) (given : Option Record) (left : List Record) → Given records place given left → left ≡ drop (place + 1) records
left_is [] place None left told = let at : place + 1 ≡ suc place = omega arith in rw at told.1
left_is [] zero (Some next) left told = absurd cc
left_is [] (suc place) (Some next) left told = absurd cc
left_is (first ∷ rest) zero None left told = let none : first ∷ rest ≡ [] = told.0 in absurd cc
left_is (first ∷ rest) zero (Some next) left told = let same : rest ≡ left = cc in sym same
left_is (first ∷ rest) (suc place) given left told =
    let at : suc (place + 1) ≡ suc place + 1 = omega arith in
    left_is rest place given left told ∙ ap (λ (k : ℕ). drop k (first ∷ rest)) at

-- the same from the list that is left
pub given_from : (records before : List Record) (place : ℕ) (given : Option Record) (left : List Record) → before ≡ drop place records → MatchOption given ((before ≡ []) × (left ≡ [])) (λ next. before ≡ next ∷ left) → Given records place given left
given_from records before place given left same told = subst (λ (all : List Record). MatchOption given ((all ≡ []) × (left ≡ [])) (λ next. all ≡ next ∷ left)) same told

-- what is said of the value that is there
pub if_some : {X : Type 0} (P : X → Type 0) (o : Option X) (x : X) → o ≡ Some x → IfSome o P → P x
if_some P None x e p = absurd cc
if_some P (Some y) x e p = subst P (some-value y x e) p
  where
    some-value : {X : Type 0} (y x : X) → (let o : Option X = Some y in o) ≡ Some x → y ≡ x
    some-value y x e = cc

-- ---- the record of a trace

some-is : {X : Type 0} (x y : X) → (let o : Option X = Some x in o) ≡ Some y → x ≡ y
some-is x y e = cc

module _ (o : CountedVolume PackedRecord) (fields : Pairs) (beside : HasRecords o fields) where
  -- the trace of a record
  record IsBeside (k p : ℕ) (r : Record) : Type 0 where
    bytes : List ℕ
    record_is : record_of o.volume.head fields bytes ≡ facts_of r
    trace : trace_at o.volume p ≡ bytes

  beside-it : (k p : ℕ) (r : Record) → slice_get (map record_in o.payloads) k ≡ Some r → p - 1 ≡ k → IsBeside k p r
  beside-it k p r at from-one =
      let here : slice_get (map (record_of o.volume.head fields) o.volume.traces) k ≡ Some (facts_of r) =
      ap (λ (fs : List Facts). slice_get fs k) (sym beside) ∙ slice_get-map facts_of (map record_in o.payloads) k ∙ ap (λ (x : Option Record). option_map facts_of x) at in
      by (slice_get o.volume.traces k) refl (sym (slice_get-map (record_of o.volume.head fields) o.volume.traces k) ∙ here)
    where
      by : (x : Option (List ℕ)) → slice_get o.volume.traces k ≡ x → option_map (record_of o.volume.head fields) x ≡ Some (facts_of r) → IsBeside k p r
      by None e f = absurd cc
      by (Some t) e f = record {
        bytes = t;
        record_is = some-is (record_of o.volume.head fields t) (facts_of r) f;
        trace = ap (λ (i : ℕ). get_or o.volume.traces i []) from-one ∙ get_or_from_slice_get o.volume.traces k t [] e;
      }

  -- it tells whether the trace meets the conditions
  pub met : (conditions : List Test) (told : List RecordTest) (floats : Bool) (k p : ℕ) (r : Record) → floats ≡ has_floats o.volume.head → AreTestsOf fields conditions told → slice_get (map record_in o.payloads) k ≡ Some r → p ≡ k + 1
      → Some (hold floats (facts_of r) told) ≡ meets o.volume.head (trace_at o.volume p) conditions
  met conditions told floats k p r same tests at next =
      let one = beside-it k p r at (omega (arith, next)) in
      ap (λ (g : Facts). Some (hold floats g told)) (sym one.record_is)
      ∙ ap (λ (b : Bool). Some (hold b (record_of o.volume.head fields one.bytes) told)) same
      ∙ sym (tests o.volume.head one.bytes)
      ∙ ap (λ (u : List ℕ). meets o.volume.head u conditions) (sym one.trace)

  -- each trace has one
  pub none_lacks : (k : ℕ) → slice_get (map record_in o.payloads) k ≡ None → count_of o.volume ≤ k
  none_lacks k none =
      let count : length (map record_in o.payloads) ≡ count_of o.volume =
      sym (length-map (map record_in o.payloads) facts_of) ∙ ap (λ (fs : List Facts). length fs) beside ∙ length-map o.volume.traces (record_of o.volume.head fields) in
      subst (λ (n : ℕ). n ≤ k) count (past (map record_in o.payloads) k none)
    where
      past : (rs : List Record) (k : ℕ) → slice_get rs k ≡ None → length rs ≤ k
      past [] k e = omega arith
      past (r ∷ rs) zero e = absurd cc
      past (r ∷ rs) (suc k) e = omega (arith, past rs k e)

  -- and tells its amplitudes
  pub amplitudes_there : (p : ℕ) → p - 1 < count_of o.volume → amplitudes_beside o.payloads p ≡ amplitudes_at o.volume.head (trace_at o.volume p)
  amplitudes_there p below = by (slice_get (map record_in o.payloads) (p - 1)) refl
    where
      by : (x : Option Record) → slice_get (map record_in o.payloads) (p - 1) ≡ x → amplitudes_beside o.payloads p ≡ amplitudes_at o.volume.head (trace_at o.volume p)
      by None e = let past = none_lacks (p - 1) e in absurd (omega (arith, past, below))
      by (Some r) e =
          let one = beside-it (p - 1) p r e refl in
          ap (λ (x : Option Record). option_and_then (λ r. r.amplitudes) x) e
          ∙ ap (λ (f : Facts). f.amplitudes) (sym one.record_is)
          ∙ ap (λ (u : List ℕ). amplitudes_at o.volume.head u) (sym one.trace)

-- they do where they are those of the state
pub records_beside : (s : State) (o : CountedVolume PackedRecord) (fields : Pairs) → s.volume ≡ o.volume → s.fields ≡ fields → AreRecordsOf s (map record_in o.payloads) → HasRecords o fields
records_beside s o fields same held beside = beside ∙ ap₂ (λ (u : Volume) (ps : Pairs). map (record_of u.head ps) u.traces) same held
