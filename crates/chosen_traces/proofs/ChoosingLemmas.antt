-- The traces that are chosen, trace by trace.
use Rattle.std.proofs.Common.{◌≡◌, ℕ, zero, suc, ◌+◌, ◌-◌, ◌<◌, ◌≤◌, Bool, true, false, List, [], ◌∷◌, ◌++◌, length, map, filter, take, get_or, Option, Some, None, refl, sym, ap, subst, ◌∙◌, arith}
use Rattle.std.proofs.lemmas.List.{append-nil, append_assoc, length-take-le, take_more}
use Rattle.std.specs.Prelude.{IfOk, Result, Ok, Err, option_map, option_and_then, if◌then◌else◌}
use Rattle.std.specs.List.{range_with_len}
use Rattle.field_map.specs.Pairs.{Pairs}
use Rattle.frame_cut.specs.Traces.{count_of, trace_at}
use Rattle.frame_cut.specs.Volume.{Volume}
use Rattle.bench_rules.specs.declared.chosen.Chosen.{Chosen}
use Rattle.bench_rules.specs.declared.condition.Condition.{Condition}
use Rattle.bench_rules.specs.declared.test.Test.{Test}
use Rattle.bench_rules.specs.Conditions.{AreRising, asked_tests, chosen, chosen_among, judged, lacks_values, meets, range_of, tests_of}
use Rattle.bench_rules.specs.Looks.{choosing_looks, judging_looks, looks_at, range_looks, range_looks_of}
use Rattle.bench_rules.specs.ManyTraces.{each_of}
use Rattle.bench_rules.specs.RecordNumbers.{tells_tests}
use Rattle.bench_rules.specs.RangeRefusals.{no_trace, no_trace_from, range_refusal}
use Rattle.bench_rules.proofs.ChosenLemmas.{rising-earlier, rising-few, rising-wider}
use Rattle.bench_rules.proofs.EachLemmas.{each_stops, next_position}
use Rattle.bench_rules.proofs.FirstLemmas.{AreTraces, are_traces, both_none}
use Rattle.bench_rules.proofs.RangeLemmas.{range_looked}
use Rattle.chosen_traces.specs.Gathered.{pairs_from}

-- ---- the range

pub range_there : (v : Volume) (r : ℕ × ℕ) → range_refusal v (Some r) ≡ None → AreTraces v r.0 r.1 None
range_there v r free = let none = both_none (no_trace v r.0) (no_trace_from v r.0 r.1) free in are_traces v r.0 r.1 None (rw (none.0, none.1) refl)

pub range_free : (v : Volume) (range : Option (ℕ × ℕ)) (r : ℕ × ℕ) → range ≡ Some r → range_refusal v range ≡ None → range_refusal v (Some r) ≡ None
range_free v range r is free = subst (λ (o : Option (ℕ × ℕ)). range_refusal v o ≡ None) is free

-- each trace of it is looked at
pub range_looks_there : (v : Volume) (r : ℕ × ℕ) → range_refusal v (Some r) ≡ None → range_looks v r.0 r.1 ≡ r.1 + 1 - r.0
range_looks_there v r free = let t = range_there v r free in range_looked v r.0 r.1 t.low t.high t.last

-- positions that follow one another rise
range-rises : (a m n : ℕ) → a + m ≤ n + 1 → AreRising a n (range_with_len a m)
range-rises a zero n within = tt
range-rises a (suc m) n within = (omega arith, omega (arith, within), range-rises (a + 1) m n (omega (arith, within)))

pub all_rise : (v : Volume) (r : ℕ × ℕ) → range_refusal v (Some r) ≡ None → AreRising r.0 r.1 (range_with_len r.0 (r.1 + 1 - r.0))
all_rise v r free = let t = range_there v r free in range-rises r.0 (r.1 + 1 - r.0) r.1 (omega (arith, t.high))

-- those that rise within the range rise within the volume
pub rise_within : (v : Volume) (r : ℕ × ℕ) (ps : List ℕ) → range_refusal v (Some r) ≡ None → AreRising r.0 r.1 ps → AreRising 1 (count_of v) ps
rise_within v r ps free up =
    let t = range_there v r free in
    rising-earlier r.0 1 (count_of v) ps t.low (rising-wider r.0 r.1 (count_of v) ps t.last up)

-- and are no more than it has
pub few_within : (v : Volume) (r : ℕ × ℕ) (ps : List ℕ) → range_refusal v (Some r) ≡ None → AreRising r.0 r.1 ps → length ps ≤ r.1 + 1 - r.0
few_within v r ps free up =
    let t = range_there v r free in
    omega (arith, rising-few r.0 r.1 ps (omega (arith, t.high)) up)

-- ---- without conditions

-- what is kept of traces that were judged
abbrev pub picked : List (ℕ × Bool) → List ℕ
picked js = map (λ j. j.0) (filter (λ j. j.1) js)

all-judged : (v : Volume) (ps : List ℕ) → judged v [] ps ≡ Some (map (λ p. (p, true)) ps)
all-judged v [] = refl
all-judged v (p ∷ ps) = ap (λ o. option_map (λ js. (p, true) ∷ js) o) (all-judged v ps)

all-picked : (ps : List ℕ) → picked (map (λ p. (p, true)) ps) ≡ ps
all-picked [] = refl
all-picked (p ∷ ps) = ap (λ qs. p ∷ qs) (all-picked ps)

-- all are chosen
pub all_chosen : (v : Volume) (ps : List ℕ) → chosen_among v [] ps ≡ Some ps
all_chosen v ps = ap (λ o. option_map picked o) (all-judged v ps) ∙ ap (λ qs. Some qs) (all-picked ps)

pub no_items : {X : Type 0} (xs : List X) → length xs ≡ 0 → xs ≡ []
no_items [] e = refl
no_items (x ∷ xs) e = absurd (omega (arith, e))

-- ---- trace by trace

-- trace p with whether it meets all conditions
abbrev pub judged_at : Volume → List Test → ℕ → Option (ℕ × Bool)
judged_at v tests p = option_map (λ b. (p, b)) (meets v.head (trace_at v p) tests)

-- what is chosen behind what was chosen before
abbrev pub chosen_behind : List ℕ → Option (List (ℕ × Bool)) → Option (List ℕ)
chosen_behind us o = option_map (λ js. us ++ picked js) o

-- traces a to b from the k-th on
abbrev pub left : Volume → List Test → ℕ → ℕ → ℕ → Option (List (ℕ × Bool))
left v tests a b k = each_of (judged_at v tests) (range_with_len (a + k) (b + 1 - a - k))

-- us was chosen of the first k of traces a to b
abbrev pub AreChosen : Volume → List Test → (a b k : ℕ) → List ℕ → Type 0
AreChosen v tests a b k us = chosen_among v tests (range_with_len a (b + 1 - a)) ≡ chosen_behind us (left v tests a b k)

same_chosen : (o : Option (List (ℕ × Bool))) → option_map picked o ≡ chosen_behind [] o
same_chosen None = refl
same_chosen (Some js) = refl

pub none_yet : (v : Volume) (tests : List Test) (a b : ℕ) → AreChosen v tests a b 0 []
none_yet v tests a b =
    let here : a ≡ a + 0 = omega arith in
    let all : b + 1 - a ≡ b + 1 - a - 0 = omega arith in
    ap (λ (p : ℕ). option_map picked (each_of (judged_at v tests) (range_with_len p (b + 1 - a)))) here
    ∙ ap (λ (m : ℕ). option_map picked (each_of (judged_at v tests) (range_with_len (a + 0) m))) all
    ∙ same_chosen (left v tests a b 0)

one_more : (us : List ℕ) (p : ℕ) (x : Bool) (o : Option (List (ℕ × Bool))) → chosen_behind us (option_map (λ js. (p, x) ∷ js) o) ≡ chosen_behind (if x then us ++ p ∷ [] else us) o
one_more us p true None = refl
one_more us p true (Some js) = ap (λ qs. Some qs) (sym (append_assoc us (p ∷ []) (picked js)))
one_more us p false None = refl
one_more us p false (Some js) = refl

next : (v : Volume) (tests : List Test) (a b k : ℕ) (x : Bool) → k < b + 1 - a → Some x ≡ meets v.head (trace_at v (a + k)) tests
    → left v tests a b k ≡ option_map (λ js. (a + k, x) ∷ js) (left v tests a b (k + 1))
next v tests a b k x below e =
    ap (λ ps. each_of (judged_at v tests) ps) (next_position a k (b + 1 - a) below)
    ∙ ap (λ o. option_and_then (λ y. option_map (λ js. y ∷ js) (left v tests a b (k + 1))) o) (ap (λ o. option_map (λ b. (a + k, b)) o) (sym e))

pub go_on : (v : Volume) (tests : List Test) (a b k : ℕ) (x : Bool) (us vs : List ℕ) → k < b + 1 - a → Some x ≡ meets v.head (trace_at v (a + k)) tests
    → vs ≡ (if x then us ++ (a + k) ∷ [] else us) → AreChosen v tests a b k us → AreChosen v tests a b (k + 1) vs
go_on v tests a b k x us vs below e kept far =
    far ∙ ap (λ o. chosen_behind us o) (next v tests a b k x below e) ∙ one_more us (a + k) x (left v tests a b (k + 1)) ∙ ap (λ ws. chosen_behind ws (left v tests a b (k + 1))) (sym kept)

-- a trace lacks a place
stops-behind : {X : Type 0} (o : Option X) (rest : Option (List X)) → rest ≡ None → option_and_then (λ y. option_map (λ ys. y ∷ ys) rest) o ≡ None
stops-behind None rest e = refl
stops-behind (Some x) rest e = ap (λ r. option_map (λ ys. x ∷ ys) r) e

lacks-at : (v : Volume) (tests : List Test) (a n k : ℕ) → k < n → meets v.head (trace_at v (a + k)) tests ≡ None → each_of (judged_at v tests) (range_with_len a n) ≡ None
lacks-at v tests a zero k below e = absurd (omega (arith, below))
lacks-at v tests a (suc n) zero below e =
    let here : a + 0 ≡ a = omega arith in
    each_stops (judged_at v tests) a (range_with_len (a + 1) n) (ap (λ o. option_map (λ b. (a, b)) o) (ap (λ (p : ℕ). meets v.head (trace_at v p) tests) (sym here) ∙ e))
lacks-at v tests a (suc n) (suc k) below e =
    let there : a + 1 + k ≡ a + suc k = omega arith in
    stops-behind (judged_at v tests a) (each_of (judged_at v tests) (range_with_len (a + 1) n))
    (lacks-at v tests (a + 1) n k (omega (arith, below)) (ap (λ (p : ℕ). meets v.head (trace_at v p) tests) there ∙ e))

pub lacks : (v : Volume) (tests : List Test) (a b k : ℕ) → k < b + 1 - a → meets v.head (trace_at v (a + k)) tests ≡ None → chosen_among v tests (range_with_len a (b + 1 - a)) ≡ None
lacks v tests a b k below e = ap (λ o. option_map picked o) (lacks-at v tests a (b + 1 - a) k below e)

-- no trace is left
pub none_left : (v : Volume) (tests : List Test) (a b k : ℕ) (us : List ℕ) → b + 1 - a ≤ k → AreChosen v tests a b k us → chosen_among v tests (range_with_len a (b + 1 - a)) ≡ Some us
none_left v tests a b k us end far =
    let none : b + 1 - a - k ≡ 0 = omega (arith, end) in
    far ∙ ap (λ (m : ℕ). chosen_behind us (each_of (judged_at v tests) (range_with_len (a + k) m))) none ∙ ap (λ qs. Some qs) (append-nil us)

-- ---- they rise

rising-behind : (k m n p : ℕ) (us : List ℕ) → k ≤ p → m < p → p ≤ n → AreRising k m us → AreRising k n (us ++ p ∷ [])
rising-behind k m n p [] low less high up = (low, high, tt)
rising-behind k m n p (u ∷ us) low less high up = (up.0, omega (arith, up.1, less, high), rising-behind (u + 1) m n p us (omega (arith, up.1, less)) less high up.2)

pub still_rise : (a k : ℕ) (x : Bool) (us vs : List ℕ) → 1 ≤ a → vs ≡ (if x then us ++ (a + k) ∷ [] else us) → AreRising a (a + k - 1) us → AreRising a (a + (k + 1) - 1) vs
still_rise a k x us vs low kept up = subst (AreRising a (a + (k + 1) - 1)) (sym kept) (by x)
  where
    by : (x : Bool) → AreRising a (a + (k + 1) - 1) (if x then us ++ (a + k) ∷ [] else us)
    by true = rising-behind a (a + k - 1) (a + (k + 1) - 1) (a + k) us (omega arith) (omega (arith, low)) (omega (arith, low)) up
    by false = rising-wider a (a + k - 1) (a + (k + 1) - 1) us (omega (arith, low)) up

pub all_rising : (a b k : ℕ) (us : List ℕ) → a + k - 1 ≤ b → AreRising a (a + k - 1) us → AreRising a b us
all_rising a b k us end up = rising-wider a (a + k - 1) b us end up

-- ---- all conditions of one choice

-- they are asked, where samples have the values that they ask for
pub asked_there : (v : Volume) (pairs : Pairs) (conditions : List Condition) (tests : List Test) (lacks : Bool) → lacks ≡ lacks_values v.head.format tests → lacks ≡ false → tests_of pairs conditions ≡ Some tests
    → asked_tests v.head.format pairs conditions ≡ Some tests
asked_there v pairs conditions tests lacks is none e = rw (e, sym is, none) refl

module _ (v : Volume) (pairs : Pairs) (c : Chosen) (conditions : List Condition) (tests : List Test) (r : ℕ × ℕ)
    (same : conditions ≡ c.conditions) (e : asked_tests v.head.format pairs conditions ≡ Some tests) (there : c.traces ≡ Some r) where
  -- those of the range are chosen
  pub chosen_there : chosen v pairs c ≡ chosen_among v tests (range_with_len r.0 (r.1 + 1 - r.0))
  chosen_there =
      ap (λ (o : Option (List Test)). option_and_then (λ ts. chosen_among v ts (range_of c.traces)) o) (ap (λ (cs : List Condition). asked_tests v.head.format pairs cs) (sym same) ∙ e)
      ∙ ap (λ (range : Option (ℕ × ℕ)). chosen_among v tests (range_of range)) there

  pub chosen_all : (ps : List ℕ) → length tests ≡ 0 → ps ≡ range_with_len r.0 (r.1 + 1 - r.0) → chosen v pairs c ≡ Some ps
  chosen_all ps none is =
      chosen_there ∙ ap (λ (ts : List Test). chosen_among v ts (range_with_len r.0 (r.1 + 1 - r.0))) (no_items tests none)
      ∙ all_chosen v (range_with_len r.0 (r.1 + 1 - r.0)) ∙ ap (λ qs. Some qs) (sym is)

  -- so many are looked at
  pub looked_there : range_refusal v (Some r) ≡ None → choosing_looks v pairs c ≡ (if tells_tests pairs tests then 0 else r.1 + 1 - r.0)
  looked_there free =
      ap (λ (o : Option (List Test)). judging_looks pairs o (range_looks_of v c.traces)) (ap (λ (cs : List Condition). asked_tests v.head.format pairs cs) (sym same) ∙ e)
      ∙ ap (λ (n : ℕ). if tells_tests pairs tests then 0 else n) (ap (λ (range : Option (ℕ × ℕ)). range_looks_of v range) there ∙ range_looks_there v r free)

  -- one at least, where the records do not tell all
  pub some_there : range_refusal v (Some r) ≡ None → tells_tests pairs tests ≡ false → 0 < choosing_looks v pairs c
  some_there free untold =
      let t = range_there v r free in
      let looks : choosing_looks v pairs c ≡ r.1 + 1 - r.0 = looked_there free ∙ ap (λ (b : Bool). if b then 0 else r.1 + 1 - r.0) untold in
      omega (arith, looks, t.high)

  -- and no more than the range has
  pub few_there : (ps : List ℕ) → range_refusal v (Some r) ≡ None → AreRising r.0 r.1 ps → length ps ≤ looks_at (asked_tests v.head.format pairs c.conditions) (range_looks_of v c.traces)
  few_there ps free up =
      let looks : looks_at (asked_tests v.head.format pairs c.conditions) (range_looks_of v c.traces) ≡ r.1 + 1 - r.0 =
      ap (λ (o : Option (List Test)). looks_at o (range_looks_of v c.traces)) (ap (λ (cs : List Condition). asked_tests v.head.format pairs cs) (sym same) ∙ e)
      ∙ ap (λ (range : Option (ℕ × ℕ)). range_looks_of v range) there ∙ range_looks_there v r free in
      subst (λ (n : ℕ). length ps ≤ n) (sym looks) (few_within v r ps free up)

-- ---- results, and positions that are pushed

pub if_ok : {X E : Type 0} {P Q : X → Type 0} (r : Result X E) → ((x : X) → P x → Q x) → IfOk r P → IfOk r Q
if_ok (Ok x) f p = f x p
if_ok (Err e) f p = p

range-more : (a k : ℕ) → range_with_len a (k + 1) ≡ range_with_len a k ++ (a + k) ∷ []
range-more a zero = ap (λ (x : ℕ). x ∷ []) (let e : a ≡ a + 0 = omega arith in e)
range-more a (suc k) =
    let one : suc k + 1 ≡ suc (k + 1) = omega arith in
    let last : a + 1 + k ≡ a + suc k = omega arith in
    ap (λ (n : ℕ). range_with_len a n) one ∙ ap (λ ps. a ∷ ps) (range-more (a + 1) k) ∙ ap (λ (x : ℕ). a ∷ range_with_len (a + 1) k ++ x ∷ []) last

pub one_position : (a k : ℕ) (us vs : List ℕ) → us ≡ range_with_len a k → vs ≡ us ++ (a + k) ∷ [] → vs ≡ range_with_len a (k + 1)
one_position a k us vs far pushed = pushed ∙ ap (λ ws. ws ++ (a + k) ∷ []) far ∙ sym (range-more a k)

-- the exchanges of one trace more
pairs-behind : (a : ℕ) (us : List ℕ) (p : ℕ) → pairs_from a (us ++ p ∷ []) ≡ pairs_from a us ++ (a + length us, p) ∷ []
pairs-behind a [] p = ap (λ (x : ℕ). (x, p) ∷ []) (let e : a ≡ a + 0 = omega arith in e)
pairs-behind a (u ∷ us) p =
    let last : a + 1 + length us ≡ a + suc (length us) = omega arith in
    ap (λ ws. (a, u) ∷ ws) (pairs-behind (a + 1) us p) ∙ ap (λ (x : ℕ). (a, u) ∷ pairs_from (a + 1) us ++ (x, p) ∷ []) last

pub one_exchange : (ps : List ℕ) (k d : ℕ) (us vs : List (ℕ × ℕ)) → k < length ps → us ≡ pairs_from 1 (take k ps) → vs ≡ us ++ (k + 1, get_or ps k d) ∷ [] → vs ≡ pairs_from 1 (take (k + 1) ps)
one_exchange ps k d us vs below far pushed =
    let count : k + 1 ≡ 1 + length (take k ps) = omega (arith, length-take-le k ps (omega (arith, below))) in
    pushed ∙ ap (λ ws. ws ++ (k + 1, get_or ps k d) ∷ []) far ∙ ap (λ (n : ℕ). pairs_from 1 (take k ps) ++ (n, get_or ps k d) ∷ []) count
    ∙ sym (pairs-behind 1 (take k ps) (get_or ps k d)) ∙ ap (λ qs. pairs_from 1 qs) (sym (take_more ps k d below))
