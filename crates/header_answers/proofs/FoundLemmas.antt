-- The traces that are found, trace by trace.
use Rattle.std.proofs.Common.{◌≡◌, ℕ, ℤ, ◌+◌, ◌-◌, ◌<◌, ◌≤◌, Bool, true, false, List, [], ◌∷◌, ◌++◌, length, drop, get_or, Option, Some, None, refl, sym, ap, ◌∙◌, arith}
use Rattle.std.proofs.Math.ListN.{drop_of_length-le}
use Rattle.std.proofs.lemmas.List.{append-nil, append_assoc, drop_more}
use Rattle.std.specs.Prelude.{option_map, option_and_then, is_some, filter, if◌then◌else◌}
use Rattle.std.specs.List.{range_with_len}
use Rattle.field_map.specs.declared.place.Place.{Place}
use Rattle.frame_cut.specs.Traces.{trace_at}
use Rattle.frame_cut.specs.Volume.{Volume}
use Rattle.trace_view.specs.Values.{value_of}
use Rattle.bench_rules.specs.declared.ask_fault.AskFault.TheVariants.{NoPlace}
use Rattle.bench_rules.specs.ChosenQueries.{found_of_each}
use Rattle.bench_rules.specs.ManyTraces.{each_of}
use Rattle.bench_rules.specs.Tables.{column_of, found_of, is_between}
use Rattle.bench_rules.specs.RangeFaults.{fault_of}
use Rattle.bench_rules.proofs.EachLemmas.{each_stops, next_position}

-- what trace p gives to a column
abbrev pub number_at : Volume → Place → ℕ → Option (ℕ × ℤ)
number_at v place p = option_map (λ x. (p, x)) (value_of v.head (trace_at v p) place)

-- what is found behind what was found before
abbrev pub found_behind : (low high : ℤ) → List (ℕ × ℤ) → Option (List (ℕ × ℤ)) → Option (List (ℕ × ℤ))
found_behind low high us o = option_map (λ es. us ++ filter (λ e. is_between low high e.1) es) o

-- the numbers of traces a to b from the k-th on
abbrev pub left : Volume → Place → ℕ → ℕ → ℕ → Option (List (ℕ × ℤ))
left v place a b k = each_of (number_at v place) (range_with_len (a + k) (b + 1 - a - k))

-- us was found in the first k of traces a to b
abbrev pub IsFound : Volume → Place → (low high : ℤ) → (a b k : ℕ) → List (ℕ × ℤ) → Type 0
IsFound v place low high a b k us = found_of v place low high a b ≡ found_behind low high us (left v place a b k)

same_found : (low high : ℤ) (o : Option (List (ℕ × ℤ))) → option_map (filter (λ e. is_between low high e.1)) o ≡ found_behind low high [] o
same_found low high None = refl
same_found low high (Some es) = refl

pub nothing_yet : (v : Volume) (place : Place) (low high : ℤ) (a b : ℕ) → IsFound v place low high a b 0 []
nothing_yet v place low high a b =
    let here : a ≡ a + 0 = omega arith in
    let all : b + 1 - a ≡ b + 1 - a - 0 = omega arith in
    ap (λ (p : ℕ). option_map (filter (λ e. is_between low high e.1)) (each_of (number_at v place) (range_with_len p (b + 1 - a)))) here
    ∙ ap (λ (m : ℕ). option_map (filter (λ e. is_between low high e.1)) (each_of (number_at v place) (range_with_len (a + 0) m))) all
    ∙ same_found low high (left v place a b 0)

-- one number more
there : (v : Volume) (place : Place) (p : ℕ) (x : ℤ) → Some x ≡ value_of v.head (trace_at v p) place → number_at v place p ≡ Some (p, x)
there v place p x e = ap (λ o. option_map (λ y. (p, y)) o) (sym e)

with_one : (low high : ℤ) (us : List (ℕ × ℤ)) (y : ℕ × ℤ) (o : Option (List (ℕ × ℤ))) → is_between low high y.1 ≡ true
    → found_behind low high us (option_map (λ ys. y ∷ ys) o) ≡ found_behind low high (us ++ y ∷ []) o
with_one low high us y None e = refl
with_one low high us y (Some es) e = rw e (ap (λ xs. Some xs) (sym (append_assoc us (y ∷ []) (filter (λ e. is_between low high e.1) es))))

without_one : (low high : ℤ) (us : List (ℕ × ℤ)) (y : ℕ × ℤ) (o : Option (List (ℕ × ℤ))) → is_between low high y.1 ≡ false
    → found_behind low high us (option_map (λ ys. y ∷ ys) o) ≡ found_behind low high us o
without_one low high us y None e = refl
without_one low high us y (Some es) e = rw e refl

next : (v : Volume) (place : Place) (a b k : ℕ) (x : ℤ) → k < b + 1 - a → Some x ≡ value_of v.head (trace_at v (a + k)) place
    → left v place a b k ≡ option_map (λ ys. (a + k, x) ∷ ys) (left v place a b (k + 1))
next v place a b k x below e =
    ap (λ ps. each_of (number_at v place) ps) (next_position a k (b + 1 - a) below)
    ∙ ap (λ y. option_and_then (λ z. option_map (λ ys. z ∷ ys) (each_of (number_at v place) (range_with_len (a + (k + 1)) (b + 1 - a - (k + 1))))) y) (there v place (a + k) x e)

-- what is found with one number more
one_more : (low high : ℤ) (us vs : List (ℕ × ℤ)) (y : ℕ × ℤ) (o rest : Option (List (ℕ × ℤ))) → o ≡ option_map (λ ys. y ∷ ys) rest
    → vs ≡ (if is_between low high y.1 then us ++ y ∷ [] else us) → found_behind low high us o ≡ found_behind low high vs rest
one_more low high us vs y o rest first kept =
    ap (λ o. found_behind low high us o) first ∙ by (is_between low high y.1) refl ∙ ap (λ ws. found_behind low high ws rest) (sym kept)
  where
    by : (t : Bool) → is_between low high y.1 ≡ t → found_behind low high us (option_map (λ ys. y ∷ ys) rest) ≡ found_behind low high (if is_between low high y.1 then us ++ y ∷ [] else us) rest
    by true inside = with_one low high us y rest inside ∙ ap (λ t. found_behind low high (if t then us ++ y ∷ [] else us) rest) (sym inside)
    by false outside = without_one low high us y rest outside ∙ ap (λ t. found_behind low high (if t then us ++ y ∷ [] else us) rest) (sym outside)

pub go_on : (v : Volume) (place : Place) (low high : ℤ) (a b k : ℕ) (x : ℤ) (us vs : List (ℕ × ℤ)) → k < b + 1 - a → Some x ≡ value_of v.head (trace_at v (a + k)) place
    → vs ≡ (if is_between low high x then us ++ (a + k, x) ∷ [] else us) → IsFound v place low high a b k us → IsFound v place low high a b (k + 1) vs
go_on v place low high a b k x us vs below e kept far =
    far ∙ one_more low high us vs (a + k, x) (left v place a b k) (left v place a b (k + 1)) (next v place a b k x below e) kept

-- a trace lacks the place
pub lacks : (v : Volume) (place : Place) (low high : ℤ) (a b k : ℕ) (us : List (ℕ × ℤ)) → k < b + 1 - a → None ≡ value_of v.head (trace_at v (a + k)) place
    → IsFound v place low high a b k us → found_of v place low high a b ≡ None
lacks v place low high a b k us below e far =
    far ∙ ap (λ o. found_behind low high us o)
    (ap (λ ps. each_of (number_at v place) ps) (next_position a k (b + 1 - a) below)
    ∙ each_stops (number_at v place) (a + k) (range_with_len (a + (k + 1)) (b + 1 - a - (k + 1))) (ap (λ o. option_map (λ y. (a + k, y)) o) (sym e)))

-- no trace is left
pub all_found : (v : Volume) (place : Place) (low high : ℤ) (a b k : ℕ) (us : List (ℕ × ℤ)) → b + 1 - a ≤ k → IsFound v place low high a b k us → found_of v place low high a b ≡ Some us
all_found v place low high a b k us end far =
    let none : b + 1 - a - k ≡ 0 = omega (arith, end) in
    far ∙ ap (λ (m : ℕ). found_behind low high us (each_of (number_at v place) (range_with_len (a + k) m))) none ∙ ap (λ xs. Some xs) (append-nil us)

-- where something was found in front, the traces that are left decide which fault it is
same_fault : {A B : Type 0} (f : A → B) (o : Option A) → fault_of (option_map f o) ≡ fault_of o
same_fault f None = refl
same_fault f (Some x) = refl

pub fault_left : (v : Volume) (place : Place) (low high : ℤ) (a b k : ℕ) (x : ℤ) (us : List (ℕ × ℤ)) → k < b + 1 - a → Some x ≡ value_of v.head (trace_at v (a + k)) place
    → IsFound v place low high a b k us → fault_of (column_of v place (a + k + 1) b) ≡ fault_of (found_of v place low high a b)
fault_left v place low high a b k x us below e far =
    let behind : a + k + 1 ≡ a + (k + 1) = omega arith in
    let many : b + 1 - (a + (k + 1)) ≡ b + 1 - a - (k + 1) = omega arith in
    ap (λ (p : ℕ). fault_of (each_of (number_at v place) (range_with_len p (b + 1 - p)))) behind
    ∙ ap (λ (m : ℕ). fault_of (each_of (number_at v place) (range_with_len (a + (k + 1)) m))) many
    ∙ sym (same_fault (λ ys. (a + k, x) ∷ ys) (left v place a b (k + 1)))
    ∙ sym (ap (λ o. fault_of o) (next v place a b k x below e))
    ∙ sym (same_fault (λ es. us ++ filter (λ e. is_between low high e.1) es) (left v place a b k))
    ∙ sym (ap (λ o. fault_of o) far)

-- ---- the traces behind one, where there is no room for it

pub behind_stops : (v : Volume) (place : Place) (p b k : ℕ) → k < b - p → None ≡ value_of v.head (trace_at v (p + 1 + k)) place
    → fault_of (each_of (number_at v place) (range_with_len (p + 1 + k) (b - p - k))) ≡ NoPlace
behind_stops v place p b k below e =
    ap (λ o. fault_of o) (ap (λ ps. each_of (number_at v place) ps) (next_position (p + 1) k (b - p) below)
    ∙ each_stops (number_at v place) (p + 1 + k) (range_with_len (p + 1 + (k + 1)) (b - p - (k + 1))) (ap (λ o. option_map (λ y. (p + 1 + k, y)) o) (sym e)))

pub behind_goes_on : (v : Volume) (place : Place) (p b k : ℕ) (o : Option ℤ) → k < b - p → o ≡ value_of v.head (trace_at v (p + 1 + k)) place → is_some o ≡ true
    → fault_of (each_of (number_at v place) (range_with_len (p + 1 + k) (b - p - k))) ≡ fault_of (each_of (number_at v place) (range_with_len (p + 1 + (k + 1)) (b - p - (k + 1))))
behind_goes_on v place p b k None below e some = absurd cc
behind_goes_on v place p b k (Some x) below e some =
    ap (λ o. fault_of o) (ap (λ ps. each_of (number_at v place) ps) (next_position (p + 1) k (b - p) below)
    ∙ ap (λ y. option_and_then (λ z. option_map (λ ys. z ∷ ys) (each_of (number_at v place) (range_with_len (p + 1 + (k + 1)) (b - p - (k + 1))))) y) (there v place (p + 1 + k) x e))
    ∙ same_fault (λ ys. (p + 1 + k, x) ∷ ys) (each_of (number_at v place) (range_with_len (p + 1 + (k + 1)) (b - p - (k + 1))))

pub none_there : (o : Option ℤ) → is_some o ≡ false → o ≡ None
none_there None e = refl
none_there (Some x) e = absurd cc

-- ---- listed traces

-- the numbers of the traces that are listed from the i-th on
abbrev pub listed_left : Volume → Place → List ℕ → ℕ → Option (List (ℕ × ℤ))
listed_left v place ps i = each_of (number_at v place) (drop i ps)

-- us was found in the first i of these traces
abbrev pub IsFoundAmong : Volume → Place → (low high : ℤ) → (ps : List ℕ) (i : ℕ) → List (ℕ × ℤ) → Type 0
IsFoundAmong v place low high ps i us = found_of_each v place low high ps ≡ found_behind low high us (listed_left v place ps i)

pub none_listed_yet : (v : Volume) (place : Place) (low high : ℤ) (ps : List ℕ) → IsFoundAmong v place low high ps 0 []
none_listed_yet v place low high ps = same_found low high (each_of (number_at v place) ps)

pub listed_go_on : (v : Volume) (place : Place) (low high : ℤ) (ps : List ℕ) (i d : ℕ) (x : ℤ) (us vs : List (ℕ × ℤ)) → i < length ps → Some x ≡ value_of v.head (trace_at v (get_or ps i d)) place
    → vs ≡ (if is_between low high x then us ++ (get_or ps i d, x) ∷ [] else us) → IsFoundAmong v place low high ps i us → IsFoundAmong v place low high ps (i + 1) vs
listed_go_on v place low high ps i d x us vs below e kept far =
    let p : ℕ = get_or ps i d in
    let first : listed_left v place ps i ≡ option_map (λ ys. (p, x) ∷ ys) (listed_left v place ps (i + 1)) =
    ap (λ qs. each_of (number_at v place) qs) (drop_more ps i d below)
    ∙ ap (λ y. option_and_then (λ z. option_map (λ ys. z ∷ ys) (listed_left v place ps (i + 1))) y) (there v place p x e) in
    far ∙ one_more low high us vs (p, x) (listed_left v place ps i) (listed_left v place ps (i + 1)) first kept

pub listed_lacks : (v : Volume) (place : Place) (low high : ℤ) (ps : List ℕ) (i d : ℕ) (us : List (ℕ × ℤ)) → i < length ps → None ≡ value_of v.head (trace_at v (get_or ps i d)) place
    → IsFoundAmong v place low high ps i us → found_of_each v place low high ps ≡ None
listed_lacks v place low high ps i d us below e far =
    let p : ℕ = get_or ps i d in
    far ∙ ap (λ o. found_behind low high us o)
    (ap (λ qs. each_of (number_at v place) qs) (drop_more ps i d below) ∙ each_stops (number_at v place) p (drop (i + 1) ps) (ap (λ o. option_map (λ y. (p, y)) o) (sym e)))

pub listed_found : (v : Volume) (place : Place) (low high : ℤ) (ps : List ℕ) (i : ℕ) (us : List (ℕ × ℤ)) → length ps ≤ i → IsFoundAmong v place low high ps i us → found_of_each v place low high ps ≡ Some us
listed_found v place low high ps i us end far =
    far ∙ ap (λ qs. found_behind low high us (each_of (number_at v place) qs)) (drop_of_length-le ps end) ∙ ap (λ xs. Some xs) (append-nil us)
