-- The rows of a table that is filled row by row.
use Rattle.std.proofs.Common.{◌≡◌, ℕ, ℤ, zero, suc, ◌+◌, ◌-◌, ◌*◌, ◌<◌, ◌≤◌, true, false, List, [], ◌∷◌, ◌++◌, length, take, drop, map, All, Option, Some, None, refl, sym, ap, ap₂, subst, ◌∙◌, arith}
use Rattle.std.proofs.Math.Nat.{mul-le-mul_left}
use Rattle.std.proofs.Math.Seq.{drop-append_seam, take-length}
use Rattle.std.proofs.lemmas.List.{append-nil, drop-append-le, take-append-le, length-append, length-drop, length-take-le}
use Rattle.std.proofs.lemmas.List.Elements.{All-nil, All-cons}
use Rattle.std.proofs.lemmas.List.FromFn.{length-map-range_with_len, map-range_with_len_more}
use Rattle.std.specs.Prelude.{option_and_then, option_map, is_some, unwrap_or}
use Rattle.std.specs.List.{range_with_len}
use Rattle.bench_rules.specs.ManyTraces.{each_of}
use Rattle.bench_rules.specs.Tables.{rows_from, row_of, table_of}
use Rattle.field_map.specs.declared.place.Place.{Place}
use Rattle.field_map.specs.Pairs.{Pairs}
use Rattle.frame_cut.specs.declared.file_head.Head.{Head}
use Rattle.trace_view.specs.Values.{value_of}
use Rattle.bench_rules.specs.declared.ask_fault.AskFault.TheVariants.{NoPlace, OutOfMemory}
use Rattle.bench_rules.specs.declared.field.Field.{Field}
use Rattle.bench_rules.specs.Places.{place_in_trace}
use Rattle.bench_rules.specs.RangeFaults.{fault_of}
use Rattle.many_traces.specs.Fields.{number_in}
use Rattle.frame_cut.specs.Traces.{trace_at}
use Rattle.frame_cut.specs.Volume.{Volume}
use Rattle.bench_rules.proofs.EachLemmas.{each_stops, each_goes_on, in_front, next_position, nothing_there, left_decides, each_through}

-- two functions that agree on these positions give the same list
same_over : {X : Type 0} (f g : ℕ → X) (a n : ℕ) → ((j : ℕ) → j < a + n → f j ≡ g j) → map f (range_with_len a n) ≡ map g (range_with_len a n)
same_over f g a zero e = refl
same_over f g a (suc n) e = ap₂ (λ x xs. x ∷ xs) (e a (omega arith)) (same_over f g (a + 1) n (λ j less. e j (omega (arith, less))))

-- a row in front of others
row_in_front : (w j : ℕ) (xs row : List ℤ) → w * j + w ≤ length xs → take w (drop (w * j) (xs ++ row)) ≡ take w (drop (w * j) xs)
row_in_front w j xs row inside =
    let rest : w ≤ length (drop (w * j) xs) = subst (λ (n : ℕ). w ≤ n) (sym (length-drop (w * j) xs)) (omega (arith, inside)) in
    ap (λ ys. take w ys) (drop-append-le (w * j) xs row (omega (arith, inside))) ∙ take-append-le w (drop (w * j) xs) row rest

-- the last row
row_behind : (w k : ℕ) (xs row : List ℤ) → length xs ≡ w * k → length row ≡ w → take w (drop (w * k) (xs ++ row)) ≡ row
row_behind w k xs row full whole =
    ap (λ n. take w (drop n (xs ++ row))) (sym full) ∙ ap (λ ys. take w ys) (drop-append_seam xs row) ∙ ap (λ n. take n row) (sym whole) ∙ take-length row

ends : (w j k : ℕ) → j < k → w * j + w ≤ w * k
ends w j k below = let e : w * suc j ≡ w * j + w = omega arith in subst (λ (m : ℕ). m ≤ w * k) e (mul-le-mul_left w below)

-- so many rows of this width from the numbers, each with the position of its trace
abbrev pub rows_with : (ℕ → ℕ) → (k w : ℕ) → List ℤ → List (ℕ × List ℤ)
rows_with at k w xs = map (λ j. (at j, take w (drop (w * j) xs))) (range_with_len 0 k)

-- one more row
pub rows_with_more : (at : ℕ → ℕ) (w k : ℕ) (xs row : List ℤ) → length xs ≡ w * k → length row ≡ w → rows_with at (k + 1) w (xs ++ row) ≡ rows_with at k w xs ++ (at k, row) ∷ []
rows_with_more at w k xs row full whole =
    map-range_with_len_more (λ j. (at j, take w (drop (w * j) (xs ++ row)))) 0 k k (omega arith)
    ∙ ap₂ (λ rows last. rows ++ (at k, last) ∷ [])
    (same_over (λ j. (at j, take w (drop (w * j) (xs ++ row)))) (λ j. (at j, take w (drop (w * j) xs))) 0 k
    (λ j less. ap (λ ys. (at j, ys)) (row_in_front w j xs row (subst (λ (n : ℕ). w * j + w ≤ n) (sym full) (ends w j k (omega (arith, less)))))))
    (row_behind w k xs row full whole)

pub rows_more : (a w k : ℕ) (xs row : List ℤ) → length xs ≡ w * k → length row ≡ w → rows_from a (k + 1) w (xs ++ row) ≡ rows_from a k w xs ++ (a + k, row) ∷ []
rows_more a w k xs row full whole = rows_with_more (λ j. a + j) w k xs row full whole

-- ---- as many rows as there is room for

wide_from : (a w i n : ℕ) (xs : List ℤ) → w * (i + n) ≤ length xs → All (λ (row : ℕ × List ℤ). length row.1 ≡ w) (map (λ k. (a + k, take w (drop (w * k) xs))) (range_with_len i n))
wide_from a w i zero xs long = All-nil (λ (row : ℕ × List ℤ). length row.1 ≡ w)
wide_from a w i (suc n) xs long =
    let within = ends w i (i + suc n) (omega arith) in
    let more : i + 1 + n ≡ i + suc n = omega arith in
    let rest : w ≤ length (drop (w * i) xs) = subst (λ (m : ℕ). w ≤ m) (sym (length-drop (w * i) xs)) (omega (arith, within, long)) in
    All-cons (λ (row : ℕ × List ℤ). length row.1 ≡ w) (a + i, take w (drop (w * i) xs)) (map (λ k. (a + k, take w (drop (w * k) xs))) (range_with_len (i + 1) n))
    (length-take-le w (drop (w * i) xs) rest)
    (wide_from a w (i + 1) n xs (subst (λ (m : ℕ). w * m ≤ length xs) (sym more) long))

-- as many rows as are counted
pub rows_counted : (a n w : ℕ) (xs : List ℤ) → length (rows_from a n w xs) ≡ n
rows_counted a n w xs = length-map-range_with_len (λ k. (a + k, take w (drop (w * k) xs))) 0 n

-- each row is as wide as is said
pub rows_wide : (a n w : ℕ) (xs : List ℤ) → length xs ≡ w * n → All (λ (row : ℕ × List ℤ). length row.1 ≡ w) (rows_from a n w xs)
rows_wide a n w xs full = wide_from a w 0 n xs (omega (arith, full))

-- what is there for each of a list is as long
pub each_long : {A B : Type 0} (f : A → Option B) (xs : List A) (ys : List B) → each_of f xs ≡ Some ys → length ys ≡ length xs
each_long {A = A} {B = B} f [] ys e = ap (λ o. length (unwrap_or o [])) (sym e)
each_long {A = A} {B = B} f (x ∷ xs) ys e = by (f x) (each_of f xs) (λ zs h. each_long f xs zs h) e
  where
    by : (o : Option B) (rest : Option (List B)) → ((zs : List B) → rest ≡ Some zs → length zs ≡ length xs) → option_and_then (λ y. option_map (λ zs. y ∷ zs) rest) o ≡ Some ys → length ys ≡ suc (length xs)
    by None rest h e = absurd cc
    by (Some y) None h e = absurd cc
    by (Some y) (Some zs) h e = ap (λ o. length (unwrap_or o [])) (sym e) ∙ ap suc (h zs refl)

-- ---- trace by trace

-- what trace p gives to a table
abbrev pub row_at : Volume → List Place → ℕ → Option (ℕ × List ℤ)
row_at v places p = option_map (λ xs. (p, xs)) (row_of v.head places (trace_at v p))

-- the numbers of the first k of traces a to b, in rows, and what the others give
pub record AreRows (v : Volume) (places : List Place) (a b k : ℕ) (xs : List ℤ) : Type 0 where
  pub rows : table_of v places a b ≡ option_map (λ rows. rows_from a k (length places) xs ++ rows) (each_of (row_at v places) (range_with_len (a + k) (b + 1 - a - k)))
  pub full : length xs ≡ length places * k

pub no_rows_yet : (v : Volume) (places : List Place) (a b : ℕ) → AreRows v places a b 0 []
no_rows_yet v places a b =
    let here : a ≡ a + 0 = omega arith in
    let all : b + 1 - a ≡ b + 1 - a - 0 = omega arith in
    record {
      rows = ap (λ (p : ℕ). each_of (row_at v places) (range_with_len p (b + 1 - a))) here
          ∙ ap (λ (m : ℕ). each_of (row_at v places) (range_with_len (a + 0) m)) all
          ∙ sym (in_front (each_of (row_at v places) (range_with_len (a + 0) (b + 1 - a - 0))));
      full = omega arith;
    }

-- the row that was pushed
pub pushed : (us vs : List ℤ) (o : Option (List ℤ)) → option_map (λ row. us ++ row) o ≡ Some vs → (row : List ℤ) × (o ≡ Some row) × (vs ≡ us ++ row)
pushed us vs None e = absurd cc
pushed us vs (Some row) e = (row, refl, sym (ap (λ (o : Option (List ℤ)). unwrap_or o []) e))

pub rows_go_on : (v : Volume) (places : List Place) (a b k : ℕ) (us vs : List ℤ) → k < b + 1 - a → AreRows v places a b k us
    → option_map (λ row. us ++ row) (row_of v.head places (trace_at v (a + k))) ≡ Some vs → length vs ≡ length us + length places → AreRows v places a b (k + 1) vs
rows_go_on v places a b k us vs below far e more = go (pushed us vs (row_of v.head places (trace_at v (a + k))) e)
  where
    go : ((row : List ℤ) × (row_of v.head places (trace_at v (a + k)) ≡ Some row) × (vs ≡ us ++ row)) → AreRows v places a b (k + 1) vs
    go found =
        let whole : length found.0 ≡ length places = omega (arith, more, ap (λ (xs : List ℤ). length xs) found.2, length-append us found.0) in
        let w = length places in
        let n = b + 1 - a in
        let rows : rows_from a (k + 1) w vs ≡ rows_from a k w us ++ (a + k, found.0) ∷ [] = ap (λ (xs : List ℤ). rows_from a (k + 1) w xs) found.2 ∙ rows_more a w k us found.0 far.full whole in
        record {
          rows = far.rows
              ∙ ap (λ ps. option_map (λ rows. rows_from a k w us ++ rows) (each_of (row_at v places) ps)) (next_position a k n below)
              ∙ each_goes_on (row_at v places) (rows_from a k w us) (a + k) (range_with_len (a + (k + 1)) (n - (k + 1))) (a + k, found.0) (ap (λ o. option_map (λ xs. (a + k, xs)) o) found.1)
              ∙ ap (λ (rs : List (ℕ × List ℤ)). option_map (λ rows. rs ++ rows) (each_of (row_at v places) (range_with_len (a + (k + 1)) (n - (k + 1))))) (sym rows);
          full = let step : w * (k + 1) ≡ w * k + w = omega arith in omega (arith, more, far.full, step);
        }

pub rows_stop : (v : Volume) (places : List Place) (a b k : ℕ) (us : List ℤ) → k < b + 1 - a → AreRows v places a b k us
    → false ≡ is_some (row_of v.head places (trace_at v (a + k))) → table_of v places a b ≡ None
rows_stop v places a b k us below far e =
    let none : row_at v places (a + k) ≡ None = ap (λ o. option_map (λ xs. (a + k, xs)) o) (nothing_there (row_of v.head places (trace_at v (a + k))) e) in
    far.rows ∙ ap (λ o. option_map (λ rows. rows_from a k (length places) us ++ rows) o)
    (ap (λ ps. each_of (row_at v places) ps) (next_position a k (b + 1 - a) below) ∙ each_stops (row_at v places) (a + k) (range_with_len (a + (k + 1)) (b + 1 - a - (k + 1))) none)

pub rows_end : (v : Volume) (places : List Place) (a b k : ℕ) (us : List ℤ) → b + 1 - a ≤ k → AreRows v places a b k us → table_of v places a b ≡ Some (rows_from a k (length places) us)
rows_end v places a b k us far rows =
    let none : b + 1 - a - k ≡ 0 = omega (arith, far) in
    rows.rows ∙ ap (λ (m : ℕ). option_map (λ rs. rows_from a k (length places) us ++ rs) (each_of (row_at v places) (range_with_len (a + k) m))) none
    ∙ ap (λ rs. Some rs) (append-nil (rows_from a k (length places) us))

kept_some : {A B : Type 0} (f : A → B) (o : Option A) → is_some (option_map f o) ≡ is_some o
kept_some f None = refl
kept_some f (Some x) = refl

-- the fields of a trace by their names, and by the places of these
fields_there : (h : Head) (t : List ℕ) (pairs : Pairs) (fields : List Field) (places : List Place) → each_of (place_in_trace pairs) fields ≡ Some places
    → each_of (number_in h t pairs) fields ≡ row_of h places t
fields_there h t pairs fields places e = each_through (place_in_trace pairs) (λ place. value_of h t place) fields places e

pub left_goes_on : (v : Volume) (pairs : Pairs) (fields : List Field) (places : List Place) (a b k : ℕ) → each_of (place_in_trace pairs) fields ≡ Some places → k < b + 1 - a
    → true ≡ is_some (each_of (number_in v.head (trace_at v (a + k)) pairs) fields)
    → is_some (each_of (row_at v places) (range_with_len (a + k) (b + 1 - a - k))) ≡ is_some (each_of (row_at v places) (range_with_len (a + (k + 1)) (b + 1 - a - (k + 1))))
left_goes_on v pairs fields places a b k known below e =
    ap (λ ps. is_some (each_of (row_at v places) ps)) (next_position a k (b + 1 - a) below)
    ∙ left_decides (row_at v places) (a + k) (range_with_len (a + (k + 1)) (b + 1 - a - (k + 1)))
    (kept_some (λ xs. (a + k, xs)) (row_of v.head places (trace_at v (a + k))) ∙ sym (e ∙ ap (λ o. is_some o) (fields_there v.head (trace_at v (a + k)) pairs fields places known)))

pub left_stops : (v : Volume) (pairs : Pairs) (fields : List Field) (places : List Place) (a b k : ℕ) → each_of (place_in_trace pairs) fields ≡ Some places → k < b + 1 - a
    → false ≡ is_some (each_of (number_in v.head (trace_at v (a + k)) pairs) fields)
    → is_some (each_of (row_at v places) (range_with_len (a + k) (b + 1 - a - k))) ≡ false
left_stops v pairs fields places a b k known below e =
    let none : row_at v places (a + k) ≡ None = ap (λ o. option_map (λ xs. (a + k, xs)) o) (nothing_there (row_of v.head places (trace_at v (a + k))) (e ∙ ap (λ o. is_some o) (fields_there v.head (trace_at v (a + k)) pairs fields places known))) in
    ap (λ o. is_some o) (ap (λ ps. each_of (row_at v places) ps) (next_position a k (b + 1 - a) below) ∙ each_stops (row_at v places) (a + k) (range_with_len (a + (k + 1)) (b + 1 - a - (k + 1))) none)

pub fault_none : {X : Type 0} (o : Option X) → is_some o ≡ false → NoPlace ≡ fault_of o
fault_none None e = refl
fault_none (Some x) e = absurd cc

pub fault_some : {X : Type 0} (o : Option X) → is_some o ≡ true → OutOfMemory ≡ fault_of o
fault_some None e = absurd cc
fault_some (Some x) e = refl
