-- Pairs of positions that put traces in the order of their numbers.
use Rattle.std.proofs.Common.{◌≡◌, ℕ, ℤ, suc, ◌+◌, ◌-◌, ◌<◌, ◌≤◌, min, Bool, true, false, List, [], ◌∷◌, ◌++◌, length, map, take, drop, get_or, set, Option, Some, None, Ok, Err, refl, sym, ap, subst, inl, inr, ◌∙◌, arith}
use Rattle.std.specs.Prelude.{◌⊎◌, Result, IfOk, is_none, if◌then◌else◌, slice_index, option_map, unwrap_or}
use Rattle.std.specs.List.{swap, range_with_len}
use Rattle.std.specs.List.Sorted.{IsPermutation}
use Rattle.std.proofs.lemmas.List.{length-map, map-append, map-set, take-append-drop, append_assoc, drop-drop, length-drop, take_all}
use Rattle.std.proofs.lemmas.List.Edits.{length-swap}
use Rattle.std.proofs.lemmas.List.FromFn.{length-range_with_len, get_or-range_with_len}
use Rattle.std.proofs.lemmas.List.Sorted.{IsPermutation-refl, IsPermutation-trans, IsPermutation-swap, length_permutation}
use Rattle.std.proofs.Math.ListN.{get_or-map}
use Rattle.field_map.specs.declared.place.Place.{Place}
use Rattle.frame_cut.specs.Traces.{trace_at}
use Rattle.frame_cut.specs.Volume.{Volume}
use Rattle.trace_store.specs.Swapped.{with_swapped, ArePlaces}
use Rattle.bench_rules.specs.declared.answer.Answer.TheVariants as answers
use Rattle.bench_rules.specs.declared.ask_fault.AskFault.{AskFault}
use Rattle.bench_rules.specs.declared.ask_fault.AskFault.TheVariants.{NoField, NoPlace, ReadFailed, FileChanged}
use Rattle.bench_rules.specs.declared.refusal.Refusal.TheVariants as refusals
use Rattle.bench_rules.specs.Answer.{table_answer, or_fault}
use Rattle.bench_rules.specs.ManyTraces.{positions}
use Rattle.bench_rules.specs.ReadFaults.{IsReadFault, IsReadRefusal}
use Rattle.bench_rules.specs.Refused.{sort_refusal}
use Rattle.bench_rules.specs.Sorted.{in_order, order_of}
use Rattle.bench_rules.specs.Tables.{row_of, table_of}
use Rattle.bench_rules.proofs.SortLemmas.{rows-stand, read-positions}
use Rattle.many_traces.specs.Arranged.{row_near, PutsRows, Puts, Sorts}
use Rattle.bench_rules.specs.RangeFaults.{IsFaultFor, refusal_for}
use Rattle.many_traces.specs.Formulas.{IsRefusalFor}
use Rattle.many_traces.proofs.ExchangeLemmas.{order-below}

-- ---- rows in order, by their positions

map-map : {A B C : Type 0} (g : B → C) (f : A → B) (xs : List A) → map g (map f xs) ≡ map (λ x. g (f x)) xs
map-map g f [] = refl
map-map g f (x ∷ xs) = ap (λ l. g (f x) ∷ l) (map-map g f xs)

same-map : {A B : Type 0} (f g : A → B) (xs : List A) (d : A) → ((i : ℕ) → i < length xs → f (get_or xs i d) ≡ g (get_or xs i d)) → map f xs ≡ map g xs
same-map f g [] d h = refl
same-map f g (x ∷ xs) d h = ap (λ y. y ∷ map f xs) (h 0 (omega arith)) ∙ ap (λ l. g x ∷ l) (same-map f g xs d (λ i less. h (suc i) (omega (arith, less))))

module _ (v : Volume) (places : List Place) (a b : ℕ) (rows : List (ℕ × List ℤ)) (table : table_of v places a b ≡ Some rows) where
  stand : map (λ row. row.0) rows ≡ positions a b
  stand = rows-stand (λ p. row_of v.head places (trace_at v p)) (positions a b) rows table

  pub as-many : length rows ≡ b + 1 - a
  as-many = sym (length-map rows (λ row. row.0)) ∙ (ap (λ (l : List ℕ). length l) stand ∙ length-range_with_len a (b + 1 - a))

  position-near : (k : ℕ) → k < length rows → (row_near rows k).0 ≡ a + k
  position-near k less =
      let itself : min k (length rows - 1) ≡ k = omega (arith, less) in
      ap (λ i. (get_or rows i (0, [])).0) itself
      ∙ (sym (get_or-map (λ (row : ℕ × List ℤ). row.0) rows k (0, []))
      ∙ (ap (λ l. get_or l k 0) stand ∙ get_or-range_with_len a (b + 1 - a) k 0 (omega (arith, less, as-many))))

  module _ (falls : List Bool) (pairs : List (ℕ × ℕ)) (r : PutsRows a rows falls pairs) (low : 1 ≤ a) (high : a ≤ b) where
    many : length r.order ≡ b + 1 - a
    many = length_permutation (range_with_len 0 (length rows)) r.order r.permutes ∙ (length-range_with_len 0 (length rows) ∙ as-many)

    in-positions : map (λ row. row.0) (in_order falls rows) ≡ map (λ k. a + k) r.order
    in-positions =
        ap (map (λ row. row.0)) r.is
        ∙ (map-map (λ row. row.0) (row_near rows) r.order
        ∙ same-map (λ k. (row_near rows k).0) (λ k. a + k) r.order 0 (λ i less. position-near (slice_index r.order i) (order-below (length rows) r.order i r.permutes less)))

    puts : Puts a b (map (λ row. row.0) (in_order falls rows)) pairs
    puts = record {
      places = λ n h. r.by_pairs.places n (omega (arith, h, many, low, high));
      put = λ front behind at.
          ap (λ n. with_swapped (front ++ (range_with_len a n ++ behind)) pairs) (sym many)
          ∙ (r.by_pairs.arranged front behind at ∙ ap (λ l. front ++ (l ++ behind)) (sym in-positions));
    }

    pub sorts : Sorts v (Some places) falls a b pairs
    sorts = record {
      none = rw table refl;
      puts = λ ps order e f.
          let same : places ≡ ps = ap (λ o. unwrap_or o places) e in
          let is : map (λ row. row.0) (in_order falls rows) ≡ order =
          ap (λ o. unwrap_or (option_map (λ rs. map (λ row. row.0) (in_order falls rs)) o) []) (sym table) ∙ (ap (λ qs. unwrap_or (order_of v qs falls a b) []) same ∙ ap (λ o. unwrap_or o []) f) in
          subst (λ l. Puts a b l pairs) is puts;
    }

-- ---- a table that was answered

-- its fields have places, and its rows are those of the places
pub record IsTable (v : Volume) (a b : ℕ) (places : Option (List Place)) (rows : List (ℕ × List ℤ)) : Type 0 where
  pub at : List Place
  pub found : places ≡ Some at
  pub rows_of : table_of v at a b ≡ Some rows

pub is-table : (v : Volume) (a b : ℕ) (places : Option (List Place)) (rows : List (ℕ × List ℤ)) → table_answer v a b places ≡ Ok (answers.Table rows) → IsTable v a b places rows
is-table v a b None rows e = absurd cc
is-table v a b (Some places) rows e = by (table_of v places a b) refl e
  where
    by : (t : Option (List (ℕ × List ℤ))) → table_of v places a b ≡ t → or_fault t NoPlace answers.Table ≡ Ok (answers.Table rows) → IsTable v a b (Some places) rows
    by None is e = absurd cc
    by (Some held) is e = let same : held ≡ rows = cc in record { at = places; found = refl; rows_of = is ∙ ap (λ rs. let o : Option (List (ℕ × List ℤ)) = Some rs in o) same }

-- the exchanges of a table that was answered sort the traces
pub table-sorts : (v : Volume) (a b : ℕ) (places : Option (List Place)) (falls : List Bool) (rows : List (ℕ × List ℤ)) (pairs : List (ℕ × ℕ)) → IsTable v a b places rows → PutsRows a rows falls pairs → 1 ≤ a → a ≤ b
    → Sorts v places falls a b pairs
table-sorts v a b places falls rows pairs t r low high = subst (λ o. Sorts v o falls a b pairs) (sym t.found) (sorts v t.at a b rows t.rows_of falls pairs r low high)

-- and where a table was answered, nothing refuses the sort
pub sort-free : (v : Volume) (a b : ℕ) (places : Option (List Place)) (rows : List (ℕ × List ℤ)) → table_answer v a b places ≡ Ok (answers.Table rows) → sort_refusal v a b places ≡ None
sort-free v a b places rows e = let t = is-table v a b places rows e in ap (λ (o : Option (List Place)). sort_refusal v a b o) t.found ∙ rw t.rows_of refl

-- the positions are those of traces, whatever the numbers are
pub put-places : (a n : ℕ) (rows : List (ℕ × List ℤ)) (falls : List Bool) (pairs : List (ℕ × ℕ)) → PutsRows a rows falls pairs → a - 1 + length rows ≤ n → ArePlaces n pairs
put-places a n rows falls pairs r inside =
    let many : length r.order ≡ length rows = length_permutation (range_with_len 0 (length rows)) r.order r.permutes ∙ length-range_with_len 0 (length rows) in
    r.by_pairs.places n (omega (arith, many, inside))

-- ---- a table that was refused

told-fault : (v : Volume) (a b : ℕ) (places : Option (List Place)) (fault : AskFault) → IsFaultFor fault (table_answer v a b places) → IsRefusalFor (refusal_for fault) (sort_refusal v a b places)
told-fault v a b None fault (inl e) = let is : NoField ≡ fault = cc in ap refusal_for (sym is)
told-fault v a b None fault (inr wants) = let no : false ≡ true = wants.1 in absurd cc
told-fault v a b (Some places) fault told = by (table_of v places a b) told
  where
    by : (t : Option (List (ℕ × List ℤ))) → IsFaultFor fault (or_fault t NoPlace answers.Table) → IsRefusalFor (refusal_for fault) (if is_none t then Some refusals.NoPlace else None)
    by None (inl e) = let is : NoPlace ≡ fault = cc in ap refusal_for (sym is)
    by None (inr wants) = let no : false ≡ true = wants.1 in absurd cc
    by (Some rows) (inl e) = absurd cc
    by (Some rows) (inr wants) = ap refusal_for wants.0

told-read : (on_disk : Bool) (fault : AskFault) → IsReadFault on_disk fault → IsReadRefusal on_disk (refusal_for fault)
told-read on_disk fault read = by read.1
  where
    by : (fault ≡ ReadFailed) ⊎ (fault ≡ FileChanged) → IsReadRefusal on_disk (refusal_for fault)
    by (inl e) = (read.0, inl (ap refusal_for e))
    by (inr e) = (read.0, inr (ap refusal_for e))

-- where a table is refused, the sort is
pub told-either : {P L : Type 0} (v : Volume) (a b : ℕ) (places : Option (List Place)) (on_disk : Bool) (fault : AskFault) → (IsReadFault on_disk fault × L) ⊎ (P → IsFaultFor fault (table_answer v a b places))
    → (IsReadRefusal on_disk (refusal_for fault) × L) ⊎ (P → IsRefusalFor (refusal_for fault) (sort_refusal v a b places))
told-either v a b places on_disk fault (inl read) = inl (told-read on_disk fault read.0, read.1)
told-either v a b places on_disk fault (inr told) = inr (λ sure. told-fault v a b places fault (told sure))

-- what holds of a value holds of what follows from it
pub if_ok : {T E : Type 0} {P Q : T → Type 0} (r : Result T E) → ((v : T) → P v → Q v) → IfOk r P → IfOk r Q
if_ok (Ok v) f p = f v p
if_ok (Err e) f p = tt

-- ---- items that came in the place of one another

module _ {T : Type 0} where
  pub swapped-permutes : (xs : List T) (pairs : List (ℕ × ℕ)) → ArePlaces (length xs) pairs → IsPermutation xs (with_swapped xs pairs)
  swapped-permutes xs [] are = IsPermutation-refl xs
  swapped-permutes xs (p ∷ pairs) are =
      let i : p.0 - 1 < length xs = omega (arith, are.0, are.1) in
      let j : p.1 - 1 < length xs = omega (arith, are.2, are.3) in
      let once = IsPermutation-swap xs (swap xs (p.0 - 1) (p.1 - 1)) (p.0 - 1) (p.1 - 1) i j refl in
      let same : length (swap xs (p.0 - 1) (p.1 - 1)) ≡ length xs = length-swap xs (p.0 - 1) (p.1 - 1) in
      IsPermutation-trans _ _ _ once (swapped-permutes (swap xs (p.0 - 1) (p.1 - 1)) pairs (subst (λ n. ArePlaces n pairs) (sym same) are.4))

module _ {A B : Type 0} (f : A → B) where
  map-swap : (xs : List A) (i j : ℕ) → swap (map f xs) i j ≡ map f (swap xs i j)
  map-swap [] i j = refl
  map-swap (x ∷ xs) i j =
      let l : List A = x ∷ xs in
      ap (λ y. set (set (map f l) i y) j (get_or (map f l) i (f x))) (get_or-map f l j x)
      ∙ ap (λ y. set (set (map f l) i (f (get_or l j x))) j y) (get_or-map f l i x)
      ∙ ap (λ m. set m j (f (get_or l i x))) (sym (map-set f l i (get_or l j x)))
      ∙ sym (map-set f (set l i (get_or l j x)) j (get_or l i x))

  -- the values of items change places as the items do
  pub map-swapped : (xs : List A) (pairs : List (ℕ × ℕ)) → with_swapped (map f xs) pairs ≡ map f (with_swapped xs pairs)
  map-swapped xs [] = refl
  map-swapped xs (p ∷ pairs) = ap (λ l. with_swapped l pairs) (map-swap xs (p.0 - 1) (p.1 - 1)) ∙ map-swapped (swap xs (p.0 - 1) (p.1 - 1)) pairs

-- items of the positions that are put in an order
pub swapped-puts : {T : Type 0} (xs : List T) (d : T) (a b : ℕ) (order : List ℕ) (pairs : List (ℕ × ℕ)) → Puts a b order pairs → 1 ≤ a → a ≤ b → b ≤ length xs
    → with_swapped xs pairs ≡ take (a - 1) xs ++ map (λ p. get_or xs (p - 1) d) order ++ drop b xs
swapped-puts {T = T} xs d a b order pairs puts low high last =
    let at : ℕ → T = λ p. get_or xs (p - 1) d in
    let front : List ℕ = range_with_len 1 (a - 1) in
    let behind : List ℕ = range_with_len (b + 1) (length xs - b) in
    let from : a ≡ a - 1 + 1 = omega (arith, low) in
    let one : map at front ≡ take (a - 1) xs = read-positions xs d 0 (a - 1) (omega (arith, low, high, last)) in
    let two : map at (positions a b) ≡ take (b + 1 - a) (drop (a - 1) xs) = ap (λ i. map at (range_with_len i (b + 1 - a))) from ∙ read-positions xs d (a - 1) (b + 1 - a) (omega (arith, low, high, last)) in
    let three : map at behind ≡ drop b xs = read-positions xs d b (length xs - b) (omega (arith, last)) ∙ take_all (length xs - b) (drop b xs) (omega (arith, length-drop b xs)) in
    let on : a - 1 + (b + 1 - a) ≡ b = omega (arith, low, high) in
    let split : take (a - 1) xs ++ (take (b + 1 - a) (drop (a - 1) xs) ++ drop b xs) ≡ xs =
    ap (λ l. take (a - 1) xs ++ (take (b + 1 - a) (drop (a - 1) xs) ++ l)) (ap (λ i. drop i xs) (sym on) ∙ sym (drop-drop (b + 1 - a) (a - 1) xs))
    ∙ ap (λ l. take (a - 1) xs ++ l) (take-append-drop (b + 1 - a) (drop (a - 1) xs))
    ∙ take-append-drop (a - 1) xs in
    let named : map at (front ++ (positions a b ++ behind)) ≡ xs =
    map-append at front (positions a b ++ behind)
    ∙ ap (λ l. map at front ++ l) (map-append at (positions a b) behind)
    ∙ ap (λ l. l ++ (map at (positions a b) ++ map at behind)) one
    ∙ ap (λ l. take (a - 1) xs ++ (l ++ map at behind)) two
    ∙ ap (λ l. take (a - 1) xs ++ (take (b + 1 - a) (drop (a - 1) xs) ++ l)) three
    ∙ split in
    ap (λ l. with_swapped l pairs) (sym named)
    ∙ map-swapped at (front ++ (positions a b ++ behind)) pairs
    ∙ ap (map at) (puts.put front behind (length-range_with_len 1 (a - 1)))
    ∙ map-append at front (order ++ behind)
    ∙ ap (λ l. map at front ++ l) (map-append at order behind)
    ∙ ap (λ l. l ++ (map at order ++ map at behind)) one
    ∙ ap (λ l. take (a - 1) xs ++ (map at order ++ l)) three
    ∙ sym (append_assoc (take (a - 1) xs) (map at order) (drop b xs))
