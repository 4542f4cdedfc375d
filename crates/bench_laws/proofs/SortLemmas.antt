-- A sort of traces keeps them, and puts them in order.
use Rattle.std.proofs.Common.{◌≡◌, ◌∙◌, ℕ, ℤ, zero, suc, ◌+◌, ◌-◌, ◌≤◌, Bool, true, false, cond, List, [], ◌∷◌, ◌++◌, length, map, take, drop, get_or, All, Option, Some, None, refl, sym, ap, subst, arith, append_assoc}
use Rattle.std.specs.Prelude.{option_map, option_and_then, unwrap_or, filter}
use Rattle.std.specs.List.{range_with_len}
use Rattle.std.specs.Cmp.{IsStrictWeakOrder}
use Rattle.std.specs.List.Sorted.{IsPermutation, IsSortedBy, ties}
use Rattle.std.proofs.lemmas.List.FromFn.{length-range_with_len}
use Rattle.std.proofs.lemmas.List.Sorted.{length_permutation, All-permutation}
use Rattle.std.proofs.lemmas.List.{length-map, length-append, length-take-le, take_at, drop_at}
use Rattle.std.proofs.lemmas.List.Elements.{All-nil, All-cons, All-head, All-tail}
use Rattle.frame_cut.specs.Cuts.{IsCut}
use Rattle.frame_cut.specs.Traces.{count_of, trace_at}
use Rattle.frame_cut.specs.Volume.{Volume, bytes_of}
use Rattle.frame_cut.proofs.OneCutLemmas.{at_most_one_cut}
use Rattle.bench_rules.specs.declared.edit.Edit.TheVariants.{Sort}
use Rattle.bench_rules.specs.declared.field.Field.{Field}
use Rattle.bench_rules.specs.After.{bytes_after}
use Rattle.bench_rules.specs.Refused.{first_refusal}
use Rattle.bench_rules.specs.State.{State}
use Rattle.bench_rules.specs.Steps.{IsAfter}
use Rattle.bench_rules.specs.ManyTraces.{each_of, positions}
use Rattle.bench_rules.specs.Sorted.{in_order, with_order}
use Rattle.bench_rules.specs.Tables.{row_of, table_of}
use Rattle.bench_rules.proofs.InOrderLemmas.{ordered, Rises, ordered-rises, ordered-stable}
use Rattle.bench_rules.proofs.RowOrderLemmas.{is_before, rows-ordered, rows-weak}
use Rattle.bench_rules.proofs.SortLemmas.{in_order-permutes, ordered-permutes, traces-permute, read-positions}
use Rattle.bench_rules.proofs.SortedLemmas.{SortAccepted, sort_accepted, sort_done}
use Rattle.bench_laws.specs.SortLaws.{is_row_before, RowsStandInOrder, SortPutsRowsInOrder, SortKeepsTraces, SortedTableIsInOrder}

abbrev Row : Type 0
Row = ℕ × List ℤ

-- ---- rows in order

module _ (width : ℕ) where
  abbrev IsWide : Row → Type 0
  IsWide row = length row.1 ≡ width

  abbrev Wide : Type 0
  Wide = (row : Row) × IsWide row

  abbrev wides : (rows : List Row) → All IsWide rows → List Wide
  wides [] all = []
  wides (row ∷ rows) all = (row, All-head IsWide row rows all) ∷ wides rows (All-tail IsWide row rows all)

  rows-again : (rows : List Row) (all : All IsWide rows) → map (λ w. w.0) (wides rows all) ≡ rows
  rows-again [] all = refl
  rows-again (row ∷ rows) all = ap (λ l. row ∷ l) (rows-again rows (All-tail IsWide row rows all))

  module _ (falls : List Bool) where
    weak : IsStrictWeakOrder (is_before falls (λ (w : Wide). w.0))
    weak = rows-weak falls (λ (w : Wide). w.0) width (λ w. w.1)

    -- none is in front of one before it, as rows too
    rises-sorted : (ws : List Wide) → Rises (is_before falls (λ (w : Wide). w.0)) weak ws → IsSortedBy (is_row_before falls) (map (λ w. w.0) ws)
    rises-sorted [] up k d low less = absurd (omega (arith, less))
    rises-sorted (w ∷ []) up k d low less = absurd (omega (arith, less))
    rises-sorted (v ∷ w ∷ ws) up zero d low less = up.0.0
    rises-sorted (v ∷ w ∷ ws) up (suc k) d low less =
        let on : suc k + 1 ≡ suc (k + 1) = omega arith in
        ap (λ i. is_row_before falls (get_or (map (λ u. u.0) (v ∷ w ∷ ws)) i d) (get_or (map (λ u. u.0) (w ∷ ws)) k d)) on ∙ rises-sorted (w ∷ ws) up.1 k d (omega arith) (omega (arith, less))

    ties-of-rows : (z : Wide) (ws : List Wide) → filter (ties (is_row_before falls) z.0) (map (λ w. w.0) ws) ≡ map (λ w. w.0) (filter (ties (is_before falls (λ (w : Wide). w.0)) z) ws)
    ties-of-rows z [] = refl
    ties-of-rows z (w ∷ ws) =
        ap (λ l. cond (ties (is_row_before falls) z.0 w.0) (w.0 ∷ l) l) (ties-of-rows z ws)
        ∙ map-cond (ties (is_row_before falls) z.0 w.0) w (filter (ties (is_before falls (λ (w : Wide). w.0)) z) ws)
      where
        map-cond : (b : Bool) (w : Wide) (l : List Wide) → cond b (w.0 ∷ map (λ w. w.0) l) (map (λ w. w.0) l) ≡ map (λ w. w.0) (cond b (w ∷ l) l)
        map-cond true w l = refl
        map-cond false w l = refl

    module _ (rows : List Row) (all : All IsWide rows) where
      abbrev ws : List Wide
      ws = wides rows all

      in-order-is : in_order falls rows ≡ map (λ w. w.0) (ordered (is_before falls (λ (w : Wide). w.0)) ws)
      in-order-is = ap (in_order falls) (sym (rows-again rows all)) ∙ rows-ordered falls (λ (w : Wide). w.0) ws

      sorted : IsSortedBy (is_row_before falls) (in_order falls rows)
      sorted = subst (IsSortedBy (is_row_before falls)) (sym in-order-is) (rises-sorted (ordered (is_before falls (λ (w : Wide). w.0)) ws) (ordered-rises (is_before falls (λ (w : Wide). w.0)) weak ws))

      stable : (row : Row) → IsWide row → filter (ties (is_row_before falls) row) (in_order falls rows) ≡ filter (ties (is_row_before falls) row) rows
      stable row wide =
          let z : Wide = (row, wide) in
          ap (filter (ties (is_row_before falls) row)) in-order-is
          ∙ ties-of-rows z (ordered (is_before falls (λ (w : Wide). w.0)) ws)
          ∙ ap (map (λ w. w.0)) (ordered-stable (is_before falls (λ (w : Wide). w.0)) weak z ws)
          ∙ sym (ties-of-rows z ws)
          ∙ ap (filter (ties (is_row_before falls) row)) (rows-again rows all)

pub rows_stand_in_order : RowsStandInOrder
rows_stand_in_order falls rows width all = (in_order-permutes falls rows, sorted width falls rows all, stable width falls rows all)

-- ---- the traces

-- what is known of the volume behind a sort
record SortedVolume (s new : State) (a b : ℕ) (names : List Field) (falls : List Bool) : Type 0 where
  c : SortAccepted s a b names
  is : new.volume ≡ with_order s.volume a b (map (λ row. row.0) (in_order falls c.rows))
  same : IsPermutation (positions a b) (map (λ row. row.0) (in_order falls c.rows))

sorted-volume : (s new : State) (a b : ℕ) (names : List Field) (falls : List Bool) → IsCut (bytes_of s.volume) s.reading s.limits s.volume → first_refusal s (Sort a b names falls) ≡ None → IsAfter s (Sort a b names falls) new
    → SortedVolume s new a b names falls
sorted-volume s new a b names falls cut none after =
    let c = sort_accepted s a b names falls none in
    let w : Volume = with_order s.volume a b (map (λ row. row.0) (in_order falls c.rows)) in
    record {
      c = c;
      is = at_most_one_cut (bytes_after s (Sort a b names falls)) s.reading s.limits new.volume w after.volume (sort_done s a b names falls w cut c refl).volume;
      same = ordered-permutes s.volume c.places falls a b c.rows c.table;
    }

pub sort_puts_rows_in_order : SortPutsRowsInOrder
sort_puts_rows_in_order s new a b names falls places rows cut none after found table =
    let d = sorted-volume s new a b names falls cut none after in
    let here : d.c.places ≡ places = ap (λ o. unwrap_or o places) (sym d.c.found ∙ found) in
    let held : d.c.rows ≡ rows = ap (λ o. unwrap_or o rows) (sym d.c.table ∙ (ap (λ ps. table_of s.volume ps a b) here ∙ table)) in
    d.is ∙ ap (λ rs. with_order s.volume a b (map (λ row. row.0) (in_order falls rs))) held

-- as many traces are put where as many stood
order-long : (a b : ℕ) (order : List ℕ) → IsPermutation (positions a b) order → length order ≡ b + 1 - a
order-long a b order same = length_permutation (positions a b) order same ∙ length-range_with_len a (b + 1 - a)

module _ (v : Volume) (a b : ℕ) (order : List ℕ) (low : 1 ≤ a) (high : a ≤ b) (last : b ≤ count_of v) (same : IsPermutation (positions a b) order) where
  front-long : length (take (a - 1) v.traces) ≡ a - 1
  front-long = length-take-le (a - 1) v.traces (omega (arith, low, high, last))

  pub front-stays : take (a - 1) (with_order v a b order).traces ≡ take (a - 1) v.traces
  front-stays =
      ap (take (a - 1)) (append_assoc (take (a - 1) v.traces) (map (trace_at v) order) (drop b v.traces)) ∙ take_at (take (a - 1) v.traces) (map (trace_at v) order ++ drop b v.traces) (a - 1) front-long

  both-long : length (take (a - 1) v.traces ++ map (trace_at v) order) ≡ b
  both-long = omega (arith, length-append (take (a - 1) v.traces) (map (trace_at v) order), front-long, length-map order (trace_at v), order-long a b order same, low, high)

  pub behind-stays : drop b (with_order v a b order).traces ≡ drop b v.traces
  behind-stays = drop_at (take (a - 1) v.traces ++ map (trace_at v) order) (drop b v.traces) b both-long

pub sort_keeps_traces : SortKeepsTraces
sort_keeps_traces s new a b names falls cut none after =
    let d = sorted-volume s new a b names falls cut none after in
    let order : List ℕ = map (λ row. row.0) (in_order falls d.c.rows) in (
      subst (λ (v : Volume). IsPermutation s.volume.traces v.traces) (sym d.is) (traces-permute s.volume a b order d.c.low d.c.high d.c.last d.same),
      ap (λ (v : Volume). take (a - 1) v.traces) d.is ∙ front-stays s.volume a b order d.c.low d.c.high d.c.last d.same,
      ap (λ (v : Volume). drop b v.traces) d.is ∙ behind-stays s.volume a b order d.c.low d.c.high d.c.last d.same,
    )

-- ---- the numbers behind a sort

each-map : {A B C : Type 0} (g : B → Option C) (f : A → B) (xs : List A) → each_of g (map f xs) ≡ each_of (λ x. g (f x)) xs
each-map g f [] = refl
each-map g f (x ∷ xs) = ap (λ o. option_and_then (λ y. option_map (λ ys. y ∷ ys) o) (g (f x))) (each-map g f xs)

-- the numbers of rows, without their positions
numbers-alone : (g : ℕ → Option (List ℤ)) (ps : List ℕ) → option_map (map (λ (row : Row). row.1)) (each_of (λ p. option_map (λ xs. (p, xs)) (g p)) ps) ≡ each_of g ps
numbers-alone g [] = refl
numbers-alone g (p ∷ ps) = by (g p) (each_of (λ q. option_map (λ xs. (q, xs)) (g q)) ps) (each_of g ps) (numbers-alone g ps)
  where
    by : (o : Option (List ℤ)) (rows : Option (List Row)) (rest : Option (List (List ℤ))) → option_map (map (λ (row : Row). row.1)) rows ≡ rest
        → option_map (map (λ (row : Row). row.1)) (option_and_then (λ row. option_map (λ rs. row ∷ rs) rows) (option_map (λ xs. (p, xs)) o)) ≡ option_and_then (λ xs. option_map (λ ys. xs ∷ ys) rest) o
    by None rows rest e = refl
    by (Some xs) None None e = refl
    by (Some xs) None (Some ys) e = absurd cc
    by (Some xs) (Some rs) None e = absurd cc
    by (Some xs) (Some rs) (Some ys) e = let same : map (λ (row : Row). row.1) rs ≡ ys = cc in ap (λ l. let o : Option (List (List ℤ)) = Some (xs ∷ l) in o) same

-- each row has the numbers of its position
abbrev HasNumbers : (ℕ → Option (List ℤ)) → Row → Type 0
HasNumbers g row = g row.0 ≡ Some row.1

rows-have : (g : ℕ → Option (List ℤ)) (ps : List ℕ) (rows : List Row) → each_of (λ p. option_map (λ xs. (p, xs)) (g p)) ps ≡ Some rows → All (HasNumbers g) rows
rows-have g [] rows e = subst (All (HasNumbers g)) (ap (λ o. unwrap_or o []) e) (All-nil (HasNumbers g))
rows-have g (p ∷ ps) rows e = by (g p) (each_of (λ q. option_map (λ xs. (q, xs)) (g q)) ps) refl (λ rs h. rows-have g ps rs h) e
  where
    by : (o : Option (List ℤ)) (rest : Option (List Row)) → g p ≡ o → ((rs : List Row) → rest ≡ Some rs → All (HasNumbers g) rs)
        → option_and_then (λ row. option_map (λ rs. row ∷ rs) rest) (option_map (λ xs. (p, xs)) o) ≡ Some rows → All (HasNumbers g) rows
    by None rest g_is h e = absurd cc
    by (Some xs) None g_is h e = absurd cc
    by (Some xs) (Some rs) g_is h e = subst (All (HasNumbers g)) (ap (λ o. unwrap_or o []) e) (All-cons (HasNumbers g) (p, xs) rs g_is (h rs refl))

have-each : (g : ℕ → Option (List ℤ)) (rows : List Row) → All (HasNumbers g) rows → each_of g (map (λ row. row.0) rows) ≡ Some (map (λ row. row.1) rows)
have-each g [] all = refl
have-each g (row ∷ rows) all = rw (All-head (HasNumbers g) row rows all, have-each g rows (All-tail (HasNumbers g) row rows all)) refl

-- the traces of a range, behind the sort
module _ (v : Volume) (a b : ℕ) (order : List ℕ) (low : 1 ≤ a) (high : a ≤ b) (last : b ≤ count_of v) (same : IsPermutation (positions a b) order) where
  middle-is : map (trace_at (with_order v a b order)) (positions a b) ≡ map (trace_at v) order
  middle-is =
      let w : Volume = with_order v a b order in
      let from : a ≡ a - 1 + 1 = omega (arith, low) in
      let long : length (map (trace_at v) order) ≡ b + 1 - a = length-map order (trace_at v) ∙ order-long a b order same in
      let all : length w.traces ≡ count_of v = length_permutation v.traces w.traces (traces-permute v a b order low high last same) in
      let whole : w.traces ≡ take (a - 1) v.traces ++ (map (trace_at v) order ++ drop b v.traces) = append_assoc (take (a - 1) v.traces) (map (trace_at v) order) (drop b v.traces) in
      ap (λ i. map (trace_at w) (range_with_len i (b + 1 - a))) from
      ∙ read-positions w.traces [] (a - 1) (b + 1 - a) (omega (arith, low, high, last, all))
      ∙ ap (λ ts. take (b + 1 - a) (drop (a - 1) ts)) whole
      ∙ ap (take (b + 1 - a)) (drop_at (take (a - 1) v.traces) (map (trace_at v) order ++ drop b v.traces) (a - 1) (front-long v a b order low high last same))
      ∙ take_at (map (trace_at v) order) (drop b v.traces) (b + 1 - a) long

pub sorted_table_is_in_order : SortedTableIsInOrder
sorted_table_is_in_order s new a b names falls places rows cut none after found table =
    let d = sorted-volume s new a b names falls cut none after in
    let v : Volume = s.volume in
    let here : d.c.places ≡ places = ap (λ o. unwrap_or o places) (sym d.c.found ∙ found) in
    let held : d.c.rows ≡ rows = ap (λ o. unwrap_or o rows) (sym d.c.table ∙ (ap (λ ps. table_of v ps a b) here ∙ table)) in
    let order : List ℕ = map (λ row. row.0) (in_order falls d.c.rows) in
    let w : Volume = with_order v a b order in
    let g : ℕ → Option (List ℤ) = λ p. row_of v.head places (trace_at v p) in
    let have : All (HasNumbers g) (in_order falls rows) = All-permutation (HasNumbers g) rows (in_order falls rows) (in_order-permutes falls rows) (rows-have g (positions a b) rows table) in
    ap (λ (u : Volume). option_map (map (λ (row : Row). row.1)) (table_of u places a b)) d.is
    ∙ numbers-alone (λ p. row_of w.head places (trace_at w p)) (positions a b)
    ∙ sym (each-map (row_of v.head places) (trace_at w) (positions a b))
    ∙ ap (each_of (row_of v.head places)) (middle-is v a b order d.c.low d.c.high d.c.last d.same)
    ∙ each-map (row_of v.head places) (trace_at v) order
    ∙ ap (λ rs. each_of g (map (λ (row : Row). row.0) (in_order falls rs))) held
    ∙ have-each g (in_order falls rows) have
