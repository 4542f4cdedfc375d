-- Laws of kept slices: how their numbers follow one another, that they stay right, and that their rows are got back.
use Rattle.std.specs.Prelude.{◌≡◌, ℕ, ℤ, ◌+◌, ◌-◌, ◌==◌, ◌++◌, not, Bool, true, false, cond, List, [], ◌∷◌, All, map, take, filter, slice_get, Option, option_map, Some, None, refl}
use Rattle.std.specs.List.{zip}
use Rattle.std.specs.Option.{option_map_or}
use Rattle.std.specs.declared.cmp.Ordering.{Ordering}
use Rattle.std.proofs.Common.{ap, sym, ◌∙◌, arith, suc}
use Rattle.std.proofs.lemmas.List.{take-map}
use Rattle.std.proofs.lemmas.List.Elements.{All-nil, All-cons, All-head, All-tail, All-filter, All-take, All-weaker}
use Rattle.std.proofs.lemmas.Option.{slice_get-map}
use Rattle.std.proofs.lemmas.Map.Views.{All-insert_key}
use Rattle.frame_cut.specs.declared.file_head.Head.{Head}
use Rattle.trace_view.specs.Values.{sample_of}
use Rattle.trace_record.specs.Facts.{Facts, facts_of}
use Rattle.trace_record.specs.OfTrace.{record_of}
use Rattle.key_counts.specs.Rising.{rising}
use Rattle.trace_record.specs.declared.record.Record.{Record}
use Rattle.bench_rules.specs.declared.row.Row.{Row}
use Rattle.bench_rules.specs.SlicesOfRecords.{with_sample_of}
use Rattle.trace_record.specs.Packed.{cell_of}
use Rattle.time_slice.specs.Shown.{row_at}
use Rattle.bench_rules.specs.Slices.{row_cmp, row_of, rows_from, slice_rows, slice_of}
use Rattle.bench_rules.specs.KeptSlices.{Cache, kept_of, row_again, rows_again, is_from, cache_after_slice, cache_after_change, IsRight, IsRightOf, AreRightOf}
use Rattle.time_slice.specs.CacheLaws.{NumbersAfterAsked, NumbersAfterForgotten, AskedStaysRight, ForgottenStaysRight, RowsComeBack, RightOfRecords}
use Rattle.time_slice.proofs.PassLemmas.{beside_own, rows_are_of_traces}

-- ---- the numbers

-- the numbers of the slices whose number passes
map-filter : (p : ℕ → Bool) (cache : Cache) → map (λ e. e.0) (filter (λ e. p e.0) cache) ≡ filter p (map (λ e. e.0) cache)
map-filter p [] = refl
map-filter p (e ∷ cache) = by (p e.0) (map-filter p cache)
  where
    by : (b : Bool) → map (λ e. e.0) (filter (λ e. p e.0) cache) ≡ filter p (map (λ e. e.0) cache) → map (λ e. e.0) (cond b (e ∷ filter (λ e. p e.0) cache) (filter (λ e. p e.0) cache)) ≡ cond b (e.0 ∷ filter p (map (λ e. e.0) cache)) (filter p (map (λ e. e.0) cache))
    by true same = ap (λ (ns : List ℕ). e.0 ∷ ns) same
    by false same = same

pub numbers_after_asked : NumbersAfterAsked
numbers_after_asked room k rows cache =
    sym (take-map (λ e. e.0) room _) ∙ ap (λ (ns : List ℕ). take room (k ∷ ns)) (map-filter (λ j. not (j == k)) cache)

pub numbers_after_forgotten : NumbersAfterForgotten
numbers_after_forgotten k many cache = map-filter (λ j. not (is_from k many j)) cache

-- ---- right slices

pub asked_stays_right : AskedStaysRight
asked_stays_right h fields traces room k cache all =
    All-take (IsRight h fields traces) room _
    (All-cons (IsRight h fields traces) (k, kept_of (slice_of h fields k traces)) _ refl (All-filter (λ e. not (e.0 == k)) (IsRight h fields traces) cache all))

pub forgotten_stays_right : ForgottenStaysRight
forgotten_stays_right h fields traces k many cache all = All-filter (λ e. not (is_from k many e.0)) (IsRight h fields traces) cache all

pub right_of_records : RightOfRecords
right_of_records h fields records traces cache same =
    let one : (k : ℕ) → kept_of (slice_rows (with_sample_of h k records traces)) ≡ kept_of (slice_of h fields k traces) = λ k. ap kept_of (rows_are_of_traces h fields k records traces same) in (
      All-weaker (IsRightOf h records traces) (IsRight h fields traces) (λ e right. right ∙ one e.0) cache,
      All-weaker (IsRight h fields traces) (IsRightOf h records traces) (λ e right. right ∙ sym (one e.0)) cache,
    )

-- ---- rows got back

-- what holds of each of a list holds of each of the rising list
pub All-rising : {K : Type 0} (cmp : K → K → Ordering) (P : K → Type 0) (ks : List K) → All P ks → All P (rising cmp ks)
All-rising cmp P [] all = all
All-rising cmp P (k ∷ ks) all = All-insert_key cmp k P (rising cmp ks) (All-rising cmp P ks (All-tail P k ks all)) (All-head P k ks all)

-- the row is got back
abbrev ComesBack : List Facts → Row → Type 0
ComesBack facts r = row_again facts (r.position, r.value) ≡ r ∷ []

-- the rows of the traces from a place on, counted from 0, are got back
from_place : (facts rest : List Facts) (samples : List (Option ℤ)) (i : ℕ) → ((j : ℕ) → slice_get facts (i + j) ≡ slice_get rest j) → All (ComesBack facts) (rows_from (i + 1) (zip rest samples))
from_place facts [] samples i there = All-nil (ComesBack facts)
from_place facts (f ∷ rest) [] i there = All-nil (ComesBack facts)
from_place facts (f ∷ rest) (s ∷ samples) i there = by s (from_place facts rest samples (i + 1) (λ j. let e : i + 1 + j ≡ i + suc j = omega arith in ap (slice_get facts) e ∙ there (suc j)))
  where
    here : slice_get facts (i + 1 - 1) ≡ Some f
    here = let e : i + 1 - 1 ≡ i + 0 = omega arith in ap (slice_get facts) e ∙ there 0

    by : (s : Option ℤ) → All (ComesBack facts) (rows_from (i + 1 + 1) (zip rest samples)) → All (ComesBack facts) (row_of (i + 1) f s ++ rows_from (i + 1 + 1) (zip rest samples))
    by None later = later
    by (Some v) later = All-cons (ComesBack facts) (record { inline = f.inline; crossline = f.crossline; position = i + 1; value = v }) _ (ap (λ (o : Option Facts). option_map_or (λ g. row_of (i + 1) g (Some v)) o []) here) later

each_again : (facts : List Facts) (rows : List Row) → All (ComesBack facts) rows → rows_again facts (kept_of rows) ≡ rows
each_again facts [] all = refl
each_again facts (r ∷ rows) all =
    ap (λ (xs : List Row). xs ++ rows_again facts (kept_of rows)) (All-head (ComesBack facts) r rows all)
    ∙ ap (λ (xs : List Row). r ∷ xs) (each_again facts rows (All-tail (ComesBack facts) r rows all))

-- the rows of facts beside samples are got back
pub slice_again : (facts : List Facts) (samples : List (Option ℤ)) → rows_again facts (kept_of (slice_rows (zip facts samples))) ≡ slice_rows (zip facts samples)
slice_again facts samples =
    each_again facts (slice_rows (zip facts samples)) (All-rising row_cmp (ComesBack facts) (rows_from 1 (zip facts samples)) (from_place facts facts samples 0 (λ j. let e : 0 + j ≡ j = omega arith in ap (slice_get facts) e)))

pub rows_come_back : RowsComeBack
rows_come_back h fields k traces =
    let facts = map (record_of h fields) traces in
    let again = slice_again facts (map (λ t. sample_of h t k) traces) in
    ap (λ ts. rows_again facts (kept_of (slice_rows ts))) (sym (beside_own h fields k traces)) ∙ again ∙ ap (λ ts. slice_rows ts) (beside_own h fields k traces)

-- a row tells the inline and the crossline of its trace
pub row_of_cell : (p : ℕ) (f : Facts) (s : Option ℤ) → row_at p (f.inline, f.crossline) s ≡ row_of p f s
row_of_cell p f None = refl
row_of_cell p f (Some v) = refl

-- the row of the record at a place is got back, from the cell of that record
row_again_of : (records : List Record) (p place : ℕ) (v : ℤ) → place ≡ p - 1
    → row_again (map facts_of records) (p, v) ≡ option_map_or (λ cell. row_at p cell (Some v)) (option_map cell_of (slice_get records place)) []
row_again_of records p place v there =
    ap (λ (o : Option Facts). option_map_or (λ f. row_of p f (Some v)) o []) (slice_get-map facts_of records (p - 1) ∙ ap (λ k. option_map facts_of (slice_get records k)) (sym there))
    ∙ by (slice_get records place)
  where
    by : (o : Option Record) → option_map_or (λ f. row_of p f (Some v)) (option_map facts_of o) [] ≡ option_map_or (λ cell. row_at p cell (Some v)) (option_map cell_of o) []
    by None = refl
    by (Some r) = refl

pub row_at_place : (records : List Record) (p place : ℕ) (v : ℤ) (cell : ℤ × ℤ) → place ≡ p - 1 → option_map cell_of (slice_get records place) ≡ Some cell
    → row_again (map facts_of records) (p, v) ≡ row_at p cell (Some v)
row_at_place records p place v cell there here = row_again_of records p place v there ∙ ap (λ o. option_map_or (λ c. row_at p c (Some v)) o []) here

pub no_row_at : (records : List Record) (p place : ℕ) (v : ℤ) → place ≡ p - 1 → option_map cell_of (slice_get records place) ≡ None → row_again (map facts_of records) (p, v) ≡ []
no_row_at records p place v there here = row_again_of records p place v there ∙ ap (λ o. option_map_or (λ c. row_at p c (Some v)) o []) here

-- right slices that records give are right after one was asked for, and after some were forgotten
pub asked_stays_right_of : (h : Head) (records : List Record) (traces : List (List ℕ)) (room k : ℕ) (cache : Cache)
    → AreRightOf h records traces cache → AreRightOf h records traces (cache_after_slice room k (slice_rows (with_sample_of h k records traces)) cache)
asked_stays_right_of h records traces room k cache all =
    All-take (IsRightOf h records traces) room _
    (All-cons (IsRightOf h records traces) (k, kept_of (slice_rows (with_sample_of h k records traces))) _ refl (All-filter (λ e. not (e.0 == k)) (IsRightOf h records traces) cache all))

pub forgotten_stays_right_of : (h : Head) (records : List Record) (traces : List (List ℕ)) (k many : ℕ) (cache : Cache) → AreRightOf h records traces cache → AreRightOf h records traces (cache_after_change k many cache)
forgotten_stays_right_of h records traces k many cache all = All-filter (λ e. not (is_from k many e.0)) (IsRightOf h records traces) cache all
