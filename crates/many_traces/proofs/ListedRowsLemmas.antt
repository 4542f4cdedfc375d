-- The rows of a table of listed traces, which is filled row by row.
use Rattle.std.proofs.Common.{◌≡◌, ℕ, ℤ, zero, suc, ◌+◌, ◌*◌, ◌<◌, ◌≤◌, false, true, List, [], ◌∷◌, ◌++◌, length, drop, get_or, slice_index, Some, None, refl, sym, ap, ◌∙◌, arith}
use Rattle.std.proofs.lemmas.Bool.{le-leb}
use Rattle.std.proofs.lemmas.List.{length-append}
use Rattle.std.specs.Prelude.{option_map, is_some}
use Rattle.field_map.specs.declared.place.Place.{Place}
use Rattle.frame_cut.specs.Traces.{count_of, is_trace, trace_at}
use Rattle.frame_cut.specs.Volume.{Volume}
use Rattle.bench_rules.specs.ChosenQueries.{table_of_each}
use Rattle.bench_rules.specs.Conditions.{AreRising}
use Rattle.bench_rules.specs.ManyTraces.{each_of}
use Rattle.bench_rules.specs.Tables.{rows_at, row_of}
use Rattle.bench_rules.proofs.EachLemmas.{each_stops, in_front, list_ends, list_goes_on, nothing_there}
use Rattle.many_traces.proofs.RowsLemmas.{pushed, row_at, rows_with, rows_with_more}
use Rattle.std.proofs.lemmas.List.{drop_more}

-- ---- positions that rise are those of traces

-- each of them is at least the one that they rise from, and none is above the bound
within : (m n : ℕ) (ps : List ℕ) (i d : ℕ) → i < length ps → AreRising m n ps → (m ≤ get_or ps i d) × (get_or ps i d ≤ n)
within m n [] i d below up = absurd (omega (arith, below))
within m n (p ∷ ps) zero d below up = (up.0, up.1)
within m n (p ∷ ps) (suc i) d below up =
    let rest = within (p + 1) n ps i d (omega (arith, below)) up.2 in
    (omega (arith, up.0, rest.0), rest.1)

pub rising_trace : (v : Volume) (ps : List ℕ) (i d : ℕ) → i < length ps → AreRising 1 (count_of v) ps → is_trace v (get_or ps i d) ≡ true
rising_trace v ps i d below up =
    let here = within 1 (count_of v) ps i d below up in
    rw (le-leb 1 (get_or ps i d) here.0, le-leb (get_or ps i d) (count_of v) here.1) refl

-- ---- row by row

-- the numbers of the first k of the traces, in rows, and what the others give
pub record AreListedRows (v : Volume) (places : List Place) (ps : List ℕ) (k : ℕ) (xs : List ℤ) : Type 0 where
  pub rows : table_of_each v places ps ≡ option_map (λ rows. rows_with (slice_index ps) k (length places) xs ++ rows) (each_of (row_at v places) (drop k ps))
  pub full : length xs ≡ length places * k

pub none_listed_yet : (v : Volume) (places : List Place) (ps : List ℕ) → AreListedRows v places ps 0 []
none_listed_yet v places ps = record { rows = sym (in_front (each_of (row_at v places) ps)); full = omega arith }

pub listed_go_on : (v : Volume) (places : List Place) (ps : List ℕ) (k : ℕ) (us vs : List ℤ) → k < length ps → AreListedRows v places ps k us
    → option_map (λ row. us ++ row) (row_of v.head places (trace_at v (slice_index ps k))) ≡ Some vs → length vs ≡ length us + length places → AreListedRows v places ps (k + 1) vs
listed_go_on v places ps k us vs below far e more = go (pushed us vs (row_of v.head places (trace_at v p)) e)
  where
    p : ℕ
    p = slice_index ps k

    go : ((row : List ℤ) × (row_of v.head places (trace_at v p) ≡ Some row) × (vs ≡ us ++ row)) → AreListedRows v places ps (k + 1) vs
    go found =
        let whole : length found.0 ≡ length places = omega (arith, more, ap (λ (xs : List ℤ). length xs) found.2, length-append us found.0) in
        let w = length places in
        let rows : rows_with (slice_index ps) (k + 1) w vs ≡ rows_with (slice_index ps) k w us ++ (p, found.0) ∷ [] =
        ap (λ (xs : List ℤ). rows_with (slice_index ps) (k + 1) w xs) found.2 ∙ rows_with_more (slice_index ps) w k us found.0 far.full whole in
        record {
          rows = list_goes_on (row_at v places) (table_of_each v places ps) (rows_with (slice_index ps) k w us) ps k 0 (p, found.0) below (ap (λ o. option_map (λ xs. (p, xs)) o) found.1) far.rows
              ∙ ap (λ (rs : List (ℕ × List ℤ)). option_map (λ rows. rs ++ rows) (each_of (row_at v places) (drop (k + 1) ps))) (sym rows);
          full = let step : w * (k + 1) ≡ w * k + w = omega arith in omega (arith, more, far.full, step);
        }

pub listed_stop : (v : Volume) (places : List Place) (ps : List ℕ) (k : ℕ) (us : List ℤ) → k < length ps → AreListedRows v places ps k us
    → false ≡ is_some (row_of v.head places (trace_at v (slice_index ps k))) → table_of_each v places ps ≡ None
listed_stop v places ps k us below far e =
    let p : ℕ = slice_index ps k in
    let none : row_at v places p ≡ None = ap (λ o. option_map (λ xs. (p, xs)) o) (nothing_there (row_of v.head places (trace_at v p)) e) in
    far.rows ∙ ap (λ o. option_map (λ rows. rows_with (slice_index ps) k (length places) us ++ rows) o)
    (ap (λ qs. each_of (row_at v places) qs) (drop_more ps k 0 below) ∙ each_stops (row_at v places) p (drop (k + 1) ps) none)

pub listed_end : (v : Volume) (places : List Place) (ps : List ℕ) (k : ℕ) (us : List ℤ) → k ≡ length ps → AreListedRows v places ps k us → table_of_each v places ps ≡ Some (rows_at ps (length places) us)
listed_end v places ps k us end far =
    list_ends (row_at v places) (table_of_each v places ps) (rows_with (slice_index ps) k (length places) us) ps k (omega (arith, end)) far.rows
    ∙ ap (λ (n : ℕ). Some (rows_with (slice_index ps) n (length places) us)) end
