-- What the running values have counted while new records come to stand in for others.
use Rattle.std.specs.Prelude.{◌≡◌, ℕ, zero, suc, ◌+◌, ◌<◌, ◌≤◌, true, ◌&&◌, List, [], ◌∷◌, ◌++◌, length, take, drop, map, sum_by, slice_get, slice_set, get_or, All, IfSome, Option, None, Some, Result, Ok, Err, OnOk, refl}
use Rattle.std.proofs.Common.{arith, sym, ap, ap₂, ◌∙◌, subst}
use Rattle.std.proofs.lemmas.List.{length-append, length-drop, length-set, length-take-le, map-append, append_assoc, append-nil, drop_more, drop_all, drop-set-lt, take-append-drop}
use Rattle.std.proofs.lemmas.List.Elements.{All-get_or}
use Rattle.std.proofs.lemmas.List.Sums.{sum_by-cons, sum_by-append}
use Rattle.std.proofs.lemmas.Option.{get_or_from_slice_get, slice_get_within}
use Rattle.trace_record.specs.Facts.{Facts, facts_of}
use Rattle.trace_record.specs.Keys.{Counted}
use Rattle.trace_record.specs.Tally.{Tally, tally_of, plus_beside, minus_beside, Same, HasKeys, HasKeysBeside, HoldsBeside, IsSmall}
use Rattle.trace_record.specs.declared.record.Record.{Record}
use Rattle.trace_record.proofs.TallyLemmas.{Same-trans, Same-sym, IsSmall-Same}
use Rattle.fault_live.specs.FaultKeys.{keys_of_faults}
use Rattle.grid_live.specs.GridKeys.{keys_of_grid}
use Rattle.range_stats.specs.RangeKeys.{keys_of_ranges}
use Rattle.range_stats.specs.TotalKeys.{keys_of_totals}
use Rattle.live_reports.specs.Alike.{same_cell}
use Rattle.live_reports.specs.Exchanged.{with_records, same_cells, with_new, tallies_with_new, AreFewTogether}
use Rattle.live_reports.specs.Reports.{HasEachKey}
use Rattle.live_reports.specs.Tallies.{Tallies, tallies_of_records, plus_each_beside, minus_each_beside, SameEach, AreSmall, HaveKeysBeside, HoldEachBeside}
use Rattle.live_reports.proofs.BesideLemmas.{plus_beside-Same, HoldsBeside-plus, undone, HasKeys-beside, grew_by, with_new-IsSmall, old_held, old_goes}
use Rattle.live_reports.proofs.ListLemmas.{stands_at, get_behind, set_behind}
use Rattle.live_reports.proofs.SmallLemmas.{small_within, AreSmall-Same}

-- the number of samples of records
abbrev samples : List Record → ℕ
samples rs = sum_by (λ (r : Record). r.number) rs

-- the tally of records
abbrev all : Counted → List Record → Tally
all c rs = tally_of c (map facts_of rs)

-- what follows where a call went well
pub on_ok : {T E A B : Type 0} (r : Result T E) → (A → B) → OnOk r A → OnOk r B
on_ok (Ok x) f a = f a
on_ok (Err e) f a = a

-- ---- few records together

-- the tallies of records with new ones beside as many of them
abbrev with_each : List Record → List Record → List Record → Tallies
with_each rs os ns = record {
  grid = with_new keys_of_grid (all keys_of_grid rs) os ns;
  ranges = with_new keys_of_ranges (all keys_of_ranges rs) os ns;
  totals = with_new keys_of_totals (all keys_of_totals rs) os ns;
  triples = with_new keys_of_faults (all keys_of_faults rs) os ns;
}

small_together : (rs os ns : List Record) → length ns ≤ length os → AreFewTogether rs ns → AreSmall (with_each rs os ns)
small_together rs os ns h few =
    let a = few.records in
    let b = few.samples in
    let small = small_within (ns ++ rs) (omega (arith, length-append ns rs)) (omega (arith, sum_by-append (λ (r : Record). r.number) ns rs)) in
    record {
      grid = with_new-IsSmall keys_of_grid rs os ns h small.grid;
      ranges = with_new-IsSmall keys_of_ranges rs os ns h small.ranges;
      totals = with_new-IsSmall keys_of_totals rs os ns h small.totals;
      triples = with_new-IsSmall keys_of_faults rs os ns h small.triples;
    }

samples-drop : (k : ℕ) (rs : List Record) → samples (drop k rs) ≤ samples rs
samples-drop zero rs = omega arith
samples-drop (suc k) [] = omega arith
samples-drop (suc k) (r ∷ rs) = omega (arith, sum_by-cons (λ (q : Record). q.number) r rs, samples-drop k rs)

-- those that are left of the new ones are few too
pub few_left : (rs new : List Record) (k : ℕ) → AreFewTogether rs new → AreFewTogether rs (drop k new)
few_left rs new k few =
    let a = few.records in
    let b = few.samples in
    record { records = omega (arith, length-drop k new); samples = omega (arith, samples-drop k new) }

-- ---- the lists at new record k

-- the records from a place on
from_place : (xs : List Record) (p q : ℕ) (x : Record) → slice_get xs p ≡ Some x → q ≡ p + 1 → drop p xs ≡ x ∷ drop q xs
from_place xs p q x there next =
    drop_more xs p x (slice_get_within xs p x there)
    ∙ ap₂ (λ (y : Record) (ys : List Record). y ∷ ys) (get_or_from_slice_get xs p x x there) (ap (λ i. drop i xs) (sym next))

-- the new records from new record k on
from_new : (new : List Record) (k : ℕ) (n : Record) → k < length new → n ≡ get_or new k n → drop k new ≡ n ∷ drop (k + 1) new
from_new new k n within is = drop_more new k n within ∙ ap (λ (y : Record). y ∷ drop (k + 1) new) (sym is)

-- the facts of a list with a record between two parts
parts : (rs front behind : List Record) (r : Record) → rs ≡ front ++ r ∷ behind → map facts_of rs ≡ map facts_of front ++ facts_of r ∷ map facts_of behind
parts rs front behind r e = ap (λ l. map facts_of l) e ∙ map-append facts_of front (r ∷ behind)

Same-refl : (t u : Tally) → t ≡ u → Same t u
Same-refl t u e = rw e (record { records = refl; number = refl; sum = refl; count = λ k. refl })

module _ (rs : List Record) (at k : ℕ) (new : List Record) (o n : Record) (there : slice_get rs (at + k) ≡ Some o) (within : k < length new) (is : n ≡ get_or new k n) where
  old_ones : drop (at + k) rs ≡ o ∷ drop (at + (k + 1)) rs
  old_ones = from_place rs (at + k) (at + (k + 1)) o there (omega arith)

  new_ones : drop k new ≡ n ∷ drop (k + 1) new
  new_ones = from_new new k n within is

  -- the cells from new record k on
  pub cells_from : same_cells (drop (at + k) rs) (drop k new) ≡ (same_cell o n && same_cells (drop (at + (k + 1)) rs) (drop (k + 1) new))
  cells_from = ap₂ same_cells old_ones new_ones

  -- the tally with the new records behind new record k
  abbrev next : Counted → Tally
  next c = with_new c (all c rs) (drop (at + (k + 1)) rs) (drop (k + 1) new)

  -- the tally from new record k on
  opened : (c : Counted) → with_new c (all c rs) (drop (at + k) rs) (drop k new) ≡ plus_beside c (next c) (facts_of n) (facts_of o)
  opened c = ap₂ (with_new c (all c rs)) old_ones new_ones

  -- the tallies with new record k beside those that follow it
  pub each_opened : (t : Tallies) → SameEach t (tallies_with_new rs at new k) → SameEach t (plus_each_beside (tallies_with_new rs at new (k + 1)) (facts_of n) (facts_of o))
  each_opened t s = record {
    grid = Same-trans _ _ _ s.grid (Same-refl _ _ (opened keys_of_grid));
    ranges = Same-trans _ _ _ s.ranges (Same-refl _ _ (opened keys_of_ranges));
    totals = Same-trans _ _ _ s.totals (Same-refl _ _ (opened keys_of_totals));
    triples = Same-trans _ _ _ s.triples (Same-refl _ _ (opened keys_of_faults));
  }

  one_added : (c : Counted) (t u : Tally) → Same t (next c) → Same u (plus_beside c t (facts_of n) (facts_of o)) → Same u (with_new c (all c rs) (drop (at + k) rs) (drop k new))
  one_added c t u s grew = Same-trans _ _ _ grew (Same-trans _ _ _ (plus_beside-Same c _ _ (facts_of n) (facts_of o) s) (Same-refl _ _ (sym (opened c))))

  pub each_added : (t u : Tallies) → SameEach t (tallies_with_new rs at new (k + 1)) → SameEach u (plus_each_beside t (facts_of n) (facts_of o)) → SameEach u (tallies_with_new rs at new k)
  each_added t u s grew = record {
    grid = one_added keys_of_grid _ _ s.grid grew.grid;
    ranges = one_added keys_of_ranges _ _ s.ranges grew.ranges;
    totals = one_added keys_of_totals _ _ s.totals grew.totals;
    triples = one_added keys_of_faults _ _ s.triples grew.triples;
  }

  -- where as many records stand there, they are small together
  module _ (enough : at + length new ≤ length rs) (few : AreFewTogether rs (drop k new)) where
    as_many : length (n ∷ drop (k + 1) new) ≤ length (o ∷ drop (at + (k + 1)) rs)
    as_many = omega (arith, length-drop (k + 1) new, length-drop (at + (k + 1)) rs)

    few_here : AreFewTogether rs (n ∷ drop (k + 1) new)
    few_here = subst (λ (l : List Record). AreFewTogether rs l) new_ones few

    few_next : AreFewTogether rs (drop (k + 1) new)
    few_next =
        let a = few_here.records in
        let b = few_here.samples in
        let many = sum_by-cons (λ (r : Record). r.number) n (drop (k + 1) new) in
        record { records = omega arith; samples = omega arith }

    pub small_from : AreSmall (tallies_with_new rs at new (k + 1))
    small_from = small_together rs (drop (at + (k + 1)) rs) (drop (k + 1) new) (omega (arith, as_many)) few_next

    one_small : (c : Counted) (t : Tally) → Same t (next c) → IsSmall (plus_beside c (next c) (facts_of n) (facts_of o)) → IsSmall (plus_beside c t (facts_of n) (facts_of o))
    one_small c t s small = IsSmall-Same _ _ (Same-sym _ _ (plus_beside-Same c _ _ (facts_of n) (facts_of o) s)) small

    -- with new record k too
    pub room_from : (t : Tallies) → SameEach t (tallies_with_new rs at new (k + 1)) → AreSmall (plus_each_beside t (facts_of n) (facts_of o))
    room_from t s =
        let small = small_together rs (o ∷ drop (at + (k + 1)) rs) (n ∷ drop (k + 1) new) as_many few_here in
        record {
          grid = one_small keys_of_grid _ s.grid small.grid;
          ranges = one_small keys_of_ranges _ s.ranges small.ranges;
          totals = one_small keys_of_totals _ s.totals small.totals;
          triples = one_small keys_of_faults _ s.triples small.triples;
        }

    -- and once record n stands at its place, they are small beside the records then
    pub few_after : AreFewTogether (slice_set rs (at + k) n) (drop (k + 1) new)
    few_after =
        let a = few_here.records in
        let b = few_here.samples in
        let st = stands_at rs (at + k) o there in
        let many = sum_by-cons (λ (r : Record). r.number) n (drop (k + 1) new) in
        let was = ap samples st.whole ∙ sum_by-append (λ (r : Record). r.number) st.front (o ∷ st.behind) in
        let will = ap samples (st.written n) ∙ sum_by-append (λ (r : Record). r.number) st.front (n ∷ st.behind) in
        let here = sum_by-cons (λ (r : Record). r.number) o st.behind in
        let there_then = sum_by-cons (λ (r : Record). r.number) n st.behind in
        record { records = omega (arith, length-set rs (at + k) n); samples = omega arith }

  -- what is known once the new records from new record k on are counted
  module _ (t : Tallies) (s : SameEach t (tallies_with_new rs at new k)) where
    pub each_new_held : HoldEachBeside t (facts_of n) (facts_of o)
    each_new_held =
        let g = each_opened t s in
        record {
          grid = HoldsBeside-plus keys_of_grid (next keys_of_grid) _ (facts_of n) (facts_of o) g.grid;
          ranges = HoldsBeside-plus keys_of_ranges (next keys_of_ranges) _ (facts_of n) (facts_of o) g.ranges;
          totals = HoldsBeside-plus keys_of_totals (next keys_of_totals) _ (facts_of n) (facts_of o) g.totals;
          triples = HoldsBeside-plus keys_of_faults (next keys_of_faults) _ (facts_of n) (facts_of o) g.triples;
        }

    -- without the new one, those behind it are left
    pub each_removed : SameEach (minus_each_beside t (facts_of n) (facts_of o)) (tallies_with_new rs at new (k + 1))
    each_removed =
        let g = each_opened t s in
        record {
          grid = undone keys_of_grid (next keys_of_grid) _ (facts_of n) (facts_of o) g.grid;
          ranges = undone keys_of_ranges (next keys_of_ranges) _ (facts_of n) (facts_of o) g.ranges;
          totals = undone keys_of_totals (next keys_of_totals) _ (facts_of n) (facts_of o) g.totals;
          triples = undone keys_of_faults (next keys_of_faults) _ (facts_of n) (facts_of o) g.triples;
        }

    stood : (c : Counted) → Same (all c rs) (tally_of c (map facts_of (stands_at rs (at + k) o there).front ++ facts_of o ∷ map facts_of (stands_at rs (at + k) o there).behind))
    stood c = let st = stands_at rs (at + k) o there in Same-refl _ _ (ap (tally_of c) (parts rs st.front st.behind o st.whole))

    stands : (c : Counted) → Same (all c (slice_set rs (at + k) n)) (tally_of c (map facts_of (stands_at rs (at + k) o there).front ++ facts_of n ∷ map facts_of (stands_at rs (at + k) o there).behind))
    stands c = let st = stands_at rs (at + k) o there in Same-refl _ _ (ap (tally_of c) (parts (slice_set rs (at + k) n) st.front st.behind n (st.written n)))

    one_held : (c : Counted) (q : Tally) → Same q (plus_beside c (next c) (facts_of n) (facts_of o)) → HoldsBeside c q (facts_of o) (facts_of n)
    one_held c q g =
        let st = stands_at rs (at + k) o there in
        old_held c (map facts_of st.front) (map facts_of st.behind) o n (all c rs) (all c (slice_set rs (at + k) n)) (stood c) (stands c) (drop (at + (k + 1)) rs) (drop (k + 1) new) q g

    -- the old one is still counted
    pub each_old_held : HoldEachBeside t (facts_of o) (facts_of n)
    each_old_held =
        let g = each_opened t s in
        record {
          grid = one_held keys_of_grid _ g.grid;
          ranges = one_held keys_of_ranges _ g.ranges;
          totals = one_held keys_of_totals _ g.totals;
          triples = one_held keys_of_faults _ g.triples;
        }

    -- those behind the place are as they were
    rest_stays : drop (at + (k + 1)) (slice_set rs (at + k) n) ≡ drop (at + (k + 1)) rs
    rest_stays = drop-set-lt (at + (k + 1)) rs (at + k) n (omega arith)

    one_goes : (c : Counted) (q : Tally) → Same q (plus_beside c (next c) (facts_of n) (facts_of o))
        → Same (minus_beside c q (facts_of o) (facts_of n)) (with_new c (all c (slice_set rs (at + k) n)) (drop (at + (k + 1)) (slice_set rs (at + k) n)) (drop (k + 1) new))
    one_goes c q g =
        let st = stands_at rs (at + k) o there in
        subst (λ (l : List Record). Same (minus_beside c q (facts_of o) (facts_of n)) (with_new c (all c (slice_set rs (at + k) n)) l (drop (k + 1) new))) (sym rest_stays)
        (old_goes c (map facts_of st.front) (map facts_of st.behind) o n (all c rs) (all c (slice_set rs (at + k) n)) (stood c) (stands c) (drop (at + (k + 1)) rs) (drop (k + 1) new) q g)

    -- without the old one, the new one stands in its place
    pub each_exchanged : SameEach (minus_each_beside t (facts_of o) (facts_of n)) (tallies_with_new (slice_set rs (at + k) n) at new (k + 1))
    each_exchanged =
        let g = each_opened t s in
        record {
          grid = one_goes keys_of_grid _ g.grid;
          ranges = one_goes keys_of_ranges _ g.ranges;
          totals = one_goes keys_of_totals _ g.totals;
          triples = one_goes keys_of_faults _ g.triples;
        }

    pub each_old_fits : at + length new ≤ length rs → AreFewTogether rs (drop k new) → AreSmall (minus_each_beside t (facts_of o) (facts_of n))
    each_old_fits enough few =
        AreSmall-Same _ _ each_exchanged
        (small_together (slice_set rs (at + k) n) (drop (at + (k + 1)) (slice_set rs (at + k) n)) (drop (k + 1) new)
        (omega (arith, length-set rs (at + k) n, length-drop (k + 1) new, length-drop (at + (k + 1)) (slice_set rs (at + k) n))) (few_after enough few))

-- ---- the start, the end, and the records

-- with no new record left the tallies are those of the records
pub none_left : (rs new : List Record) (at k : ℕ) → length new ≤ k → tallies_with_new rs at new k ≡ tallies_of_records (map facts_of rs)
none_left rs new at k past = rw (drop_all k new past) (by (drop (at + k) rs))
  where
    by : (os : List Record) → with_each rs os [] ≡ tallies_of_records (map facts_of rs)
    by [] = refl
    by (o ∷ os) = refl

-- with no new record left the cells are the same
pub no_cells : (os new : List Record) (k : ℕ) → length new ≤ k → same_cells os (drop k new) ≡ true
no_cells os new k past = ap (same_cells os) (drop_all k new past) ∙ by os
  where
    by : (os : List Record) → same_cells os [] ≡ true
    by [] = refl
    by (o ∷ os) = refl

-- ---- where each key is held

-- what the records are counted under, they are counted under beside new ones
keys_among : (c : Counted) (t : Tally) (rs os ns : List Record) (f g : Facts) → Same t (with_new c (all c rs) os ns) → HasKeys c (all c rs) f → HasKeysBeside c t f g
keys_among c t rs os ns f g same held =
    HasKeys-beside c t f g (λ k. let now = same.count k in let there = held k in let more = (grew_by c (all c rs) os ns).count k in omega arith)

-- a record whose keys the old records have finds them while others are exchanged
pub keys_held : (rs new : List Record) (at k : ℕ) (r o : Record) (t : Tallies) → SameEach t (tallies_with_new rs at new k) → HasEachKey rs r → HaveKeysBeside t (facts_of r) (facts_of o)
keys_held rs new at k r o t same held = record {
  grid = keys_among keys_of_grid t.grid rs (drop (at + k) rs) (drop k new) (facts_of r) (facts_of o) same.grid held.grid;
  ranges = keys_among keys_of_ranges t.ranges rs (drop (at + k) rs) (drop k new) (facts_of r) (facts_of o) same.ranges held.ranges;
  totals = keys_among keys_of_totals t.totals rs (drop (at + k) rs) (drop k new) (facts_of r) (facts_of o) same.totals held.totals;
  triples = keys_among keys_of_faults t.triples rs (drop (at + k) rs) (drop k new) (facts_of r) (facts_of o) same.triples held.triples;
}

-- what holds of all records holds of the one at a place, where there is one
pub holds_there : (P : Record → Type 0) (rs : List Record) (k : ℕ) → All P rs → IfSome (slice_get rs k) P
holds_there P rs k all = side (slice_get rs k) refl where
  side : (o : Option Record) → slice_get rs k ≡ o → IfSome o P
  side None e = tt
  side (Some r) e = subst P (get_or_from_slice_get rs k r r e) (All-get_or P rs k r (slice_get_within rs k r e) all)

-- ---- the records in whose places the first new ones stand

take-one_more : (new : List Record) (k : ℕ) (n : Record) → k < length new → n ≡ get_or new k n → take (k + 1) new ≡ take k new ++ n ∷ []
take-one_more [] k n within is = absurd (omega arith)
take-one_more (x ∷ xs) zero n within is = ap (λ (y : Record). y ∷ []) (sym is)
take-one_more (x ∷ xs) (suc k) n within is =
    let next : suc k + 1 ≡ suc (k + 1) = omega arith in
    ap (λ i. take i (x ∷ xs)) next ∙ ap (λ (l : List Record). x ∷ l) (take-one_more xs k n (omega arith) is)

module _ (rs : List Record) (at k : ℕ) (new : List Record) (o n : Record) (there : slice_get rs (at + k) ≡ Some o) (within : k < length new) (is : n ≡ get_or new k n) where
  abbrev passed : List Record
  passed = take at rs ++ take k new

  length-passed : length passed ≡ at + k
  length-passed =
      let inside : at + k < length rs = slice_get_within rs (at + k) o there in
      omega (arith, length-append (take at rs) (take k new), length-take-le at rs (omega arith), length-take-le k new (omega arith))

  so_far : with_records rs at (take k new) ≡ passed ++ o ∷ drop (at + (k + 1)) rs
  so_far =
      let count : at + length (take k new) ≡ at + k = omega (arith, length-take-le k new (omega arith)) in
      ap (λ (l : List Record). passed ++ l) (ap (λ i. drop i rs) count ∙ old_ones rs at k new o n there within is)

  -- the old one at the place of new record k is there still
  pub still_there : slice_get (with_records rs at (take k new)) (at + k) ≡ Some o
  still_there = ap (λ (l : List Record). slice_get l (at + k)) so_far ∙ get_behind passed o (drop (at + (k + 1)) rs) (at + k) length-passed

  -- and then new record k stands in its place
  pub one_further : slice_set (with_records rs at (take k new)) (at + k) n ≡ with_records rs at (take (k + 1) new)
  one_further =
      let count : at + length (take (k + 1) new) ≡ at + (k + 1) = omega (arith, length-take-le (k + 1) new (omega arith)) in
      let more : take (k + 1) new ≡ take k new ++ n ∷ [] = take-one_more new k n within is in
      ap (λ (l : List Record). slice_set l (at + k) n) so_far
      ∙ set_behind passed o (drop (at + (k + 1)) rs) (at + k) n length-passed
      ∙ sym (append_assoc passed (n ∷ []) (drop (at + (k + 1)) rs))
      ∙ ap₂ (λ (l : List Record) i. l ++ drop i rs) (append_assoc (take at rs) (take k new) (n ∷ []) ∙ ap (λ (l : List Record). take at rs ++ l) (sym more)) (sym count)

  -- and as many records stand there as did
  pub still_enough : at + length new ≤ length rs → at + length new ≤ length (with_records rs at (take k new))
  still_enough enough = omega (arith, ap (λ (l : List Record). length l) so_far, length-append passed (o ∷ drop (at + (k + 1)) rs), length-passed, length-drop (at + (k + 1)) rs)

-- with none they are as they stand
pub none_yet : (rs : List Record) (at : ℕ) → with_records rs at [] ≡ rs
none_yet rs at =
    let same : at + 0 ≡ at = omega arith in
    ap₂ (λ (l : List Record) i. l ++ drop i rs) (append-nil (take at rs)) same ∙ take-append-drop at rs
