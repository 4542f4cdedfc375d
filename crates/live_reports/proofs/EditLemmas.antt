-- What the running values have counted where a record is exchanged, inserted, removed or moved.
use Rattle.std.specs.Prelude.{◌≡◌, ℕ, ◌+◌, ◌<◌, ◌≤◌, List, [], ◌∷◌, ◌++◌, length, map, sum_by, slice_get, slice_set, Some}
use Rattle.std.proofs.Common.{arith, sym, ap, ◌∙◌, subst}
use Rattle.std.specs.List.{insert, remove}
use Rattle.std.proofs.lemmas.List.{map-append}
use Rattle.std.proofs.lemmas.List.Sums.{sum_by-cons}
use Rattle.trace_store.specs.Moved.{with_moved, put_back}
use Rattle.trace_record.specs.Facts.{Facts, facts_of}
use Rattle.trace_record.specs.Keys.{Counted}
use Rattle.trace_record.specs.Tally.{Tally, tally_of, plus, minus, plus_beside, minus_beside, Same, Holds, HasKeys, HasKeysBeside, HoldsBeside}
use Rattle.trace_record.specs.declared.record.Record.{Record}
use Rattle.trace_record.proofs.TallyLemmas.{Same-trans, Same-sym, plus-Same, minus-Same, tally_of_one_more, tally_of_one_less, tally_holds_each}
use Rattle.fault_live.specs.FaultKeys.{keys_of_faults}
use Rattle.grid_live.specs.GridKeys.{keys_of_grid}
use Rattle.range_stats.specs.RangeKeys.{keys_of_ranges}
use Rattle.range_stats.specs.TotalKeys.{keys_of_totals}
use Rattle.live_reports.specs.declared.values.Values.{Values}
use Rattle.live_reports.specs.Reports.{AreFew, HaveCounted, HasEachKey}
use Rattle.live_reports.specs.Tallies.{Tallies, tallies_of, tallies_of_records, plus_each, minus_each, plus_each_beside, minus_each_beside, SameEach, AreSmall, HoldEach, HoldEachBeside, HaveKeysBeside}
use Rattle.live_reports.proofs.ListLemmas.{stands_at, cuts_at, item_at}
use Rattle.live_reports.proofs.BesideLemmas.{IsSmall-beside, HasKeys-beside, still_held, exchanged}
use Rattle.live_reports.proofs.SmallLemmas.{small_each, room_each, own_samples, AreSmall-Same, SameEach-trans}

-- a tally of one list is that of the same list
same_list : (c : Counted) (t : Tally) (fs gs : List Facts) → fs ≡ gs → Same t (tally_of c fs) → Same t (tally_of c gs)
same_list c t fs gs e s = subst (λ (l : List Facts). Same t (tally_of c l)) e s

-- the facts of a list with a record between two parts
parts : (rs front behind : List Record) (r : Record) → rs ≡ front ++ r ∷ behind → map facts_of rs ≡ map facts_of front ++ facts_of r ∷ map facts_of behind
parts rs front behind r e = ap (λ l. map facts_of l) e ∙ map-append facts_of front (r ∷ behind)

samples-middle : (front behind : List Record) (r : Record) → sum_by (λ (q : Record). q.number) (front ++ r ∷ behind) ≡ r.number + sum_by (λ (q : Record). q.number) (front ++ behind)
samples-middle [] behind r = sum_by-cons (λ (q : Record). q.number) r behind
samples-middle (f ∷ front) behind r =
    let one = sum_by-cons (λ (q : Record). q.number) f (front ++ r ∷ behind) in
    let other = sum_by-cons (λ (q : Record). q.number) f (front ++ behind) in
    let rest = samples-middle front behind r in
    omega arith

length-middle : (front behind : List Record) (r : Record) → length (front ++ r ∷ behind) ≡ length (front ++ behind) + 1
length-middle [] behind r = omega arith
length-middle (f ∷ front) behind r = let rest = length-middle front behind r in omega arith

-- ---- one record exchanged for another

module _ (rs : List Record) (p : ℕ) (old new : Record) (there : slice_get rs p ≡ Some old) (v : Values) (is : HaveCounted v rs) (few : AreFew (slice_set rs p new)) where
  was : (c : Counted) (t : Tally) → Same t (tally_of c (map facts_of rs)) → Same t (tally_of c (map facts_of (stands_at rs p old there).front ++ facts_of old ∷ map facts_of (stands_at rs p old there).behind))
  was c t s = let st = stands_at rs p old there in same_list c t _ _ (parts rs st.front st.behind old st.whole) s

  will_be : map facts_of (slice_set rs p new) ≡ map facts_of (stands_at rs p old there).front ++ facts_of new ∷ map facts_of (stands_at rs p old there).behind
  will_be = let st = stands_at rs p old there in parts (slice_set rs p new) st.front st.behind new (st.written new)

  pub room_for : AreSmall (plus_each_beside (tallies_of v) (facts_of new) (facts_of old))
  room_for =
      let st = stands_at rs p old there in
      let own = own_samples st.front st.behind new in
      let all = ap (λ l. sum_by (λ (q : Record). q.number) l) (st.written new) in
      let most = few.samples in
      let room = room_each (tallies_of v) rs new is.counted is.few (omega arith) in
      record {
        grid = IsSmall-beside keys_of_grid (tallies_of v).grid (facts_of new) (facts_of old) room.grid;
        ranges = IsSmall-beside keys_of_ranges (tallies_of v).ranges (facts_of new) (facts_of old) room.ranges;
        totals = IsSmall-beside keys_of_totals (tallies_of v).totals (facts_of new) (facts_of old) room.totals;
        triples = IsSmall-beside keys_of_faults (tallies_of v).triples (facts_of new) (facts_of old) room.triples;
      }

  -- keys that the records have are found
  keys_in : (c : Counted) (t : Tally) → Same t (tally_of c (map facts_of rs)) → HasKeys c (tally_of c (map facts_of rs)) (facts_of new) → HasKeysBeside c t (facts_of new) (facts_of old)
  keys_in c t s held = HasKeys-beside c t (facts_of new) (facts_of old) (λ k. let a = s.count k in let b = held k in omega arith)

  pub keys_for : HasEachKey rs new → HaveKeysBeside (tallies_of v) (facts_of new) (facts_of old)
  keys_for held = record {
    grid = keys_in keys_of_grid _ is.counted.grid held.grid;
    ranges = keys_in keys_of_ranges _ is.counted.ranges held.ranges;
    totals = keys_in keys_of_totals _ is.counted.totals held.totals;
    triples = keys_in keys_of_faults _ is.counted.triples held.triples;
  }

  module _ (u : Tallies) (grew : SameEach u (plus_each_beside (tallies_of v) (facts_of new) (facts_of old))) where
    held : (c : Counted) (t q : Tally) → Same t (tally_of c (map facts_of rs)) → Same q (plus_beside c t (facts_of new) (facts_of old)) → HoldsBeside c q (facts_of old) (facts_of new)
    held c t q s g = let st = stands_at rs p old there in still_held c (map facts_of st.front) (map facts_of st.behind) (facts_of old) (facts_of new) t q (was c t s) g

    pub exchange_holds : HoldEachBeside u (facts_of old) (facts_of new)
    exchange_holds = record {
      grid = held keys_of_grid _ _ is.counted.grid grew.grid;
      ranges = held keys_of_ranges _ _ is.counted.ranges grew.ranges;
      totals = held keys_of_totals _ _ is.counted.totals grew.totals;
      triples = held keys_of_faults _ _ is.counted.triples grew.triples;
    }

    left : (c : Counted) (t q : Tally) → Same t (tally_of c (map facts_of rs)) → Same q (plus_beside c t (facts_of new) (facts_of old)) → Same (minus_beside c q (facts_of old) (facts_of new)) (tally_of c (map facts_of (slice_set rs p new)))
    left c t q s g =
        let st = stands_at rs p old there in
        same_list c _ _ _ (sym will_be) (exchanged c (map facts_of st.front) (map facts_of st.behind) (facts_of old) (facts_of new) t q (was c t s) g)

    pub exchange_leaves : SameEach (minus_each_beside u (facts_of old) (facts_of new)) (tallies_of_records (map facts_of (slice_set rs p new)))
    exchange_leaves = record {
      grid = left keys_of_grid _ _ is.counted.grid grew.grid;
      ranges = left keys_of_ranges _ _ is.counted.ranges grew.ranges;
      totals = left keys_of_totals _ _ is.counted.totals grew.totals;
      triples = left keys_of_faults _ _ is.counted.triples grew.triples;
    }

    pub exchange_fits : AreSmall (minus_each_beside u (facts_of old) (facts_of new))
    exchange_fits = AreSmall-Same _ _ exchange_leaves (small_each (slice_set rs p new) few)

    pub exchange_counts : (w : Values) → SameEach (tallies_of w) (minus_each_beside u (facts_of old) (facts_of new)) → HaveCounted w (slice_set rs p new)
    exchange_counts w shrunk = record { few = few; counted = SameEach-trans _ _ _ shrunk exchange_leaves }

-- ---- one record more

module _ (rs : List Record) (p : ℕ) (new : Record) (place : p ≤ length rs) (v : Values) (is : HaveCounted v rs) (few : AreFew (insert rs p new)) where
  will_stand : map facts_of (insert rs p new) ≡ map facts_of (cuts_at rs p place).front ++ facts_of new ∷ map facts_of (cuts_at rs p place).behind
  will_stand = let cut = cuts_at rs p place in parts (insert rs p new) cut.front cut.behind new (cut.inserted new)

  stood : map facts_of rs ≡ map facts_of (cuts_at rs p place).front ++ map facts_of (cuts_at rs p place).behind
  stood = let cut = cuts_at rs p place in ap (λ l. map facts_of l) cut.whole ∙ map-append facts_of cut.front cut.behind

  pub room_for_insert : AreSmall (plus_each (tallies_of v) (facts_of new))
  room_for_insert =
      let cut = cuts_at rs p place in
      let own = own_samples cut.front cut.behind new in
      let all = ap (λ l. sum_by (λ (q : Record). q.number) l) (cut.inserted new) in
      let most = few.samples in
      room_each (tallies_of v) rs new is.counted is.few (omega arith)

  grown_by : (c : Counted) (t u : Tally) → Same t (tally_of c (map facts_of rs)) → Same u (plus c t (facts_of new)) → Same u (tally_of c (map facts_of (insert rs p new)))
  grown_by c t u s g =
      let cut = cuts_at rs p place in
      same_list c u _ _ (sym will_stand)
      (Same-trans _ _ _ g (Same-trans _ _ _ (plus-Same c _ _ (facts_of new) (same_list c t _ _ stood s)) (Same-sym _ _ (tally_of_one_more c (map facts_of cut.front) (map facts_of cut.behind) (facts_of new)))))

  module _ (u : Values) (grew : SameEach (tallies_of u) (plus_each (tallies_of v) (facts_of new))) where
    pub insert_counts : HaveCounted u (insert rs p new)
    insert_counts = record {
      few = few;
      counted = record {
        grid = grown_by keys_of_grid _ _ is.counted.grid grew.grid;
        ranges = grown_by keys_of_ranges _ _ is.counted.ranges grew.ranges;
        totals = grown_by keys_of_totals _ _ is.counted.totals grew.totals;
        triples = grown_by keys_of_faults _ _ is.counted.triples grew.triples;
      };
    }

-- ---- one record less

module _ (rs : List Record) (p : ℕ) (old : Record) (there : slice_get rs p ≡ Some old) (v : Values) (is : HaveCounted v rs) where
  few_left : AreFew (remove rs p)
  few_left =
      let st = stands_at rs p old there in
      let n = ap (λ (l : List Record). length l) st.whole ∙ length-middle st.front st.behind old in
      let left = ap (λ (l : List Record). length l) st.removed in
      let m = ap (λ l. sum_by (λ (q : Record). q.number) l) st.whole ∙ samples-middle st.front st.behind old in
      let rest = ap (λ l. sum_by (λ (q : Record). q.number) l) st.removed in
      let a = is.few.records in
      let b = is.few.samples in
      record { records = omega arith; samples = omega arith }

  whole_of : (c : Counted) (t : Tally) → Same t (tally_of c (map facts_of rs)) → Same t (tally_of c (map facts_of (stands_at rs p old there).front ++ facts_of old ∷ map facts_of (stands_at rs p old there).behind))
  whole_of c t s = let st = stands_at rs p old there in same_list c t _ _ (parts rs st.front st.behind old st.whole) s

  left_of : (c : Counted) (t : Tally) → Same t (tally_of c (map facts_of rs)) → Same (minus c t (facts_of old)) (tally_of c (map facts_of (remove rs p)))
  left_of c t s =
      let st = stands_at rs p old there in
      same_list c _ _ _ (sym (ap (λ l. map facts_of l) st.removed ∙ map-append facts_of st.front st.behind))
      (Same-trans _ _ _ (minus-Same c _ _ (facts_of old) (whole_of c t s)) (Same-sym _ _ (tally_of_one_less c (map facts_of st.front) (map facts_of st.behind) (facts_of old))))

  holds_one : (c : Counted) (t : Tally) → Same t (tally_of c (map facts_of rs)) → Holds c t (facts_of old)
  holds_one c t s =
      let st = stands_at rs p old there in
      let h = tally_holds_each c (map facts_of st.front) (map facts_of st.behind) (facts_of old) in
      let w = whole_of c t s in
      record {
        records = let x = w.records in let y = h.records in omega arith;
        number = let x = w.number in let y = h.number in omega arith;
        keys = λ k. let x = w.count k in let y = h.keys k in omega arith;
      }

  pub remove_holds : HoldEach (tallies_of v) (facts_of old)
  remove_holds = record {
    grid = holds_one keys_of_grid _ is.counted.grid;
    ranges = holds_one keys_of_ranges _ is.counted.ranges;
    totals = holds_one keys_of_totals _ is.counted.totals;
    triples = holds_one keys_of_faults _ is.counted.triples;
  }

  remove_leaves : SameEach (minus_each (tallies_of v) (facts_of old)) (tallies_of_records (map facts_of (remove rs p)))
  remove_leaves = record {
    grid = left_of keys_of_grid _ is.counted.grid;
    ranges = left_of keys_of_ranges _ is.counted.ranges;
    totals = left_of keys_of_totals _ is.counted.totals;
    triples = left_of keys_of_faults _ is.counted.triples;
  }

  pub remove_fits : AreSmall (minus_each (tallies_of v) (facts_of old))
  remove_fits = AreSmall-Same _ _ remove_leaves (small_each (remove rs p) few_left)

  pub remove_counts : (w : Values) → SameEach (tallies_of w) (minus_each (tallies_of v) (facts_of old)) → HaveCounted w (remove rs p)
  remove_counts w less = record { few = few_left; counted = SameEach-trans _ _ _ less remove_leaves }

-- ---- one record at another place

module _ (rs : List Record) (from to : ℕ) (inside : from < length rs) (target : to < length rs) (v : Values) (is : HaveCounted v rs) where
  move_within : (x : Record) (there : slice_get rs from ≡ Some x) → to ≤ length (remove rs from)
  move_within x there =
      let st = stands_at rs from x there in
      let n = ap (λ (l : List Record). length l) st.whole ∙ length-middle st.front st.behind x in
      let left = ap (λ (l : List Record). length l) st.removed in
      omega arith

  put : (x : Record) → slice_get rs from ≡ Some x → with_moved rs from to ≡ insert (remove rs from) to x
  put x there = ap (λ o. put_back o (remove rs from) to) there

  module _ (x : Record) (there : slice_get rs from ≡ Some x) where
    same_move : (c : Counted) (t : Tally) → Same t (tally_of c (map facts_of rs)) → Same t (tally_of c (map facts_of (with_moved rs from to)))
    same_move c t s =
        let st = stands_at rs from x there in
        let cut = cuts_at (remove rs from) to (move_within x there) in
        let cuts : map facts_of st.front ++ map facts_of st.behind ≡ map facts_of cut.front ++ map facts_of cut.behind
        = sym (map-append facts_of st.front st.behind) ∙ ap (λ l. map facts_of l) (sym st.removed ∙ cut.whole) ∙ map-append facts_of cut.front cut.behind in
        let before = Same-trans _ _ _ (same_list c t _ _ (parts rs st.front st.behind x st.whole) s) (tally_of_one_more c (map facts_of st.front) (map facts_of st.behind) (facts_of x)) in
        let after = same_list c _ _ _ (sym (parts (with_moved rs from to) cut.front cut.behind x (put x there ∙ cut.inserted x))) (Same-sym _ _ (tally_of_one_more c (map facts_of cut.front) (map facts_of cut.behind) (facts_of x))) in
        Same-trans _ _ _ (subst (λ (l : List Facts). Same t (plus c (tally_of c l) (facts_of x))) cuts before) after

    few_moved : AreFew (with_moved rs from to)
    few_moved =
        let st = stands_at rs from x there in
        let cut = cuts_at (remove rs from) to (move_within x there) in
        let moved = put x there ∙ cut.inserted x in
        let n = ap (λ (l : List Record). length l) st.whole ∙ length-middle st.front st.behind x in
        let n' = ap (λ (l : List Record). length l) moved ∙ length-middle cut.front cut.behind x in
        let left = ap (λ (l : List Record). length l) (sym st.removed ∙ cut.whole) in
        let m = ap (λ l. sum_by (λ (q : Record). q.number) l) st.whole ∙ samples-middle st.front st.behind x in
        let m' = ap (λ l. sum_by (λ (q : Record). q.number) l) moved ∙ samples-middle cut.front cut.behind x in
        let rest = ap (λ l. sum_by (λ (q : Record). q.number) l) (sym st.removed ∙ cut.whole) in
        let a = is.few.records in
        let b = is.few.samples in
        record { records = omega arith; samples = omega arith }

  pub move_counts : HaveCounted v (with_moved rs from to)
  move_counts =
      let at = item_at rs from inside in
      record {
        few = few_moved at.item at.is;
        counted = record {
          grid = same_move at.item at.is keys_of_grid _ is.counted.grid;
          ranges = same_move at.item at.is keys_of_ranges _ is.counted.ranges;
          totals = same_move at.item at.is keys_of_totals _ is.counted.totals;
          triples = same_move at.item at.is keys_of_faults _ is.counted.triples;
        };
      }
