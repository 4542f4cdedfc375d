-- What a tally shows where a trace is counted beside another, for which it comes to stand.
use Rattle.std.specs.Prelude.{◌≡◌, ◌+◌, ◌-◌, ◌+ℤ◌, ◌-ℤ◌, ◌≤◌, List, [], ◌∷◌, ◌++◌, length, map, refl}
use Rattle.std.proofs.Common.{arith, ap}
use Rattle.std.proofs.lemmas.Int.{ints}
use Rattle.trace_record.specs.Facts.{Facts, facts_of}
use Rattle.trace_record.specs.Keys.{Counted, Key}
use Rattle.trace_record.specs.Tally.{Tally, tally_of, plus, plus_beside, minus_beside, Same, HasKeys, HasKeysBeside, HoldsBeside, IsSmall}
use Rattle.trace_record.specs.declared.record.Record.{Record}
use Rattle.trace_record.proofs.TallyLemmas.{Same-trans, tally-cons, tally_holds_each, tally_of_an_exchange, minus_beside-plus}
use Rattle.live_reports.specs.Exchanged.{with_new}

module _ (c : Counted) where
  -- tallies that say the same say the same with one trace more beside another, and with one less
  pub plus_beside-Same : (t u : Tally) (f g : Facts) → Same t u → Same (plus_beside c t f g) (plus_beside c u f g)
  plus_beside-Same t u f g p = record {
    records = ap (λ n. n + 1) p.records;
    number = ap (λ n. n + c.number f) p.number;
    sum = ap (λ v. v +ℤ c.sum f) p.sum;
    count = λ k. let e = p.count k in omega arith;
  }

  pub minus_beside-Same : (t u : Tally) (f g : Facts) → Same t u → Same (minus_beside c t f g) (minus_beside c u f g)
  minus_beside-Same t u f g p = record {
    records = ap (λ n. n - 1) p.records;
    number = ap (λ n. n - c.number f) p.number;
    sum = ap (λ v. v -ℤ c.sum f) p.sum;
    count = λ k. let e = p.count k in omega arith;
  }

  -- the tally holds what it just counted
  pub HoldsBeside-plus : (t u : Tally) (f g : Facts) → Same u (plus_beside c t f g) → HoldsBeside c u f g
  HoldsBeside-plus t u f g p = record {
    records = let a = p.records in omega arith;
    number = let a = p.number in omega arith;
    keys = λ k. let a = p.count k in omega arith;
  }

  -- and without it the tally is as it was
  pub undone : (t u : Tally) (f g : Facts) → Same u (plus_beside c t f g) → Same (minus_beside c u f g) t
  undone t u f g p = Same-trans _ _ _ (minus_beside-Same u (plus_beside c t f g) f g p) (minus_beside-plus c t f g)

  -- beside another no more is counted than alone
  pub IsSmall-beside : (t : Tally) (f g : Facts) → IsSmall (plus c t f) → IsSmall (plus_beside c t f g)
  IsSmall-beside t f g s = record {
    records = s.records;
    number = s.number;
    low = s.low;
    high = s.high;
    count = λ k. let a = s.count k in omega arith;
  }

  -- a tally that has each key has those that the other has not
  pub HasKeys-beside : (t : Tally) (f g : Facts) → HasKeys c t f → HasKeysBeside c t f g
  HasKeys-beside t f g held k = let h = held k in omega arith

-- ---- one trace in the place of another

module _ (c : Counted) (front behind : List Facts) (old new : Facts) (t u : Tally) (was : Same t (tally_of c (front ++ old ∷ behind))) (grew : Same u (plus_beside c t new old)) where
  -- the old one is still counted
  pub still_held : HoldsBeside c u old new
  still_held =
      let h = tally_holds_each c front behind old in
      record {
        records = let p = grew.records in omega arith;
        number = let p = grew.number in let w = was.number in let q = h.number in omega arith;
        keys = λ k. let p = grew.count k in let w = was.count k in let q = h.keys k in omega arith;
      }

  -- and without it the new one stands in its place
  pub exchanged : Same (minus_beside c u old new) (tally_of c (front ++ new ∷ behind))
  exchanged =
      let full = Same-trans _ _ _ grew (plus_beside-Same c _ _ new old was) in
      Same-trans _ _ _ (minus_beside-Same c _ _ old new full) (tally_of_an_exchange c front behind old new)

-- ---- many traces in the places of others

-- two tallies grew by the same
record GrewAlike (t u v w : Tally) : Type 0 where
  records : v.records + u.records ≡ w.records + t.records
  number : v.number + u.number ≡ w.number + t.number
  sum : v.sum +ℤ u.sum ≡ w.sum +ℤ t.sum
  count : (k : Key) → v.count k + u.count k ≡ w.count k + t.count k

grew_alike : (c : Counted) (t u : Tally) (os ns : List Record) → GrewAlike t u (with_new c t os ns) (with_new c u os ns)
grew_alike c t u [] ns = record { records = omega arith; number = omega arith; sum = omega (arith, ints); count = λ k. omega arith }
grew_alike c t u (o ∷ os) [] = record { records = omega arith; number = omega arith; sum = omega (arith, ints); count = λ k. omega arith }
grew_alike c t u (o ∷ os) (n ∷ ns) =
    let rest = grew_alike c t u os ns in
    record {
      records = let a = rest.records in omega arith;
      number = let a = rest.number in omega arith;
      sum = let a = rest.sum in omega (arith, ints);
      count = λ k. let a = rest.count k in omega arith;
    }

-- a tally with new traces counts no less
pub record Grew (t u : Tally) : Type 0 where
  pub number : t.number ≤ u.number
  pub count : (k : Key) → t.count k ≤ u.count k

pub grew_by : (c : Counted) (t : Tally) (os ns : List Record) → Grew t (with_new c t os ns)
grew_by c t [] ns = record { number = omega arith; count = λ k. omega arith }
grew_by c t (o ∷ os) [] = record { number = omega arith; count = λ k. omega arith }
grew_by c t (o ∷ os) (n ∷ ns) =
    let rest = grew_by c t os ns in
    record { number = let a = rest.number in omega arith; count = λ k. let a = rest.count k in omega arith }

-- with each beside another no more is counted than in a list of all
record IsWithin (t u : Tally) : Type 0 where
  records : t.records ≡ u.records
  number : t.number ≡ u.number
  sum : t.sum ≡ u.sum
  count : (k : Key) → t.count k ≤ u.count k

with_new-IsWithin : (c : Counted) (rs os ns : List Record) → length ns ≤ length os → IsWithin (with_new c (tally_of c (map facts_of rs)) os ns) (tally_of c (map facts_of (ns ++ rs)))
with_new-IsWithin c rs [] [] h = record { records = refl; number = refl; sum = refl; count = λ k. omega arith }
with_new-IsWithin c rs [] (n ∷ ns) h = absurd (omega arith)
with_new-IsWithin c rs (o ∷ os) [] h = record { records = refl; number = refl; sum = refl; count = λ k. omega arith }
with_new-IsWithin c rs (o ∷ os) (n ∷ ns) h =
    let rest = with_new-IsWithin c rs os ns (omega arith) in
    let step = tally-cons c (facts_of n) (map facts_of (ns ++ rs)) in
    record {
      records = let a = rest.records in let b = step.records in omega arith;
      number = let a = rest.number in let b = step.number in omega arith;
      sum = let a = rest.sum in let b = step.sum in omega (arith, ints);
      count = λ k. let a = rest.count k in let b = step.count k in omega arith;
    }

pub with_new-IsSmall : (c : Counted) (rs os ns : List Record) → length ns ≤ length os → IsSmall (tally_of c (map facts_of (ns ++ rs))) → IsSmall (with_new c (tally_of c (map facts_of rs)) os ns)
with_new-IsSmall c rs os ns h s =
    let w = with_new-IsWithin c rs os ns h in
    record {
      records = let a = w.records in let b = s.records in omega arith;
      number = let a = w.number in let b = s.number in omega arith;
      low = let a = w.sum in let b = s.low in omega (arith, ints);
      high = let a = w.sum in let b = s.high in omega (arith, ints);
      count = λ k. let a = w.count k in let b = s.count k in omega arith;
    }

module _ (c : Counted) (front behind : List Facts) (o n : Record) (t t' : Tally)
    (was : Same t (tally_of c (front ++ facts_of o ∷ behind))) (will : Same t' (tally_of c (front ++ facts_of n ∷ behind)))
    (os ns : List Record) (u : Tally) (grew : Same u (plus_beside c (with_new c t os ns) (facts_of n) (facts_of o))) where
  -- the old one is still counted, beside others too
  pub old_held : HoldsBeside c u (facts_of o) (facts_of n)
  old_held =
      let h = tally_holds_each c front behind (facts_of o) in
      let g = grew_by c t os ns in
      record {
        records = let p = grew.records in omega arith;
        number = let p = grew.number in let w = was.number in let q = h.number in let m = g.number in omega arith;
        keys = λ k. let p = grew.count k in let w = was.count k in let q = h.keys k in let m = g.count k in omega arith;
      }

  -- and without it the others are beside the new list
  pub old_goes : Same (minus_beside c u (facts_of o) (facts_of n)) (with_new c t' os ns)
  old_goes =
      let h = tally_holds_each c front behind (facts_of o) in
      let a = grew_alike c t t' os ns in
      let e = Same-trans _ _ _ (minus_beside-Same c _ _ (facts_of o) (facts_of n) (plus_beside-Same c t (tally_of c (front ++ facts_of o ∷ behind)) (facts_of n) (facts_of o) was)) (tally_of_an_exchange c front behind (facts_of o) (facts_of n)) in
      record {
        records = let p = grew.records in let q = e.records in let w = will.records in let m = a.records in omega arith;
        number = let p = grew.number in let q = e.number in let w = will.number in let m = a.number in omega arith;
        sum = let p = grew.sum in let q = e.sum in let w = will.sum in let m = a.sum in omega (arith, ints);
        count = λ k. let p = grew.count k in let q = e.count k in let w = will.count k in let m = a.count k in let d = was.count k in let l = h.keys k in omega arith;
      }
