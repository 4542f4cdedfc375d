-- How often each key occurs over a list of traces.
use Rattle.std.specs.Prelude.{◌≡◌, ℕ, ℤ, pos, ◌+◌, ◌-◌, ◌+ℤ◌, ◌-ℤ◌, ◌≤◌, ◌<◌, ◌≤ℤ◌, ◌^◌, neg_ℤ, List, length, map, sum_by, count_by, if◌then◌else◌}
use Rattle.trace_record.specs.Facts.{Facts}
use Rattle.trace_record.specs.Statistics.{int_sum}
use Rattle.trace_record.specs.Keys.{Key, Counted}

-- a number of traces, a number of samples and their sum, and how many traces have each key
pub record Tally : Type 0 where
  pub records : ℕ
  pub number : ℕ
  pub sum : ℤ
  pub count : Key → ℕ

-- the tally of no trace
abbrev pub empty_tally : Tally
empty_tally = record { records = 0; number = 0; sum = pos 0; count = λ k. 0 }

-- the tally of these traces
abbrev pub tally_of : Counted → List Facts → Tally
tally_of c fs = record {
  records = length fs;
  number = sum_by c.number fs;
  sum = int_sum (map c.sum fs);
  count = λ k. count_by (λ f. c.has f k) fs;
}

-- how often one trace has the key
abbrev pub times : Counted → Facts → Key → ℕ
times c f k = if c.has f k then 1 else 0

-- one trace more
abbrev pub plus : Counted → Tally → Facts → Tally
plus c t f = record {
  records = t.records + 1;
  number = t.number + c.number f;
  sum = t.sum +ℤ c.sum f;
  count = λ k. t.count k + times c f k;
}

-- one trace less
abbrev pub minus : Counted → Tally → Facts → Tally
minus c t f = record {
  records = t.records - 1;
  number = t.number - c.number f;
  sum = t.sum -ℤ c.sum f;
  count = λ k. t.count k - times c f k;
}

-- one trace more beside another, for which it comes to stand: a key of both stays counted once
abbrev pub plus_beside : Counted → Tally → Facts → Facts → Tally
plus_beside c t f g = record {
  records = t.records + 1;
  number = t.number + c.number f;
  sum = t.sum +ℤ c.sum f;
  count = λ k. t.count k + (times c f k - times c g k);
}

-- one trace less beside another, which stands for it: a key of both stays counted once
abbrev pub minus_beside : Counted → Tally → Facts → Facts → Tally
minus_beside c t f g = record {
  records = t.records - 1;
  number = t.number - c.number f;
  sum = t.sum -ℤ c.sum f;
  count = λ k. t.count k - (times c f k - times c g k);
}

-- two tallies say the same, at each key
pub record Same (t u : Tally) : Type 0 where
  pub records : t.records ≡ u.records
  pub number : t.number ≡ u.number
  pub sum : t.sum ≡ u.sum
  pub count : (k : Key) → t.count k ≡ u.count k

-- each key of the trace is held already
abbrev pub HasKeys : Counted → Tally → Facts → Type 0
HasKeys c t f = (k : Key) → times c f k ≤ t.count k

-- the tally has a trace, this one's keys and its number of samples
pub record Holds (c : Counted) (t : Tally) (f : Facts) : Type 0 where
  pub records : 0 < t.records
  pub number : c.number f ≤ t.number
  pub keys : HasKeys c t f

-- each key that the trace has and the other has not is held already
abbrev pub HasKeysBeside : Counted → Tally → Facts → Facts → Type 0
HasKeysBeside c t f g = (k : Key) → times c f k - times c g k ≤ t.count k

-- the tally has a trace, the keys that this one has and the other has not, and its number of samples
pub record HoldsBeside (c : Counted) (t : Tally) (f g : Facts) : Type 0 where
  pub records : 0 < t.records
  pub number : c.number f ≤ t.number
  pub keys : HasKeysBeside c t f g

-- at most 2^33 traces, as many at each key, 2^41 samples, and a sum from -2^105 to 2^105
pub record IsSmall (t : Tally) : Type 0 where
  pub records : t.records ≤ 2 ^ 33
  pub number : t.number ≤ 2 ^ 41
  pub low : neg_ℤ (pos (2 ^ 105)) ≤ℤ t.sum
  pub high : t.sum ≤ℤ pos (2 ^ 105)
  pub count : (k : Key) → t.count k ≤ 2 ^ 33
