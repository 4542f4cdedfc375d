-- What is left of the samples that are asked of a trace.
use Rattle.std.proofs.Common.{◌≡◌, ◌<◌, ◌≤◌, ◌+◌, ◌-◌, ◌*◌, ◌/◌, ◌%◌, ℕ, ℤ, zero, suc, Bool, true, false, cond, List, [], ◌∷◌, Option, Some, None, refl, ap, ◌∙◌, arith}
use Rattle.std.specs.Prelude.{filter, filter_map, max, nat_lt, option_map}
use Rattle.std.specs.List.{cons_option, range_with_len}
use Rattle.std.proofs.lemmas.Nat.{div-add-mod', mod-mul-add}
use borrow.Author.Tests.{eqb-true, eq-eqb, ltb-false, le-ltb, ne_eqb}
use Rattle.sample_codes.specs.declared.value_format.ValueFormat.{ValueFormat}
use Rattle.sample_codes.specs.Formats.{sample_value, values}
use Rattle.frame_cut.specs.declared.file_head.Head.{Head}
use Rattle.frame_cut.specs.Frames.{sample_count}
use Rattle.trace_view.specs.Values.{bytes_of_sample, sample_of}
use Rattle.bench_rules.specs.declared.sample_range.SampleRange.{SampleRange}
use Rattle.bench_rules.specs.Sections.{is_stepped}
use Rattle.sample_answers.specs.Asked.{numbers_behind, samples_behind}

-- ---- the numbers

-- no step behind the first is the first
pub first_stepped : (r : SampleRange) → is_stepped r r.from ≡ true
first_stepped r =
    let m : ℕ = max 1 r.step in
    let some : 0 < m = omega arith in
    let none : r.from - r.from ≡ 0 * m + 0 = omega arith in
    eq-eqb ((r.from - r.from) % m) 0 (ap (λ n. n % m) none ∙ mod-mul-add 0 m 0 some)

module _ (r : SampleRange) (k : ℕ) (behind : r.from ≤ k) (stepped : is_stepped r k ≡ true) where
  -- how far a number stands behind the last step
  past : (j : ℕ) → j < max 1 r.step → (k + j - r.from) % max 1 r.step ≡ j
  past j less =
      let m : ℕ = max 1 r.step in
      let none : (k - r.from) % m ≡ 0 = eqb-true ((k - r.from) % m) 0 stepped in
      let whole : (k - r.from) / m * m + (k - r.from) % m ≡ k - r.from = div-add-mod' (k - r.from) m in
      let is : k + j - r.from ≡ (k - r.from) / m * m + j = omega arith in
      ap (λ n. n % m) is ∙ mod-mul-add ((k - r.from) / m) m j less

  -- the next step
  pub next_stepped : is_stepped r (k + max 1 r.step) ≡ true
  next_stepped =
      let m : ℕ = max 1 r.step in
      let some : 0 < m = omega arith in
      let none : (k - r.from) % m ≡ 0 = eqb-true ((k - r.from) % m) 0 stepped in
      let whole : (k - r.from) / m * m + (k - r.from) % m ≡ k - r.from = div-add-mod' (k - r.from) m in
      let is : k + m - r.from ≡ ((k - r.from) / m + 1) * m + 0 = omega arith in
      eq-eqb ((k + m - r.from) % m) 0 (ap (λ n. n % m) is ∙ mod-mul-add ((k - r.from) / m + 1) m 0 some)

  -- no number between two steps is one
  none_between : (j : ℕ) → 0 < j → j < max 1 r.step → is_stepped r (k + j) ≡ false
  none_between j some less = ne_eqb ((k + j - r.from) % max 1 r.step) 0 (λ e. absurd (let is : (k + j - r.from) % max 1 r.step ≡ j = past j less in omega arith))

  -- so many numbers, of which the first is none
  dropped : (a n : ℕ) → is_stepped r a ≡ false → filter (is_stepped r) (range_with_len a (suc n)) ≡ filter (is_stepped r) (range_with_len (a + 1) n)
  dropped a n not_one = ap (λ b. cond b (a ∷ filter (is_stepped r) (range_with_len (a + 1) n)) (filter (is_stepped r) (range_with_len (a + 1) n))) not_one

  -- the numbers from one that is no step on are those from the next one on
  skipped_by : (a n : ℕ) → n ≡ r.to + 1 - a → is_stepped r a ≡ false → filter (is_stepped r) (range_with_len a n) ≡ numbers_behind r (a + 1)
  skipped_by a zero is not_one = ap (λ l. filter (is_stepped r) (range_with_len (a + 1) l)) (let l : 0 ≡ r.to + 1 - (a + 1) = omega arith in l)
  skipped_by a (suc n) is not_one = dropped a n not_one ∙ ap (λ l. filter (is_stepped r) (range_with_len (a + 1) l)) (let l : n ≡ r.to + 1 - (a + 1) = omega arith in l)

  -- so that those behind one step are those from the next one on
  skipped : (d j : ℕ) → 0 < j → j + d ≡ max 1 r.step → numbers_behind r (k + j) ≡ numbers_behind r (k + max 1 r.step)
  skipped zero j some e = ap (λ i. numbers_behind r (k + i)) (let i : j ≡ max 1 r.step = omega arith in i)
  skipped (suc d) j some e =
      let less : j < max 1 r.step = omega arith in
      let further : k + j + 1 ≡ k + (j + 1) = omega arith in
      skipped_by (k + j) (r.to + 1 - (k + j)) refl (none_between j some less) ∙ ap (numbers_behind r) further ∙ skipped d (j + 1) (omega arith) (omega arith)

  pub next_number : k ≤ r.to → numbers_behind r k ≡ k ∷ numbers_behind r (k + max 1 r.step)
  next_number within =
      let m : ℕ = max 1 r.step in
      let size : r.to + 1 - k ≡ suc (r.to - k) = omega arith in
      let rest : r.to - k ≡ r.to + 1 - (k + 1) = omega arith in
      ap (λ n. filter (is_stepped r) (range_with_len k n)) size
      ∙ ap (λ b. cond b (k ∷ filter (is_stepped r) (range_with_len (k + 1) (r.to - k))) (filter (is_stepped r) (range_with_len (k + 1) (r.to - k)))) stepped
      ∙ ap (λ n. k ∷ filter (is_stepped r) (range_with_len (k + 1) n)) rest
      ∙ ap (λ l. k ∷ l) (skipped (m - 1) 1 (omega arith) (omega arith))

-- ---- the samples

-- where a value is there, the condition holds that it stands under
false_there : {X : Type 0} (b : Bool) (x : X) → cond b (Some x) None ≡ None → b ≡ false
false_there true x e = absurd cc
false_there false x e = refl

either_way : {X : Type 0} (b : Bool) (o : Option X) → o ≡ None → cond b o None ≡ None
either_way true o e = e
either_way false o e = refl

module _ (h : Head) (t : List ℕ) where
  -- sample k, where the trace has so many samples, of which each is read so
  abbrev sample_by : ℕ → Option ValueFormat → ℕ → Option ℤ
  sample_by n f k = cond (nat_lt k n) (option_map (λ g. sample_value h.order g (bytes_of_sample h t k)) f) None

  -- a trace that lacks a sample lacks those behind it
  lacks_by : (n : ℕ) (f : Option ValueFormat) (k j : ℕ) → k ≤ j → sample_by n f k ≡ None → sample_by n f j ≡ None
  lacks_by n None k j less e = either_way (nat_lt j n) None refl
  lacks_by n (Some g) k j less e =
      let all : n ≤ k = ltb-false k n (false_there (nat_lt k n) (sample_value h.order g (bytes_of_sample h t k)) e) in
      ap (λ b. cond b (Some (sample_value h.order g (bytes_of_sample h t j))) None) (le-ltb j n (omega arith))

  lacks : (k j : ℕ) → k ≤ j → sample_of h t k ≡ None → sample_of h t j ≡ None
  lacks k j less e = lacks_by (sample_count h t) (values h.format) k j less e

  module _ (r : SampleRange) (k : ℕ) (none : sample_of h t k ≡ None) where
    -- one more number, of a sample that it lacks
    one_less : (b : Bool) (j : ℕ) (js : List ℕ) → k ≤ j → filter_map (sample_of h t) js ≡ [] → filter_map (sample_of h t) (cond b (j ∷ js) js) ≡ []
    one_less true j js less e = ap (λ o. cons_option o (filter_map (sample_of h t) js)) (lacks k j less none) ∙ e
    one_less false j js less e = e

    none_from : (n j : ℕ) → k ≤ j → filter_map (sample_of h t) (filter (is_stepped r) (range_with_len j n)) ≡ []
    none_from zero j less = refl
    none_from (suc n) j less = one_less (is_stepped r j) j (filter (is_stepped r) (range_with_len (j + 1) n)) less (none_from n (j + 1) (omega arith))

    -- so nothing is left from there on
    pub none_left : samples_behind h r k t ≡ []
    none_left = none_from (r.to + 1 - k) k (omega arith)

  -- behind the last number nothing is left
  pub none_above : (r : SampleRange) (k : ℕ) → r.to < k → samples_behind h r k t ≡ []
  none_above r k above = ap (λ n. filter_map (sample_of h t) (filter (is_stepped r) (range_with_len k n))) (let n : r.to + 1 - k ≡ 0 = omega arith in n)

  -- the next sample stands in front of what is left
  pub next_left : (r : SampleRange) (k : ℕ) (x : ℤ) → r.from ≤ k → is_stepped r k ≡ true → k ≤ r.to → sample_of h t k ≡ Some x
      → samples_behind h r k t ≡ x ∷ samples_behind h r (k + max 1 r.step) t
  next_left r k x behind stepped within is =
      ap (filter_map (sample_of h t)) (next_number r k behind stepped within)
      ∙ ap (λ o. cons_option o (samples_behind h r (k + max 1 r.step) t)) is
