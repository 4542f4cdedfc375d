-- Samples counted one after another.
use Rattle.std.proofs.Common.{◌≡◌, ℕ, Bool, zero, suc, ◌+◌, ◌-◌, ◌*◌, ◌^◌, ◌<◌, ◌≤◌, List, [], ◌∷◌, ◌++◌, ℤ, pos, neg_ℤ, ◌+ℤ◌, ◌≤ℤ◌, length, take, drop, arith, refl, ap, ap₂, sym, ◌∙◌}
use Rattle.std.specs.Prelude.{Option, Some, IfSome}
use Rattle.std.proofs.lemmas.Int.{ints}
use Rattle.std.proofs.lemmas.List.{drop-drop, drop-take, take-take}
use Rattle.num_order.specs.declared.order.Order.{Order}
use Rattle.sample_codes.specs.declared.value_format.ValueFormat.{ValueFormat}
use Rattle.sample_codes.specs.Formats.{value_width, sample_value}
use Rattle.trace_view.specs.Values.{samples_in}
use Rattle.trace_record.specs.declared.statistics.Statistics.{Statistics}
use Rattle.trace_record.specs.Statistics.{statistics_of, statistics_of_both, one_sample, with_sample, least_of, for_greatest, greatest_sample}
use Rattle.trace_record.proofs.StatisticsLemmas.{min_assoc, max_assoc, same_four, statistics_of_joined}

-- one sample more of those that are left
pub next_sample : (floats : Bool) (s : Statistics) (x : ℤ) (xs : List ℤ) → statistics_of_both (Some (with_sample floats s x)) (statistics_of floats xs) ≡ statistics_of_both (Some s) (statistics_of floats (x ∷ xs))
next_sample floats s x [] = same_four _ _ _ _ _ _ _ _ refl refl (omega (arith, ints)) refl
next_sample floats s x (y ∷ ys) =
    same_four _ _ _ _ _ _ _ _ (sym (min_assoc s.least x (least_of (y ∷ ys)))) (sym (max_assoc s.greatest (for_greatest floats x) (greatest_sample floats (y ∷ ys)))) (omega (arith, ints)) (omega arith)

-- the first sample
pub first_sample : (floats : Bool) (x : ℤ) (xs : List ℤ) → statistics_of_both (Some (one_sample floats x)) (statistics_of floats xs) ≡ statistics_of floats (x ∷ xs)
first_sample floats x [] = same_four _ _ _ _ _ _ _ _ refl refl (omega (arith, ints)) refl
first_sample floats x (y ∷ ys) = same_four _ _ _ _ _ _ _ _ refl refl refl (omega arith)

-- the samples from number i on
pub samples_in-more : (o : Order) (f : ValueFormat) (n i : ℕ) (bytes : List ℕ) → i < n
    → samples_in o f (n - i) (drop (value_width f * i) bytes) ≡ sample_value o f (take (value_width f) (drop (value_width f * i) bytes)) ∷ samples_in o f (n - (i + 1)) (drop (value_width f * (i + 1)) bytes)
samples_in-more o f n i bytes h =
    let e : n - i ≡ suc (n - (i + 1)) = omega arith in
    let next : value_width f * i + value_width f ≡ value_width f * (i + 1) = omega arith in
    rw (e, drop-drop (value_width f) (value_width f * i) bytes, next) refl

-- a step of a loop over them
pub sample_counted : (floats : Bool) (o : Order) (f : ValueFormat) (n i : ℕ) (bytes : List ℕ) (old new : Statistics) (x : ℤ) (goal : Option Statistics) → i < n → x ≡ sample_value o f (take (value_width f) (drop (value_width f * i) bytes)) → new ≡ with_sample floats old x
    → statistics_of_both (Some old) (statistics_of floats (samples_in o f (n - i) (drop (value_width f * i) bytes))) ≡ goal
    → statistics_of_both (Some new) (statistics_of floats (samples_in o f (n - (i + 1)) (drop (value_width f * (i + 1)) bytes))) ≡ goal
sample_counted floats o f n i bytes old new x goal h is counted rest =
    let xs = samples_in o f (n - (i + 1)) (drop (value_width f * (i + 1)) bytes) in
    ap (λ s. statistics_of_both (Some s) (statistics_of floats xs)) counted
    ∙ next_sample floats old x xs
    ∙ ap (λ y. statistics_of_both (Some old) (statistics_of floats (y ∷ xs))) is
    ∙ ap (λ ys. statistics_of_both (Some old) (statistics_of floats ys)) (sym (samples_in-more o f n i bytes h))
    ∙ rest

-- and where it begins
pub samples_begun : (floats : Bool) (o : Order) (f : ValueFormat) (n : ℕ) (bytes : List ℕ) (s : Statistics) (x : ℤ) → 0 < n → x ≡ sample_value o f (take (value_width f) (drop (value_width f * 0) bytes)) → s ≡ one_sample floats x
    → statistics_of_both (Some s) (statistics_of floats (samples_in o f (n - 1) (drop (value_width f * 1) bytes))) ≡ statistics_of floats (samples_in o f n bytes)
samples_begun floats o f n bytes s x h is begun =
    let xs = samples_in o f (n - 1) (drop (value_width f * 1) bytes) in
    ap (λ r. statistics_of_both (Some r) (statistics_of floats xs)) begun
    ∙ first_sample floats x xs
    ∙ ap (λ y. statistics_of floats (y ∷ xs)) is
    ∙ ap (statistics_of floats) (sym (samples_in-more o f n 0 bytes h))
    ∙ from_zero
  where
    from_zero : statistics_of floats (samples_in o f (n - 0) (drop (value_width f * 0) bytes)) ≡ statistics_of floats (samples_in o f n bytes)
    from_zero =
        let all : n - 0 ≡ n = omega arith in
        let here : value_width f * 0 ≡ 0 = omega arith in
        rw (all, here) refl

-- and where it ends
pub samples_ended : (floats : Bool) (o : Order) (f : ValueFormat) (n i : ℕ) (bytes : List ℕ) (s : Statistics) (goal : Option Statistics) → n ≤ i
    → statistics_of_both (Some s) (statistics_of floats (samples_in o f (n - i) (drop (value_width f * i) bytes))) ≡ goal → Some s ≡ goal
samples_ended floats o f n i bytes s goal h rest =
    let none : n - i ≡ 0 = omega arith in
    sym (ap (λ k. statistics_of_both (Some s) (statistics_of floats (samples_in o f k (drop (value_width f * i) bytes)))) none) ∙ rest

-- sample i lies inside
pub sample_inside : (w n i len : ℕ) → i < n → w * n ≤ len → w * i + w ≤ len
sample_inside w n i len h inside = grind arith

-- samples of 32 bits have a small sum
pub sum_bounds : (i : ℕ) (old new x : ℤ) → neg_ℤ (pos (2 ^ 31)) ≤ℤ x → x ≤ℤ pos (2 ^ 31) → new ≡ old +ℤ x → neg_ℤ (pos (2 ^ 31 * i)) ≤ℤ old → old ≤ℤ pos (2 ^ 31 * i)
    → (neg_ℤ (pos (2 ^ 31 * (i + 1))) ≤ℤ new) × (new ≤ℤ pos (2 ^ 31 * (i + 1)))
sum_bounds i old new x l u e low high = (omega (arith, ints), omega (arith, ints))

-- ---- in parts

-- there are as many as there should be
pub length-samples_in : (o : Order) (f : ValueFormat) (n : ℕ) (bytes : List ℕ) → length (samples_in o f n bytes) ≡ n
length-samples_in o f zero bytes = refl
length-samples_in o f (suc n) bytes = let h = length-samples_in o f n (drop (value_width f) bytes) in omega (arith, h)

-- samples one after the other
pub samples_in-append : (o : Order) (f : ValueFormat) (a b : ℕ) (bytes : List ℕ) → samples_in o f (a + b) bytes ≡ samples_in o f a bytes ++ samples_in o f b (drop (value_width f * a) bytes)
samples_in-append o f zero b bytes =
    let all : 0 + b ≡ b = omega arith in
    let here : value_width f * 0 ≡ 0 = omega arith in
    rw (all, here) refl
samples_in-append o f (suc a) b bytes =
    let more : suc a + b ≡ suc (a + b) = omega arith in
    let place : value_width f + value_width f * a ≡ value_width f * suc a = omega arith in
    let dropped : drop (value_width f * a) (drop (value_width f) bytes) ≡ drop (value_width f * suc a) bytes = drop-drop (value_width f * a) (value_width f) bytes ∙ ap (λ k. drop k bytes) place in
    rw more (ap (λ xs. sample_value o f (take (value_width f) bytes) ∷ xs) (samples_in-append o f a b (drop (value_width f) bytes) ∙ ap (λ bs. samples_in o f a (drop (value_width f) bytes) ++ samples_in o f b bs) dropped))

-- samples of bytes that are cut off behind them
pub samples_in-take : (o : Order) (f : ValueFormat) (n m : ℕ) (bytes : List ℕ) → value_width f * n ≤ m → samples_in o f n (take m bytes) ≡ samples_in o f n bytes
samples_in-take o f zero m bytes h = refl
samples_in-take o f (suc n) m bytes h =
    let split : m ≡ value_width f + (m - value_width f) = omega arith in
    let first : take (value_width f) (take m bytes) ≡ take (value_width f) bytes = take-take (value_width f) m bytes (omega arith) in
    let rest : drop (value_width f) (take m bytes) ≡ take (m - value_width f) (drop (value_width f) bytes) = ap (λ k. drop (value_width f) (take k bytes)) split ∙ drop-take (value_width f) (m - value_width f) bytes in
    let left : value_width f * n ≤ m - value_width f = omega arith in
    rw (first, rest, samples_in-take o f n (m - value_width f) (drop (value_width f) bytes) left) refl

-- the statistics of more samples
pub joined_samples : (floats : Bool) (o : Order) (f : ValueFormat) (a b : ℕ) (bytes : List ℕ) (x y : Option Statistics) → x ≡ statistics_of floats (samples_in o f a bytes) → y ≡ statistics_of floats (samples_in o f b (drop (value_width f * a) bytes))
    → statistics_of_both x y ≡ statistics_of floats (samples_in o f (a + b) bytes)
joined_samples floats o f a b bytes x y ex ey =
    ap₂ statistics_of_both ex ey
    ∙ sym (statistics_of_joined floats (samples_in o f a bytes) (samples_in o f b (drop (value_width f * a) bytes)))
    ∙ ap (statistics_of floats) (sym (samples_in-append o f a b bytes))

-- how many samples they are of
pub few_samples : (floats : Bool) (o : Order) (f : ValueFormat) (n m : ℕ) (bytes : List ℕ) (x : Option Statistics) → n ≤ m → x ≡ statistics_of floats (samples_in o f n bytes) → IfSome x (λ s. s.number ≤ m)
few_samples floats o f n m bytes x h e = rw e (go (samples_in o f n bytes) (length-samples_in o f n bytes))
  where
    go : (xs : List ℤ) → length xs ≡ n → IfSome (statistics_of floats xs) (λ s. s.number ≤ m)
    go [] l = tt
    go (v ∷ vs) l = omega arith

-- samples at their place in the trace
pub placed_samples : (o : Order) (f : ValueFormat) (n from at front : ℕ) (t : List ℕ) → at ≡ front + value_width f * from → samples_in o f n (drop at t) ≡ samples_in o f n (drop (value_width f * from) (drop front t))
placed_samples o f n from at front t place =
    ap (λ k. samples_in o f n (drop k t)) place ∙ ap (samples_in o f n) (sym (drop-drop (value_width f * from) front t))
