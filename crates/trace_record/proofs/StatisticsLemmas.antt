-- Statistics of lists one after the other.
use Rattle.std.specs.Prelude.{◌≡◌, ℕ, ℤ, Bool, pos, ◌+ℤ◌, List, [], ◌∷◌, ◌++◌, length, Option, Some, None, unwrap_or, refl}
use Rattle.std.proofs.Common.{arith, ap, ◌∙◌, length-append}
use Rattle.std.proofs.lemmas.Int.{ints}
use Rattle.std.specs.Int.{int_min, int_max}
use Rattle.trace_record.specs.Statistics.{least_of, greatest_of, int_sum, for_greatest, for_sum, greatest_sample, sample_sum, statistics_of}
use Rattle.trace_record.specs.declared.statistics.Statistics.{Statistics}
use Rattle.trace_record.specs.Laws.{StatisticsOfJoined}

pub min_assoc : (a b c : ℤ) → int_min a (int_min b c) ≡ int_min (int_min a b) c
min_assoc a b c = grind (arith, ints)

pub max_assoc : (a b c : ℤ) → int_max a (int_max b c) ≡ int_max (int_max a b) c
max_assoc a b c = grind (arith, ints)

pub least_of-append : (v : ℤ) (vs : List ℤ) (w : ℤ) (ws : List ℤ) → least_of ((v ∷ vs) ++ (w ∷ ws)) ≡ int_min (least_of (v ∷ vs)) (least_of (w ∷ ws))
least_of-append v [] w ws = refl
least_of-append v (u ∷ us) w ws = ap (λ m. int_min v m) (least_of-append u us w ws) ∙ min_assoc v (least_of (u ∷ us)) (least_of (w ∷ ws))

pub greatest_of-append : (v : ℤ) (vs : List ℤ) (w : ℤ) (ws : List ℤ) → greatest_of ((v ∷ vs) ++ (w ∷ ws)) ≡ int_max (greatest_of (v ∷ vs)) (greatest_of (w ∷ ws))
greatest_of-append v [] w ws = refl
greatest_of-append v (u ∷ us) w ws = ap (λ m. int_max v m) (greatest_of-append u us w ws) ∙ max_assoc v (greatest_of (u ∷ us)) (greatest_of (w ∷ ws))

pub int_sum-append : (vs ws : List ℤ) → int_sum (vs ++ ws) ≡ int_sum vs +ℤ int_sum ws
int_sum-append [] ws = omega (arith, ints)
int_sum-append (v ∷ vs) ws = let e = int_sum-append vs ws in omega (arith, ints)

append-none : (vs : List ℤ) → vs ++ [] ≡ vs
append-none [] = refl
append-none (v ∷ vs) = ap (λ us. v ∷ us) (append-none vs)

greatest_sample-append : (floats : Bool) (v : ℤ) (vs : List ℤ) (w : ℤ) (ws : List ℤ) → greatest_sample floats ((v ∷ vs) ++ (w ∷ ws)) ≡ int_max (greatest_sample floats (v ∷ vs)) (greatest_sample floats (w ∷ ws))
greatest_sample-append floats v [] w ws = refl
greatest_sample-append floats v (u ∷ us) w ws = ap (λ m. int_max (for_greatest floats v) m) (greatest_sample-append floats u us w ws) ∙ max_assoc (for_greatest floats v) (greatest_sample floats (u ∷ us)) (greatest_sample floats (w ∷ ws))

sample_sum-append : (floats : Bool) (vs ws : List ℤ) → sample_sum floats (vs ++ ws) ≡ sample_sum floats vs +ℤ sample_sum floats ws
sample_sum-append floats [] ws = omega (arith, ints)
sample_sum-append floats (v ∷ vs) ws = let e = sample_sum-append floats vs ws in omega (arith, ints)

-- the statistics of these four
abbrev pub four : ℤ → ℤ → ℤ → ℕ → Option Statistics
four l g s n = Some (record { least = l; greatest = g; sum = s; number = n })

pub same_four : (l g s : ℤ) (n : ℕ) (m h t : ℤ) (k : ℕ) → l ≡ m → g ≡ h → s ≡ t → n ≡ k → four l g s n ≡ four m h t k
same_four l g s n m h t k a b c d = λ i. four (a i) (b i) (c i) (d i)

pub statistics_of_joined : StatisticsOfJoined
statistics_of_joined floats [] ys = refl
statistics_of_joined floats (v ∷ vs) [] = ap (statistics_of floats) (append-none (v ∷ vs))
statistics_of_joined floats (v ∷ vs) (w ∷ ws) =
    same_four _ _ _ _ _ _ _ _ (least_of-append v vs w ws) (greatest_sample-append floats v vs w ws) (sample_sum-append floats (v ∷ vs) (w ∷ ws)) (length-append (v ∷ vs) (w ∷ ws))

-- ---- each of the four by itself

-- what statistics of samples say, and what there is without any
abbrev pub Says : Bool → Statistics → List ℤ → Type 0
Says floats s vs = (s.least ≡ least_of vs) × ((s.greatest ≡ greatest_sample floats vs) × ((s.sum ≡ sample_sum floats vs) × (s.number ≡ length vs)))

pub says : (floats : Bool) (s : Statistics) (vs : List ℤ) → Some s ≡ statistics_of floats vs → Says floats s vs
says floats s [] e = absurd cc
says floats s (v ∷ vs) e = (ap (λ o. (unwrap_or o s).least) e, (ap (λ o. (unwrap_or o s).greatest) e, (ap (λ o. (unwrap_or o s).sum) e, ap (λ o. (unwrap_or o s).number) e)))

pub says_none : (floats : Bool) (vs : List ℤ) → None ≡ statistics_of floats vs → Says floats (record { least = pos 0; greatest = pos 0; sum = pos 0; number = 0 }) vs
says_none floats [] e = (refl, (refl, (refl, refl)))
says_none floats (v ∷ vs) e = absurd cc
