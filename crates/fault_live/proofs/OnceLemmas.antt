-- A triple that is counted once stands at no earlier trace.
use Rattle.std.specs.Prelude.{◌≡◌, ℕ, ℤ, ◌+◌, ◌<◌, Bool, true, false, ◌&&◌, cond, if◌then◌else◌, List, [], ◌∷◌, ◌++◌, length, count_by, nat_lt, Some, refl}
use Rattle.std.proofs.Common.{arith, sym, ap, ap₂, ◌∙◌}
use Rattle.std.proofs.lemmas.List.Sums.{sum_by-cons, sum_by-append}
use Rattle.std.specs.List.{position_from}
use Rattle.std.specs.Ordering.{is_eq, int_eq, int_cmp, ordering_reverse}
use Rattle.std.specs.Cmp.{int_cmp_total}
use Rattle.std.specs.declared.cmp.Ordering.{Ordering}
use Rattle.std.specs.declared.cmp.Ordering.TheVariants.{Less, Equal, Greater}
use Rattle.trace_record.specs.Facts.{Facts}
use Rattle.trace_record.specs.Keys.{triple}
use Rattle.fault_live.specs.FaultKeys.{faults_has, keys_of_faults}
use Rattle.trace_record.specs.Tally.{tally_of}
use Rattle.key_counts.proofs.KeyLemmas.{int_eq-itself}
use Rattle.fault_live.specs.Faults.{same_triple, repeat_fault}
use Rattle.fault_live.specs.declared.fault.Fault.TheVariants.{Repeated}
use Rattle.fault_live.specs.Laws.{OnceIsNotRepeated}

int_eq-flip : (a b : ℤ) → int_eq a b ≡ int_eq b a
int_eq-flip a b = ap is_eq (int_cmp_total.antisymm a b) ∙ turned (int_cmp b a)
  where
    turned : (r : Ordering) → is_eq (ordering_reverse r) ≡ is_eq r
    turned Less = refl
    turned Equal = refl
    turned Greater = refl

-- whether a trace has the triple of f
has_of : Facts → Facts → Bool
has_of f g = faults_has g (triple f.inline f.crossline f.offset)

same_has : (f g : Facts) → same_triple f g ≡ has_of f g
unfolding has_of
same_has f g = ap₂ (λ a b. a && b) (ap₂ (λ a b. a && b) (int_eq-flip f.inline g.inline) (int_eq-flip f.crossline g.crossline)) (int_eq-flip f.offset g.offset)

-- the order of the two does not matter
pub same-flip : (f g : Facts) → same_triple f g ≡ same_triple g f
same-flip f g = ap₂ (λ a b. a && b) (ap₂ (λ a b. a && b) (int_eq-flip f.inline g.inline) (int_eq-flip f.crossline g.crossline)) (int_eq-flip f.offset g.offset)

pub same_itself : (f : Facts) → same_triple f f ≡ true
same_itself f = ap₂ (λ a b. a && b) (ap₂ (λ a b. a && b) (int_eq-itself f.inline f.inline refl) (int_eq-itself f.crossline f.crossline refl)) (int_eq-itself f.offset f.offset refl)

-- where none before has it, it stands first behind them
first_behind : (f : Facts) (gs fs : List Facts) (n : ℕ) → count_by (has_of f) fs ≡ 0 → position_from (same_triple f) n (fs ++ f ∷ gs) ≡ Some (n + length fs)
first_behind f gs [] n e = ap (λ b. cond b (Some n) (position_from (same_triple f) (n + 1) gs)) (same_itself f) ∙ ap Some (omega arith)
first_behind f gs (g ∷ fs) n e = by (has_of f g) refl (first_behind f gs fs (n + 1))
  where
    split : count_by (has_of f) (g ∷ fs) ≡ (if has_of f g then 1 else 0) + count_by (has_of f) fs
    split = sum_by-cons (λ h. cond (has_of f h) 1 0) g fs

    by : (b : Bool) → has_of f g ≡ b → (count_by (has_of f) fs ≡ 0 → position_from (same_triple f) (n + 1) (fs ++ f ∷ gs) ≡ Some (n + 1 + length fs))
        → position_from (same_triple f) n (g ∷ fs ++ f ∷ gs) ≡ Some (n + length (g ∷ fs))
    by true h i = absurd (let s = split ∙ ap (λ (b : Bool). (if b then 1 else 0) + count_by (has_of f) fs) h in omega arith)
    by false h i =
        ap (λ b. cond b (Some n) (position_from (same_triple f) (n + 1) (fs ++ f ∷ gs))) (same_has f g ∙ h)
        ∙ i (let s = split ∙ ap (λ (b : Bool). (if b then 1 else 0) + count_by (has_of f) fs) h in omega arith)
        ∙ ap Some (omega arith)

pub not_before : (p : ℕ) → repeat_fault p (Some p) ≡ []
not_before p = by (nat_lt p p) (grind arith)
  where
    by : (b : Bool) → b ≡ false → (if b then Repeated p p ∷ [] else []) ≡ []
    by true e = cc
    by false e = refl

-- a trace's triple is counted at the trace itself
pub counted_itself : (fs gs : List Facts) (f : Facts) → 0 < (tally_of keys_of_faults (fs ++ f ∷ gs)).count (triple f.inline f.crossline f.offset)
unfolding has_of
counted_itself fs gs f =
    let parts = sum_by-append (λ h. cond (has_of f h) 1 0) fs (f ∷ gs) in
    let here = sum_by-cons (λ h. cond (has_of f h) 1 0) f gs ∙ ap (λ (b : Bool). (if b then 1 else 0) + count_by (has_of f) gs) (sym (same_has f f) ∙ same_itself f) in
    omega arith

pub once_is_not_repeated : OnceIsNotRepeated
unfolding has_of
once_is_not_repeated fs gs f e =
    let parts = sum_by-append (λ h. cond (has_of f h) 1 0) fs (f ∷ gs) in
    let here = sum_by-cons (λ h. cond (has_of f h) 1 0) f gs ∙ ap (λ (b : Bool). (if b then 1 else 0) + count_by (has_of f) gs) (sym (same_has f f) ∙ same_itself f) in
    let none : count_by (has_of f) fs ≡ 0 = omega arith in
    ap (repeat_fault (length fs + 1)) (first_behind f gs fs 1 none ∙ ap Some (omega arith)) ∙ not_before (length fs + 1)
