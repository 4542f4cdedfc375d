-- Chosen traces taken out: the others stay, and it is what deletes of each make, from the last to the first.
use Rattle.std.proofs.Common.{◌≡◌, ℕ, zero, suc, ◌+◌, ◌-◌, ◌<◌, ◌≤◌, Bool, true, false, ◌||◌, not, List, [], ◌∷◌, ◌++◌, map, reverse, filter, length, get_or, None, Ok, refl, sym, ap, subst, ◌∙◌, arith, add-one}
use Rattle.std.specs.Prelude.{◌==◌, if◌then◌else◌}
use Rattle.std.specs.List.{list_any, range_with_len}
use Rattle.std.proofs.lemmas.Bool.{le-leb}
use Rattle.std.proofs.lemmas.List.{map-append, reverse-append}
use Rattle.frame_cut.specs.Parts.{without}
use Rattle.frame_cut.specs.Traces.{count_of, is_trace, trace_at}
use Rattle.frame_cut.specs.Volume.{Volume}
use Rattle.frame_cut.proofs.OneCutLemmas.{at_most_one_cut}
use Rattle.trace_seq.specs.Order.{times}
use Rattle.trace_seq.specs.Without.{AreRising as AreUpFrom, taken_out, unless, without_from}
use Rattle.trace_seq.proofs.TogetherLemmas.{together}
use Rattle.bench_rules.specs.declared.chosen_edit.ChosenEdit.TheVariants as each
use Rattle.bench_rules.specs.declared.edit.Edit.TheVariants.{Delete, OfChosen}
use Rattle.bench_rules.specs.After.{bytes_after}
use Rattle.bench_rules.specs.ChosenEdits.{without_each}
use Rattle.bench_rules.specs.Conditions.{AreRising}
use Rattle.bench_rules.specs.Refused.{first_refusal}
use Rattle.bench_rules.specs.State.{State}
use Rattle.bench_rules.specs.Steps.{IsAfter, Steps}
use Rattle.bench_rules.proofs.ChosenLemmas.{chosen_accepted, rising-few, without_cut}
use Rattle.bench_rules.proofs.ManyValueLemmas.{IsRead}
use Rattle.bench_rules.proofs.TraceStepLemmas.{delete_done}
use Rattle.chosen_laws.specs.EditLaws.{ChosenDeleteIsItsDeletes, ChosenDeleteLeavesTheOthers, deletes_of, done_each, others}
use Rattle.chosen_laws.proofs.StepLemmas.{accepted_traces, chosen_after, done_behind, step_done, steps_then}

-- ---- a list without the items at some positions

module _ (ps : List ℕ) where
  -- the position is none of these
  abbrev stays : ℕ → Bool
  stays p = not (list_any (λ q. q == p) ps)

none-times : (p : ℕ) (ps : List ℕ) → list_any (λ q. q == p) ps ≡ false → times p ps ≡ 0
none-times p [] e = refl
none-times p (q ∷ qs) e = by (q == p) (none-times p qs) e
  where
    by : (b : Bool) → (list_any (λ r. r == p) qs ≡ false → times p qs ≡ 0) → (b || list_any (λ r. r == p) qs) ≡ false → (if b then 1 else 0) + times p qs ≡ 0
    by true rest e = absurd cc
    by false rest e = omega (arith, rest e)

some-times : (p : ℕ) (ps : List ℕ) → list_any (λ q. q == p) ps ≡ true → 0 < times p ps
some-times p [] e = absurd cc
some-times p (q ∷ qs) e = by (q == p) (some-times p qs) e
  where
    by : (b : Bool) → (list_any (λ r. r == p) qs ≡ true → 0 < times p qs) → (b || list_any (λ r. r == p) qs) ≡ true → 0 < (if b then 1 else 0) + times p qs
    by true rest e = omega arith
    by false rest e = omega (arith, rest e)

module _ {X : Type 0} (f : ℕ → X) (d : X) (ps : List ℕ) where
  -- one item more in front: it stays where its position is none of these
  one-left : (at : ℕ) (x : X) (xs : List X) (ks : List ℕ) → x ≡ f at → xs ≡ map f (filter (stays ps) ks) → unless (times at ps) x xs ≡ map f (filter (stays ps) (at ∷ ks))
  one-left at x xs ks here rest = by (list_any (λ q. q == at) ps) refl
    where
      behind : (n : ℕ) → 0 < n → unless n x xs ≡ xs
      behind zero less = absurd (omega (arith, less))
      behind (suc n) less = refl

      by : (b : Bool) → list_any (λ q. q == at) ps ≡ b → unless (times at ps) x xs ≡ map f (filter (stays ps) (at ∷ ks))
      by true e = behind (times at ps) (some-times at ps e) ∙ (rest ∙ rw e refl)
      by false e = rw (none-times at ps e, e) (rw (here, rest) refl)

  -- the items that are left are those at the other positions
  left-from : (at : ℕ) (xs : List X) → ((i : ℕ) → i < length xs → get_or xs i d ≡ f (at + i)) → without_from at xs ps ≡ map f (filter (stays ps) (range_with_len at (length xs)))
  left-from at [] same = refl
  left-from at (x ∷ xs) same =
      let start : at + 0 ≡ at = omega arith in
      let here : x ≡ f at = same 0 (omega arith) ∙ ap f start in
      let next : (i : ℕ) → at + suc i ≡ at + 1 + i = λ i. omega arith in
      let rest : without_from (at + 1) xs ps ≡ map f (filter (stays ps) (range_with_len (at + 1) (length xs))) =
      left-from (at + 1) xs (λ i less. same (suc i) (omega (arith, less)) ∙ ap f (next i)) in
      let behind : without_from (suc at) xs ps ≡ map f (filter (stays ps) (range_with_len (at + 1) (length xs))) = subst (λ (n : ℕ). without_from n xs ps ≡ map f (filter (stays ps) (range_with_len (at + 1) (length xs)))) (add-one at) rest in
      one-left at x (without_from (suc at) xs ps) (range_with_len (at + 1) (length xs)) here behind

-- ---- a volume without some traces

up_from : (k n : ℕ) (ps : List ℕ) → AreRising k n ps → AreUpFrom k ps
up_from k n [] up = tt
up_from k n (p ∷ ps) up = (up.0, subst (λ (m : ℕ). AreUpFrom m ps) (add-one p) (up_from (p + 1) n ps up.2))

taken_each : (v : Volume) (ps : List ℕ) → without_each v ps ≡ record v { traces = taken_out v.traces ps }
taken_each v [] = refl
taken_each v (p ∷ ps) = ap (λ (w : Volume). without w p) (taken_each v ps)

left : (v : Volume) (ps : List ℕ) → AreRising 1 (count_of v) ps → without_each v ps ≡ record v { traces = others v ps }
left v ps up =
    let all : count_of v + 1 - 1 ≡ length v.traces = omega arith in
    let same : taken_out v.traces ps ≡ others v ps =
    sym (together v.traces ps (up_from 1 (count_of v) ps up))
    ∙ left-from (trace_at v) [] ps 1 v.traces (λ i less. let at : 1 + i - 1 ≡ i = omega arith in ap (λ (k : ℕ). get_or v.traces k []) (sym at))
    ∙ ap (λ (n : ℕ). map (trace_at v) (filter (stays ps) (range_with_len 1 n))) (sym all) in
    taken_each v ps ∙ ap (λ (ts : List (List ℕ)). record v { traces = ts }) same

pub chosen_delete_leaves_the_others : ChosenDeleteLeavesTheOthers
chosen_delete_leaves_the_others s c ps v cut none e after =
    let a = chosen_accepted s c each.Delete none in
    let up : AreRising 1 (count_of s.volume) ps = subst (AreRising 1 (count_of s.volume)) (accepted_traces s c each.Delete ps a e) a.rising in
    let made = (chosen_after s c each.Delete ps (without_each s.volume ps) e ((without_cut s 1 ps (omega arith) up).cut cut)).volume in
    at_most_one_cut (bytes_after s (OfChosen c each.Delete)) s.reading s.limits v (without_each s.volume ps) after made ∙ left s.volume ps up

-- ---- one delete after another

-- the state without these traces
abbrev out : State → List ℕ → State
out s ps = record s { volume = without_each s.volume ps }

one_more : (p : ℕ) (ps : List ℕ) → deletes_of ps ++ Delete p ∷ [] ≡ deletes_of (p ∷ ps)
one_more p ps =
    sym (map-append (λ (q : ℕ). Delete q) (reverse ps) (p ∷ []))
    ∙ ap (λ (qs : List ℕ). map (λ q. Delete q) qs) (sym (reverse-append (p ∷ []) ps))

deletes_from : (s : State) (m : ℕ) (ps : List ℕ) → IsRead s → 1 ≤ m → AreRising m (count_of s.volume) ps → Steps s (deletes_of ps) (done_each ps) (out s ps)
deletes_from s m [] cut low up = refl
deletes_from s m (p ∷ ps) cut low up =
    let mid : State = out s ps in
    let new : State = out s (p ∷ ps) in
    let w = without_cut s (p + 1) ps (omega arith) up.2 in
    let few : p + 1 + length ps ≤ count_of s.volume + 1 = rising-few (p + 1) (count_of s.volume) ps (omega (arith, up.1)) up.2 in
    let there : is_trace mid.volume p ≡ true = rw (le-leb 1 p (omega (arith, low, up.0)), le-leb p (count_of mid.volume) (omega (arith, few, w.count))) refl in
    let none : first_refusal mid (Delete p) ≡ None = rw there refl in
    let after : IsAfter mid (Delete p) new = delete_done mid p new.volume (w.cut cut) none refl in
    let all = steps_then s mid new (deletes_of ps) (done_each ps) (Delete p) (Ok None) (deletes_from s (p + 1) ps cut (omega arith) up.2) (step_done mid new (Delete p) none after) in
    rw (one_more p ps, done_behind ps) at all

pub chosen_delete_is_its_deletes : ChosenDeleteIsItsDeletes
chosen_delete_is_its_deletes s c ps cut none e =
    let a = chosen_accepted s c each.Delete none in
    let up : AreRising 1 (count_of s.volume) ps = subst (AreRising 1 (count_of s.volume)) (accepted_traces s c each.Delete ps a e) a.rising in
    (out s ps, deletes_from s 1 ps cut (omega arith) up, chosen_after s c each.Delete ps (without_each s.volume ps) e ((without_cut s 1 ps (omega arith) up).cut cut))
