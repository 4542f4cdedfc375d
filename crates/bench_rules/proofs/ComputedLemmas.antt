-- A number that is computed, one step after another.
use Rattle.std.proofs.Common.{◌≡◌, ℕ, ℤ, ◌+◌, ◌<◌, ◌≤◌, true, List, [], ◌∷◌, length, drop, get_or, Option, Some, None, Ok, Err, refl, sym, ap, ◌∙◌}
use Rattle.std.specs.Prelude.{Result, option_map, option_and_then}
use Rattle.std.proofs.Math.ListN.{drop_of_length-le}
use Rattle.std.proofs.lemmas.List.{drop_more}
use Rattle.field_map.specs.declared.place.Place.{Place}
use Rattle.frame_cut.specs.declared.file_head.Head.{Head}
use Rattle.trace_view.specs.Values.{has_place}
use Rattle.bench_rules.specs.declared.operator.Operator.{Operator}
use Rattle.bench_rules.specs.declared.refusal.Refusal.{Refusal}
use Rattle.bench_rules.specs.declared.refusal.Refusal.TheVariants as refusals
use Rattle.bench_rules.specs.declared.term.Term.{Term}
use Rattle.bench_rules.specs.Computed.{chained, chained_from, computed_in, stepped, steps_in, term_in, unless_refused}

-- what steps make of a number, unless there is none; E03 where a number of theirs is not there
abbrev pub goes_on : ℕ → Result ℤ Refusal → Option (List (Operator × ℤ)) → Result ℤ Refusal
goes_on p number (Some ss) = unless_refused number (λ a. chained p a ss)
goes_on p number None = Err refusals.NoPlace

-- a step whose number is there is done, and the others go on
one_step : (p : ℕ) (number : Result ℤ Refusal) (operator : Operator) (x : ℤ) (rest : Option (List (Operator × ℤ)))
    → goes_on p number (option_map (λ ss. (operator, x) ∷ ss) rest) ≡ goes_on p (unless_refused number (λ a. stepped p operator a x)) rest
one_step p (Ok a) operator x (Some ss) = refl
one_step p (Err refusal) operator x (Some ss) = refl
one_step p (Ok a) operator x None = refl
one_step p (Err refusal) operator x None = refl

-- the step whose number is there is the next of the list
pub with_number : (p : ℕ) (number next : Result ℤ Refusal) (operator : Operator) (o : Option ℤ) (rest : Option (List (Operator × ℤ)))
    → Some next ≡ option_map (λ x. unless_refused number (λ a. stepped p operator a x)) o
    → goes_on p number (option_and_then (λ y. option_map (λ ys. y ∷ ys) rest) (option_map (λ x. (operator, x)) o)) ≡ goes_on p next rest
with_number p number next operator None rest e = absurd cc
with_number p number next operator (Some x) rest e =
    let is : next ≡ unless_refused number (λ a. stepped p operator a x) = cc in
    one_step p number operator x rest ∙ ap (λ (r : Result ℤ Refusal). goes_on p r rest) (sym is)

-- one that is not there is E03
pub without_number : (p : ℕ) (number : Result ℤ Refusal) (operator : Operator) (o : Option ℤ) (rest : Option (List (Operator × ℤ)))
    → None ≡ option_map (λ x. unless_refused number (λ a. stepped p operator a x)) o
    → goes_on p number (option_and_then (λ y. option_map (λ ys. y ∷ ys) rest) (option_map (λ x. (operator, x)) o)) ≡ Err refusals.NoPlace
without_number p number operator None rest e = refl
without_number p number operator (Some x) rest e = absurd cc

-- ---- along the list of steps

pub step_goes_on : (h : Head) (t : List ℕ) (p : ℕ) (number next all : Result ℤ Refusal) (steps : List (Operator × Term)) (i : ℕ) (d : Operator × Term) (o : Option (Result ℤ Refusal)) → i < length steps
    → o ≡ option_map (λ x. unless_refused number (λ a. stepped p (get_or steps i d).0 a x)) (term_in h t (get_or steps i d).1) → o ≡ Some next
    → all ≡ goes_on p number (steps_in h t (drop i steps)) → all ≡ goes_on p next (steps_in h t (drop (i + 1) steps))
step_goes_on h t p number next all steps i d o below is e far =
    far
    ∙ ap (λ (ss : List (Operator × Term)). goes_on p number (steps_in h t ss)) (drop_more steps i d below)
    ∙ with_number p number next (get_or steps i d).0 (term_in h t (get_or steps i d).1) (steps_in h t (drop (i + 1) steps)) (sym e ∙ is)

pub step_is_missing : (h : Head) (t : List ℕ) (p : ℕ) (number all : Result ℤ Refusal) (steps : List (Operator × Term)) (i : ℕ) (d : Operator × Term) (o : Option (Result ℤ Refusal)) → i < length steps
    → o ≡ option_map (λ x. unless_refused number (λ a. stepped p (get_or steps i d).0 a x)) (term_in h t (get_or steps i d).1) → o ≡ None
    → all ≡ goes_on p number (steps_in h t (drop i steps)) → Err refusals.NoPlace ≡ all
step_is_missing h t p number all steps i d o below is e far =
    sym (far
    ∙ ap (λ (ss : List (Operator × Term)). goes_on p number (steps_in h t ss)) (drop_more steps i d below)
    ∙ without_number p number (get_or steps i d).0 (term_in h t (get_or steps i d).1) (steps_in h t (drop (i + 1) steps)) (sym e ∙ is))

-- behind the last step the number stands
pub nothing_goes_on : (p : ℕ) (number : Result ℤ Refusal) → goes_on p number (Some []) ≡ number
nothing_goes_on p (Ok a) = refl
nothing_goes_on p (Err refusal) = refl

pub steps_end : (h : Head) (t : List ℕ) (p : ℕ) (number all : Result ℤ Refusal) (steps : List (Operator × Term)) (i : ℕ) → length steps ≤ i
    → all ≡ goes_on p number (steps_in h t (drop i steps)) → number ≡ all
steps_end h t p number all steps i past far =
    sym (far ∙ ap (λ (ss : List (Operator × Term)). goes_on p number (steps_in h t ss)) (drop_of_length-le steps past) ∙ nothing_goes_on p number)

-- ---- the number of a trace

-- where the trace has the place and the first number, the steps decide
pub by_steps : (h : Head) (t : List ℕ) (p : ℕ) (place : Place) (source : Term) (steps : List (Operator × Term)) (x : ℤ) (r : Result ℤ Refusal) → has_place h t place ≡ true → Some x ≡ term_in h t source
    → r ≡ chained_from p (Some x) (steps_in h t steps) → r ≡ computed_in h (record { place = place; source = source; steps = steps }) p t
by_steps h t p place source steps x r has first is =
    let decided : computed_in h (record { place = place; source = source; steps = steps }) p t ≡ chained_from p (term_in h t source) (steps_in h t steps) = rw has refl in
    is ∙ ap (λ (o : Option ℤ). chained_from p o (steps_in h t steps)) first ∙ sym decided
