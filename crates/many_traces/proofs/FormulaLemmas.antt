-- A computation whose fields are found by name, step by step.
use Rattle.std.proofs.Common.{◌≡◌, ℕ, ℤ, ◌+◌, ◌<◌, ◌≤◌, true, List, ◌∷◌, length, drop, get_or, Option, Some, None, Err, refl, sym, ap, ◌∙◌}
use Rattle.std.specs.Prelude.{Result, option_map, option_and_then, not, if◌then◌else◌}
use Rattle.std.proofs.Math.ListN.{drop_of_length-le}
use Rattle.std.proofs.lemmas.List.{drop_more}
use Rattle.field_map.specs.declared.place.Place.{Place}
use Rattle.field_map.specs.Pairs.{Pairs}
use Rattle.frame_cut.specs.declared.file_head.Head.{Head}
use Rattle.trace_view.specs.Values.{has_place}
use Rattle.bench_rules.specs.declared.operand.Operand.{Operand}
use Rattle.bench_rules.specs.declared.operator.Operator.{Operator}
use Rattle.bench_rules.specs.declared.refusal.Refusal.{Refusal}
use Rattle.bench_rules.specs.declared.refusal.Refusal.TheVariants as refusals
use Rattle.bench_rules.specs.declared.term.Term.{Term}
use Rattle.bench_rules.specs.Computed.{chained_from, computed_in, stepped, steps_in, steps_of, term_in, term_of, unless_refused}
use Rattle.bench_rules.specs.ManyTraces.{each_of}
use Rattle.bench_rules.proofs.ComputedLemmas.{goes_on, with_number, without_number, nothing_goes_on}
use Rattle.many_traces.specs.Formulas.{named_number_in, step_in}
use Rattle.bench_rules.proofs.EachLemmas.{each_through}

-- ---- the terms of steps

-- a step with the place of its field
abbrev pub placed : Pairs → Operator × Operand → Option (Operator × Term)
placed fields s = option_map (λ term. (s.0, term)) (term_of fields s.1)

pub placed_by : (fields : Pairs) (s d : Operator × Operand) (o : Option Term) (u : Operator × Term) (term : Term) → d ≡ s → o ≡ term_of fields s.1 → o ≡ Some term → u ≡ (s.0, term) → placed fields d ≡ Some u
placed_by fields s d o u term same is e made =
    ap (placed fields) same ∙ ap (λ (p : Option Term). option_map (λ term. (s.0, term)) p) (sym is ∙ e) ∙ ap (λ (v : Operator × Term). Some v) (sym made)

-- ---- the numbers of steps

-- what a step with this term gives in front of the others
unfoldable with_term : Head → List ℕ → ℕ → Result ℤ Refusal → Operator → Option (List (Operator × ℤ)) → Option Term → Result ℤ Refusal
with_term h t p number operator rest o =
    goes_on p number (option_and_then (λ y. option_map (λ ys. y ∷ ys) rest) (option_and_then (λ (u : Operator × Term). option_map (λ x. (u.0, x)) (term_in h t u.1)) (option_map (λ term. (operator, term)) o)))

at_step : (h : Head) (t : List ℕ) (fields : Pairs) (p : ℕ) (number all : Result ℤ Refusal) (steps : List (Operator × Operand)) (i : ℕ) (s : Operator × Operand) (o : Option Term) → i < length steps → get_or steps i s ≡ s
    → o ≡ term_of fields s.1 → all ≡ goes_on p number (each_of (step_in h t fields) (drop i steps)) → all ≡ with_term h t p number s.0 (each_of (step_in h t fields) (drop (i + 1) steps)) o
unfolding with_term
at_step h t fields p number all steps i s o below item named far =
    far
    ∙ ap (λ (ss : List (Operator × Operand)). goes_on p number (each_of (step_in h t fields) ss)) (drop_more steps i s below ∙ ap (λ (u : Operator × Operand). u ∷ drop (i + 1) steps) item)
    ∙ ap (λ (q : Option Term). with_term h t p number s.0 (each_of (step_in h t fields) (drop (i + 1) steps)) q) (sym named)

-- the next number stands for the steps so far
pub name_goes_on : (h : Head) (t : List ℕ) (fields : Pairs) (p : ℕ) (number next all : Result ℤ Refusal) (steps : List (Operator × Operand)) (i : ℕ) (s : Operator × Operand) (o : Option Term) (term : Term) (r : Option (Result ℤ Refusal))
    → i < length steps → get_or steps i s ≡ s → o ≡ term_of fields s.1 → o ≡ Some term → r ≡ option_map (λ x. unless_refused number (λ a. stepped p s.0 a x)) (term_in h t term) → r ≡ Some next
    → all ≡ goes_on p number (each_of (step_in h t fields) (drop i steps)) → all ≡ goes_on p next (each_of (step_in h t fields) (drop (i + 1) steps))
unfolding with_term
name_goes_on h t fields p number next all steps i s o term r below item named there is e far =
    at_step h t fields p number all steps i s o below item named far
    ∙ ap (λ (q : Option Term). with_term h t p number s.0 (each_of (step_in h t fields) (drop (i + 1) steps)) q) there
    ∙ with_number p number next s.0 (term_in h t term) (each_of (step_in h t fields) (drop (i + 1) steps)) (sym e ∙ is)

-- E03 where the trace lacks the place
pub name_is_missing : (h : Head) (t : List ℕ) (fields : Pairs) (p : ℕ) (number all : Result ℤ Refusal) (steps : List (Operator × Operand)) (i : ℕ) (s : Operator × Operand) (o : Option Term) (term : Term) (r : Option (Result ℤ Refusal))
    → i < length steps → get_or steps i s ≡ s → o ≡ term_of fields s.1 → o ≡ Some term → r ≡ option_map (λ x. unless_refused number (λ a. stepped p s.0 a x)) (term_in h t term) → r ≡ None
    → all ≡ goes_on p number (each_of (step_in h t fields) (drop i steps)) → Err refusals.NoPlace ≡ all
unfolding with_term
name_is_missing h t fields p number all steps i s o term r below item named there is e far =
    sym (at_step h t fields p number all steps i s o below item named far
    ∙ ap (λ (q : Option Term). with_term h t p number s.0 (each_of (step_in h t fields) (drop (i + 1) steps)) q) there
    ∙ without_number p number s.0 (term_in h t term) (each_of (step_in h t fields) (drop (i + 1) steps)) (sym e ∙ is))

-- and where the field has none
pub name_is_unknown : (h : Head) (t : List ℕ) (fields : Pairs) (p : ℕ) (number all : Result ℤ Refusal) (steps : List (Operator × Operand)) (i : ℕ) (s : Operator × Operand) (o : Option Term)
    → i < length steps → get_or steps i s ≡ s → o ≡ term_of fields s.1 → o ≡ None
    → all ≡ goes_on p number (each_of (step_in h t fields) (drop i steps)) → Err refusals.NoPlace ≡ all
unfolding with_term
name_is_unknown h t fields p number all steps i s o below item named there far =
    sym (at_step h t fields p number all steps i s o below item named far
    ∙ ap (λ (q : Option Term). with_term h t p number s.0 (each_of (step_in h t fields) (drop (i + 1) steps)) q) there)

-- behind the last step the number stands
pub names_end : (h : Head) (t : List ℕ) (fields : Pairs) (p : ℕ) (number all : Result ℤ Refusal) (steps : List (Operator × Operand)) (i : ℕ) → length steps ≤ i
    → all ≡ goes_on p number (each_of (step_in h t fields) (drop i steps)) → number ≡ all
names_end h t fields p number all steps i past far =
    sym (far ∙ ap (λ (ss : List (Operator × Operand)). goes_on p number (each_of (step_in h t fields) ss)) (drop_of_length-le steps past) ∙ nothing_goes_on p number)

-- ---- the number of a trace

-- where the trace has the place and the first number, the steps decide
pub by_named_steps : (h : Head) (t : List ℕ) (fields : Pairs) (p : ℕ) (place : Place) (source : Term) (steps : List (Operator × Operand)) (x : ℤ) (r : Result ℤ Refusal) → has_place h t place ≡ true → Some x ≡ term_in h t source
    → r ≡ chained_from p (Some x) (each_of (step_in h t fields) steps) → r ≡ named_number_in h fields place source steps p t
by_named_steps h t fields p place source steps x r has first is =
    let decided : named_number_in h fields place source steps p t ≡ chained_from p (term_in h t source) (each_of (step_in h t fields) steps) = rw has refl in
    is ∙ ap (λ (o : Option ℤ). chained_from p o (each_of (step_in h t fields) steps)) first ∙ sym decided

-- it is that of the places, where each field has one
pub named_is : (h : Head) (t : List ℕ) (fields : Pairs) (p : ℕ) (place : Place) (source : Term) (steps : List (Operator × Operand)) (terms : List (Operator × Term)) → steps_of fields steps ≡ Some terms
    → named_number_in h fields place source steps p t ≡ computed_in h (record { place = place; source = source; steps = terms }) p t
named_is h t fields p place source steps terms e =
    let same : each_of (step_in h t fields) steps ≡ steps_in h t terms =
    each_through (placed fields) (λ (u : Operator × Term). option_map (λ x. (u.0, x)) (term_in h t u.1)) steps terms e in
    ap (λ (o : Option (List (Operator × ℤ))). let r : Result ℤ Refusal = if not (has_place h t place) then Err refusals.NoPlace else chained_from p (term_in h t source) o in r) same
