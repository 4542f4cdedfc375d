-- A field computed from numbers and other fields of the same trace, as it is before the edit. Traces are counted from 1.
use Rattle.std.specs.Prelude.{ℕ, suc, ℤ, pos, negsuc, neg_ℤ, ◌+ℤ◌, ◌-ℤ◌, ◌*ℤ◌, ◌^◌, Bool, true, false, not, ◌&&◌, int_lt, List, [], ◌∷◌, filter_map, Option, Some, None, option_map, option_and_then, Result, Ok, Err, if◌then◌else◌}
use Rattle.std.specs.Int.{int_div_euclid}
use Rattle.std.specs.Ordering.{int_eq}
use Rattle.std.specs.Option.{option_or}
use Rattle.field_map.specs.declared.place.Place.{Place}
use Rattle.field_map.specs.Pairs.{Pairs}
use Rattle.frame_cut.specs.declared.file_head.Head.{Head}
use Rattle.frame_cut.specs.Traces.{trace_at}
use Rattle.frame_cut.specs.Volume.{Volume}
use Rattle.trace_view.specs.Values.{has_place, value_of}
use Rattle.bench_rules.specs.declared.field.Field.{Field}
use Rattle.bench_rules.specs.declared.operand.Operand.{Operand}
use Rattle.bench_rules.specs.declared.operand.Operand.TheVariants as operands
use Rattle.bench_rules.specs.declared.operator.Operator.{Operator}
use Rattle.bench_rules.specs.declared.operator.Operator.TheVariants.{Plus, Minus, Times, Over, Modulo}
use Rattle.bench_rules.specs.declared.term.Term.{Term}
use Rattle.bench_rules.specs.declared.term.Term.TheVariants as terms
use Rattle.bench_rules.specs.declared.refusal.Refusal.{Refusal}
use Rattle.bench_rules.specs.declared.refusal.Refusal.TheVariants as refusals
use Rattle.bench_rules.specs.ManyTraces.{positions, each_of}
use Rattle.bench_rules.specs.Places.{place_in_trace}
use Rattle.bench_rules.specs.SetRefusals.{set_refusal}

-- ---- what is computed

-- the field's place, the first term, and what is done with it: steps, each an operator and a term
pub record Formula : Type 0 where
  pub place : Place
  pub source : Term
  pub steps : List (Operator × Term)

-- an operand with its place, where its field has one
abbrev pub term_of : Pairs → Operand → Option Term
term_of fields (operands.Number x) = Some (terms.Number x)
term_of fields (operands.Field field) = option_map terms.At (place_in_trace fields field)

-- the steps with their places, where each field has one
abbrev pub steps_of : Pairs → List (Operator × Operand) → Option (List (Operator × Term))
steps_of fields steps = each_of (λ s. option_map (λ term. (s.0, term)) (term_of fields s.1)) steps

-- the computation with its places, where each field has one
abbrev pub formula_of : Pairs → Field → Operand → List (Operator × Operand) → Option Formula
formula_of fields field source steps =
    option_and_then (λ place. option_and_then (λ term. option_map (λ ss. record { place = place; source = term; steps = ss }) (steps_of fields steps)) (term_of fields source)) (place_in_trace fields field)

-- ---- one step

-- a / b, rounded towards the lesser number
abbrev pub quotient : ℤ → ℤ → ℤ
quotient a (pos b) = int_div_euclid a (pos b)
quotient a (negsuc b) = int_div_euclid (neg_ℤ a) (pos (suc b))

-- what the operator makes of two numbers
abbrev pub applied : Operator → ℤ → ℤ → ℤ
applied Plus a b = a +ℤ b
applied Minus a b = a -ℤ b
applied Times a b = a *ℤ b
applied Over a b = quotient a b
applied Modulo a b = a -ℤ (b *ℤ quotient a b)

-- the operator divides
abbrev pub divides : Operator → Bool
divides Plus = false
divides Minus = false
divides Times = false
divides Over = true
divides Modulo = true

-- a number from -2^127 to 2^127 - 1
abbrev pub is_in_range : ℤ → Bool
is_in_range x = not (int_lt x (neg_ℤ (pos (2 ^ 127)))) && int_lt x (pos (2 ^ 127))

-- a number in that range, else E04
abbrev pub in_range : ℤ → Result ℤ Refusal
in_range x = if is_in_range x then Ok x else Err refusals.DoesNotFit

-- one step in trace p: E13 for a division by 0, E04 for a number out of range
abbrev pub stepped : ℕ → Operator → ℤ → ℤ → Result ℤ Refusal
stepped p operator a b = if divides operator && int_eq b (pos 0) then Err (refusals.ZeroDivisor p) else in_range (applied operator a b)

-- ---- one trace

-- the number of a term in a trace, where the trace has its place
abbrev pub term_in : Head → List ℕ → Term → Option ℤ
term_in h t (terms.Number x) = Some x
term_in h t (terms.At place) = value_of h t place

-- the steps with their numbers in a trace, where it has each place
abbrev pub steps_in : Head → List ℕ → List (Operator × Term) → Option (List (Operator × ℤ))
steps_in h t steps = each_of (λ s. option_map (λ x. (s.0, x)) (term_in h t s.1)) steps

-- what goes on with a number, unless there is none
abbrev pub unless_refused : Result ℤ Refusal → (ℤ → Result ℤ Refusal) → Result ℤ Refusal
unless_refused (Ok x) f = f x
unless_refused (Err refusal) f = Err refusal

-- the steps in trace p one after another, from the number a on
abbrev pub chained : ℕ → ℤ → List (Operator × ℤ) → Result ℤ Refusal
chained p a [] = Ok a
chained p a (s ∷ ss) = unless_refused (stepped p s.0 a s.1) (λ b. chained p b ss)

-- the same from the numbers that are there; E03 where one is not
abbrev pub chained_from : ℕ → Option ℤ → Option (List (Operator × ℤ)) → Result ℤ Refusal
chained_from p (Some a) (Some ss) = chained p a ss
chained_from p (Some a) None = Err refusals.NoPlace
chained_from p None ss = Err refusals.NoPlace

-- the number that is computed for trace p: E03 where it lacks one of the places, then E13 or E04 of the first step that has no number
abbrev pub computed_in : Head → Formula → ℕ → List ℕ → Result ℤ Refusal
computed_in h f p t = if not (has_place h t f.place) then Err refusals.NoPlace else chained_from p (term_in h t f.source) (steps_in h t f.steps)

-- the refusal of a number, or of its set at the place
abbrev pub refusal_of_result : Head → List ℕ → Place → Result ℤ Refusal → Option Refusal
refusal_of_result h t place (Ok x) = set_refusal h t (Some place) x
refusal_of_result h t place (Err refusal) = Some refusal

-- the first refusal of trace p: E03, E13, E04, E06
abbrev pub compute_refusal : Volume → Formula → ℕ → Option Refusal
compute_refusal v f p = refusal_of_result v.head (trace_at v p) f.place (computed_in v.head f p (trace_at v p))

-- ---- many traces

-- the first refusal at these positions
abbrev pub first_at : (ℕ → Option Refusal) → List ℕ → Option Refusal
first_at refusal [] = None
first_at refusal (p ∷ ps) = option_or (refusal p) (first_at refusal ps)

-- the first refusal in traces a to b; E02 where a field has no place
abbrev pub compute_refusal_in : Volume → Option Formula → ℕ → ℕ → Option Refusal
compute_refusal_in v None a b = Some refusals.NoField
compute_refusal_in v (Some f) a b = first_at (compute_refusal v f) (positions a b)

-- the number, with the position
abbrev pub number_at : ℕ → Result ℤ Refusal → Option (ℕ × ℤ)
number_at p (Ok x) = Some (p, x)
number_at p (Err refusal) = None

-- the traces a to b that have a number, each with it
abbrev pub computed_numbers : Volume → Formula → ℕ → ℕ → List (ℕ × ℤ)
computed_numbers v f a b = filter_map (λ p. number_at p (computed_in v.head f p (trace_at v p))) (positions a b)
