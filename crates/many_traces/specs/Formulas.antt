-- A computation whose fields are found by name, and the bytes of its numbers. Traces are counted from 1.
use Rattle.std.specs.Prelude.{◌≡◌, ℕ, ℤ, not, List, [], Option, Some, None, option_map, option_and_then, Result, Err, if◌then◌else◌}
use Rattle.std.specs.List.{flat_map}
use Rattle.num_order.specs.Number.{bytes}
use Rattle.field_map.specs.declared.place.Place.{Place}
use Rattle.field_map.specs.Pairs.{Pairs}
use Rattle.frame_cut.specs.declared.file_head.Head.{Head}
use Rattle.frame_cut.specs.Volume.{Volume}
use Rattle.trace_view.specs.Values.{has_place}
use Rattle.bench_rules.specs.declared.operand.Operand.{Operand}
use Rattle.bench_rules.specs.declared.operator.Operator.{Operator}
use Rattle.bench_rules.specs.declared.refusal.Refusal.{Refusal}
use Rattle.bench_rules.specs.declared.refusal.Refusal.TheVariants.{NoPlace, OutOfMemory}
use Rattle.bench_rules.specs.declared.term.Term.{Term}
use Rattle.bench_rules.specs.Computed.{Formula, chained_from, computed_numbers, steps_of, term_in, term_of}
use Rattle.bench_rules.specs.ManyTraces.{each_of}

-- the computation over this place, where each field of its operands has a place
abbrev pub formula_at : Pairs → Place → Operand → List (Operator × Operand) → Option Formula
formula_at fields place source steps = option_and_then (λ term. option_map (λ ss. record { place = place; source = term; steps = ss }) (steps_of fields steps)) (term_of fields source)

-- a step with its number in a trace, where its field has a place and the trace has it
abbrev pub step_in : Head → List ℕ → Pairs → Operator × Operand → Option (Operator × ℤ)
step_in h t fields s = option_and_then (λ (u : Operator × Term). option_map (λ x. (u.0, x)) (term_in h t u.1)) (option_map (λ term. (s.0, term)) (term_of fields s.1))

-- the number that is computed for trace p, with the steps' fields found by name
abbrev pub named_number_in : Head → Pairs → Place → Term → List (Operator × Operand) → ℕ → List ℕ → Result ℤ Refusal
named_number_in h fields place source steps p t = if not (has_place h t place) then Err NoPlace else chained_from p (term_in h t source) (each_of (step_in h t fields) steps)

-- the bytes of the numbers that are computed for traces a to b, one after another
abbrev pub number_bytes : Volume → Option Formula → ℕ → ℕ → List ℕ
number_bytes v None a b = []
number_bytes v (Some f) a b = flat_map (λ n. bytes v.head.order f.place.kind n.1) (computed_numbers v f a b)

-- why there are no bytes: the first refusal, else want of memory
abbrev pub IsRefusalFor : Refusal → Option Refusal → Type 0
IsRefusalFor refusal None = refusal ≡ OutOfMemory
IsRefusalFor refusal (Some first) = refusal ≡ first
