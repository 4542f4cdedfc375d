-- No rule of a number that is put at its place refuses it as a read does.
use Rattle.std.proofs.Common.{◌≡◌, ℕ, ℤ, List, not, Option, Some, Result, Ok, Err}
use Rattle.std.specs.Prelude.{IfErr, IfSome}
use Rattle.field_map.specs.declared.place.Place.{Place}
use Rattle.field_map.specs.Pairs.{Pairs}
use Rattle.frame_cut.specs.declared.file_head.Head.{Head}
use Rattle.trace_view.specs.Values.{has_place}
use Rattle.bench_rules.specs.declared.operand.Operand.{Operand}
use Rattle.bench_rules.specs.declared.operator.Operator.{Operator}
use Rattle.bench_rules.specs.declared.refusal.Refusal.{Refusal}
use Rattle.bench_rules.specs.declared.refusal.Refusal.TheVariants as edits
use Rattle.bench_rules.specs.declared.term.Term.{Term}
use Rattle.bench_rules.specs.Computed.{refusal_of_result, term_in}
use Rattle.bench_rules.specs.ManyTraces.{each_of}
use Rattle.bench_rules.specs.ReadFaults.{IsRefusalOfNoRead}
use Rattle.bench_rules.proofs.NoReadLemmas.{chained_from_free, numbered, set_free, some_free}
use Rattle.many_traces.specs.Formulas.{named_number_in, step_in}

pub named_free : (h : Head) (fields : Pairs) (place : Place) (source : Term) (steps : List (Operator × Operand)) (p : ℕ) (t : List ℕ) → IfErr (named_number_in h fields place source steps p t) IsRefusalOfNoRead
named_free h fields place source steps p t =
    numbered (not (has_place h t place)) edits.NoPlace _ tt (chained_from_free p (term_in h t source) (each_of (step_in h t fields) steps))

result_free : (h : Head) (t : List ℕ) (place : Place) (number : Result ℤ Refusal) → IfErr number IsRefusalOfNoRead → IfSome (refusal_of_result h t place number) IsRefusalOfNoRead
result_free h t place (Ok x) free = set_free h t (Some place) x
result_free h t place (Err refusal) free = free

-- the refusal of the number or of its set
pub admitted_free : (h : Head) (t : List ℕ) (place : Place) (number : Result ℤ Refusal) (refusal : Refusal) → IfErr number IsRefusalOfNoRead → refusal_of_result h t place number ≡ Some refusal → IsRefusalOfNoRead refusal
admitted_free h t place number refusal free told = some_free (refusal_of_result h t place number) refusal told (result_free h t place number free)
