-- Without a condition the chosen traces are those of a range: what is done to them, and what is told of them.
use Rattle.std.specs.Prelude.{◌≡◌, ℕ, ℤ, List, [], Some, None}
use Rattle.field_map.specs.Pairs.{Pairs}
use Rattle.frame_cut.specs.Volume.{Volume}
use Rattle.bench_rules.specs.declared.chosen.Chosen.{Chosen}
use Rattle.bench_rules.specs.declared.chosen_edit.ChosenEdit.TheVariants as each
use Rattle.bench_rules.specs.declared.chosen_query.ChosenQuery.TheVariants as about
use Rattle.bench_rules.specs.declared.edit.Edit.{Edit}
use Rattle.bench_rules.specs.declared.edit.Edit.TheVariants as edits
use Rattle.bench_rules.specs.declared.field.Field.{Field}
use Rattle.bench_rules.specs.declared.operand.Operand.{Operand}
use Rattle.bench_rules.specs.declared.operator.Operator.{Operator}
use Rattle.bench_rules.specs.declared.query.Query.TheVariants as queries
use Rattle.bench_rules.specs.After.{bytes_after, fields_after}
use Rattle.bench_rules.specs.Answer.{answer}
use Rattle.bench_rules.specs.ChosenEdits.{count_told}
use Rattle.bench_rules.specs.Conditions.{chosen}
use Rattle.bench_rules.specs.ManyTraces.{positions}
use Rattle.bench_rules.specs.Refused.{first_refusal}
use Rattle.bench_rules.specs.State.{State}

-- the traces a to b, without a condition
abbrev pub range : (a b : ℕ) → Chosen
range a b = record { traces = Some (a, b); conditions = [] }

-- without a condition all traces of a range are chosen, and no number is told
abbrev pub RangeIsChosen : Type 0
RangeIsChosen = (v : Volume) (fields : Pairs) (a b : ℕ) → (chosen v fields (range a b) ≡ Some (positions a b)) × (count_told v fields (range a b) ≡ None)

-- two edits meet the same first refusal, and make the same bytes and the same field map
pub record AreAlike (s : State) (one other : Edit) : Type 0 where
  pub refusal : first_refusal s one ≡ first_refusal s other
  pub bytes : bytes_after s one ≡ bytes_after s other
  pub fields : fields_after s.fields one ≡ fields_after s.fields other

-- a field of a range of traces is counted up as that of the traces that are chosen of it without a condition
abbrev pub RenumberIsOfItsRange : Type 0
RenumberIsOfItsRange = (s : State) (a b : ℕ) (field : Field) (first step : ℤ)
    → AreAlike s (edits.Renumber a b field first step) (edits.OfChosen (range a b) (each.Renumber field first step))

-- and computed as that of those
abbrev pub ComputeIsOfItsRange : Type 0
ComputeIsOfItsRange = (s : State) (a b : ℕ) (field : Field) (source : Operand) (steps : List (Operator × Operand))
    → AreAlike s (edits.Compute a b field source steps) (edits.OfChosen (range a b) (each.Compute field source steps))

-- a table, a search and the extremes of a range of traces are those of the traces that are chosen of it without a condition
pub record QueriesAreOfTheirRange : Type 0 where
  pub table : (s : State) (a b : ℕ) (names : List Field) → answer s (queries.Table a b names) ≡ answer s (queries.OfChosen (range a b) (about.Table names))
  pub find : (s : State) (a b : ℕ) (field : Field) (low high : ℤ) → answer s (queries.Find a b field low high) ≡ answer s (queries.OfChosen (range a b) (about.Find field low high))
  pub extremes : (s : State) (a b : ℕ) → answer s (queries.Extremes a b) ≡ answer s (queries.OfChosen (range a b) about.Extremes)
