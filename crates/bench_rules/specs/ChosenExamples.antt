-- Chosen traces, worked by hand.
use Rattle.std.specs.Prelude.{◌≡◌, pos, [], ◌∷◌, None, Some, Ok, Err, codes, refl, false}
use Rattle.field_map.specs.Binding.{geometry_at_load}
use Rattle.field_map.specs.KnownNames.{named_place}
use Rattle.field_map.specs.Pairs.{signed_at}
use Rattle.frame_cut.specs.Readings.{as_written}
use Rattle.frame_cut.specs.SmallFiles.{wide_limits, volume_plain, file_plain, with_bytes_at}
use Rattle.bench_rules.specs.declared.answer.Answer.TheVariants as answers
use Rattle.bench_rules.specs.declared.ask_fault.AskFault.TheVariants as asks
use Rattle.bench_rules.specs.declared.chosen.Chosen.{Chosen}
use Rattle.bench_rules.specs.declared.chosen_edit.ChosenEdit.TheVariants as each
use Rattle.bench_rules.specs.declared.chosen_query.ChosenQuery.TheVariants as about
use Rattle.bench_rules.specs.declared.comparison.Comparison.TheVariants.{AtLeast, Less, Unequal}
use Rattle.bench_rules.specs.declared.condition.Condition.{Condition}
use Rattle.bench_rules.specs.declared.edit.Edit.TheVariants.{OfChosen}
use Rattle.bench_rules.specs.declared.field.Field.TheVariants as field
use Rattle.bench_rules.specs.declared.operand.Operand.TheVariants as operand
use Rattle.bench_rules.specs.declared.query.Query.TheVariants as queries
use Rattle.bench_rules.specs.declared.refusal.Refusal.TheVariants as refusals
use Rattle.bench_rules.specs.declared.side.Side.TheVariants as side
use Rattle.bench_rules.specs.After.{bytes_after}
use Rattle.bench_rules.specs.Answer.{answer}
use Rattle.bench_rules.specs.ChosenEdits.{count_told, counted_each, without_each}
use Rattle.bench_rules.specs.Conditions.{chosen}
use Rattle.bench_rules.specs.Refused.{first_refusal}
use Rattle.bench_rules.specs.State.{State}

-- three traces of inline 10, crosslines 21 to 23 and offsets 100, 200 and 300
abbrev pub loaded : State
loaded = record { volume = volume_plain; fields = geometry_at_load; reading = as_written; limits = wide_limits; on_disk = false }

-- crossline >= 22
abbrev from_22 : Condition
from_22 = record { left = side.Operand (operand.Field (field.Name (codes "crossline"))); comparison = AtLeast; right = side.Operand (operand.Number (pos 22)) }

-- offset < 300
abbrev below_300 : Condition
below_300 = record { left = side.Operand (operand.Field (field.Name (codes "offset"))); comparison = Less; right = side.Operand (operand.Number (pos 300)) }

-- a byte that no trace has
abbrev pub far : Condition
far = record { left = side.Operand (operand.Field (field.Place (signed_at 240 4))); comparison = Unequal; right = side.Operand (operand.Number (pos 0)) }

-- a name of nothing
abbrev pub unknown : Condition
unknown = record { left = side.Operand (operand.Field (field.Name (codes "crosline"))); comparison = Unequal; right = side.Operand (operand.Number (pos 0)) }

pub chosen-one : chosen volume_plain geometry_at_load (record { traces = Some (1, 3); conditions = from_22 ∷ [] }) ≡ Some (2 ∷ 3 ∷ [])
chosen-one = refl

pub chosen-both : chosen volume_plain geometry_at_load (record { traces = Some (1, 3); conditions = from_22 ∷ below_300 ∷ [] }) ≡ Some (2 ∷ [])
chosen-both = refl

-- without a condition all traces of the range are chosen, and none is told of
pub chosen-all : chosen volume_plain geometry_at_load (record { traces = Some (2, 3); conditions = [] }) ≡ Some (2 ∷ 3 ∷ [])
chosen-all = refl

pub told-none : count_told volume_plain geometry_at_load (record { traces = Some (2, 3); conditions = [] }) ≡ None
told-none = refl

pub told-two : count_told volume_plain geometry_at_load (record { traces = Some (1, 3); conditions = from_22 ∷ [] }) ≡ Some 2
told-two = refl

-- the refusals, first the range's, then a name's, then a place's
pub refused-range : first_refusal loaded (OfChosen (record { traces = Some (1, 4); conditions = unknown ∷ [] }) each.Delete) ≡ Some (refusals.NoTrace 4 3)
refused-range = refl

pub refused-name : first_refusal loaded (OfChosen (record { traces = Some (1, 3); conditions = far ∷ unknown ∷ [] }) each.Delete) ≡ Some refusals.NoField
unfolding named_place
refused-name = refl

pub refused-place : first_refusal loaded (OfChosen (record { traces = Some (1, 3); conditions = from_22 ∷ far ∷ [] }) each.Delete) ≡ Some refusals.NoPlace
refused-place = refl

-- what is counted up counts the chosen traces alone
pub counted-chosen : counted_each (pos 5) (pos 10) 0 (2 ∷ 3 ∷ []) ≡ (2, pos 5) ∷ (3, pos 15) ∷ []
counted-chosen = refl

-- bytes 4040 and 4284 of the file: the low bytes of the crosslines of traces 2 and 3
pub counted-bytes : bytes_after loaded (OfChosen (record { traces = Some (1, 3); conditions = from_22 ∷ [] }) (each.Renumber (field.Name (codes "crossline")) (pos 12) (pos 1))) ≡ with_bytes_at 4284 (13 ∷ []) (with_bytes_at 4040 (12 ∷ []) file_plain)
counted-bytes = refl

-- two of three traces are taken out
pub without-two : (without_each volume_plain (1 ∷ 3 ∷ [])).traces ≡ (without_each (without_each volume_plain (3 ∷ [])) (1 ∷ [])).traces
without-two = refl

pub answer-count : answer loaded (queries.OfChosen (record { traces = Some (1, 3); conditions = from_22 ∷ [] }) about.Count) ≡ Ok (answers.Chosen 2)
answer-count = refl

pub answer-found : answer loaded (queries.OfChosen (record { traces = Some (1, 3); conditions = from_22 ∷ [] }) (about.Find (field.Name (codes "offset")) (pos 0) (pos 250))) ≡ Ok (answers.Found ((2, pos 200) ∷ []))
answer-found = refl

pub answer-refused : answer loaded (queries.OfChosen (record { traces = Some (3, 2); conditions = [] }) about.Count) ≡ Err (asks.NoTrace 2 3)
answer-refused = refl
