-- Looks of edits and of queries, worked by hand.
use Rattle.std.specs.Prelude.{◌≡◌, ℕ, pos, List, [], ◌∷◌, Some, codes, refl}
use Rattle.field_map.specs.KnownNames.{named_place}
use Rattle.field_map.specs.Pairs.{signed_at}
use Rattle.bench_rules.specs.declared.chosen.Chosen.{Chosen}
use Rattle.bench_rules.specs.declared.chosen_edit.ChosenEdit.TheVariants as each
use Rattle.bench_rules.specs.declared.chosen_query.ChosenQuery.TheVariants as about
use Rattle.bench_rules.specs.declared.comparison.Comparison.TheVariants.{AtLeast, Unequal}
use Rattle.bench_rules.specs.declared.condition.Condition.{Condition}
use Rattle.bench_rules.specs.declared.edit.Edit.TheVariants.{OfChosen, Set, Renumber}
use Rattle.bench_rules.specs.declared.field.Field.{Field}
use Rattle.bench_rules.specs.declared.field.Field.TheVariants as field
use Rattle.bench_rules.specs.declared.operand.Operand.TheVariants as operand
use Rattle.bench_rules.specs.declared.query.Query.TheVariants as queries
use Rattle.bench_rules.specs.declared.side.Side.TheVariants as side
use Rattle.bench_rules.specs.KeptExamples.{loaded}
use Rattle.bench_rules.specs.Looks.{edit_looks, query_looks}

-- a crossline is told by the records, so that no trace is looked at; under another coordinate scalar three are looked at, twice at most,
-- and none where the last stands before the first
pub renumber-told : edit_looks loaded (Renumber 1 3 (field.Name (codes "crossline")) (pos 21) (pos 2)) ≡ 0
renumber-told = refl

pub renumber-looks : edit_looks loaded (Renumber 1 3 (field.Name (codes "scalar")) (pos 1) (pos 0)) ≡ 6
renumber-looks = refl

pub renumber-no_looks : edit_looks loaded (Renumber 2 1 (field.Name (codes "scalar")) (pos 1) (pos 0)) ≡ 0
renumber-no_looks = refl

-- half an inline (bytes 189-190) is not told: its trace is looked at for the other half; of bytes 9-12 no record keeps any
pub set-inline-looks : edit_looks loaded (Set 2 (field.Name (codes "inline")) (pos 11)) ≡ 0
set-inline-looks = refl

pub set-half-looks : edit_looks loaded (Set 2 (field.Place (signed_at 189 2)) (pos 11)) ≡ 2
set-half-looks = refl

pub set-unkept-looks : edit_looks loaded (Set 2 (field.Place (signed_at 9 4)) (pos 11)) ≡ 0
set-unkept-looks = refl

-- bytes 115-116 tell how long the trace is
pub set-length-looks : edit_looks loaded (Set 2 (field.Place (signed_at 115 2)) (pos 2)) ≡ 2
set-length-looks = refl

-- the three traces with conditions on their fields
abbrev all_with : List Condition → Chosen
all_with conditions = record { traces = Some (1, 3); conditions = conditions }

-- a field that is at least another
abbrev at_least : Field → Field → Condition
at_least a b = record { left = side.Operand (operand.Field a); comparison = AtLeast; right = side.Operand (operand.Field b) }

-- a field that is not 0
abbrev not_zero : Field → Condition
not_zero f = record { left = side.Operand (operand.Field f); comparison = Unequal; right = side.Operand (operand.Number (pos 0)) }

-- inlines, crosslines, offsets and sequence numbers are told by the records: no trace is looked at to choose by them; where one field
-- is not told, each trace is, once; and of a name that stands for nothing none
pub choosing-told : query_looks loaded [] (queries.OfChosen (all_with (at_least (field.Name (codes "crossline")) (field.Name (codes "inline")) ∷ not_zero (field.Place (signed_at 5 4)) ∷ [])) about.Count) ≡ 0
choosing-told = refl

pub choosing-looks : query_looks loaded [] (queries.OfChosen (all_with (not_zero (field.Name (codes "offset")) ∷ not_zero (field.Name (codes "scalar")) ∷ [])) about.Count) ≡ 3
choosing-looks = refl

pub choosing-unknown : query_looks loaded [] (queries.OfChosen (all_with (not_zero (field.Name (codes "crosline")) ∷ [])) about.Count) ≡ 0
unfolding named_place
choosing-unknown = refl

-- what is then asked of them, or done with them, looks as ever
pub found-looks : query_looks loaded [] (queries.OfChosen (all_with (not_zero (field.Name (codes "offset")) ∷ [])) (about.Find (field.Name (codes "offset")) (pos 0) (pos 250))) ≡ 3
found-looks = refl

pub deleted-told : edit_looks loaded (OfChosen (all_with (not_zero (field.Name (codes "offset")) ∷ [])) each.Delete) ≡ 0
deleted-told = refl
