-- Blocks of traces that are moved, worked by hand.
use Rattle.std.specs.Prelude.{◌≡◌, [], ◌∷◌, Some, None, refl, false}
use Rattle.field_map.specs.Binding.{geometry_at_load}
use Rattle.frame_cut.specs.Readings.{as_written}
use Rattle.frame_cut.specs.SmallFiles.{wide_limits, volume_plain, file_plain, trace_plain_1, trace_plain_2, trace_plain_3}
use Rattle.frame_cut.specs.Volume.{Volume, bytes_of}
use Rattle.bench_rules.specs.declared.edit.Edit.TheVariants.{Move, MoveBlock}
use Rattle.bench_rules.specs.declared.refusal.Refusal.TheVariants as refusals
use Rattle.bench_rules.specs.After.{bytes_after}
use Rattle.bench_rules.specs.BlockMoves.{block_order, first_moved, last_moved}
use Rattle.bench_rules.specs.Kept.{kept_after_edit}
use Rattle.bench_rules.specs.Looks.{edit_looks}
use Rattle.bench_rules.specs.Refused.{first_refusal}
use Rattle.bench_rules.specs.State.{State}

-- of six traces the fourth and fifth from 2 on: 1 4 5 2 3 6, of which traces 2 to 5 are others than before
pub forward-order : block_order 4 5 2 ≡ 4 ∷ 5 ∷ 2 ∷ 3 ∷ []
forward-order = refl

pub forward-first : first_moved 4 2 ≡ 2
forward-first = refl

pub forward-last : last_moved 4 5 2 ≡ 5
forward-last = refl

-- the second and third from 3 on: 1 4 2 3 5 6, of which traces 2 to 4 are others than before
pub back-order : block_order 2 3 3 ≡ 4 ∷ 2 ∷ 3 ∷ []
back-order = refl

pub back-first : first_moved 2 3 ≡ 2
back-first = refl

pub back-last : last_moved 2 3 3 ≡ 4
back-last = refl

-- a block that is put where it stands
pub stays-order : block_order 2 3 2 ≡ 2 ∷ 3 ∷ []
stays-order = refl

-- ---- a file of three traces

abbrev loaded : State
loaded = record { volume = volume_plain; fields = geometry_at_load; reading = as_written; limits = wide_limits; on_disk = false }

-- the second and the third in front of the first
abbrev turned : Volume
turned = record volume_plain { traces = trace_plain_2 ∷ trace_plain_3 ∷ trace_plain_1 ∷ [] }

pub forward-bytes : bytes_after loaded (MoveBlock 2 3 1) ≡ bytes_of turned
forward-bytes = refl

-- the same by the first one alone behind the others, as a block and as a trace
pub back-bytes : bytes_after loaded (MoveBlock 1 1 3) ≡ bytes_of turned
back-bytes = refl

pub one-bytes : bytes_after loaded (Move 1 3) ≡ bytes_of turned
one-bytes = refl

-- the first two behind the third, and back again
pub two-back-bytes : bytes_after (record loaded { volume = turned }) (MoveBlock 1 2 2) ≡ file_plain
two-back-bytes = refl

pub all-bytes : bytes_after loaded (MoveBlock 1 3 1) ≡ file_plain
all-bytes = refl

-- one behind the one trace that is left, and no further
pub last-place : first_refusal loaded (MoveBlock 2 3 2) ≡ None
last-place = refl

pub behind-place : first_refusal loaded (MoveBlock 2 3 3) ≡ Some (refusals.NoTrace 3 2)
behind-place = refl

pub no-place-0 : first_refusal loaded (MoveBlock 2 3 0) ≡ Some (refusals.NoTrace 0 2)
no-place-0 = refl

-- all traces have no other place than their own
pub all-place : first_refusal loaded (MoveBlock 1 3 2) ≡ Some (refusals.NoTrace 2 1)
all-place = refl

-- the first trace is judged before the last one, and both before the place
pub no-first : first_refusal loaded (MoveBlock 0 4 9) ≡ Some (refusals.NoTrace 0 3)
no-first = refl

pub no-last : first_refusal loaded (MoveBlock 3 2 9) ≡ Some (refusals.NoTrace 2 3)
no-last = refl

pub past-last : first_refusal loaded (MoveBlock 3 4 9) ≡ Some (refusals.NoTrace 4 3)
past-last = refl

pub block-kept : kept_after_edit loaded (MoveBlock 2 3 1) (2 ∷ 0 ∷ []) ≡ []
block-kept = refl

pub block-looks : edit_looks loaded (MoveBlock 2 3 1) ≡ 0
block-looks = refl
