-- Traces sorted, worked by hand.
use Rattle.std.specs.Prelude.{◌≡◌, pos, negsuc, true, false, [], ◌∷◌, Some, None, codes, refl}
use Rattle.field_map.specs.Binding.{geometry_at_load}
use Rattle.field_map.specs.KnownNames.{named_place}
use Rattle.field_map.specs.Pairs.{signed_at}
use Rattle.frame_cut.specs.Readings.{as_written}
use Rattle.frame_cut.specs.SmallFiles.{wide_limits, volume_plain, file_plain, trace_plain_1, trace_plain_2, trace_plain_3}
use Rattle.frame_cut.specs.Volume.{Volume, bytes_of}
use Rattle.bench_rules.specs.declared.edit.Edit.{Edit}
use Rattle.bench_rules.specs.declared.edit.Edit.TheVariants.{Sort}
use Rattle.bench_rules.specs.declared.field.Field.TheVariants as field
use Rattle.bench_rules.specs.declared.refusal.Refusal.TheVariants as refusals
use Rattle.bench_rules.specs.After.{bytes_after}
use Rattle.bench_rules.specs.Kept.{kept_after_edit}
use Rattle.bench_rules.specs.Looks.{edit_looks}
use Rattle.bench_rules.specs.Refused.{first_refusal}
use Rattle.bench_rules.specs.Sorted.{in_order, are_in_front, order_of}
use Rattle.bench_rules.specs.State.{State}

-- 3, -1, 3 and 0 rise as -1, 0, 3, 3, and the two of one number stand as they stood
pub rises : in_order (false ∷ []) ((1, pos 3 ∷ []) ∷ (2, negsuc 0 ∷ []) ∷ (3, pos 3 ∷ []) ∷ (4, pos 0 ∷ []) ∷ []) ≡ (2, negsuc 0 ∷ []) ∷ (4, pos 0 ∷ []) ∷ (1, pos 3 ∷ []) ∷ (3, pos 3 ∷ []) ∷ []
rises = refl

-- they fall as 3, 3, 0, -1, and again the two stand as they stood
pub falls : in_order (true ∷ []) ((1, pos 3 ∷ []) ∷ (2, negsuc 0 ∷ []) ∷ (3, pos 3 ∷ []) ∷ (4, pos 0 ∷ []) ∷ []) ≡ (1, pos 3 ∷ []) ∷ (3, pos 3 ∷ []) ∷ (4, pos 0 ∷ []) ∷ (2, negsuc 0 ∷ []) ∷ []
falls = refl

-- where the first numbers are equal the second ones tell, here falling
pub second_tells : are_in_front (false ∷ true ∷ []) (pos 5 ∷ pos 2 ∷ []) (pos 5 ∷ pos 1 ∷ []) ≡ true
second_tells = refl

pub second_tells_not : are_in_front (false ∷ true ∷ []) (pos 5 ∷ pos 1 ∷ []) (pos 5 ∷ pos 2 ∷ []) ≡ false
second_tells_not = refl

-- the first number tells alone where they differ
pub first_tells : are_in_front (false ∷ true ∷ []) (pos 4 ∷ pos 1 ∷ []) (pos 5 ∷ pos 2 ∷ []) ≡ true
first_tells = refl

-- it tells alone too where it is the greater one
pub first_tells_not : are_in_front (false ∷ true ∷ []) (pos 6 ∷ pos 2 ∷ []) (pos 5 ∷ pos 1 ∷ []) ≡ false
first_tells_not = refl

-- rows of two numbers: those with the same first number fall by the second, and those with both stand as they stood
pub by-two : in_order (false ∷ true ∷ []) ((1, pos 5 ∷ pos 1 ∷ []) ∷ (2, pos 4 ∷ pos 9 ∷ []) ∷ (3, pos 5 ∷ pos 7 ∷ []) ∷ (4, pos 5 ∷ pos 1 ∷ []) ∷ [])
    ≡ (2, pos 4 ∷ pos 9 ∷ []) ∷ (3, pos 5 ∷ pos 7 ∷ []) ∷ (1, pos 5 ∷ pos 1 ∷ []) ∷ (4, pos 5 ∷ pos 1 ∷ []) ∷ []
by-two = refl

-- ---- a file whose traces have crosslines 22, 23 and 21

abbrev turned : Volume
turned = record volume_plain { traces = trace_plain_2 ∷ trace_plain_3 ∷ trace_plain_1 ∷ [] }

abbrev loaded : State
loaded = record { volume = turned; fields = geometry_at_load; reading = as_written; limits = wide_limits; on_disk = false }

abbrev by_crossline : Edit
by_crossline = Sort 1 3 (field.Name (codes "crossline") ∷ []) (false ∷ [])

-- the third comes first, then the first and the second
pub turned-order : order_of turned (signed_at 193 4 ∷ []) (false ∷ []) 1 3 ≡ Some (3 ∷ 1 ∷ 2 ∷ [])
turned-order = refl

pub turned-accepted : first_refusal loaded by_crossline ≡ None
turned-accepted = refl

-- the file is then the one with crosslines 21, 22 and 23
pub turned-bytes : bytes_after loaded by_crossline ≡ file_plain
turned-bytes = refl

-- traces 2 and 3 alone, falling: they stand so
pub turned-behind : bytes_after loaded (Sort 2 3 (field.Name (codes "crossline") ∷ []) (true ∷ [])) ≡ bytes_of turned
turned-behind = refl

pub turned-kept : kept_after_edit loaded by_crossline (2 ∷ 0 ∷ []) ≡ []
turned-kept = refl

pub turned-looks : edit_looks loaded by_crossline ≡ 3
turned-looks = refl

-- the first trace is judged before the last one, both before a field without a place, and this before one that a trace lacks
pub no-first : first_refusal loaded (Sort 0 4 (field.Name (codes "nothing") ∷ []) (false ∷ [])) ≡ Some (refusals.NoTrace 0 3)
no-first = refl

pub no-last : first_refusal loaded (Sort 3 2 (field.Name (codes "nothing") ∷ []) (false ∷ [])) ≡ Some (refusals.NoTrace 2 3)
no-last = refl

pub no-field : first_refusal loaded (Sort 1 3 (field.Name (codes "ext_count") ∷ field.Name (codes "nothing") ∷ []) (false ∷ false ∷ [])) ≡ Some refusals.NoField
unfolding named_place
no-field = refl

pub no-place : first_refusal loaded (Sort 1 3 (field.Name (codes "crossline") ∷ field.Name (codes "ext_count") ∷ []) (false ∷ false ∷ [])) ≡ Some refusals.NoPlace
unfolding named_place
no-place = refl

pub no-field-looks : edit_looks loaded (Sort 1 3 (field.Name (codes "nothing") ∷ []) (false ∷ [])) ≡ 0
unfolding named_place
no-field-looks = refl
