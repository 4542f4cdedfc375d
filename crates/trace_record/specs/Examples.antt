-- Statistics and records, worked by hand.
use Rattle.std.specs.Prelude.{◌≡◌, pos, negsuc, [], ◌∷◌, Some, None, false, true, codes, refl}
use Rattle.field_map.specs.Binding.{geometry_at_load}
use Rattle.field_map.specs.Pairs.{bound, signed_at}
use Rattle.frame_cut.specs.SmallFiles.{head_plain, head_untold, trace_plain_1, trace_plain_3, trace_untold, with_bytes_at}
use Rattle.key_counts.specs.RatioOrder.{fraction_of}
use Rattle.key_counts.specs.Coordinates.{under_scalar}
use Rattle.trace_record.specs.Statistics.{statistics_of, below_numbers}
use Rattle.float_codes.specs.Ranks.{no_number}
use Rattle.trace_record.specs.OfTrace.{record_of, has_geometry}
use Rattle.trace_record.specs.SmallSurvey.{trace_1, trace_3}

pub statistics-two : statistics_of false (negsuc 4 ∷ pos 6 ∷ []) ≡ Some (record { least = negsuc 4; greatest = pos 6; sum = pos 1; number = 2 })
statistics-two = refl

pub statistics-none : statistics_of false [] ≡ None
statistics-none = refl

-- 2.5, what is no number, and -2.5, by their ranks
pub statistics-floats : statistics_of true (pos 0x4004000000000000 ∷ no_number ∷ negsuc 0x4004000000000000 ∷ []) ≡ Some (record { least = negsuc 0x4004000000000000; greatest = pos 0x4004000000000000; sum = pos 1; number = 3 })
statistics-floats = refl

-- where no sample is a number
pub statistics-no_number : statistics_of true (no_number ∷ []) ≡ Some (record { least = no_number; greatest = below_numbers; sum = pos 1; number = 1 })
statistics-no_number = refl

-- the first and the third trace are the ones made by hand
pub record-plain_1 : record_of head_plain geometry_at_load trace_plain_1 ≡ trace_1
unfolding under_scalar
record-plain_1 = refl

pub record-plain_3 : record_of head_plain geometry_at_load trace_plain_3 ≡ trace_3
unfolding under_scalar
record-plain_3 = refl

-- one float is a sample without a value
pub amplitudes-untold : (record_of head_untold geometry_at_load trace_untold).amplitudes ≡ None
unfolding under_scalar
amplitudes-untold = refl

pub number-untold : (record_of head_untold geometry_at_load trace_untold).number ≡ 1
unfolding under_scalar
number-untold = refl

pub geometry-plain_1 : has_geometry head_plain geometry_at_load trace_plain_1 ≡ true
geometry-plain_1 = refl

-- the scalar bound to bytes 189-190, where the inline 327680 has 5
pub x-overlapping : fraction_of (record_of head_plain (bound geometry_at_load (codes "scalar") (signed_at 189 2)) (with_bytes_at 189 (0 ∷ 5 ∷ 0 ∷ 0 ∷ []) trace_plain_1)).x ≡ (pos 5000, 1)
unfolding under_scalar
x-overlapping = refl

pub name-other : (record_of head_plain geometry_at_load (with_bytes_at 233 (1 ∷ []) trace_plain_1)).has_known_name ≡ false
unfolding under_scalar
name-other = refl

pub name-ebcdic : (record_of head_plain geometry_at_load (with_bytes_at 233 (0xE2 ∷ 0xC5 ∷ 0xC7 ∷ 0xF0 ∷ 0xF0 ∷ 0xF0 ∷ 0xF0 ∷ 0xF0 ∷ []) trace_plain_1)).has_known_name ≡ true
unfolding under_scalar
name-ebcdic = refl
