-- Fills of samples without values, of floats, and of traces of differing lengths, worked by hand.
use Rattle.std.specs.Prelude.{◌≡◌, ℕ, ℤ, List, pos, false, [], ◌∷◌, replicate, None, Some, refl}
use lib.Ieee.{odd, of_bits, size, to_bits}
use Rattle.num_order.specs.declared.order.Order.TheVariants.{Little}
use Rattle.float_codes.specs.declared.float_format.FloatFormat.TheVariants.{Ibm32}
use Rattle.float_codes.specs.Nearest.{ibm_nearest, ibm_pattern}
use Rattle.float_codes.specs.Values.{ibm_value}
use Rattle.sample_codes.specs.declared.format.Format.TheVariants.{Valued}
use Rattle.sample_codes.specs.declared.value_format.ValueFormat.TheVariants.{Float}
use Rattle.field_map.specs.Binding.{geometry_at_load}
use Rattle.field_map.specs.Pairs.{signed_at}
use Rattle.frame_cut.specs.declared.reading.Reading.{Reading}
use Rattle.frame_cut.specs.Readings.{as_floats, as_opaque, as_written}
use Rattle.frame_cut.specs.SmallFiles.{bin_plain, bin_untold, file_untold, head_plain, head_untold, put_bin, trace_plain_1, trace_untold, volume_plain, wide_limits, with_bytes_at, zeros}
use Rattle.frame_cut.specs.Volume.{Volume}
use Rattle.bench_rules.specs.declared.chosen_edit.ChosenEdit.TheVariants.{Fill}
use Rattle.bench_rules.specs.declared.comparison.Comparison.TheVariants.{Unequal}
use Rattle.bench_rules.specs.declared.condition.Condition.{Condition}
use Rattle.bench_rules.specs.declared.edit.Edit.{Edit}
use Rattle.bench_rules.specs.declared.edit.Edit.TheVariants.{OfChosen}
use Rattle.bench_rules.specs.declared.field.Field.TheVariants as field
use Rattle.bench_rules.specs.declared.operand.Operand.TheVariants as operand
use Rattle.bench_rules.specs.declared.refusal.Refusal.TheVariants as refusals
use Rattle.bench_rules.specs.declared.side.Side.TheVariants as sides
use Rattle.bench_rules.specs.After.{bytes_after}
use Rattle.bench_rules.specs.Refused.{first_refusal}
use Rattle.bench_rules.specs.State.{State}

abbrev of_file : Volume → Reading → State
of_file v reading = record { volume = v; fields = geometry_at_load; reading = reading; limits = wide_limits; on_disk = false }

-- samples of traces 1 to b, where they meet these conditions
abbrev of_range : ℕ → List Condition → (first last : ℕ) → ℤ → Edit
of_range b conditions first last x = OfChosen (record { traces = Some (1, b); conditions = conditions }) (Fill first last x)

-- ---- samples without values

-- one trace with one IBM float, in little-endian order that is asked for
abbrev volume_untold : Volume
volume_untold = record { head = head_untold; text = replicate 3200 0x40; bin = bin_untold; blocks = []; traces = trace_untold ∷ []; tail = []; trailer = [] }

abbrev untold : State
untold = of_file volume_untold (record as_opaque { order = Some Little })

-- a byte that no trace has
abbrev far : Condition
far = record { left = sides.Operand (operand.Field (field.Place (signed_at 240 4))); comparison = Unequal; right = sides.Operand (operand.Number (pos 0)) }

-- no value comes before no sample, whether a trace is chosen or none
pub refused-no_values : first_refusal untold (of_range 1 [] 9 9 (pos 1)) ≡ Some refusals.NoValues
refused-no_values = refl

pub refused-of_none : first_refusal untold (OfChosen (record { traces = None; conditions = [] }) (Fill 0 0 (pos 1))) ≡ Some refusals.NoValues
refused-of_none = refl

-- no trace, and no place of a condition, come before that
pub refused-no_trace : first_refusal untold (of_range 2 (far ∷ []) 0 0 (pos 1)) ≡ Some (refusals.NoTrace 2 1)
refused-no_trace = refl

pub refused-no_place : first_refusal untold (of_range 1 (far ∷ []) 0 0 (pos 1)) ≡ Some refusals.NoPlace
refused-no_place = refl

-- ---- floats

-- the same file with its samples' values
abbrev floats : State
floats = of_file (record volume_untold { head = record head_untold { format = Valued (Float Ibm32) } }) (record as_floats { order = Some Little })

-- 100, by the rank of its binary64 4059000000000000, is 42640000 as IBM has it
pub float-accepted : first_refusal floats (of_range 1 [] 0 0 (pos 0x4059000000000000)) ≡ None
unfolding ibm_value ibm_pattern ibm_nearest size odd of_bits to_bits
float-accepted = refl

pub float-bytes : bytes_after floats (of_range 1 [] 0 0 (pos 0x4059000000000000)) ≡ with_bytes_at 3841 (0x00 ∷ 0x00 ∷ 0x64 ∷ 0x42 ∷ []) file_untold
unfolding ibm_pattern ibm_nearest size of_bits
float-bytes = refl

-- 0.1 lies between two of its values
pub float-refused : first_refusal floats (of_range 1 [] 0 0 (pos 0x3FB999999999999A)) ≡ Some refusals.DoesNotFit
unfolding ibm_value ibm_pattern ibm_nearest size odd of_bits to_bits
float-refused = refl

-- ---- traces of differing lengths

-- trace 1 has two samples, and trace 2 one
abbrev volume_differing : Volume
volume_differing =
    record volume_plain {
      head = record head_plain { fixed = false };
      bin = put_bin 3503 (0 ∷ 0 ∷ []) bin_plain;
      traces = trace_plain_1 ∷ with_bytes_at 115 (0 ∷ 1 ∷ []) (zeros 242) ∷ [];
    }

abbrev differing : State
differing = of_file volume_differing as_written

pub zeroth-accepted : first_refusal differing (of_range 2 [] 0 0 (pos 5)) ≡ None
zeroth-accepted = refl

pub last-accepted : first_refusal differing (of_range 1 [] 0 1 (pos 5)) ≡ None
last-accepted = refl

-- the number of samples that is told is that of the first trace that is too short
pub last-refused : first_refusal differing (of_range 2 [] 0 1 (pos 5)) ≡ Some (refusals.NoSample 1 1)
last-refused = refl
