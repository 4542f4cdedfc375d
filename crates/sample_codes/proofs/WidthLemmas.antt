-- The width of a format.
use Rattle.std.proofs.Common.{◌≡◌, ◌≤◌, Some, lit≤}
use Rattle.sample_codes.specs.declared.format.Format.{Format}
use Rattle.sample_codes.specs.declared.format.Format.TheVariants.{Valued, Opaque}
use Rattle.sample_codes.specs.declared.value_format.ValueFormat.{ValueFormat}
use Rattle.sample_codes.specs.declared.value_format.ValueFormat.TheVariants.{Integer, Float}
use Rattle.float_codes.specs.declared.float_format.FloatFormat.TheVariants.{Ibm32, Ieee32, Ieee64}
use Rattle.sample_codes.specs.declared.integer_format.IntegerFormat.{IntegerFormat}
use Rattle.sample_codes.specs.declared.integer_format.IntegerFormat.TheVariants.{Signed32, Signed16, Signed24, Signed8, Signed64, Unsigned32, Unsigned16, Unsigned64, Unsigned24, Unsigned8}
use Rattle.sample_codes.specs.declared.opaque_format.OpaqueFormat.TheVariants.{IbmFloat32, GainFixed32, IeeeFloat32, IeeeFloat64}
use Rattle.sample_codes.specs.Formats.{integer_width, value_width, width, values}

-- a sample of an integer format has at least one byte
pub integer_width-positive : (f : IntegerFormat) → 1 ≤ integer_width f
integer_width-positive Signed32 = lit≤ tt
integer_width-positive Signed16 = lit≤ tt
integer_width-positive Signed24 = lit≤ tt
integer_width-positive Signed8 = lit≤ tt
integer_width-positive Signed64 = lit≤ tt
integer_width-positive Unsigned32 = lit≤ tt
integer_width-positive Unsigned16 = lit≤ tt
integer_width-positive Unsigned64 = lit≤ tt
integer_width-positive Unsigned24 = lit≤ tt
integer_width-positive Unsigned8 = lit≤ tt

-- and so has one with a value
pub value_width-positive : (f : ValueFormat) → 1 ≤ value_width f
value_width-positive (Integer f) = integer_width-positive f
value_width-positive (Float Ibm32) = lit≤ tt
value_width-positive (Float Ieee32) = lit≤ tt
value_width-positive (Float Ieee64) = lit≤ tt

-- and so has any sample
pub width-positive : (f : Format) → 1 ≤ width f
width-positive (Valued f) = value_width-positive f
width-positive (Opaque IbmFloat32) = lit≤ tt
width-positive (Opaque GainFixed32) = lit≤ tt
width-positive (Opaque IeeeFloat32) = lit≤ tt
width-positive (Opaque IeeeFloat64) = lit≤ tt

-- the format of values that reads the samples of a format has its width
pub width-values : (f : Format) (g : ValueFormat) → values f ≡ Some g → width f ≡ value_width g
width-values (Valued f) g e = let same : Some f ≡ Some g = e in cc
width-values (Opaque f) g e = absurd cc
