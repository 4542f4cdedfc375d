-- Heads, refusals and trace lengths of small files, worked by hand.
use Rattle.std.specs.Prelude.{◌≡◌, [], ◌∷◌, take, true, false, Some, Ok, Err, negsuc, refl}
use Rattle.num_order.specs.declared.order.Order.TheVariants.{Big, Little}
use Rattle.sample_codes.specs.declared.format.Format.TheVariants.{Opaque}
use Rattle.sample_codes.specs.declared.format.Format.TheVariants.{Valued}
use Rattle.sample_codes.specs.declared.value_format.ValueFormat.TheVariants.{Float}
use Rattle.float_codes.specs.declared.float_format.FloatFormat.TheVariants.{Ieee64}
use Rattle.sample_codes.specs.declared.opaque_format.OpaqueFormat.TheVariants.{IeeeFloat64}
use Rattle.frame_cut.specs.declared.load_fault.LoadFault.TheVariants.{PairSwapped, OtherOrder, FloatFormat, UnknownFormat, TextCount, Truncated}
use Rattle.frame_cut.specs.Readings.{as_written, as_fixed, as_opaque}
use Rattle.frame_cut.specs.SmallFiles.{with_bytes_at, put_bin, zeros, wide_limits, head_counted, head_little, head_untold, bin_plain, bin_little, trace_plain_3, trace_counted, trace_untold, file_counted, file_trailed, file_little, file_texted, file_untold}
pub use Rattle.frame_cut.specs.SmallFiles.{head_plain, head_extended}
use Rattle.frame_cut.specs.Heads.{head_of, head_from}
use Rattle.frame_cut.specs.Frames.{trace_length, sample_count}
use Rattle.frame_cut.specs.Cuts.{trace_refusal}

pub head-texted : head_of file_texted as_written wide_limits ≡ Ok (record head_plain { blocks = 2; traces_at = 10000 })
unfolding head_of
head-texted = refl

pub head-counted : head_of file_counted as_written wide_limits ≡ Ok head_counted
unfolding head_of
head-counted = refl

pub head-trailed : head_of file_trailed as_written wide_limits ≡ Ok (record head_extended { trailer = 2 })
unfolding head_of
head-trailed = refl

pub head-little : head_of file_little as_written wide_limits ≡ Ok head_little
unfolding head_of
head-little = refl

-- no whole block ends the text
pub text_count-minus_1 : head_from as_written (put_bin 3505 (0xFF ∷ 0xFF ∷ []) bin_plain) (zeros 732) ≡ Err (TextCount (negsuc 0))
text_count-minus_1 = refl

-- in revision 0 the fixed length flag does not count either, but the reading does
pub revision_0 : head_from as_written (put_bin 3501 (0 ∷ []) bin_plain) [] ≡ Ok (record head_plain { major = 0; fixed = false })
revision_0 = refl

pub revision_0-fixed : head_from as_fixed (put_bin 3501 (0 ∷ []) bin_plain) [] ≡ Ok (record head_plain { major = 0 })
revision_0-fixed = refl

-- without its option a float format is refused; with it a sample is 8 bytes
pub float : head_from as_written (put_bin 3225 (0 ∷ 6 ∷ []) bin_plain) [] ≡ Err (FloatFormat 6)
float = refl

pub float-opaque : head_from as_opaque (put_bin 3225 (0 ∷ 6 ∷ []) bin_plain) [] ≡ Ok (record head_plain { format = Opaque IeeeFloat64 })
float-opaque = refl

-- where floats and opaque formats are asked for, floats have values
pub float-valued : head_from (record as_opaque { floats = true }) (put_bin 3225 (0 ∷ 6 ∷ []) bin_plain) [] ≡ Ok (record head_plain { format = Valued (Float Ieee64) })
float-valued = refl

-- an integer format keeps its values
pub integer-opaque : head_of file_little as_opaque wide_limits ≡ Ok head_little
unfolding head_of
integer-opaque = refl

-- without a byte-order constant the file is big-endian, where no order is asked for
pub untold : head_of file_untold as_opaque wide_limits ≡ Err (UnknownFormat 256)
unfolding head_of
untold = refl

pub untold-little : head_of file_untold (record as_opaque { order = Some Little }) wide_limits ≡ Ok head_untold
unfolding head_of
untold-little = refl

pub length-untold : trace_length head_untold trace_untold ≡ Some 244
length-untold = refl

-- where the constant tells the order, the other one may not be asked for
pub told : head_of file_little (record as_written { order = Some Little }) wide_limits ≡ Ok head_little
unfolding head_of
told = refl

pub told-otherwise : head_of file_little (record as_written { order = Some Big }) wide_limits ≡ Err OtherOrder
unfolding head_of
told-otherwise = refl

pub told-swapped : head_from (record as_written { order = Some Little }) (put_bin 3297 (2 ∷ 1 ∷ 4 ∷ 3 ∷ []) bin_little) [] ≡ Err PairSwapped
told-swapped = refl

-- of three header extensions it has two, and its own number of samples
pub length-counted : trace_length head_counted trace_counted ≡ Some 724
length-counted = refl

-- the wide number stands before the one in the main header, and the binary header's comes last
pub samples-wide : sample_count (record head_extended { fixed = false }) (with_bytes_at 377 (0 ∷ 1 ∷ 0 ∷ 0 ∷ []) (with_bytes_at 115 (0 ∷ 3 ∷ []) (zeros 480))) ≡ 65536
samples-wide = refl

-- a torn trace above the limit is torn
pub torn-above_limit : trace_refusal head_plain (record wide_limits { traces = 2 }) 3 (take 243 trace_plain_3) ≡ Some (Truncated 3)
torn-above_limit = refl
