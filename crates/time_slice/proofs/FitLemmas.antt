-- The format of a sample has the number of its bytes, and so has a number of 8 bytes with the format's sign.
use Rattle.std.specs.Prelude.{◌≡◌, ℕ, ℤ, pos, ◌*◌, ◌^◌, ◌<◌, Bool, true, false, IsTrue, List, length, take, refl}
use Rattle.std.proofs.Common.{arith, subst, get_or, Fits, w8, T, drop}
use Rattle.std.proofs.lemmas.Bool.Decides.{nat_tests}
use Rattle.std.proofs.lemmas.Int.{ints}
use Rattle.std.proofs.lemmas.List.{take_all}
use Rattle.num_order.specs.declared.order.Order.{Order}
use Rattle.num_order.specs.Number.{unsigned, with_sign, IsBetween, is_between, fits}
use Rattle.num_order.proofs.SizeLemmas.{slice-lt}
use Rattle.sample_codes.specs.declared.format.Format.{Format}
use Rattle.sample_codes.specs.declared.format.Format.TheVariants.{Valued, Opaque}
use Rattle.sample_codes.specs.declared.value_format.ValueFormat.TheVariants.{Integer, Float}
use Rattle.sample_codes.specs.declared.integer_format.IntegerFormat.{IntegerFormat}
use Rattle.float_codes.specs.declared.float_format.FloatFormat.{FloatFormat}
use Rattle.float_codes.specs.declared.float_format.FloatFormat.TheVariants.{Ibm32, Ieee32, Ieee64}
use Rattle.float_codes.specs.Values.{float_width}
use Rattle.float_codes.specs.Codes.{rank_fits}
use Rattle.float_codes.proofs.CodeLemmas.{samples_fit}
use Rattle.sample_codes.specs.declared.value_format.ValueFormat.{ValueFormat}
use Rattle.sample_codes.specs.declared.integer_format.IntegerFormat.TheVariants.{Signed32, Signed16, Signed24, Signed8, Signed64, Unsigned32, Unsigned16, Unsigned64, Unsigned24, Unsigned8}
use Rattle.sample_codes.specs.Formats.{integer_width, value_width, is_signed, kind_of, sample_value, sample_fits}
use Rattle.time_slice.specs.Fitting.{value_fits, has_signs}

-- ---- the number of a sample's bytes

between_unsigned : (size n : ℕ) → n < 2 ^ (8 * size) → IsBetween false size (pos n)
between_unsigned size n h = (omega (arith, ints), omega (arith, ints))

in_format : (f : IntegerFormat) (n : ℕ) → n < 256 ^ integer_width f → IsBetween (is_signed f) (integer_width f) (with_sign (is_signed f) (integer_width f) n)
in_format Signed32 n h = (grind (arith, nat_tests, ints), grind (arith, nat_tests, ints))
in_format Signed16 n h = (grind (arith, nat_tests, ints), grind (arith, nat_tests, ints))
in_format Signed24 n h = (grind (arith, nat_tests, ints), grind (arith, nat_tests, ints))
in_format Signed8 n h = (grind (arith, nat_tests, ints), grind (arith, nat_tests, ints))
in_format Signed64 n h = (grind (arith, nat_tests, ints), grind (arith, nat_tests, ints))
in_format Unsigned32 n h = between_unsigned 4 n (omega arith)
in_format Unsigned16 n h = between_unsigned 2 n (omega arith)
in_format Unsigned64 n h = between_unsigned 8 n (omega arith)
in_format Unsigned24 n h = between_unsigned 3 n (omega arith)
in_format Unsigned8 n h = between_unsigned 1 n (omega arith)

holds : (b : Bool) → T b → b ≡ true
holds true h = refl
holds false h = absurd h

tested : (signed : Bool) (size : ℕ) (v : ℤ) → IsBetween signed size v → is_between signed size v ≡ true
tested false size v h = rw (holds _ h.0.le, holds _ h.1.lt) refl
tested true size v h = rw (holds _ h.0.le, holds _ h.1.lt) refl

-- a float's pattern has the bits of its format
pattern_is_small : (f : FloatFormat) (n : ℕ) → n < 256 ^ float_width f → n < 2 ^ (8 * float_width f)
pattern_is_small Ibm32 n h = h
pattern_is_small Ieee32 n h = h
pattern_is_small Ieee64 n h = h

fits_of_number : (o : Order) (f : ValueFormat) (bytes : List ℕ) → unsigned o bytes < 256 ^ value_width f → IsTrue (sample_fits f (sample_value o f bytes))
fits_of_number o (Integer f) bytes small = tested (is_signed f) (integer_width f) (sample_value o (Integer f) bytes) (in_format f (unsigned o bytes) small)
fits_of_number o (Float f) bytes small = samples_fit f (unsigned o bytes) (pattern_is_small f (unsigned o bytes) small)

pub fits_of_bytes : (o : Order) (f : ValueFormat) (bytes : List ℕ) → length bytes ≡ value_width f → ((i : ℕ) → Fits w8 (get_or bytes i 0)) → IsTrue (sample_fits f (sample_value o f bytes))
fits_of_bytes o f bytes long each =
    let small : unsigned o (take (value_width f) (drop 0 bytes)) < 256 ^ value_width f = slice-lt o 0 (value_width f) (value_width f) bytes refl (omega (arith, long)) each in
    let whole : take (value_width f) bytes ≡ bytes = take_all (value_width f) bytes (omega (arith, long)) in
    fits_of_number o f bytes (subst (λ (bs : List ℕ). unsigned o bs < 256 ^ value_width f) whole small)

-- ---- in 8 bytes

integer_in_8 : (f : IntegerFormat) (v : ℤ) → IsTrue (fits (kind_of f) v) → IsBetween (is_signed f) 8 v
integer_in_8 Signed32 v h = (grind (arith, nat_tests, ints), grind (arith, nat_tests, ints))
integer_in_8 Signed16 v h = (grind (arith, nat_tests, ints), grind (arith, nat_tests, ints))
integer_in_8 Signed24 v h = (grind (arith, nat_tests, ints), grind (arith, nat_tests, ints))
integer_in_8 Signed8 v h = (grind (arith, nat_tests, ints), grind (arith, nat_tests, ints))
integer_in_8 Signed64 v h = (grind (arith, nat_tests, ints), grind (arith, nat_tests, ints))
integer_in_8 Unsigned32 v h = (grind (arith, nat_tests, ints), grind (arith, nat_tests, ints))
integer_in_8 Unsigned16 v h = (grind (arith, nat_tests, ints), grind (arith, nat_tests, ints))
integer_in_8 Unsigned64 v h = (grind (arith, nat_tests, ints), grind (arith, nat_tests, ints))
integer_in_8 Unsigned24 v h = (grind (arith, nat_tests, ints), grind (arith, nat_tests, ints))
integer_in_8 Unsigned8 v h = (grind (arith, nat_tests, ints), grind (arith, nat_tests, ints))

rank_in_8 : (f : FloatFormat) (v : ℤ) → IsTrue (rank_fits f v) → IsBetween true 8 v
rank_in_8 f v h = (grind (arith, nat_tests, ints), grind (arith, nat_tests, ints))

-- a number that the format has is one of 8 bytes with the format's sign
pub fits_in_8 : (f : Format) (v : ℤ) → IsTrue (value_fits f v) → IsBetween (has_signs f) 8 v
fits_in_8 (Valued (Integer f)) v h = integer_in_8 f v h
fits_in_8 (Valued (Float f)) v h = rank_in_8 f v h
fits_in_8 (Opaque f) v h = absurd cc
