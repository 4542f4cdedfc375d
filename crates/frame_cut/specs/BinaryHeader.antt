-- The fields of the binary header (bytes 3201 to 3600 of a file) that say how the file is cut.
use Rattle.std.specs.Prelude.{ℕ, ◌-◌, ◌==◌, ◌||◌, ◌&&◌, nat_lt, Bool, true, false, not, List, [], ◌∷◌, take, drop, bytes_eq, ℤ, pos, Option, Some, None, unwrap_or, is_some, if◌then◌else◌}
use Rattle.num_order.specs.declared.order.Order.{Order}
use Rattle.num_order.specs.declared.order.Order.TheVariants.{Big, Little}
use Rattle.num_order.specs.Number.{num, unsigned}
use Rattle.frame_cut.specs.declared.reading.Reading.{Reading}

-- so many bytes of the binary header, from this byte of the file on, counted from 1
abbrev pub bin_bytes : ℕ → ℕ → List ℕ → List ℕ
bin_bytes byte size bin = take size (drop (byte - 3201) bin)

-- ---- the order of bytes

-- the order of bytes that the byte-order constant (3297-3300) tells, where it tells one
abbrev pub told_order : List ℕ → Option Order
told_order bin =
    if bytes_eq (bin_bytes 3297 4 bin) (4 ∷ 3 ∷ 2 ∷ 1 ∷ []) then Some Little else
    if bytes_eq (bin_bytes 3297 4 bin) (1 ∷ 2 ∷ 3 ∷ 4 ∷ []) then Some Big else
    None

-- the constant of a file in which the two bytes of each pair are swapped
abbrev pub is_pair_swapped : List ℕ → Bool
is_pair_swapped bin = bytes_eq (bin_bytes 3297 4 bin) (2 ∷ 1 ∷ 4 ∷ 3 ∷ [])

-- one order is asked for, and the other is told
abbrev pub is_other_order : Option Order → Option Order → Bool
is_other_order (Some Big) (Some Little) = true
is_other_order (Some Little) (Some Big) = true
is_other_order asked told = false

-- the order of bytes: the one that the constant tells, else the one that is asked for, else big-endian
abbrev pub order_of : Reading → List ℕ → Order
order_of reading bin = unwrap_or (told_order bin) (unwrap_or reading.order Big)

-- ---- fields, in an order of bytes

-- a field without a sign
abbrev pub bin_unsigned : Order → ℕ → ℕ → List ℕ → ℕ
bin_unsigned o byte size bin = unsigned o (bin_bytes byte size bin)

-- a field in two's complement
abbrev pub bin_signed : Order → ℕ → ℕ → List ℕ → ℤ
bin_signed o byte size bin = num o (record { size = size; signed = true }) (bin_bytes byte size bin)

-- the revision: its major and minor number
abbrev pub major_of : Order → List ℕ → ℕ
major_of o bin = bin_unsigned o 3501 1 bin

-- the minor number of the revision
abbrev pub minor_of : Order → List ℕ → ℕ
minor_of o bin = bin_unsigned o 3502 1 bin

-- a revision above 2.0
abbrev pub is_unknown_revision : Order → List ℕ → Bool
is_unknown_revision o bin = nat_lt 2 (major_of o bin) || (major_of o bin == 2 && not (minor_of o bin == 0))

-- a field that counts from revision 1 on, else it is zero
abbrev pub since_1 : Order → List ℕ → ℤ → ℤ
since_1 o bin field = if major_of o bin == 0 then pos 0 else field

-- a field that counts in revision 2.0 alone, else it is zero
abbrev pub in_2 : Order → List ℕ → ℤ → ℤ
in_2 o bin field = if major_of o bin == 2 then field else pos 0

-- the code of the sample format: the one that is asked for, else the field's
abbrev pub format_code : Reading → Order → List ℕ → ℕ
format_code reading o bin = unwrap_or reading.format (bin_unsigned o 3225 2 bin)

-- the number of extended textual headers: the one that is asked for, else the field's, -1 where they end by themselves
abbrev pub text_count : Reading → Order → List ℕ → ℤ
text_count reading o bin = unwrap_or reading.texts (since_1 o bin (bin_signed o 3505 2 bin))

-- the most header extensions of a trace
abbrev pub extensions_field : Order → List ℕ → ℤ
extensions_field o bin = in_2 o bin (bin_signed o 3507 4 bin)

-- the number of data trailer records
abbrev pub trailer_field : Order → List ℕ → ℤ
trailer_field o bin = in_2 o bin (bin_signed o 3529 4 bin)

-- the place of the first trace, 0 where the file does not say it
abbrev pub first_trace : Order → List ℕ → ℕ
first_trace o bin = if major_of o bin == 2 then bin_unsigned o 3521 8 bin else 0

-- the number of samples of a trace in its wide field, 0 where it does not count
abbrev pub wide_samples : Order → List ℕ → ℕ
wide_samples o bin = if major_of o bin == 2 then bin_unsigned o 3269 4 bin else 0

-- the number of samples of a trace in the fields: that of the wide one unless it is 0
abbrev pub written_samples : Order → List ℕ → ℕ
written_samples o bin = if wide_samples o bin == 0 then bin_unsigned o 3221 2 bin else wide_samples o bin

-- the number of samples of a trace: the one that is asked for, else the fields'
abbrev pub samples_field : Reading → Order → List ℕ → ℕ
samples_field reading o bin = unwrap_or reading.samples (written_samples o bin)

-- whether the fixed length flag (3503-3504) counts and is set
abbrev pub is_flag_set : Order → List ℕ → Bool
is_flag_set o bin = not (major_of o bin == 0) && not (bin_unsigned o 3503 2 bin == 0)

-- each trace is asked to have one number of samples: the binary header's, or the one that is given
abbrev pub asks_fixed : Reading → Bool
asks_fixed reading = reading.fixed || is_some reading.samples

-- whether each trace has that number of samples, under the reading
abbrev pub is_fixed : Reading → Order → List ℕ → Bool
is_fixed reading o bin = asks_fixed reading || is_flag_set o bin
