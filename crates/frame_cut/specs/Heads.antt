-- The head of a file, or the first reason to refuse it: `head_faults` is the list of the reasons, in their order, each with the
-- condition under which it holds, and `head_in` is the head of a file for which none of them holds.
use Rattle.std.specs.Prelude.{ℕ, zero, suc, ◌+◌, ◌*◌, ◌-◌, ◌/◌, ◌==◌, ◌||◌, ◌&&◌, nat_lt, nat_le, Bool, true, false, not, List, [], ◌∷◌, ◌++◌, length, take, drop, position, Option, Some, None, is_none, unwrap_or, option_map, Result, Ok, Err, ℤ, pos, negsuc, int_lt, nat_abs, if◌then◌else◌}
use Rattle.num_order.specs.declared.order.Order.{Order}
use Rattle.sample_codes.specs.declared.format.Format.{Format}
use Rattle.sample_codes.specs.declared.format.Format.TheVariants.{Valued}
use Rattle.sample_codes.specs.declared.value_format.ValueFormat.TheVariants.{Integer}
use Rattle.sample_codes.specs.declared.integer_format.IntegerFormat.TheVariants.{Signed32}
use Rattle.sample_codes.specs.declared.format_fault.FormatFault.{FormatFault}
use Rattle.sample_codes.specs.declared.format_fault.FormatFault.TheVariants as formats
use Rattle.sample_codes.specs.Formats.{format_of}
use Rattle.frame_cut.specs.declared.file_head.Head.{Head}
use Rattle.frame_cut.specs.declared.limits.Limits.{Limits}
use Rattle.frame_cut.specs.declared.reading.Reading.{Reading}
use Rattle.frame_cut.specs.declared.load_fault.LoadFault.{LoadFault}
use Rattle.frame_cut.specs.declared.load_fault.LoadFault.TheVariants.{TooLarge, Short, PairSwapped, OtherOrder, Revision, FloatFormat, GainFormat, UnknownFormat, TextCount, Extensions, Trailer, FirstTrace}
use Rattle.text_block.specs.Blocks.{ends_text}
use Rattle.frame_cut.specs.BinaryHeader.{order_of, told_order, is_other_order, is_pair_swapped, is_unknown_revision, major_of, minor_of, format_code, text_count, extensions_field, trailer_field, first_trace, samples_field, is_fixed}
use Rattle.text_block.specs.declared.block.TheConstants.{TEXT_BLOCK_BYTES}
use Rattle.frame_cut.specs.declared.sizes.TheConstants.{BINARY_HEADER_BYTES, FILE_HEADER_BYTES}

-- ---- numbers that are found on the way

-- the first n blocks of 3200 bytes
abbrev pub blocks_of : ℕ → List ℕ → List (List ℕ)
blocks_of zero rest = []
blocks_of (suc n) rest = take TEXT_BLOCK_BYTES rest ∷ blocks_of n (drop TEXT_BLOCK_BYTES rest)

-- how many blocks there are up to the first that ends the text, where some whole block does
abbrev pub blocks_to_end : List ℕ → Option ℕ
blocks_to_end rest = option_map (λ i. i + 1) (position ends_text (blocks_of (length rest / TEXT_BLOCK_BYTES) rest))

-- how many extended textual headers stand at the front of the bytes, if they have so many as the text count says
abbrev pub blocks_for : ℤ → List ℕ → Option ℕ
blocks_for (pos n) rest = if nat_le (TEXT_BLOCK_BYTES * n) (length rest) then Some n else None
blocks_for (negsuc zero) rest = blocks_to_end rest
blocks_for (negsuc (suc n)) rest = None

-- where the traces begin
abbrev pub traces_at : ℕ → ℕ
traces_at blocks = FILE_HEADER_BYTES + TEXT_BLOCK_BYTES * blocks

-- how many extended textual headers there are, 0 where there are not so many as the text count says
abbrev pub blocks_in : Reading → Order → List ℕ → List ℕ → ℕ
blocks_in reading o bin rest = unwrap_or (blocks_for (text_count reading o bin) rest) 0

-- the sample format that a code was found to have; that of code 2 where the code is refused, and then there is no head
abbrev pub format_or_2 : Result Format FormatFault → Format
format_or_2 (Ok format) = format
format_or_2 (Err fault) = Valued (Integer Signed32)

-- the sample format of the binary header's code
abbrev pub format_in : Reading → Order → List ℕ → Format
format_in reading o bin = format_or_2 (format_of reading.opaque reading.floats (format_code reading o bin))

-- ---- conditions

-- whether the number is one of these
abbrev pub is_among : ℕ → List ℕ → Bool
is_among n [] = false
is_among n (m ∷ ms) = n == m || is_among n ms

-- whether the number of trailer records is negative, or more than the bytes behind the blocks hold
abbrev pub is_trailer_refused : ℤ → ℕ → Bool
is_trailer_refused (pos n) left = nat_lt left (TEXT_BLOCK_BYTES * n)
is_trailer_refused (negsuc n) left = true

-- the refusal that a fault of the sample format is
abbrev pub format_refusal : FormatFault → ℕ → LoadFault
format_refusal formats.Float code = FloatFormat code
format_refusal formats.Gain code = GainFormat
format_refusal formats.Unknown code = UnknownFormat code

-- ---- the refusals, and the head

-- the refusals of a head, each behind the condition under which it holds; the file's is the first whose condition holds. The
-- header's fields are read in the order of bytes `o`; fields that do not count in its revision are 0
abbrev pub head_faults : Reading → Order → List ℕ → List ℕ → List (Bool × LoadFault)
head_faults reading o bin rest =
    -- L04: the byte-order constant is that of a file in which the two bytes of each pair are swapped
    (is_pair_swapped bin, PairSwapped)
    -- L17: the constant tells the one order of bytes, and the other is asked for
    ∷ (is_other_order reading.order (told_order bin), OtherOrder)
    -- L05: a revision above 2.0
    ∷ (is_unknown_revision o bin, Revision (major_of o bin) (minor_of o bin))
    -- L06: a sample format of floats, where neither floats nor opaque formats are asked for
    ∷ (not (reading.opaque || reading.floats) && is_among (format_code reading o bin) (1 ∷ 5 ∷ 6 ∷ []), FloatFormat (format_code reading o bin))
    -- L07: that of fixed point with gain, where opaque formats are not asked for
    ∷ (not reading.opaque && is_among (format_code reading o bin) (4 ∷ []), GainFormat)
    -- L08: a sample format code that the standard leaves unassigned
    ∷ (not (is_among (format_code reading o bin) (1 ∷ 2 ∷ 3 ∷ 4 ∷ 5 ∷ 6 ∷ 7 ∷ 8 ∷ 9 ∷ 10 ∷ 11 ∷ 12 ∷ 15 ∷ 16 ∷ [])), UnknownFormat (format_code reading o bin))
    -- L09: a number of extended textual headers below -1, or more than there are bytes, or -1 where none ends the text
    ∷ (is_none (blocks_for (text_count reading o bin) rest), TextCount (text_count reading o bin))
    -- L10: a number of trace header extensions outside 0 to 255
    ∷ (int_lt (extensions_field o bin) (pos 0) || int_lt (pos 255) (extensions_field o bin), Extensions (extensions_field o bin))
    -- L11: a number of data trailer records that is negative, or more than there are bytes behind the extended textual headers
    ∷ (is_trailer_refused (trailer_field o bin) (length rest - TEXT_BLOCK_BYTES * blocks_in reading o bin rest), Trailer (trailer_field o bin))
    -- L12: a place of the first trace that is neither 0 nor the one behind the extended textual headers
    ∷ (not (first_trace o bin == 0) && not (first_trace o bin == traces_at (blocks_in reading o bin rest)), FirstTrace (first_trace o bin))
    ∷ []

-- what the binary header says, with the order of bytes, the sample format and the number of blocks
abbrev pub head_in : Reading → Order → List ℕ → Format → ℕ → Head
head_in reading o bin format blocks = record {
  order = o;
  major = major_of o bin;
  minor = minor_of o bin;
  format = format;
  samples = samples_field reading o bin;
  fixed = is_fixed reading o bin;
  extensions = nat_abs (extensions_field o bin);
  blocks = blocks;
  trailer = nat_abs (trailer_field o bin);
  traces_at = traces_at blocks;
}

-- the head of a file with this binary header and these bytes behind it, where it is not refused
abbrev pub head_by : Reading → Order → List ℕ → List ℕ → Head
head_by reading o bin rest = head_in reading o bin (format_in reading o bin) (blocks_in reading o bin rest)

-- the first fault whose condition holds, else the head
abbrev pub first_fault_else : List (Bool × LoadFault) → Head → Result Head LoadFault
first_fault_else [] h = Ok h
first_fault_else ((holds, fault) ∷ more) h = if holds then Err fault else first_fault_else more h

-- the head that the binary header gives, with the bytes that follow it
abbrev pub head_from : Reading → List ℕ → List ℕ → Result Head LoadFault
head_from reading bin rest =
    first_fault_else (head_faults reading (order_of reading bin) bin rest) (head_by reading (order_of reading bin) bin rest)

-- the refusals of a file that come before those of its head
abbrev pub file_faults : List ℕ → Limits → List (Bool × LoadFault)
file_faults file limits =
    -- L02: more bytes than the limit
    (nat_lt limits.bytes (length file), TooLarge)
    -- L03: no whole file headers
    ∷ (nat_lt (length file) FILE_HEADER_BYTES, Short (length file))
    ∷ []

-- the head of the file
unfoldable pub head_of : List ℕ → Reading → Limits → Result Head LoadFault
head_of file reading limits =
    let bin : List ℕ = take BINARY_HEADER_BYTES (drop TEXT_BLOCK_BYTES file) in
    let rest : List ℕ = drop FILE_HEADER_BYTES file in
    let o : Order = order_of reading bin in
    first_fault_else (file_faults file limits ++ head_faults reading o bin rest) (head_by reading o bin rest)
