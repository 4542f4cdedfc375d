-- The reading under which a file was cut, written into its binary header, so that the file says the same by itself. Bytes are counted from 1.
use Rattle.std.specs.Prelude.{◌≡◌, ℕ, ◌-◌, ◌^◌, ◌<◌, ◌==◌, ◌&&◌, ◌||◌, nat_lt, nat_le, ℤ, pos, Bool, true, false, not, List, length, Option, Some, None, if◌then◌else◌}
use Rattle.std.specs.List.{list_all}
use Rattle.std.specs.Ordering.{int_eq}
use Rattle.num_order.specs.declared.order.Order.{Order}
use Rattle.num_order.specs.Number.{bytes, IsBetween}
use Rattle.frame_cut.specs.declared.file_head.Head.{Head}
use Rattle.frame_cut.specs.declared.reading.Reading.{Reading}
use Rattle.frame_cut.specs.BinaryHeader.{asks_fixed}
use Rattle.frame_cut.specs.Frames.{header_unsigned, or_else}
use Rattle.frame_cut.specs.Splice.{splice}
use Rattle.frame_cut.specs.Volume.{Volume}

-- ---- what is written

-- these bytes over those of the binary header from this byte of the file on
abbrev pub put_at : ℕ → List ℕ → List ℕ → List ℕ
put_at byte new bin = splice bin (byte - 3201) (length new) new

-- a number without a sign in so many bytes
abbrev pub unsigned_bytes : Order → ℕ → ℕ → List ℕ
unsigned_bytes o size n = bytes o (record { size = size; signed = false }) (pos n)

-- a number of samples for the field of two bytes: 0 where it does not hold it
abbrev pub short_samples : ℕ → ℕ
short_samples n = if nat_lt 65535 n then 0 else n

-- and for that of four bytes, which counts where it is not 0
abbrev pub wide_samples : ℕ → ℕ
wide_samples n = if nat_lt 65535 n then n else 0

-- the number of samples in bytes 3269-3272, which count in revision 2
abbrev pub with_wide_samples : Head → ℕ → List ℕ → List ℕ
with_wide_samples h n bin = if h.major == 2 then put_at 3269 (unsigned_bytes h.order 4 (wide_samples n)) bin else bin

-- the number of samples that is asked for in bytes 3221-3222, and in revision 2 in bytes 3269-3272 too
abbrev pub with_samples : Head → Option ℕ → List ℕ → List ℕ
with_samples h None bin = bin
with_samples h (Some n) bin = with_wide_samples h n (put_at 3221 (unsigned_bytes h.order 2 (short_samples n)) bin)

-- the code of the format that is asked for in bytes 3225-3226
abbrev pub with_format : Head → Option ℕ → List ℕ → List ℕ
with_format h None bin = bin
with_format h (Some code) bin = put_at 3225 (unsigned_bytes h.order 2 code) bin

-- the fixed length flag 1 in bytes 3503-3504, which count from revision 1 on, where each trace is asked to have one number of samples
abbrev pub with_flag : Head → Bool → List ℕ → List ℕ
with_flag h asked bin = if asked && not (h.major == 0) then put_at 3503 (unsigned_bytes h.order 2 1) bin else bin

-- the number of extended textual headers that is asked for in bytes 3505-3506, which count from revision 1 on
abbrev pub with_texts : Head → Option ℤ → List ℕ → List ℕ
with_texts h None bin = bin
with_texts h (Some n) bin = if h.major == 0 then bin else put_at 3505 (bytes h.order (record { size = 2; signed = true }) n) bin

-- the binary header with what is asked for where the revision has a place for it
abbrev pub declared : Reading → Head → List ℕ → List ℕ
declared reading h bin = with_texts h reading.texts (with_flag h (asks_fixed reading) (with_format h reading.format (with_samples h reading.samples bin)))

-- the volume with that binary header
abbrev pub with_declared : Reading → Volume → Volume
with_declared reading v = record v { bin = declared reading v.head v.bin }

-- ---- when the file says it by itself then

-- the reading without what was written, and without a tail: the order of bytes and the formats without values that are asked for stay
abbrev pub as_declared : Reading → Reading
as_declared reading = record reading { fixed = false; samples = None; format = None; texts = None; tail = false }

-- the fields hold the number of samples: above 65535 only those of revision 2 do
abbrev pub holds_samples : Head → Option ℕ → Bool
holds_samples h None = true
holds_samples h (Some n) = h.major == 2 || nat_le n 65535

-- the fields hold the number of extended textual headers: revision 0 has none
abbrev pub holds_texts : Head → Option ℤ → Bool
holds_texts h None = true
holds_texts h (Some n) = not (h.major == 0) || int_eq n (pos 0)

-- the trace's main header gives it the head's number of samples, or leaves it to the head
abbrev pub has_samples : Head → List ℕ → Bool
has_samples h t = or_else (header_unsigned h 0 115 2 t) h.samples == h.samples

-- each trace is known to have one number of samples: by the flag, or in revision 0, which has none, by the trace's own header
abbrev pub holds_lengths : Reading → Volume → Bool
holds_lengths reading v = not (asks_fixed reading) || not (v.head.major == 0) || list_all (has_samples v.head) v.traces

-- the file with that binary header, without its tail, is cut into the same parts without the reading
abbrev pub can_declare : Reading → Volume → Bool
can_declare reading v = holds_samples v.head reading.samples && holds_texts v.head reading.texts && holds_lengths reading v

-- the numbers of the reading are numbers of the fields: of four and of two bytes, and of two with a sign
pub record AreNumbers (reading : Reading) : Type 0 where
  pub samples : (n : ℕ) → reading.samples ≡ Some n → n < 2 ^ 32
  pub format : (n : ℕ) → reading.format ≡ Some n → n < 2 ^ 16
  pub texts : (n : ℤ) → reading.texts ≡ Some n → IsBetween true 2 n

-- the same parts, under heads that may differ in the fixed length flag alone
pub record AreSameParts (v w : Volume) : Type 0 where
  pub head : w.head ≡ record v.head { fixed = w.head.fixed }
  pub text : w.text ≡ v.text
  pub blocks : w.blocks ≡ v.blocks
  pub traces : w.traces ≡ v.traces
  pub tail : w.tail ≡ v.tail
  pub trailer : w.trailer ≡ v.trailer
