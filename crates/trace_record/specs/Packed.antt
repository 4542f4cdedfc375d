-- The record that a packed one stands for.
use Rattle.std.specs.Prelude.{ℤ, Option, refl}
use Rattle.key_counts.specs.Parts.{second_flag, fits_in_word}
use Rattle.key_counts.specs.Packed.{ratio_in}
use Rattle.trace_record.specs.Packable.{amplitudes_from, small_parts}
use Rattle.trace_record.specs.declared.amplitudes.Amplitudes.{Amplitudes}
use Rattle.trace_record.specs.declared.packed_record.PackedRecord.{PackedRecord}
use Rattle.trace_record.specs.declared.record.Record.{Record}

-- the amplitudes in it
abbrev pub amplitudes_in : PackedRecord → Option Amplitudes
amplitudes_in p = amplitudes_from p.x.bits p.y.bits p.least p.greatest p.sum_high p.sum

-- the record
abbrev pub record_in : PackedRecord → Record
record_in p = record {
  amplitudes = amplitudes_in p;
  x = ratio_in p.x;
  y = ratio_in p.y;
  inline = p.inline;
  crossline = p.crossline;
  offset = p.offset;
  sequence = p.sequence;
  number = p.number;
  scalar = p.scalar;
  units = p.units;
  interval = p.interval;
  samples_field = p.samples_field;
  has_known_name = second_flag p.y.bits;
  small = small_parts _ _ _ _ p.range (fits_in_word (ratio_in p.x) p.x.bits refl refl) (fits_in_word (ratio_in p.y) p.y.bits refl refl);
}

-- the inline and the crossline of a record
abbrev pub cell_of : Record → ℤ × ℤ
cell_of r = (r.inline, r.crossline)
