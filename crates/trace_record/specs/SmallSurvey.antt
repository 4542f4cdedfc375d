-- Three traces of a small survey, for worked examples.
use Rattle.std.specs.Prelude.{ℤ, pos, negsuc, List, [], ◌∷◌, true, false, None}
use Rattle.trace_record.specs.Facts.{Facts, with_samples}
use Rattle.key_counts.specs.Coordinates.{whole}

-- a trace at this inline and crossline, with this offset, x and sequence number, and two samples
abbrev pub made : ℤ → ℤ → ℤ → ℤ → ℤ → ℤ → ℤ → Facts
made i c o x sequence v w =
    with_samples false (record {
      inline = i;
      crossline = c;
      offset = o;
      x = whole x;
      y = whole (pos 500);
      scalar = pos 0;
      sequence = sequence;
      units = pos 0;
      interval = 4000;
      samples_field = 2;
      has_known_name = true;
      amplitudes = None;
      number = 0;
    }) (v ∷ w ∷ [])

abbrev pub trace_1 : Facts
trace_1 = made (pos 10) (pos 21) (pos 100) (pos 1000) (pos 1) (pos 1) (negsuc 1)

abbrev pub trace_2 : Facts
trace_2 = made (pos 10) (pos 22) (pos 200) (pos 2000) (pos 2) (pos 3) (pos 4)

abbrev pub trace_3 : Facts
trace_3 = made (pos 10) (pos 23) (pos 300) (pos 3000) (pos 3) (negsuc 4) (pos 6)

-- the third trace at the first one's crossline and offset
abbrev pub trace_3_moved : Facts
trace_3_moved = made (pos 10) (pos 21) (pos 100) (pos 3000) (pos 3) (negsuc 4) (pos 6)

-- the survey as it is loaded
abbrev pub survey : List Facts
survey = trace_1 ∷ trace_2 ∷ trace_3 ∷ []
