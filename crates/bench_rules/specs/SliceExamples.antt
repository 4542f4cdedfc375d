-- Slices of a small survey, worked by hand.
use Rattle.std.specs.Prelude.{◌≡◌, pos, negsuc, [], ◌∷◌, Some, None, refl}
use Rattle.field_map.specs.Binding.{geometry_at_load}
use Rattle.frame_cut.specs.SmallFiles.{head_plain, head_untold, trace_plain_1, trace_untold}
use Rattle.trace_record.specs.Facts.{facts_of}
use Rattle.trace_record.specs.SmallSurvey.{trace_1, trace_2, trace_3}
use Rattle.trace_record.specs.declared.record.Record.{Record}
use Rattle.bench_rules.specs.SlicesOfRecords.{with_sample_of}
use Rattle.bench_rules.specs.Slices.{slice_rows, slice_of}

-- sample 1 of each trace
pub rows-1 : slice_rows ((trace_1, Some (negsuc 1)) ∷ (trace_2, Some (pos 4)) ∷ (trace_3, Some (pos 6)) ∷ [])
    ≡ record { inline = pos 10; crossline = pos 21; position = 1; value = negsuc 1 }
    ∷ record { inline = pos 10; crossline = pos 22; position = 2; value = pos 4 }
    ∷ record { inline = pos 10; crossline = pos 23; position = 3; value = pos 6 } ∷ []
rows-1 = refl

-- rows rise by inline and crossline, not by position
pub rows-moved : slice_rows ((trace_3, Some (pos 6)) ∷ (trace_1, Some (negsuc 1)) ∷ (trace_2, Some (negsuc 6)) ∷ [])
    ≡ record { inline = pos 10; crossline = pos 21; position = 2; value = negsuc 1 }
    ∷ record { inline = pos 10; crossline = pos 22; position = 3; value = negsuc 6 }
    ∷ record { inline = pos 10; crossline = pos 23; position = 1; value = pos 6 } ∷ []
rows-moved = refl

-- two traces at one cell stand in the order of their positions, and a trace without the sample has no row
pub rows-some : slice_rows ((trace_1, Some (pos 9)) ∷ (trace_2, None) ∷ (trace_1, Some (pos 0)) ∷ [])
    ≡ record { inline = pos 10; crossline = pos 21; position = 1; value = pos 9 }
    ∷ record { inline = pos 10; crossline = pos 21; position = 3; value = pos 0 } ∷ []
rows-some = refl

-- no trace has the sample
pub rows-none : slice_rows ((trace_1, None) ∷ (trace_2, None) ∷ (trace_3, None) ∷ []) ≡ []
rows-none = refl

-- sample 1 of the first trace's bytes
pub slice-plain_1 : slice_of head_plain geometry_at_load 1 (trace_plain_1 ∷ []) ≡ record { inline = pos 10; crossline = pos 21; position = 1; value = negsuc 1 } ∷ []
slice-plain_1 = refl

-- a record beside sample 1 of the first trace's bytes
pub beside-plain_1 : (r : Record) → with_sample_of head_plain 1 (r ∷ []) (trace_plain_1 ∷ []) ≡ (facts_of r, Some (negsuc 1)) ∷ []
beside-plain_1 r = refl

-- the trace has two samples, so that it has no row in slice 2
pub beside-plain_2 : (r : Record) → slice_rows (with_sample_of head_plain 2 (r ∷ []) (trace_plain_1 ∷ [])) ≡ []
beside-plain_2 r = refl

-- the sample of an opaque format has no value, so that the slice has no row
pub beside-untold : (r : Record) → with_sample_of head_untold 0 (r ∷ []) (trace_untold ∷ []) ≡ (facts_of r, None) ∷ []
beside-untold r = refl
