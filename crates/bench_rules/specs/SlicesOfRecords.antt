-- Records beside the samples of their traces.
use Rattle.std.specs.Prelude.{ℕ, ℤ, List, map, Option}
use Rattle.std.specs.List.{zip}
use Rattle.frame_cut.specs.declared.file_head.Head.{Head}
use Rattle.trace_view.specs.Values.{sample_of}
use Rattle.trace_record.specs.Facts.{Facts, facts_of}
use Rattle.trace_record.specs.declared.record.Record.{Record}

-- each record's facts beside sample k, counted from 0, of the trace at its place
abbrev pub with_sample_of : Head → ℕ → List Record → List (List ℕ) → List (Facts × Option ℤ)
with_sample_of h k records traces = zip (map facts_of records) (map (λ t. sample_of h t k) traces)
