-- What a computed field makes of a file's bytes. Traces are counted from 1.
use Rattle.std.specs.Prelude.{ℕ, List}
use Rattle.frame_cut.specs.Volume.{Volume, bytes_of}
use Rattle.bench_rules.specs.Computed.{Formula, computed_numbers}
use Rattle.bench_rules.specs.TraceEdits.{put_each}

-- the file's bytes with the computed number over the field's place of each of traces a to b
abbrev pub bytes_after_compute : Volume → Formula → ℕ → ℕ → List ℕ
bytes_after_compute v f a b = put_each v f.place (computed_numbers v f a b) (bytes_of v)
