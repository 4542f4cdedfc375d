-- What the faults count of a trace.
use Rattle.std.specs.Prelude.{pos, Bool, false, ◌&&◌}
use Rattle.std.specs.Ordering.{int_eq}
use Rattle.trace_record.specs.Facts.{Facts}
use Rattle.trace_record.specs.Keys.{Key, Counted, triple}

-- the faults count inline, crossline and offset together
abbrev pub faults_has : Facts → Key → Bool
faults_has f (triple i c o) = int_eq f.inline i && int_eq f.crossline c && int_eq f.offset o
faults_has f _ = false

-- what the faults count of a trace: these keys, and no samples
abbrev pub keys_of_faults : Counted
keys_of_faults = record { has = faults_has; number = λ f. 0; sum = λ f. pos 0 }
