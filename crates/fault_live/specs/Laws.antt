-- Laws of faults.
use Rattle.std.specs.Prelude.{◌≡◌, ◌+◌, List, [], ◌∷◌, ◌++◌, length}
use Rattle.trace_record.specs.Facts.{Facts}
use Rattle.trace_record.specs.Keys.{triple}
use Rattle.fault_live.specs.FaultKeys.{keys_of_faults}
use Rattle.trace_record.specs.Tally.{tally_of}
use Rattle.fault_live.specs.Faults.{first_with, repeat_fault}

-- a trace whose inline, crossline and offset are counted once has no F6
abbrev pub OnceIsNotRepeated : Type 0
OnceIsNotRepeated = (fs gs : List Facts) (f : Facts)
    → (tally_of keys_of_faults (fs ++ f ∷ gs)).count (triple f.inline f.crossline f.offset) ≡ 1
    → repeat_fault (length fs + 1) (first_with (fs ++ f ∷ gs) f) ≡ []
