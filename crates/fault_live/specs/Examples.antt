-- Faults of a small survey, worked by hand.
use Rattle.std.specs.Prelude.{◌≡◌, pos, [], ◌∷◌, false, refl}
use Rattle.trace_record.specs.SmallSurvey.{trace_1, trace_2, trace_3_moved, survey}
use Rattle.fault_live.specs.declared.fault.Fault.TheVariants.{Sequence, Samples, Interval, Scalar, Units, Repeated, TraceCount, TextLines, Name}
use Rattle.fault_live.specs.declared.head_facts.HeadFacts.{HeadFacts}
use Rattle.fault_live.specs.Faults.{faults_of}

-- a file of revision 1.0 with the interval 4000 and 40 lines that begin with `C`
abbrev head_1 : HeadFacts
head_1 = record { major = 1; minor = 0; interval = 4000; trace_count = 0; lines = 0 }

-- a file of revision 2.0 whose count field says 2
abbrev head_2 : HeadFacts
head_2 = record { major = 2; minor = 0; interval = 4000; trace_count = 2; lines = 0 }

pub faults-sound : faults_of head_1 survey ≡ []
faults-sound = refl

-- the third trace at the first one's inline, crossline and offset
pub faults-repeated : faults_of head_1 (trace_1 ∷ trace_2 ∷ trace_3_moved ∷ []) ≡ Repeated 3 1 ∷ []
faults-repeated = refl

-- the same, once it stands in front
pub faults-moved : faults_of head_1 (trace_3_moved ∷ trace_1 ∷ trace_2 ∷ [])
    ≡ Sequence 1 (pos 3) ∷ Sequence 2 (pos 1) ∷ Repeated 2 1 ∷ Sequence 3 (pos 2) ∷ []
faults-moved = refl

-- without sequence number, interval and number of samples
pub faults-blank : faults_of head_1 (record trace_1 { sequence = pos 0; interval = 0; samples_field = 0 } ∷ []) ≡ Sequence 1 (pos 0) ∷ []
faults-blank = refl

pub faults-scalar : faults_of head_1 (record trace_1 { scalar = pos 5 } ∷ []) ≡ Scalar 1 (pos 5) ∷ []
faults-scalar = refl

pub faults-samples : faults_of head_1 (record trace_1 { samples_field = 4; interval = 2000 } ∷ []) ≡ Samples 1 4 2 ∷ Interval 1 2000 4000 ∷ []
faults-samples = refl

pub faults-units : faults_of head_1 (trace_1 ∷ record trace_2 { units = pos 3 } ∷ []) ≡ Units 2 (pos 3) (pos 0) ∷ []
faults-units = refl

pub faults-count : faults_of head_2 (trace_1 ∷ []) ≡ TraceCount 2 1 ∷ []
faults-count = refl

-- the name of a trace counts from revision 2.0 on
pub faults-name : faults_of (record head_2 { trace_count = 1 }) (record trace_1 { has_known_name = false } ∷ []) ≡ Name 1 ∷ []
faults-name = refl

pub faults-name-earlier : faults_of head_1 (record trace_1 { has_known_name = false } ∷ []) ≡ []
faults-name-earlier = refl

pub faults-lines : faults_of (record head_1 { lines = 40 }) [] ≡ TextLines 40 ∷ []
faults-lines = refl
