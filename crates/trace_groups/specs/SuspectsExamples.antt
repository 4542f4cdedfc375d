-- Suspect traces of a small survey, worked by hand.
use Rattle.std.specs.Prelude.{◌≡◌, ℕ, ℤ, pos, negsuc, true, false, [], ◌∷◌, refl, Some, None}
use Rattle.common_numbers.specs.Commonest.{commonest}
use Rattle.key_counts.specs.Coordinates.{whole}
use Rattle.trace_record.specs.Facts.{Facts, with_samples}
use Rattle.trace_record.specs.SmallSurvey.{trace_1, trace_2, trace_3, survey}
use Rattle.trace_groups.specs.declared.mark.Mark.{Mark}
use Rattle.trace_groups.specs.Others.{other_scalars}
use Rattle.trace_groups.specs.Suspects.{origin_marks, far_inlines, far_crosslines, dead_marks}

-- the trace with x and y 0
abbrev at_0 : Facts → Facts
at_0 f = record f { x = whole (pos 0); y = whole (pos 0) }

-- a trace without facts beside
abbrev plain : ℕ → Mark
plain p = record { position = p; facts = (pos 0, pos 0) }

-- a trace with one number
abbrev saying : ℕ → ℤ → Mark
saying p n = record { position = p; facts = (n, pos 0) }

-- two of five stand at 0, in two cells
pub origins-two : origin_marks false (trace_1 ∷ at_0 trace_2 ∷ at_0 trace_3 ∷ trace_2 ∷ trace_3 ∷ []) ≡ plain 2 ∷ plain 3 ∷ []
origins-two = refl

-- one cell at 0 is a local origin, but where no survey is known
pub origins-local : origin_marks false (at_0 trace_1 ∷ trace_2 ∷ at_0 trace_1 ∷ trace_3 ∷ trace_3 ∷ []) ≡ []
origins-local = refl

pub origins-no_survey : origin_marks true (at_0 trace_1 ∷ trace_2 ∷ at_0 trace_1 ∷ trace_3 ∷ trace_3 ∷ []) ≡ plain 1 ∷ plain 3 ∷ []
origins-no_survey = refl

-- half of the traces elsewhere are not enough
pub origins-half : origin_marks false (at_0 trace_1 ∷ at_0 trace_2 ∷ trace_2 ∷ trace_3 ∷ []) ≡ []
origins-half = refl

pub far-crosslines : far_crosslines (Some (pos 21, pos 22)) survey ≡ saying 3 (pos 23) ∷ []
far-crosslines = refl

pub far-inlines : far_inlines (Some (pos 10, pos 10)) survey ≡ []
far-inlines = refl

pub far-unknown : far_inlines None survey ≡ []
far-unknown = refl

-- 0 and 0, then 5 and 6, then 4 alone
pub dead-whole : dead_marks false (with_samples false trace_1 (pos 0 ∷ pos 0 ∷ []) ∷ with_samples false trace_2 (pos 5 ∷ pos 6 ∷ []) ∷ with_samples false trace_3 (pos 4 ∷ []) ∷ []) ≡ saying 1 (pos 0) ∷ []
dead-whole = refl

-- -0 and 0 and what is no number, then one number beside that
pub dead-floats : dead_marks true (with_samples true trace_1 (negsuc 0 ∷ pos 0x7FF8000000000000 ∷ pos 0 ∷ []) ∷ with_samples true trace_2 (pos 5 ∷ pos 0x7FF8000000000000 ∷ []) ∷ []) ≡ saying 1 (pos 0) ∷ []
dead-floats = refl

pub other-scalars : other_scalars (trace_1 ∷ record trace_2 { scalar = negsuc 99 } ∷ trace_3 ∷ []) ≡ record { position = 2; facts = (negsuc 99, pos 0) } ∷ []
unfolding commonest
other-scalars = refl
