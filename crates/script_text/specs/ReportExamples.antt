-- Worked texts of reports and of refusals.
use Rattle.std.specs.Prelude.{◌≡◌, pos, negsuc, [], ◌∷◌, codes, Some, None, refl}
use Rattle.std.specs.Fmt.{digits}
use Rattle.frame_cut.specs.declared.load_fault.LoadFault.TheVariants.{TextCount}
use Rattle.key_counts.specs.Coordinates.{under_scalar, over, greatest_divisor}
use Rattle.fault_live.specs.declared.fault.Fault.TheVariants.{Repeated, Scalar, Samples}
use Rattle.bench_rules.specs.declared.answer.Answer.TheVariants as answers
use Rattle.script_text.specs.AnswerTexts.{answer_text}
use Rattle.refusal_texts.specs.RefusalTexts.{load_refusal_line}

-- scalar -32768 over x -2147483648 and y 500
pub text-geometry : answer_text (answers.Geometry (record {
  inline = pos 10;
  crossline = pos 21;
  offset = pos 100;
  x = under_scalar (negsuc 2147483647) (negsuc 32767);
  y = under_scalar (pos 500) (negsuc 32767);
})) ≡ codes "geometry inline 10 crossline 21 offset 100 x -65536 y 125/8192\n"
unfolding under_scalar over greatest_divisor digits
text-geometry = refl

pub text-totals : answer_text (answers.Totals (Some (record { least = negsuc 8388607; greatest = negsuc 0; sum = negsuc 8388608; number = 2 })))
    ≡ codes "totals least -8388608 greatest -1 sum -8388609 samples 2\n"
unfolding digits
text-totals = refl

pub text-none : answer_text (answers.Stat None) ≡ codes "stat none\n"
text-none = refl

pub text-grid : answer_text (answers.Grid (record { inline = pos 10; crossline = pos 21; fold = 2 } ∷ record { inline = pos 10; crossline = pos 22; fold = 1 } ∷ []))
    ≡ codes "cells 2\ncell 10 21 2\ncell 10 22 1\n"
unfolding digits
text-grid = refl

pub text-faults : answer_text (answers.Faults (Samples 1 4 2 ∷ Scalar 1 (pos 5) ∷ Repeated 3 1 ∷ []))
    ≡ codes "faults 3\nF2 trace 1 field 4 samples 2\nF4 trace 1 scalar 5\nF6 trace 3 first 1\n"
unfolding digits
text-faults = refl

pub load-text_count : load_refusal_line (TextCount (negsuc 0)) ≡ codes "load refused L09 text count -1\n"
unfolding digits
load-text_count = refl
