use mathlib.Core.Path.{refl}
use lib.Ieee.{of_bits}
use Rattle.float_text.proofs.floats.not_a_number.Goals as goal

pub returns : goal.returns
unfolding of_bits
returns c = refl
