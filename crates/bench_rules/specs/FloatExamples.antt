-- Answers of files of floats, worked by hand.
use Rattle.std.specs.Prelude.{◌≡◌, pos, negsuc, [], ◌∷◌, true, Some, refl}
use Rattle.std.specs.Float.{float_is_finite}
use lib.Ieee.{round, sum, of_bits, to_bits}
use Rattle.float_codes.specs.Ranks.{no_number}
use Rattle.bench_rules.specs.declared.answer.Answer.TheVariants as answers
use Rattle.bench_rules.specs.FloatStatistics.{stat_of}

-- 2.5, what is no number, and -0.5: their sum is 2
pub stat-floats : stat_of true (pos 0x4004000000000000 ∷ no_number ∷ negsuc 0x3FE0000000000000 ∷ [])
    ≡ answers.FloatStat (Some (record { least = negsuc 0x3FE0000000000000; greatest = pos 0x4004000000000000; sum = pos 0x4000000000000000; number = 3; no_numbers = pos 1 }))
unfolding float_is_finite round sum of_bits to_bits
stat-floats = refl
