-- What the samples of traces say, worked by hand.
use Rattle.std.specs.Prelude.{◌≡◌, pos, negsuc, [], ◌∷◌, Some, None, Ok, Err, refl}
use Rattle.std.specs.Float.{float_is_finite}
use lib.Ieee.{round, sum, of_bits, to_bits}
use Rattle.float_codes.specs.Ranks.{no_number}
use Rattle.sample_codes.specs.declared.format.Format.TheVariants.{Opaque}
use Rattle.sample_codes.specs.declared.opaque_format.OpaqueFormat.TheVariants.{IbmFloat32}
use Rattle.frame_cut.specs.SmallFiles.{head_plain, volume_plain}
use Rattle.bench_rules.specs.declared.answer.Answer.TheVariants as answers
use Rattle.bench_rules.specs.declared.ask_fault.AskFault.TheVariants.{NoValues}
use Rattle.bench_rules.specs.SampleStatistics.{float_trace_statistics, stats_answer_of_each, trace_statistics}

-- 3, 0 and -1
pub stats-whole : trace_statistics 1 (pos 3 ∷ pos 0 ∷ negsuc 0 ∷ [])
    ≡ record { position = 1; statistics = Some (record { least = negsuc 0; greatest = pos 3; sum = pos 2; number = 3 }); zeros = 1 }
stats-whole = refl

pub stats-none : trace_statistics 2 [] ≡ record { position = 2; statistics = None; zeros = 0 }
stats-none = refl

-- -0, what is no number, 0 and 2.5: two of them are 0
pub stats-floats : float_trace_statistics 3 (negsuc 0 ∷ no_number ∷ pos 0 ∷ pos 0x4004000000000000 ∷ [])
    ≡ record { position = 3; statistics = Some (record { least = negsuc 0; greatest = pos 0x4004000000000000; sum = pos 0x4004000000000000; number = 4; no_numbers = pos 1 }); zeros = 2 }
unfolding float_is_finite round sum of_bits to_bits
stats-floats = refl

-- traces 2 and 3, of samples 3 and 4, and -5 and 6
pub stats-two : stats_answer_of_each volume_plain (2 ∷ 3 ∷ []) ≡ Ok (answers.Stats (
    record { position = 2; statistics = Some (record { least = pos 3; greatest = pos 4; sum = pos 7; number = 2 }); zeros = 0 }
    ∷ record { position = 3; statistics = Some (record { least = negsuc 4; greatest = pos 6; sum = pos 1; number = 2 }); zeros = 0 } ∷ []))
stats-two = refl

-- where samples have no value it is refused, also of no trace
pub stats-opaque : stats_answer_of_each (record volume_plain { head = record head_plain { format = Opaque IbmFloat32 } }) [] ≡ Err NoValues
stats-opaque = refl
