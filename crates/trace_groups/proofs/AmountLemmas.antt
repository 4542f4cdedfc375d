-- The range of a record's amplitudes.
use Rattle.std.specs.Prelude.{◌≡◌, ℕ, Option, Some}
use Rattle.std.proofs.Common.{subst}
use Rattle.std.specs.Option.{IfSome}
use Rattle.trace_record.specs.Packable.{HaveRange}
use Rattle.trace_record.specs.Statistics.{HasRange, statistics_with}
use Rattle.trace_record.specs.declared.amplitudes.Amplitudes.{Amplitudes}

pub range_of_some : (o : Option Amplitudes) (a : Amplitudes) (n : ℕ) → o ≡ Some a → HaveRange o n → HasRange (statistics_with a n)
unfolding HaveRange
range_of_some o a n e h = subst (λ p. IfSome p (λ b. HasRange (statistics_with b n))) e h
