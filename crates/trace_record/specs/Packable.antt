-- What fits a packed record, and the amplitudes in one.
use Rattle.std.specs.Prelude.{ℕ, ◌+◌, ◌*◌, ◌^◌, ◌==◌, ◌&&◌, if◌then◌else◌, Option, Some, None, IfSome}
use denote.Struct.Props.{props}
use Rattle.key_counts.specs.Parts.{FitsCoordinate, first_flag, second_flag}
use Rattle.key_counts.specs.declared.ratio.Ratio.{Ratio}
use Rattle.trace_record.specs.Parts.{signed_of}
use Rattle.trace_record.specs.Statistics.{HasRange, statistics_with}
use Rattle.trace_record.specs.declared.amplitudes.Amplitudes.{Amplitudes}

-- the amplitudes, if there are any, are what so many samples can have; one name, which a proof opens only where it needs it
unfoldable pub HaveRange : Option Amplitudes → ℕ → Type 0
HaveRange amplitudes n = IfSome amplitudes (λ a. HasRange (statistics_with a n))

pub HaveRange-prop : (amplitudes : Option Amplitudes) (n : ℕ) → IsProp (HaveRange amplitudes n)
unfolding HaveRange
HaveRange-prop None n = hlevel props
HaveRange-prop (Some a) n = hlevel props

pub none_have : (n : ℕ) → HaveRange None n
unfolding HaveRange
none_have n = tt

pub some_have : (a : Amplitudes) (n : ℕ) → HasRange (statistics_with a n) → HaveRange (Some a) n
unfolding HaveRange
some_have a n h = h

-- so do the amplitudes and the number of samples of a record, and its coordinates fit
unfoldable pub IsPackable : Option Amplitudes → ℕ → Ratio → Ratio → Type 0
IsPackable amplitudes n x y = HaveRange amplitudes n × FitsCoordinate x × FitsCoordinate y

pub IsPackable-prop : (amplitudes : Option Amplitudes) (n : ℕ) (x y : Ratio) → IsProp (IsPackable amplitudes n x y)
unfolding IsPackable
IsPackable-prop amplitudes n x y = hlevel (HaveRange-prop amplitudes n, props)

pub small_parts : (amplitudes : Option Amplitudes) (n : ℕ) (x y : Ratio) → HaveRange amplitudes n → FitsCoordinate x → FitsCoordinate y → IsPackable amplitudes n x y
unfolding IsPackable
small_parts amplitudes n x y a p q = (a, p, q)

pub each_fits : (amplitudes : Option Amplitudes) (n : ℕ) (x y : Ratio) → IsPackable amplitudes n x y → HaveRange amplitudes n × FitsCoordinate x × FitsCoordinate y
unfolding IsPackable
each_fits amplitudes n x y h = h

-- the amplitudes in the parts of a packed record, whose signs are flags of the words x and y; a least of -2^64, which no sample is,
-- stands for none
abbrev pub amplitudes_from : (x y least greatest sum_high sum : ℕ) → Option Amplitudes
amplitudes_from x y least greatest sum_high sum =
    if first_flag x && least == 0 then None else
    Some (record {
      least = signed_of (first_flag x) (2 ^ 64) least;
      greatest = signed_of (second_flag x) (2 ^ 64) greatest;
      sum = signed_of (first_flag y) (2 ^ 96) (sum_high * 2 ^ 64 + sum);
    })
