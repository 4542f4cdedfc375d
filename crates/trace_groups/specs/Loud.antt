-- S13: loud traces. Whether samples are floats comes first.
use Rattle.std.specs.Prelude.{ℕ, ℤ, pos, negsuc, ◌+◌, ◌-◌, ◌*◌, ◌^◌, ◌/◌, ◌%◌, ◌==◌, ◌&&◌, ◌||◌, not, max, unsigned_abs, nat_lt, int_le, Bool, true, false, List, [], filter_map, Option, Some, None, option_map, option_and_then, if◌then◌else◌}
use Rattle.std.specs.List.{list_any}
use Rattle.std.specs.Option.{option_map_or}
use Rattle.trace_record.specs.Facts.{Facts}
use Rattle.trace_groups.specs.declared.mark.Mark.{Mark}
use Rattle.trace_groups.specs.Groups.{marks_of}
use Rattle.trace_groups.specs.Medians.{lower_median}
use Rattle.trace_groups.specs.Suspects.{numbers_among}

-- how many times the median a loud trace exceeds
abbrev pub loud_times : ℕ
loud_times = 100

-- the amount of a float of this rank, as a pattern of binary64: without the sign
abbrev pub pattern_of_amount : ℤ → ℕ
pattern_of_amount (pos n) = n
pattern_of_amount (negsuc n) = n

-- The greatest amount of a trace's samples: of whole numbers itself, of floats its pattern, where two or more are numbers. Patterns
-- are in the order of the amounts.
abbrev pub amount_of : Bool → Facts → Option ℕ
amount_of false f = option_map (λ a. max (unsigned_abs a.least) (unsigned_abs a.greatest)) f.amplitudes
amount_of true f =
    option_and_then (λ a. if int_le (pos 2) (numbers_among true f.number a) then Some (max (pattern_of_amount a.least) (pattern_of_amount a.greatest)) else None) f.amplitudes

-- the pattern is of a finite amount
abbrev pub is_finite : ℕ → Bool
is_finite b = nat_lt b 0x7FF0000000000000

-- what a pattern has in front of its fraction of 52 bits: its exponent, of which 0 and 1 are one power
abbrev pub power_of : ℕ → ℕ
power_of b = b / 2 ^ 52 - 1

-- the digits of a pattern: its fraction, and in front of it 1 unless the exponent is 0
abbrev pub digits_of : ℕ → ℕ
digits_of b = (if b / 2 ^ 52 == 0 then 0 else 2 ^ 52) + b % 2 ^ 52

-- how often a finite amount holds the least one above 0, which is 2 ^ -1074
abbrev pub units_of : ℕ → ℕ
units_of b = digits_of b * 2 ^ power_of b

-- the amount is more than so many times the median, which is above 0 and finite
abbrev pub is_loud : Bool → ℕ → ℕ → Bool
is_loud false median a = nat_lt 0 median && nat_lt (loud_times * median) a
is_loud true median a = nat_lt 0 median && is_finite median && (not (is_finite a) || nat_lt (loud_times * units_of median) (units_of a))

-- the amount of a trace that is loud where this is the median
abbrev pub loud_facts : Bool → ℕ → Facts → Option (ℤ × ℤ)
loud_facts floats median f = option_and_then (λ a. if is_loud floats median a then Some (pos a, pos 0) else None) (amount_of floats f)

-- the lower median of amounts, where one of them is loud beside it
abbrev pub loud_beside : Bool → List ℕ → Option ℕ
loud_beside floats ns = option_and_then (λ median. if list_any (is_loud floats median) ns then Some median else None) (lower_median ns)

-- the loud traces
abbrev pub loud_marks : Bool → List Facts → List Mark
loud_marks floats fs = option_map_or (λ median. marks_of (loud_facts floats median) fs) (lower_median (filter_map (amount_of floats) fs)) []
