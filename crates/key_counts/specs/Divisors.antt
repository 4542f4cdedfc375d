-- Divisors among given numbers.
use Rattle.std.specs.Prelude.{ℕ, ◌%◌, ◌==◌, if◌then◌else◌}

-- the first of three numbers that divides the number, or 1
abbrev pub first_divisor_of : ℕ → ℕ → ℕ → ℕ → ℕ
first_divisor_of n a b c = if n % a == 0 then a else (if n % b == 0 then b else (if n % c == 0 then c else 1))
