-- Samples and sums that fit, and numbers whose sign stands apart.
use Rattle.std.specs.Prelude.{ℕ, ℤ, Bool, true, false, pos, neg_ℤ, ◌-ℤ◌, ◌^◌, ◌≤ℤ◌, ◌<ℤ◌}

-- the number is a sample of at most 64 bits, with a sign or without
abbrev pub FitsSample : ℤ → Type 0
FitsSample v = (neg_ℤ (pos (2 ^ 63)) ≤ℤ v) × (v <ℤ pos (2 ^ 64))

-- the number has 64 bits and a sign that stands apart
abbrev pub FitsWord : ℤ → Type 0
FitsWord v = (neg_ℤ (pos (2 ^ 64)) ≤ℤ v) × (v <ℤ pos (2 ^ 64))

-- the number is a sum of fewer than 2^32 such samples
abbrev pub FitsSum : ℤ → Type 0
FitsSum v = (neg_ℤ (pos (2 ^ 96)) ≤ℤ v) × (v <ℤ pos (2 ^ 96))

-- the number in two's complement whose low bits count to size, and whose sign stands apart
abbrev pub signed_of : Bool → ℕ → ℕ → ℤ
signed_of true size low = pos low -ℤ pos size
signed_of false size low = pos low
