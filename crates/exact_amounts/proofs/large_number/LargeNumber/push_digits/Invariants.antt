use Rattle.std.proofs.Common.{◌≡◌, ◌+◌, ◌-◌, ◌*◌, ◌^◌, length, drop}
use Rattle.std.specs.Str.Parse.{digits_value}
use Rattle.exact_amounts.proofs.large_number.LargeNumber.push_digits.Given as goal

-- with the digits that are left the number is that of all
abbrev pub invariant-loop-at : goal.invariant-loop-at
invariant-loop-at l =
    l.self * 10 ^ (length l.digits - l.at) + digits_value 10 (drop l.at l.digits) ≡ l.fn.self * 10 ^ length l.digits + digits_value 10 l.digits
