use Rattle.std.proofs.Common.{◌≡◌, take}
use Rattle.std.specs.Str.Parse.{digits_value}
use Rattle.exact_amounts.proofs.decimal_order.has_nonzero.Given as goal

-- the digits so far are worth nothing
abbrev pub invariant-loop-at : goal.invariant-loop-at
invariant-loop-at l = digits_value 10 (take l.at l.digits) ≡ 0
