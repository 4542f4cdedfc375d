use Rattle.std.proofs.Common.{◌*◌, ◌^◌}
use Rattle.fast_float.specs.Text.{digits_of, tens_up, tens_down}
use Rattle.fast_float.proofs.ExactLemmas.{ten_to_pos}
use Rattle.exact_amounts.proofs.amount.decimal_place.Goals as goal

pub returns : goal.returns
returns c =
    let p = c.args.decimal.now in
    c.placed.ensures (digits_of p * 10 ^ tens_up p) (10 ^ tens_down p) (ten_to_pos (tens_down p)) c.to_float-near.ensures c.decimal_side.ensures
