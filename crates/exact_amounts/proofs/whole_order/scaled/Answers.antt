use Rattle.std.proofs.Common.{◌≤◌, ◌^◌, arith}
use lib.Ieee.{binary64, of_int}
use lib.Ieee.Back.{round_whole}
use Rattle.exact_amounts.proofs.SideLemmas.{scaled_value}
use Rattle.exact_amounts.proofs.whole_order.scaled.Goals as goal

pub returns : goal.returns
unfolding of_int
returns c k h e =
    let up_to : c.args.digits ≤ 2 ^ 53 = omega arith in
    scaled_value c.args.digits k c.requires h _ c.args.unit (round_whole binary64 _ c.args.digits up_to) e
