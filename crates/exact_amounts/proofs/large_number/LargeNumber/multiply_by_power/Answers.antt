use Rattle.std.proofs.Common.{◌<◌, sym, subst, lt_of_le_of_lt}
use Rattle.float_text.proofs.LimbLemmas.{power_pos}
use Rattle.exact_amounts.proofs.RoomLemmas.{in_powers, up_to_all}
use Rattle.exact_amounts.proofs.large_number.LargeNumber.multiply_by_power.Goals as goal

pub multiply-requires-clause-some : goal.multiply-requires-clause-some
multiply-requires-clause-some c = subst (λ x. 0 < x) (sym c.requires.power) (power_pos c.args.by c.args.count c.requires.some.0)

pub multiply-requires-clause-room : goal.multiply-requires-clause-room
multiply-requires-clause-room c = lt_of_le_of_lt (up_to_all _ c.args.by c.args.power c.args.count c.args.times c.requires.some.0 c.requires.power) c.requires.room

pub multiply-requires-2-clause-room : goal.multiply-requires-2-clause-room
multiply-requires-2-clause-room c = rw (c.multiply.ensures, in_powers _ c.args.by c.args.power c.args.count c.args.times c.requires.power) c.requires.room

pub returns : goal.returns
returns c = rw (c.multiply-2.ensures, c.multiply.ensures) (in_powers _ c.args.by c.args.power c.args.count c.args.times c.requires.power)
