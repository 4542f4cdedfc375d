use Rattle.std.proofs.Common.{◌-◌, ◌*◌, ◌^◌, ◌%◌, ◌∙◌, ap, arith, nat_lt}
use Rattle.std.proofs.lemmas.Bool.{le-leb}
use Rattle.trace_groups.specs.Loud.{digits_of}
use Rattle.trace_groups.proofs.TimesLemmas.{below_power, far_above, near_above}
use Rattle.trace_groups.proofs.float_amounts.exceeds_100_times.Goals as goal

pub returns-then-power-less : goal.returns-then-power-less
returns-then-power-less c = below_power c.args.amount c.args.median (omega (arith, c.power_of-power.ensures, c.power_of-less.ensures, c.if-power-less.true))

pub returns-then-shift-ge8 : goal.returns-then-shift-ge8
returns-then-shift-ge8 c =
    le-leb 8 (c.power_of-power.result - c.power_of-less.result) c.if-shift-ge8.true
    ∙ far_above c.args.amount c.args.median (omega (arith, c.power_of-power.ensures, c.power_of-less.ensures, c.if-shift-ge8.true))

pub returns-else-shift-ge8 : goal.returns-else-shift-ge8
returns-else-shift-ge8 c =
    ap (λ n. nat_lt (100 * n) (c.digits_of-else-shift-ge8.result * 2 ^ (c.power_of-power.result - c.power_of-less.result) % 2 ^ 64)) c.digits_of.ensures.value
    ∙ ap (λ n. nat_lt (100 * digits_of c.args.median) (n * 2 ^ (c.power_of-power.result - c.power_of-less.result) % 2 ^ 64)) c.digits_of-else-shift-ge8.ensures.value
    ∙ near_above c.args.amount c.args.median (c.power_of-power.result - c.power_of-less.result) (omega (arith, c.power_of-power.ensures, c.power_of-less.ensures, c.if-power-less.false)) (omega (arith, c.if-shift-ge8.false))
