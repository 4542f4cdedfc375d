use Rattle.std.proofs.Common.{◌<◌, ◌∙◌, length, refl, arith, rules, get_or-set_other}
use lib.Bits.{and_mask}
use Rattle.float_text.proofs.LimbLemmas.{value_below-zero, value_below-suc, value_below-set, limb_weight-zero, limb_weight-suc, multiply_add_step}
use Rattle.exact_amounts.proofs.large_number.multiply_add.Goals as goal

pub loop-at-init : goal.loop-at-init
loop-at-init c = (rw (value_below-zero, limb_weight-zero) (omega arith), λ k h. refl)

pub loop-at-preserved : goal.loop-at-preserved
loop-at-preserved c =
    let l = c.loop-at in
    let within : l.at < length l.limbs = search rules in
    let same = l.invariant.1 l.at (omega arith) in (
      rw (and_mask _ 64, value_below-set l.limbs l.at _ within, value_below-suc c.args.limbs.now l.at, limb_weight-suc, ← same) (multiply_add_step _ _ _ _ _ _ _ l.invariant.0),
      λ k h. get_or-set_other l.limbs l.at k _ 0 (λ e. omega arith) ∙ l.invariant.1 k (omega arith),
    )
