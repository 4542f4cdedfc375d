use Rattle.std.proofs.Common.{◌≡◌, ◌+◌, ◌-◌, ◌*◌, ◌<◌, get_or, ap, arith, lt-ltb, le-ltb, eq-eqb, ne_eqb}
use Rattle.float_text.specs.Limbs.{limb_weight, value_below}
use Rattle.float_text.proofs.LimbLemmas.{value_below-zero, value_below-suc, value_below_less}
use Rattle.exact_amounts.proofs.large_number.compare_limbs.Goals as goal

pub returns-then-left-at : goal.returns-then-left-at
returns-then-left-at c =
    let a = c.args.left.now in
    let b = c.args.right.now in
    let i = c.loop-at.at - 1 in
    let e : i + 1 ≡ c.loop-at.at = omega arith in
    let l : value_below a 72 < value_below b 72 = omega (arith, rw e at (value_below_less a b i (λ k. (c.type_inv.left k).fits) c.if-left-at.true)) in
    rw (lt-ltb _ _ l)

pub returns-then-left-at-2 : goal.returns-then-left-at-2
returns-then-left-at-2 c =
    let a = c.args.left.now in
    let b = c.args.right.now in
    let i = c.loop-at.at - 1 in
    let e : i + 1 ≡ c.loop-at.at = omega arith in
    let l : value_below b 72 < value_below a 72 = omega (arith, rw e at (value_below_less b a i (λ k. (c.type_inv.right k).fits) c.if-left-at-2.true)) in
    rw (le-ltb (value_below a 72) (value_below b 72) (omega arith), ne_eqb (value_below a 72) (value_below b 72) (λ x. omega arith))

pub loop-at-preserved : goal.loop-at-preserved
loop-at-preserved c =
    let i = c.loop-at.at - 1 in
    let e : i + 1 ≡ c.loop-at.at = omega arith in
    let same : get_or c.args.left.now i 0 ≡ get_or c.args.right.now i 0 = omega arith in
    (omega arith, omega (arith, rw e at (value_below-suc c.args.left.now i), rw e at (value_below-suc c.args.right.now i), ap (λ x. x * limb_weight i) same))

pub returns : goal.returns
returns c =
    let e : c.loop-at.at ≡ 0 = omega arith in
    let same : value_below c.args.left.now 72 ≡ value_below c.args.right.now 72 = omega (arith, rw e at c.loop-at.invariant.1, value_below-zero c.args.left.now, value_below-zero c.args.right.now) in
    rw (le-ltb (value_below c.args.left.now 72) (value_below c.args.right.now 72) (omega arith), eq-eqb _ _ same)
