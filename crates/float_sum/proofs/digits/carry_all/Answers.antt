use Rattle.std.proofs.Common.{ℕ, ◌≡◌, ◌<◌, ◌+◌, ◌*◌, ◌^◌, length, subst}
use native.Mathlib.Omega.{arith}
use native.Mathlib.Nat.{le_refl}
use Rattle.float_sum.specs.Worth.{worth}
use Rattle.float_sum.proofs.WordLemmas.{carried, digits_set, put_within, none_left, all_digits}
use Rattle.float_sum.proofs.digits.carry_all.Goals as goal

pub loop-i-preserved : goal.loop-i-preserved
loop-i-preserved c =
    let l = c.loop-i.invariant in
    let h : c.loop-i.i < length c.loop-i.words = omega arith in
    let w = l.2 c.loop-i.i 0 h in (
      carried c.loop-i.words c.loop-i.i c.loop-i.carry 0 _ h l.0,
      digits_set c.loop-i.words c.loop-i.i _ h (omega arith) l.1,
      put_within (2 ^ 127) (2 ^ 127) c.loop-i.words c.loop-i.i _ l.2 (le_refl (2 ^ 127)) (omega arith),
      omega arith,
    )

pub returns-clause-worth : goal.returns-clause-worth
returns-clause-worth c =
    let e : c.loop-i.i ≡ length c.args.words.now = omega arith in
    none_left (worth c.loop-i.words) c.loop-i.carry (2 ^ (32 * length c.args.words.now)) (worth c.args.words.now)
    (subst (λ (z : ℕ). worth c.loop-i.words + c.loop-i.carry * 2 ^ (32 * z) ≡ worth c.args.words.now) e c.loop-i.invariant.0) c.requires.fits

pub returns-clause-digits : goal.returns-clause-digits
returns-clause-digits c = all_digits c.loop-i.words c.loop-i.i (omega arith) c.loop-i.invariant.1
