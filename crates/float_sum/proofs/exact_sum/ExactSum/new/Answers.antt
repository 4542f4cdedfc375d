use Rattle.std.proofs.Common.{refl, ap, sym, subst, sum_by}
use native.Mathlib.Omega.{arith}
use Rattle.float_sum.specs.Sums.{AreFinite, plus_of, minus_of}
use Rattle.float_sum.proofs.HoldsLemmas.{zeros}
use Rattle.float_sum.proofs.exact_sum.ExactSum.new.Goals as goal

pub invariant_of-result : goal.invariant_of-result
invariant_of-result c =
    let vs = c.new.result.values in
    let none = sym c.new.ensures in
    record {
      plus = ap (sum_by plus_of) none;
      minus = ap (sum_by minus_of) none;
      plus_words = refl;
      minus_words = refl;
      plus_room = zeros _;
      minus_room = zeros _;
      plus_small = omega arith;
      minus_small = omega arith;
      finite = subst AreFinite none (λ k d h. absurd (omega arith));
    }
