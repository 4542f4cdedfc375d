use Rattle.std.proofs.Common.{length, ◌<◌, ◌^◌, subst, sym}
use Rattle.float_sum.proofs.HoldsLemmas.{fits_words}
use Rattle.float_sum.proofs.exact_sum.ExactSum.nearest.Goals as goal

pub carry_all-requires-clause-fits : goal.carry_all-requires-clause-fits
carry_all-requires-clause-fits c =
    let few : length c.self.inside.added.values < 2 ^ 40 = subst (λ z. length z < 2 ^ 40) (sym c.self.view_is) c.requires in
    fits_words _ (length c.self.inside.added.values) _ c.self.invariant.plus_small few c.self.invariant.plus_words

pub carry_all-requires-2-clause-fits : goal.carry_all-requires-2-clause-fits
carry_all-requires-2-clause-fits c =
    let few : length c.self.inside.added.values < 2 ^ 40 = subst (λ z. length z < 2 ^ 40) (sym c.self.view_is) c.requires in
    fits_words _ (length c.self.inside.added.values) _ c.self.invariant.minus_small few c.self.invariant.minus_words
