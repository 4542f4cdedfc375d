use Rattle.std.proofs.Common.{refl}
use Rattle.float_sum.proofs.TotalLemmas.{holds_finite, few_finite}
use Rattle.float_sum.proofs.float_total.FloatTotal.add_finite.Goals as goal

pub add-requires-clause-few : goal.add-requires-clause-few
add-requires-clause-few c = few_finite c.self.inside c.args.self.now c.self.view_is c.self.invariant c.requires.few

pub invariant_of-self : goal.invariant_of-self
invariant_of-self c = holds_finite c.self.inside _ c.args.value c.self.invariant c.requires.finite c.note.ensures c.add.ensures refl refl
