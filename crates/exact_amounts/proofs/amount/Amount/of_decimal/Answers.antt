use Rattle.std.proofs.Common.{◌∙◌, IfSome, sym, ap, subst}
use Rattle.std.specs.Option.{option_map}
use Rattle.exact_amounts.specs.Places.{place_of, IsPlaceOf}
use Rattle.exact_amounts.proofs.PlaceLemmas.{word_exact}
use Rattle.exact_amounts.proofs.amount.Amount.of_decimal.Goals as goal

pub returns-clause-exact : goal.returns-clause-exact
returns-clause-exact c n e = subst (λ o. IfSome o (λ a. IsPlaceOf a n)) (sym (c.word_place.ensures ∙ ap (option_map place_of) e)) (word_exact c.args.word.now n e)
