use Rattle.std.proofs.Common.{sym, ◌∙◌, ◌==◌}
use Rattle.script_words.proofs.PositionLemmas.{any_none, any_some, front_is, back_is}
use Rattle.script_words.proofs.split.split_once.Goals as goal

pub returns-in_err-at-clause-none : goal.returns-in_err-at-clause-none
returns-in_err-at-clause-none c =
    rw c.from_residual.ensures (any_none (λ b. b == c.args.mark) c.args.text.now (sym c.first_place.ensures ∙ c.in_err-at.was))

pub returns-clause-some : goal.returns-clause-some
returns-clause-some c = any_some (λ b. b == c.args.mark) c.args.text.now c.in_ok-at.at (sym c.first_place.ensures ∙ c.in_ok-at.was)

pub returns-clause-front : goal.returns-clause-front
returns-clause-front c =
    front_is (λ b. b == c.args.mark) c.args.text.now _ c.in_ok-at.at (sym c.first_place.ensures ∙ c.in_ok-at.was) c.split_at.ensures.front

pub returns-clause-back : goal.returns-clause-back
returns-clause-back c =
    back_is (λ b. b == c.args.mark) c.args.text.now _ c.in_ok-at.at (sym c.first_place.ensures ∙ c.in_ok-at.was) c.split_at.ensures.back
