use Rattle.std.proofs.Common.{◌≡◌, ◌∙◌, ◌++◌, ℕ, List, ap, map, subst}
use Rattle.std.specs.Prelude.{OnOk}
use Rattle.volume_answers.proofs.StanzaLemmas.{numbered, with_number}
use Rattle.volume_answers.proofs.stanzas.add_stanzas.Goals as goal

pub returns-clause-ok : goal.returns-clause-ok
returns-clause-ok c =
    subst (λ (s : List (ℕ × List ℕ)). OnOk c.add_names.result (c.add_names.new.all.items ≡ c.args.all.now.items ++ s))
    (numbered c.args.number c.in_ok-names.names.items ∙ ap (map (with_number c.args.number)) c.in_ok-names.ensures.names) c.add_names.ensures.ok
