use Rattle.std.proofs.Common.{◌≡◌, ◌∙◌, [], length, inr, sym, arith}
use Rattle.std.proofs.lemmas.Bool.{eqb-true}
use Rattle.bench_rules.proofs.ChosenLemmas.{without_cut}
use Rattle.live_volume.proofs.ChosenLemmas.{empty_cut, is_nothing}
use Rattle.live_volume.proofs.live_volume.LiveVolume.edit_each.Goals as goal

pub returns-in-Delete-clause-cut : goal.returns-in-Delete-clause-cut
returns-in-Delete-clause-cut c = λ sure.
    rw (c.in-Delete.is, c.delete_each.ensures.volume)
    ((without_cut c.args.self.now.state 1 c.args.traces.now (omega arith) c.requires.rising).cut (c.stands.ensures.cut (c.delete_each.ensures.reads.agreed sure)))

-- where there are no traces
pub returns-in-None-clause-none : goal.returns-in-None-clause-none
returns-in-None-clause-none c = λ sure.
    let none : c.args.traces.now ≡ [] = is_nothing c.args.traces.now (eqb-true (length c.args.traces.now) 0 (sym c.is_empty.ensures ∙ c.if-is_empty.true)) in
    rw none (sym c.refusal_of_none.ensures.refusal ∙ c.in-None.is)

pub returns-in-None-clause-cut : goal.returns-in-None-clause-cut
returns-in-None-clause-cut c = λ sure.
    let none : c.args.traces.now ≡ [] = is_nothing c.args.traces.now (eqb-true (length c.args.traces.now) 0 (sym c.is_empty.ensures ∙ c.if-is_empty.true)) in
    rw none (empty_cut c.args.self.now.state c.args.edit.now (c.stands.ensures.cut sure))

pub returns-in-Some-clause-err : goal.returns-in-Some-clause-err
returns-in-Some-clause-err c = λ sure.
    let none : c.args.traces.now ≡ [] = is_nothing c.args.traces.now (eqb-true (length c.args.traces.now) 0 (sym c.is_empty.ensures ∙ c.if-is_empty.true)) in
    inr (inr (rw none (sym c.refusal_of_none.ensures.refusal ∙ c.in-Some.is)))
