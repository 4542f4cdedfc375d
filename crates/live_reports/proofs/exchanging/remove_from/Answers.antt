use Rattle.std.proofs.Common.{◌≤◌, length, subst}
use Rattle.live_reports.specs.Tallies.{Tallies, tallies_of, SameEach}
use Rattle.live_reports.proofs.ExchangeLemmas.{few_left, none_left}
use Rattle.live_reports.proofs.exchanging.remove_from.Goals as goal

pub remove_at-requires-clause-few : goal.remove_at-requires-clause-few
remove_at-requires-clause-few c = few_left c.args.records.now c.args.new.now c.loop-at.at c.requires.few

pub returns : goal.returns
returns c =
    let past : length c.args.new.now ≤ c.loop-at.at = rw c.len-at-end.ensures at c.loop-at-test.false in
    subst (λ (t : Tallies). SameEach (tallies_of c.loop-at.values) t) (none_left c.args.records.now c.args.new.now c.args.place c.loop-at.at past) c.loop-at.invariant
