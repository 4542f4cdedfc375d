use Rattle.std.proofs.Common.{sym, subst, length, ◌≤◌, ◌-◌, arith}
use Rattle.live_reports.specs.Reports.{HasEachKey}
use Rattle.live_reports.specs.Tallies.{Tallies, tallies_of, SameEach}
use Rattle.live_reports.proofs.ExchangeLemmas.{few_left, holds_there, none_left}
use Rattle.live_reports.proofs.exchanging.add_each.Goals as goal

pub loop-k-init : goal.loop-k-init
loop-k-init c =
    let new = c.args.new.now in
    let all : length new ≤ c.len-k.result = omega (arith, c.len-k.ensures) in
    (subst (λ (t : Tallies). SameEach (tallies_of c.args.values.now) t) (sym (none_left c.args.records.now new c.args.place c.len-k.result all)) c.requires.counted, grind arith)

pub add_at-requires-clause-few : goal.add_at-requires-clause-few
add_at-requires-clause-few c = few_left c.args.records.now c.args.new.now (c.loop-k.k - 1) c.requires.few

pub returns-in-Err-clause-held : goal.returns-in-Err-clause-held
returns-in-Err-clause-held c = λ all. c.in-Err.ensures.held (holds_there (HasEachKey c.args.records.now) c.args.new.now (c.loop-k.k - 1) all)
