use Rattle.std.proofs.Common.{sym, ◌∙◌}
use Rattle.live_reports.specs.Tallies.{tallies_of}
use Rattle.live_reports.proofs.EditLemmas.{room_for, keys_for, exchange_holds, exchange_fits, exchange_counts}
use Rattle.live_reports.proofs.SmallLemmas.{small_each, AreSmall-Same}
use Rattle.live_reports.proofs.live_reports.LiveReports.exchange.Goals as goal

pub add_beside-requires-clause-small : goal.add_beside-requires-clause-small
add_beside-requires-clause-small c = AreSmall-Same _ _ c.requires.counted.counted (small_each c.args.records.now c.requires.counted.few)

pub add_beside-requires-clause-room : goal.add_beside-requires-clause-room
add_beside-requires-clause-room c = room_for c.args.records.now c.args.place c.in-Some.old c.args.changed.now (sym c.get.ensures ∙ c.in-Some.is) c.args.self.now.values c.requires.counted c.requires.few

pub remove_beside-requires-clause-held : goal.remove_beside-requires-clause-held
remove_beside-requires-clause-held c =
    exchange_holds c.args.records.now c.args.place c.in-Some.old c.args.changed.now (sym c.get.ensures ∙ c.in-Some.is) c.args.self.now.values c.requires.counted c.requires.few
    (tallies_of c.add_beside.new.self) c.in_ok-add_beside.ensures.ok

pub remove_beside-requires-clause-small : goal.remove_beside-requires-clause-small
remove_beside-requires-clause-small c =
    exchange_fits c.args.records.now c.args.place c.in-Some.old c.args.changed.now (sym c.get.ensures ∙ c.in-Some.is) c.args.self.now.values c.requires.counted c.requires.few
    (tallies_of c.add_beside.new.self) c.in_ok-add_beside.ensures.ok

pub returns-in_err-add_beside-clause-held : goal.returns-in_err-add_beside-clause-held
returns-in_err-add_beside-clause-held c = λ held.
    let never =
    c.in_err-add_beside.ensures.held
    (keys_for c.args.records.now c.args.place c.in-Some.old c.args.changed.now (sym c.get.ensures ∙ c.in-Some.is) c.args.self.now.values c.requires.counted c.requires.few held) in
    absurd cc

pub returns-clause-ok : goal.returns-clause-ok
returns-clause-ok c =
    exchange_counts c.args.records.now c.args.place c.in-Some.old c.args.changed.now (sym c.get.ensures ∙ c.in-Some.is) c.args.self.now.values c.requires.counted c.requires.few
    (tallies_of c.add_beside.new.self) c.in_ok-add_beside.ensures.ok c.remove_beside.new.self c.remove_beside.ensures
