use Rattle.live_reports.proofs.EditLemmas.{room_for_insert, insert_counts}
use Rattle.live_reports.proofs.SmallLemmas.{small_each, AreSmall-Same}
use Rattle.live_reports.proofs.live_reports.LiveReports.insert.Goals as goal

pub add-requires-clause-small : goal.add-requires-clause-small
add-requires-clause-small c = AreSmall-Same _ _ c.requires.counted.counted (small_each c.args.records.now c.requires.counted.few)

pub add-requires-clause-room : goal.add-requires-clause-room
add-requires-clause-room c = room_for_insert c.args.records.now c.args.place c.args.added.now c.requires.place c.args.self.now.values c.requires.counted c.requires.few

pub returns-clause-ok : goal.returns-clause-ok
returns-clause-ok c = insert_counts c.args.records.now c.args.place c.args.added.now c.requires.place c.args.self.now.values c.requires.counted c.requires.few c.add.new.self c.in_ok-add.ensures.ok
