use Rattle.std.proofs.Common.{sym, refl, ◌∙◌, ◌+◌}
use Rattle.std.proofs.lemmas.Option.{slice_get_read}
use Rattle.live_reports.specs.Tallies.{tallies_of}
use Rattle.live_reports.proofs.ExchangeLemmas.{keys_held, small_from, room_from, each_added, on_ok}
use Rattle.live_reports.proofs.SmallLemmas.{AreSmall-Same}
use Rattle.live_reports.proofs.exchanging.add_at.Goals as goal

pub add_beside-requires-clause-small : goal.add_beside-requires-clause-small
add_beside-requires-clause-small c =
    AreSmall-Same _ _ c.requires.counted
    (small_from c.args.records.now c.args.place c.args.k c.args.new.now c.in-Some.old c.new_at-record.result (sym c.get.ensures ∙ c.in-Some.is) c.requires.there c.new_at-record.ensures c.requires.place c.requires.few)

pub add_beside-requires-clause-room : goal.add_beside-requires-clause-room
add_beside-requires-clause-room c =
    room_from c.args.records.now c.args.place c.args.k c.args.new.now c.in-Some.old c.new_at-record.result (sym c.get.ensures ∙ c.in-Some.is) c.requires.there c.new_at-record.ensures c.requires.place c.requires.few
    (tallies_of c.args.values.now) c.requires.counted

pub returns-clause-ok : goal.returns-clause-ok
returns-clause-ok c =
    on_ok c.add_beside.result
    (each_added c.args.records.now c.args.place c.args.k c.args.new.now c.in-Some.old c.new_at-record.result (sym c.get.ensures ∙ c.in-Some.is) c.requires.there c.new_at-record.ensures
    (tallies_of c.args.values.now) (tallies_of c.add_beside.new.self) c.requires.counted)
    c.add_beside.ensures.ok

pub returns-clause-held : goal.returns-clause-held
returns-clause-held c = λ held.
    c.add_beside.ensures.held
    (keys_held c.args.records.now c.args.new.now c.args.place (c.args.k + 1) c.new_at-record.result c.in-Some.old (tallies_of c.args.values.now) c.requires.counted
    (rw (slice_get_read c.args.new.now _ c.args.k c.new_at-record.result refl c.requires.there c.new_at-record.ensures) at held))
