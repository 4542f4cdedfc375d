use Rattle.std.proofs.Common.{sym, ◌∙◌}
use Rattle.live_reports.specs.Tallies.{tallies_of}
use Rattle.live_reports.proofs.ExchangeLemmas.{each_new_held, each_removed, small_from}
use Rattle.live_reports.proofs.SmallLemmas.{AreSmall-Same, SameEach-trans}
use Rattle.live_reports.proofs.exchanging.remove_at.Goals as goal

pub remove_beside-requires-clause-held : goal.remove_beside-requires-clause-held
remove_beside-requires-clause-held c =
    each_new_held c.args.records.now c.args.place c.args.k c.args.new.now c.in-Some.old c.new_at-record.result (sym c.get.ensures ∙ c.in-Some.is) c.requires.there c.new_at-record.ensures
    (tallies_of c.args.values.now) c.requires.counted

pub remove_beside-requires-clause-small : goal.remove_beside-requires-clause-small
remove_beside-requires-clause-small c =
    AreSmall-Same _ _
    (each_removed c.args.records.now c.args.place c.args.k c.args.new.now c.in-Some.old c.new_at-record.result (sym c.get.ensures ∙ c.in-Some.is) c.requires.there c.new_at-record.ensures
    (tallies_of c.args.values.now) c.requires.counted)
    (small_from c.args.records.now c.args.place c.args.k c.args.new.now c.in-Some.old c.new_at-record.result (sym c.get.ensures ∙ c.in-Some.is) c.requires.there c.new_at-record.ensures c.requires.place c.requires.few)

pub returns : goal.returns
returns c =
    SameEach-trans _ _ _ c.remove_beside.ensures
    (each_removed c.args.records.now c.args.place c.args.k c.args.new.now c.in-Some.old c.new_at-record.result (sym c.get.ensures ∙ c.in-Some.is) c.requires.there c.new_at-record.ensures
    (tallies_of c.args.values.now) c.requires.counted)
