use Rattle.std.proofs.Common.{sym, ◌∙◌, subst, ◌+◌, take, drop}
use Rattle.std.specs.Prelude.{List}
use Rattle.trace_record.specs.declared.record.Record.{Record}
use Rattle.live_reports.specs.Exchanged.{with_records, tallies_with_new, AreFewTogether}
use Rattle.live_reports.specs.Tallies.{tallies_of, SameEach}
use Rattle.live_reports.proofs.ExchangeLemmas.{each_old_held, each_old_fits, each_exchanged, few_after, still_there, still_enough, one_further}
use Rattle.live_reports.proofs.SmallLemmas.{SameEach-trans}
use Rattle.live_reports.proofs.exchanging.drop_at.Goals as goal

pub remove_beside-requires-clause-held : goal.remove_beside-requires-clause-held
remove_beside-requires-clause-held c =
    let new = c.args.new.now in
    let rs : List Record = with_records c.args.records.now c.args.place (take c.args.k new) in
    let there = still_there c.args.records.now c.args.place c.args.k new c.in-Some.old c.new_at-record.result (sym c.get.ensures ∙ c.in-Some.is) c.requires.there c.new_at-record.ensures in
    each_old_held rs c.args.place c.args.k new c.in-Some.old c.new_at-record.result there c.requires.there c.new_at-record.ensures
    (tallies_of c.args.values.now) c.requires.counted

pub remove_beside-requires-clause-small : goal.remove_beside-requires-clause-small
remove_beside-requires-clause-small c =
    let new = c.args.new.now in
    let rs : List Record = with_records c.args.records.now c.args.place (take c.args.k new) in
    let there = still_there c.args.records.now c.args.place c.args.k new c.in-Some.old c.new_at-record.result (sym c.get.ensures ∙ c.in-Some.is) c.requires.there c.new_at-record.ensures in
    each_old_fits rs c.args.place c.args.k new c.in-Some.old c.new_at-record.result there c.requires.there c.new_at-record.ensures
    (tallies_of c.args.values.now) c.requires.counted (still_enough c.args.records.now c.args.place c.args.k new c.in-Some.old c.new_at-record.result (sym c.get.ensures ∙ c.in-Some.is) c.requires.there c.new_at-record.ensures c.requires.place) c.requires.few

pub returns-clause-few : goal.returns-clause-few
returns-clause-few c =
    let new = c.args.new.now in
    let rs : List Record = with_records c.args.records.now c.args.place (take c.args.k new) in
    let there = still_there c.args.records.now c.args.place c.args.k new c.in-Some.old c.new_at-record.result (sym c.get.ensures ∙ c.in-Some.is) c.requires.there c.new_at-record.ensures in
    subst (λ (l : List Record). AreFewTogether l (drop (c.args.k + 1) new)) (one_further c.args.records.now c.args.place c.args.k new c.in-Some.old c.new_at-record.result (sym c.get.ensures ∙ c.in-Some.is) c.requires.there c.new_at-record.ensures)
    (few_after rs c.args.place c.args.k new c.in-Some.old c.new_at-record.result there c.requires.there c.new_at-record.ensures
    (still_enough c.args.records.now c.args.place c.args.k new c.in-Some.old c.new_at-record.result (sym c.get.ensures ∙ c.in-Some.is) c.requires.there c.new_at-record.ensures c.requires.place) c.requires.few)

pub returns-clause-counted : goal.returns-clause-counted
returns-clause-counted c =
    let new = c.args.new.now in
    let rs : List Record = with_records c.args.records.now c.args.place (take c.args.k new) in
    let there = still_there c.args.records.now c.args.place c.args.k new c.in-Some.old c.new_at-record.result (sym c.get.ensures ∙ c.in-Some.is) c.requires.there c.new_at-record.ensures in
    subst (λ (l : List Record). SameEach (tallies_of c.remove_beside.new.self) (tallies_with_new l c.args.place new (c.args.k + 1))) (one_further c.args.records.now c.args.place c.args.k new c.in-Some.old c.new_at-record.result (sym c.get.ensures ∙ c.in-Some.is) c.requires.there c.new_at-record.ensures)
    (SameEach-trans _ _ _ c.remove_beside.ensures
    (each_exchanged rs c.args.place c.args.k new c.in-Some.old c.new_at-record.result there c.requires.there c.new_at-record.ensures
    (tallies_of c.args.values.now) c.requires.counted))
