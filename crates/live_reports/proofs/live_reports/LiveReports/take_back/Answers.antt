use Rattle.std.proofs.Common.{List, subst}
use Rattle.std.specs.List.{insert}
use Rattle.trace_record.specs.declared.record.Record.{Record}
use Rattle.live_reports.specs.Reports.{HaveCounted}
use Rattle.live_reports.proofs.EditLemmas.{remove_holds, remove_fits, remove_counts}
use Rattle.live_reports.proofs.ListLemmas.{get_inserted, remove_inserted}
use Rattle.live_reports.proofs.live_reports.LiveReports.take_back.Goals as goal

pub remove-requires-clause-held : goal.remove-requires-clause-held
remove-requires-clause-held c =
    let rs = c.args.records.now in
    let added = c.args.added.now in
    remove_holds (insert rs c.args.place added) c.args.place added (get_inserted rs c.args.place added c.requires.place) c.args.self.now.values c.requires.counted

pub remove-requires-clause-small : goal.remove-requires-clause-small
remove-requires-clause-small c =
    let rs = c.args.records.now in
    let added = c.args.added.now in
    remove_fits (insert rs c.args.place added) c.args.place added (get_inserted rs c.args.place added c.requires.place) c.args.self.now.values c.requires.counted

pub returns : goal.returns
returns c =
    let rs = c.args.records.now in
    let added = c.args.added.now in
    subst (λ (l : List Record). HaveCounted c.remove.new.self l) (remove_inserted rs c.args.place added c.requires.place)
    (remove_counts (insert rs c.args.place added) c.args.place added (get_inserted rs c.args.place added c.requires.place) c.args.self.now.values c.requires.counted c.remove.new.self c.remove.ensures)
