use Rattle.std.proofs.Common.{sym, ◌∙◌}
use Rattle.live_reports.proofs.EditLemmas.{remove_holds, remove_fits, remove_counts}
use Rattle.live_reports.proofs.live_reports.LiveReports.remove.Goals as goal

pub remove-requires-clause-held : goal.remove-requires-clause-held
remove-requires-clause-held c = remove_holds c.args.records.now c.args.place c.in-Some.record (sym c.get.ensures ∙ c.in-Some.is) c.args.self.now.values c.requires.counted

pub remove-requires-clause-small : goal.remove-requires-clause-small
remove-requires-clause-small c = remove_fits c.args.records.now c.args.place c.in-Some.record (sym c.get.ensures ∙ c.in-Some.is) c.args.self.now.values c.requires.counted

pub returns : goal.returns
returns c = remove_counts c.args.records.now c.args.place c.in-Some.record (sym c.get.ensures ∙ c.in-Some.is) c.args.self.now.values c.requires.counted c.remove.new.self c.remove.ensures
