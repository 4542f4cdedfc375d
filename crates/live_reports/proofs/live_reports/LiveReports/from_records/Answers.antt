use Rattle.live_reports.proofs.SmallLemmas.{small_each}
use Rattle.live_reports.proofs.live_reports.LiveReports.from_records.Goals as goal

pub from_records-requires : goal.from_records-requires
from_records-requires c = small_each c.args.records.now c.requires
