-- The reports of a list of records.
use Rattle.std.specs.Prelude.{List}
use Rattle.trace_record.specs.declared.record.Record.{Record}
use Rattle.live_reports.specs.declared.live_reports.LiveReports.{LiveReports}
use Rattle.live_reports.specs.Reports.{HaveCounted}

-- each of the four has counted these records, each once, and no others
abbrev pub AreReportsOf : LiveReports → List Record → Type 0
AreReportsOf reports rs = HaveCounted reports.values rs
