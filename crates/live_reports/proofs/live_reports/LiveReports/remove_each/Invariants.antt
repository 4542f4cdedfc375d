use Rattle.std.proofs.Common.{◌-◌, length, drop}
use Rattle.trace_seq.specs.Without.{taken_out}
use Rattle.live_reports.specs.OfRecords.{AreReportsOf}
use Rattle.live_reports.proofs.live_reports.LiveReports.remove_each.Given as goal

-- the last k of the records are counted no longer
abbrev pub invariant-loop-k : goal.invariant-loop-k
invariant-loop-k l = AreReportsOf l.self (taken_out l.records (drop (length l.positions - l.k) l.positions))
