use Rattle.std.proofs.Common.{◌≡◌, ◌≤◌, ◌++◌, length, map}
use Rattle.trace_record.specs.Facts.{facts_of}
use Rattle.trace_groups.specs.OfOrigins.{AreOf}
use Rattle.trace_groups.specs.Suspects.{origins, cell_of}
use Rattle.trace_groups.proofs.positions.origins_of.Given as goal

-- the traces so far are seen
abbrev pub invariant-loop-trace : goal.invariant-loop-trace
invariant-loop-trace l =
    (l.yielded ++ l.trace-iterator ≡ l.fn.records) × (l.found.traces ≤ length l.yielded) × AreOf (map cell_of (origins (map facts_of l.yielded))) l.found
