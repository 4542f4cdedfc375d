use Rattle.std.proofs.Common.{◌≡◌, drop}
use Rattle.std.specs.Prelude.{is_some}
use Rattle.trace_view.specs.Shown.{bytes_of, head_of}
use Rattle.bench_rules.specs.ManyTraces.{each_of}
use Rattle.many_traces.specs.Fields.{number_in}
use Rattle.many_traces.proofs.row.has_fields.Given as goal

-- the fields that are left decide
abbrev pub invariant-loop-field : goal.invariant-loop-field
invariant-loop-field l = is_some (each_of (number_in (head_of l.trace) (bytes_of l.trace) l.map.pairs) l.fields) ≡ is_some (each_of (number_in (head_of l.trace) (bytes_of l.trace) l.map.pairs) (drop l.field-index l.fields))
