-- Records of the same cell.
use Rattle.std.specs.Prelude.{Bool, ◌&&◌}
use Rattle.std.specs.Ordering.{int_eq}
use Rattle.trace_record.specs.declared.record.Record.{Record}

-- both records have the same inline and crossline
abbrev pub same_cell : Record → Record → Bool
same_cell a b = int_eq a.inline b.inline && int_eq a.crossline b.crossline
