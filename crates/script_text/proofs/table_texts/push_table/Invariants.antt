use Rattle.std.proofs.Common.{map, drop}
use Rattle.line_texts.specs.Devices.{device_of}
use Rattle.script_text.specs.HeaderTexts.{table_row_text}
use Rattle.line_texts.specs.Lines.{with_line_ends}
use Rattle.line_texts.proofs.OutLemmas.{Left}
use Rattle.script_text.proofs.table_texts.push_table.Given as goal

-- since the head was pushed the lines of the rows before this one were
abbrev pub invariant-loop-k : goal.invariant-loop-k
invariant-loop-k g l =
    Left (device_of g.W.Write.contents l.initial.writer) (device_of g.W.Write.contents l.writer) l.initial.out l.out
    (with_line_ends (map table_row_text (drop l.k l.table))) (with_line_ends (map table_row_text l.table))
