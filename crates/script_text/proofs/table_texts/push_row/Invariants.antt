use Rattle.std.proofs.Common.{drop}
use Rattle.line_texts.specs.Devices.{device_of}
use Rattle.script_text.specs.HeaderTexts.{table_row_text}
use Rattle.line_texts.specs.Lines.{with_line_end}
use Rattle.line_texts.proofs.OutLemmas.{Left}
use Rattle.script_text.proofs.TableTextLemmas.{rest_of_row}
use Rattle.script_text.proofs.table_texts.push_row.Given as goal

-- the position and the numbers before this one are pushed
abbrev pub invariant-loop-number : goal.invariant-loop-number
invariant-loop-number g l =
    Left (device_of g.W.Write.contents l.fn.writer) (device_of g.W.Write.contents l.writer) l.fn.out l.out
    (rest_of_row (drop l.number-index l.numbers)) (with_line_end (table_row_text (l.position, l.numbers)))
