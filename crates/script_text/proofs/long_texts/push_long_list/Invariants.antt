use Rattle.std.proofs.Common.{map, drop}
use Rattle.line_texts.specs.Devices.{device_of}
use Rattle.line_texts.specs.Lines.{with_line_ends}
use Rattle.line_texts.proofs.OutLemmas.{Left}
use Rattle.script_text.proofs.long_texts.push_long_list.Given as goal

-- since the head was pushed the lines of the items before this one were
abbrev pub invariant-loop-item : goal.invariant-loop-item
invariant-loop-item g l =
    Left (device_of g.W.Write.contents l.initial.writer) (device_of g.W.Write.contents l.writer) l.initial.out l.out
    (with_line_ends (map g.T.LongLine.text (drop l.item-index l.items))) (with_line_ends (map g.T.LongLine.text l.items))
