use Rattle.line_texts.specs.Devices.{device_of}
use Rattle.script_text.proofs.SectionLemmas.{Begun}
use Rattle.script_text.proofs.section_texts.push_section_row.Given as goal

-- the position and the samples in front of those that are left are pushed
abbrev pub invariant-samples : goal.invariant-samples
invariant-samples g l =
    Begun l.fn.floats l.fn.position l.fn.samples (device_of g.W.Write.contents l.fn.writer) (device_of g.W.Write.contents l.writer) l.fn.out l.out l.samples
