use Rattle.std.proofs.Common.{◌≡◌, drop}
use Rattle.edit_overlay.specs.CountedVolume.{RisesAtMost}
use Rattle.edit_overlay.specs.Reads.{Follow, HaveAgreed}
use Rattle.line_texts.specs.Devices.{device_of}
use Rattle.script_run.proofs.SectionOutLemmas.{RowsBegun}
use Rattle.script_run.proofs.sections.push_rows.Given as goal

-- the lines of the traces before this one are pushed
abbrev pub invariant-loop-p : goal.invariant-loop-p
invariant-loop-p g l = record {
  rows : HaveAgreed l.bench.reads → RowsBegun l.fn.bench.state l.section.samples l.section.traces (device_of g.A.Write.contents l.fn.answers) (device_of g.A.Write.contents l.answers) l.fn.out l.out (drop l.p-index l.section.traces);
  state : l.bench.state ≡ l.fn.bench.state;
  reads : Follow l.fn.bench.reads l.bench.reads;
  loaded : l.bench.loaded ≡ l.fn.bench.loaded;
  looks : RisesAtMost l.fn.bench.looks l.bench.looks l.p-index;
}
