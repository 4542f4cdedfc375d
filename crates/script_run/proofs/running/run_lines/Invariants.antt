use Rattle.std.proofs.Common.{◌≡◌, ◌≤◌, ◌+◌, length}
use Rattle.edit_overlay.specs.Reads.{Follow, HaveAgreed}
use Rattle.live_volume.specs.Held.{IsReadAs}
use Rattle.line_texts.specs.Devices.{device_of}
use Rattle.script_words.specs.Words.{script_lines}
use Rattle.script_run.specs.Causes.{failures}
use Rattle.script_run.specs.LineLooks.{after_looks}
use Rattle.script_run.proofs.LookLemmas.{LookedSoFar}
use Rattle.script_run.proofs.RunLemmas.{SoFar}
use Rattle.script_run.proofs.running.run_lines.Given as goal

abbrev pub invariant-lines : goal.invariant-lines
invariant-lines g l =
    (HaveAgreed l.bench.reads → SoFar (failures l.initial.room l.initial.bench.reads.failures) (failures l.room l.bench.reads.failures) l.initial.bench.state (script_lines l.script) l.lines l.stop l.number l.refused l.written
    (device_of g.A.Write.contents l.initial.answers) (device_of g.A.Write.contents l.answers) l.bench.state)
    × (l.number + length l.lines ≤ 16777216)
    × (l.refused ≤ l.number)
    × IsReadAs l.initial.bench.state l.bench.state
    × Follow l.initial.bench.reads l.bench.reads
    × (l.bench.loaded ≡ l.initial.bench.loaded)
    × (l.initial.room ≤ l.room)
    × (HaveAgreed l.bench.reads → LookedSoFar (device_of g.A.Write.contents l.initial.answers) (device_of g.A.Write.contents l.answers) (after_looks l.initial.bench.state l.initial.bench.looks) (script_lines l.script) l.lines (after_looks l.bench.state l.bench.looks))

abbrev pub decreases-lines : goal.decreases-lines
decreases-lines g l = length l.lines
