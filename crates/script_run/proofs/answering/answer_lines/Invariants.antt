use Rattle.std.proofs.Common.{◌≡◌, ◌≤◌}
use Rattle.edit_overlay.specs.Reads.{Follow, HaveAgreed}
use Rattle.live_volume.specs.Held.{IsReadAs}
use Rattle.line_texts.specs.Devices.{device_of}
use Rattle.script_run.specs.Causes.{failures}
use Rattle.script_run.specs.Input.{left_of}
use Rattle.script_run.specs.Sessions.{standing}
use Rattle.script_run.proofs.SessionLemmas.{SessionSoFar}
use Rattle.script_run.proofs.answering.answer_lines.Given as goal

abbrev pub invariant-lines : goal.invariant-lines
invariant-lines g l =
    (HaveAgreed l.bench.reads → SessionSoFar (failures l.initial.room l.initial.bench.reads.failures) (failures l.room l.bench.reads.failures) (standing l.initial.bench.state (g.P.Saves.place l.initial.place l.initial.bench.loaded)) (g.S.Read.remaining l.initial.script.inner) (left_of l.ahead (g.S.Read.remaining l.script.inner)) l.stop l.number l.refused l.written
    (device_of g.A.Write.contents l.initial.answers) (device_of g.A.Write.contents l.answers) (standing l.bench.state (g.P.Saves.place l.place l.bench.loaded)))
    × (l.script.failures ≡ l.initial.script.failures)
    × (l.refused ≤ l.number)
    × IsReadAs l.initial.bench.state l.bench.state
    × Follow l.initial.bench.reads l.bench.reads
    × (l.bench.loaded ≡ l.initial.bench.loaded)
    × (l.initial.room ≤ l.room)
