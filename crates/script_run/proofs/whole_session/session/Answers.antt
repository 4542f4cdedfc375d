use Rattle.std.proofs.Common.{refl, false, [], ◌∙◌, List, ℕ, subst, ap, Err, arith}
use Rattle.line_texts.specs.Devices.{device_of}
use Rattle.script_run.specs.Causes.{failures}
use Rattle.script_run.specs.Sessions.{Session, session_devices}
use Rattle.script_run.proofs.CauseLemmas.{spans_in_memory}
use Rattle.script_run.proofs.EndLemmas.{loads_in_memory}
use Rattle.script_run.proofs.SessionEndLemmas.{load_end, session_in_memory}
use Rattle.script_run.proofs.whole_session.session.Goals as goal

pub returns-in-Err : goal.returns-in-Err
returns-in-Err g c = (
  [],
  load_end _ c.args.options _ _ c.in-Err.fault c.tell.result
      (record { refused = c.in-Err.ensures.err; unread = refl; unsaved = refl; memory = λ e. c.in-Err.ensures.memory.rose (ap Err e) }) (rw c.load_fault_line.ensures at c.tell.ensures),
)

pub returns-in-Ok : goal.returns-in-Ok
returns-in-Ok g c =
    let memory = c.in-Ok.ensures.ok.place_is in (
      c.in-Ok.bench.loaded,
      subst (λ (l : List ℕ). Session false c.args.options
          (session_devices (device_of g.R.Read.remaining c.args.reader.now) (device_of g.S.Read.remaining c.args.script.now) (device_of g.A.Write.contents c.args.answers.now) (g.P.Saves.place c.args.place.now c.in-Ok.bench.loaded) (failures c.args.room.now 0))
          (session_devices (device_of g.R.Read.remaining c.load.new.reader) (device_of g.S.Read.remaining c.session_loaded-end.new.script) (device_of g.A.Write.contents c.session_loaded-end.new.answers) (g.P.Saves.place c.session_loaded-end.new.place l) (failures c.session_loaded-end.new.room 0))
          c.session_loaded-end.result) c.session_loaded-end.ensures.loaded (
          session_in_memory c.args.options _ _ _ c.in-Ok.bench.state memory (
          c.session_loaded-end.ensures.session _ _ (failures c.args.room.now 0) (failures c.session_loaded-end.new.room 0) (spans_in_memory c.in-Ok.bench.state.on_disk _ _ _ _ memory c.in-Ok.ensures.memory.never_falls (omega arith)) (loads_in_memory _ _ _ _ c.in-Ok.bench.state memory c.in-Ok.ensures.ok) c.in-Ok.ensures.loaded
          (c.memory_agrees.ensures (c.session_loaded-end.ensures.same.on_disk ∙ memory)))),
    )
