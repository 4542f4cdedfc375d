use Rattle.std.proofs.Common.{◌∙◌, List, ℕ, true, subst, sym, arith}
use Rattle.line_texts.specs.Devices.{device_of}
use Rattle.script_run.specs.OnDisk.{unread, read_whole}
use Rattle.script_run.specs.Causes.{failures}
use Rattle.script_run.specs.Sessions.{Session, session_devices}
use Rattle.script_run.proofs.CauseLemmas.{spans_on_disk}
use Rattle.script_run.proofs.EndLemmas.{loads_whole}
use Rattle.script_run.proofs.SessionEndLemmas.{session_on_disk}
use Rattle.script_run.proofs.on_disk.session_on_disk.Goals as goal

pub returns-in-Ok-clause-session : goal.returns-in-Ok-clause-session
returns-in-Ok-clause-session g c = λ sure.
    let loaded = c.in-Ok.ensures in
    subst (λ (l : List ℕ). Session true c.args.options
    (session_devices (unread c.session_loaded-end.new.bench.loaded) (device_of g.S.Read.remaining c.args.script.now) (device_of g.A.Write.contents c.args.answers.now) (g.P.Saves.place c.args.place.now l) (failures c.args.room.now 0))
    (session_devices read_whole (device_of g.S.Read.remaining c.session_loaded-end.new.script) (device_of g.A.Write.contents c.session_loaded-end.new.answers) (g.P.Saves.place c.session_loaded-end.new.place c.session_loaded-end.new.bench.loaded) (failures c.session_loaded-end.new.room c.session_loaded-end.new.bench.reads.failures))
    c.session_loaded-end.result) (sym c.session_loaded-end.ensures.loaded) (
    session_on_disk c.args.options _ _ _ c.in-Ok.bench.state loaded.place
    (c.session_loaded-end.ensures.session _ _ (failures c.args.room.now 0) (failures c.session_loaded-end.new.room c.session_loaded-end.new.bench.reads.failures) (spans_on_disk c.in-Ok.bench.state.on_disk _ _ _ _ c.in-Ok.ensures.memory.never_falls (omega arith) (omega arith) (omega arith))
    (loads_whole c.in-Ok.bench.state c.session_loaded-end.new.bench.loaded _ _ (c.session_loaded-end.ensures.loaded ∙ loaded.loaded) loaded.cut loaded.fields loaded.reading loaded.limits) loaded.loaded sure))
