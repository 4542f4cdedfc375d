use Rattle.std.proofs.Common.{refl, ◌∙◌, ap, Err, arith}
use Rattle.script_run.specs.Causes.{failures}
use Rattle.script_run.proofs.CauseLemmas.{spans_in_memory}
use Rattle.script_run.proofs.EndLemmas.{load_end, loads_in_memory, runs_in_memory}
use Rattle.script_run.proofs.whole_run.run.Goals as goal

pub returns-in-Err-clause-run : goal.returns-in-Err-clause-run
returns-in-Err-clause-run g c =
    load_end _ c.args.options _ _ c.in-Err.fault c.tell.result
    (record { refused = c.in-Err.ensures.err; unread = refl; unsaved = refl; memory = λ e. c.in-Err.ensures.memory.rose (ap Err e) }) (rw c.load_fault_line.ensures at c.tell.ensures)

pub returns-in-Ok-clause-run : goal.returns-in-Ok-clause-run
returns-in-Ok-clause-run g c =
    let memory = c.in-Ok.ensures.ok.place_is in
    runs_in_memory c.args.options _ _ _ c.in-Ok.bench.state memory (
    c.run_loaded-end.ensures.run _ _ (failures c.args.room.now 0) (failures c.run_loaded-end.new.room 0) (spans_in_memory c.in-Ok.bench.state.on_disk _ _ _ _ memory c.in-Ok.ensures.memory.never_falls (omega arith)) (loads_in_memory _ _ _ _ c.in-Ok.bench.state memory c.in-Ok.ensures.ok)
    (c.memory_agrees.ensures (c.run_loaded-end.ensures.same.on_disk ∙ memory)))
