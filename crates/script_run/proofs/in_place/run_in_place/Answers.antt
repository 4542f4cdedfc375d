use Rattle.std.proofs.Common.{refl, ◌∙◌, ap, Err, arith}
use Rattle.script_run.specs.Causes.{failures}
use Rattle.script_run.proofs.CauseLemmas.{spans_in_memory}
use Rattle.script_run.proofs.EndLemmas.{loads_in_memory}
use Rattle.script_run.proofs.InPlaceLemmas.{load_end_in_place, in_memory}
use Rattle.script_run.proofs.in_place.run_in_place.Goals as goal

pub returns-in-Err-clause-run : goal.returns-in-Err-clause-run
returns-in-Err-clause-run g c =
    rw (c.not_begun.ensures.end, c.not_begun.ensures.repaired) (
    load_end_in_place _ c.args.options _ _ c.in-Err.fault c.tell.result _
    (record { refused = c.in-Err.ensures.err; unread = refl; unsaved = refl; memory = λ e. c.in-Err.ensures.memory.rose (ap Err e) }) (rw c.load_fault_line.ensures at c.tell.ensures))

pub returns-in-Ok-clause-run : goal.returns-in-Ok-clause-run
returns-in-Ok-clause-run g c =
    let memory = c.in-Ok.ensures.ok.place_is in
    in_memory c.args.options _ _ _ _ _ _ c.in-Ok.bench.state memory (
    c.loaded_in_place-run.ensures.run _ _ (failures c.args.room.now 0) (failures c.loaded_in_place-run.new.room 0) (spans_in_memory c.in-Ok.bench.state.on_disk _ _ _ _ memory c.in-Ok.ensures.memory.never_falls (omega arith)) (loads_in_memory _ _ _ _ c.in-Ok.bench.state memory c.in-Ok.ensures.ok) c.in-Ok.ensures.loaded
    (c.memory_agrees.ensures (c.loaded_in_place-run.ensures.same.on_disk ∙ memory)))
