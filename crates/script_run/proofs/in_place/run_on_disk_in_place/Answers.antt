use Rattle.std.proofs.Common.{◌∙◌, arith}
use Rattle.script_run.specs.Causes.{failures}
use Rattle.script_run.proofs.CauseLemmas.{spans_on_disk}
use Rattle.script_run.proofs.EndLemmas.{loads_whole}
use Rattle.script_run.proofs.InPlaceLemmas.{on_disk}
use Rattle.script_run.proofs.in_place.run_on_disk_in_place.Goals as goal

pub returns-in-Ok-clause-run : goal.returns-in-Ok-clause-run
returns-in-Ok-clause-run g c = λ sure.
    let loaded = c.in-Ok.ensures in
    on_disk c.args.options _ _ _ _ _ _ c.in-Ok.bench.state loaded.place
    (c.loaded_in_place-run.ensures.run _ _ (failures c.args.room.now 0) (failures c.loaded_in_place-run.new.room c.loaded_in_place-run.new.bench.reads.failures) (spans_on_disk c.in-Ok.bench.state.on_disk _ _ _ _ c.in-Ok.ensures.memory.never_falls (omega arith) (omega arith) (omega arith))
    (loads_whole c.in-Ok.bench.state c.loaded_in_place-run.new.bench.loaded _ _ (c.loaded_in_place-run.ensures.loaded ∙ loaded.loaded) loaded.cut loaded.fields loaded.reading loaded.limits) loaded.loaded sure)
