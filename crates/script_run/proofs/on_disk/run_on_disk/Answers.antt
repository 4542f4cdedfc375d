use Rattle.std.proofs.Common.{◌∙◌, Bool, arith, subst}
use Rattle.script_run.specs.Causes.{failures}
use Rattle.script_run.specs.LineLooks.{after_looks}
use Rattle.script_run.specs.Loading.{Loads}
use Rattle.script_run.specs.OnDisk.{read_whole, unread}
use Rattle.script_run.proofs.CauseLemmas.{spans_on_disk}
use Rattle.script_run.proofs.EndLemmas.{loads_whole, runs_on_disk}
use Rattle.script_run.proofs.on_disk.run_on_disk.Goals as goal

pub returns-in-Ok-clause-run : goal.returns-in-Ok-clause-run
returns-in-Ok-clause-run g c = λ sure.
    let loaded = c.in-Ok.ensures in
    runs_on_disk c.args.options _ _ _ c.in-Ok.bench.state loaded.place
    (c.run_loaded-end.ensures.run _ _ (failures c.args.room.now 0) (failures c.run_loaded-end.new.room c.run_loaded-end.new.bench.reads.failures) (spans_on_disk c.in-Ok.bench.state.on_disk _ _ _ _ c.in-Ok.ensures.memory.never_falls (omega arith) (omega arith) (omega arith))
    (loads_whole c.in-Ok.bench.state c.run_loaded-end.new.bench.loaded _ _ (c.run_loaded-end.ensures.loaded ∙ loaded.loaded) loaded.cut loaded.fields loaded.reading loaded.limits) sure)

pub returns-in-Ok-clause-looks : goal.returns-in-Ok-clause-looks
returns-in-Ok-clause-looks g c = λ sure.
    let loaded = c.in-Ok.ensures in
    let bytes = c.run_loaded-end.new.bench.loaded in
    let loads = loads_whole c.in-Ok.bench.state bytes c.args.options.reading c.args.options.limits (c.run_loaded-end.ensures.loaded ∙ loaded.loaded) loaded.cut loaded.fields loaded.reading loaded.limits in (
      after_looks c.in-Ok.bench.state c.in-Ok.bench.looks,
      subst (λ (on_disk : Bool). Loads (unread bytes) read_whole c.args.options.reading c.args.options.limits on_disk c.in-Ok.bench.state) loaded.place loads,
      loaded.looks,
      c.run_loaded-end.ensures.looks sure,
    )
