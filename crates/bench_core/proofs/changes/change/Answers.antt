use Rattle.bench_core.proofs.ChangeLemmas.{none_told, on_err, refused_too, rises_too, tells_too}
use Rattle.bench_core.proofs.changes.change.Goals as goal

pub returns-in_err-apply-in_default : goal.returns-in_err-apply-in_default
returns-in_err-apply-in_default c = record {
  step = λ sure. refused_too _ _ c.args.volume.now.state c.apply-in_default.new.self.state c.args.edit.now c.in_err-apply-in_default.field-0.0 c.from_residual-in_err-apply-in_default.result
      c.from_residual-in_err-apply-in_default.ensures.1 (c.in_err-apply-in_default.ensures.step sure);
  err = on_err _ c.from_residual-in_err-apply-in_default.result c.from_residual-in_err-apply-in_default.ensures.1 c.in_err-apply-in_default.ensures.err;
  same = c.in_err-apply-in_default.ensures.same;
  reads = c.in_err-apply-in_default.ensures.reads;
  reads_tell = tells_too _ c.from_residual-in_err-apply-in_default.result c.args.volume.now.reads c.apply-in_default.new.self.reads c.from_residual-in_err-apply-in_default.ensures.1
      c.in_err-apply-in_default.ensures.reads_tell;
  loaded = c.in_err-apply-in_default.ensures.loaded;
  looks = c.in_err-apply-in_default.ensures.looks;
  moved = none_told _ _ c.from_residual-in_err-apply-in_default.result c.from_residual-in_err-apply-in_default.ensures.1;
  told = none_told _ _ c.from_residual-in_err-apply-in_default.result c.from_residual-in_err-apply-in_default.ensures.1;
  memory = rises_too _ c.from_residual-in_err-apply-in_default.result _ _ c.from_residual-in_err-apply-in_default.ensures.1 c.in_err-apply-in_default.ensures.memory;
}
