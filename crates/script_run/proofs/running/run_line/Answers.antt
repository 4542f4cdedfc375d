use Rattle.std.proofs.Common.{Some, Ok, arith}
use Rattle.script_run.specs.Causes.{failures}
use Rattle.script_run.proofs.CauseLemmas.{between_in, command_in}
use Rattle.script_run.proofs.running.run_line.Goals as goal

pub returns-in-Ok-Some-clause-step : goal.returns-in-Ok-Some-clause-step
returns-in-Ok-Some-clause-step c = λ sure printed reads behind prints. (
  Ok (Some c.in-Ok-Some.command),
  rw (c.in-Ok-Some.field-0-is, c.float_format.ensures, c.count-traces.ensures, c.volume.ensures) at c.in-Ok-Some.ensures.read,
  command_in _ _ (between_in (failures c.args.room.now c.args.bench.now.reads.failures) (failures c.run_command.new.room reads.failures) (failures _ c.args.bench.now.reads.failures) (failures c.run_command.new.room reads.failures) c.in-Ok-Some.ensures.memory.never_falls (omega arith) (omega arith) (omega arith)) c.args.bench.now.state c.in-Ok-Some.command printed c.run_command.new.bench.state (c.run_command.ensures.step sure printed reads behind prints),
)
