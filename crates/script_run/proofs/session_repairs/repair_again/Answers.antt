use Rattle.std.proofs.Common.{◌∙◌, sym, length}
use Rattle.std.proofs.lemmas.Bool.{eqb-true}
use Rattle.script_run.proofs.PlaceLemmas.{repairs_first}
use Rattle.script_run.proofs.session_repairs.repair_again.Goals as goal

pub returns-then-is_empty : goal.returns-then-is_empty
returns-then-is_empty g c =
    repairs_first c.args.base.now.bytes c.args.written.now c.args.edits.all c.repair_by.result (g.D.Disk.disk c.args.disk.now) (g.D.Disk.disk c.repair_by.new.disk)
    (eqb-true (length c.args.written.now) 0 (sym c.is_empty.ensures ∙ c.if-is_empty.true)) c.repair_by.ensures.repairs
