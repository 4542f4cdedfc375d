use Rattle.std.proofs.Common.{◌∙◌, sym, map}
use Rattle.frame_cut.specs.Volume.{bytes_of}
use Rattle.edit_pieces.specs.Further.{range_at}
use Rattle.script_run.proofs.PlaceLemmas.{repairing_again, tries_written, tries_unwritten}
use Rattle.script_run.proofs.session_repairs.try_repair.Goals as goal
use Rattle.script_run.proofs.session_repairs.try_repair.Goals.{then-is_written, else-is_written}

pub returns : goal.returns
returns g c =
    let tried = repairing_again c.args.bench.now.loaded c.base_of.result.now.bytes c.args.written.now.items c.as_slice.result.now (g.D.Disk.disk c.args.disk.now) (g.D.Disk.disk c.repair_again-attempt.new.disk) c.in-Ok.edits.all c.heads_of.new.edits.all
    (bytes_of c.args.bench.now.state.volume) c.repair_again-attempt.result c.base_of.ensures c.as_slice.ensures.value c.heads_of.ensures.all c.in-Ok.ensures.law c.repair_again-attempt.ensures in
    elim c.if-is_written.branch [
      | then-is_written w ↦ rw w.written-is (
          tries_written c.args.bench.now.loaded (map range_at c.args.written.now.items) c.in-Ok-heads_of.heads.items c.in-Ok.edits.all (g.D.Disk.disk c.args.disk.now) (g.D.Disk.disk c.repair_again-attempt.new.disk)
          (bytes_of c.args.bench.now.state.volume) c.repair_again-attempt.result (sym c.is_written.ensures ∙ w.if-is_written.true) c.in-Ok-heads_of.ensures.ranges c.in-Ok.ensures.law tried)
      | else-is_written w ↦ rw w.written-is (
          tries_unwritten c.args.bench.now.loaded (map range_at c.args.written.now.items) (g.D.Disk.disk c.args.disk.now) (g.D.Disk.disk c.repair_again-attempt.new.disk)
          (bytes_of c.args.bench.now.state.volume) c.repair_again-attempt.result (sym c.is_written.ensures ∙ w.if-is_written.false) tried)
    ]
