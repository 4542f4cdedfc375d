use Rattle.std.proofs.Common.{true, Bool, List, ℕ, subst, sym}
use Rattle.frame_cut.specs.Volume.{bytes_of}
use Rattle.script_run.specs.InPlace.{Repairs}
use Rattle.script_run.proofs.PlaceLemmas.{cause_of}
use Rattle.script_run.proofs.in_place.repaired.Goals as goal

pub returns-in-Ok-clause-repairs : goal.returns-in-Ok-clause-repairs
returns-in-Ok-clause-repairs g c =
    let bytes : List ℕ = bytes_of c.args.bench.now.state.volume in
    subst (λ (b : Bool). Repairs b c.args.bench.now.loaded bytes c.repair_by.result (g.D.Disk.disk c.args.disk.now) (g.D.Disk.disk c.repair_by.new.disk)) (sym c.if-not-is_asked.false)
    (subst (λ (l : List ℕ). Repairs true c.args.bench.now.loaded l c.repair_by.result (g.D.Disk.disk c.args.disk.now) (g.D.Disk.disk c.repair_by.new.disk)) c.in-Ok.ensures.law (c.repair_by.ensures.repairs c.args.bench.now.loaded))

pub returns-in-Ok-clause-cause : goal.returns-in-Ok-clause-cause
returns-in-Ok-clause-cause g c = cause_of c.repair_by.result (g.D.Disk.failed c.repair_by.new.disk) c.repair_by.ensures.cause
