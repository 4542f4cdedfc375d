use Rattle.std.proofs.Common.{◌-◌, ◌+◌, ◌*◌, ◌≡◌, ◌≤◌, length}
use Rattle.journal_save.specs.Disk.{Over}
use Rattle.journal_save.proofs.Pieces.{IsPuttingBack}
use Rattle.journal_save.proofs.recovery.put_back.Given as goal

abbrev pub invariant-pieces : goal.invariant-pieces
invariant-pieces g l = record {
  room : length l.room ≡ 65536;
  cause : g.D.Disk.failed l.disk ≡ g.D.Disk.failed l.fn.disk;
  numbers : 40 + 16 * l.back.pieces + l.back.bytes ≡ l.from;
  within : l.from ≤ l.end;
  back : Over (IsPuttingBack l.file l.from (l.size - 16) l.back) (g.D.Disk.disk l.fn.disk) (g.D.Disk.disk l.disk);
}

abbrev pub decreases-pieces : goal.decreases-pieces
decreases-pieces g l = l.end - l.from
