use Rattle.std.proofs.Common.{◌-◌, ◌≡◌, ◌≤◌, List, ℕ, length}
use Rattle.journal_save.specs.Disk.{Shows}
use Rattle.journal_save.proofs.Walks.{IsWalked}
use Rattle.journal_save.proofs.listing.check_pieces.Given as goal

abbrev pub invariant-pieces : goal.invariant-pieces
invariant-pieces g l = record {
  same : g.D.Disk.disk l.disk ≡ g.D.Disk.disk l.fn.disk;
  room : length l.room ≡ 65536;
  cause : g.D.Disk.failed l.disk ≡ g.D.Disk.failed l.fn.disk;
  walked : (bytes : List ℕ) → Shows (g.D.Disk.disk l.fn.disk) bytes → l.end ≤ length bytes → IsWalked l.file l.from l.end bytes l.fn.hasher l.hasher;
}

abbrev pub decreases-pieces : goal.decreases-pieces
decreases-pieces g l = l.end - l.from
