use Rattle.std.specs.Prelude.{List, ℕ}
use Rattle.std.specs.Io.KnownBytes.{Consumes}
use Rattle.md5.specs.Md5.{Holds}
use Rattle.safe_save.proofs.digest.digest_of.Given as goal

-- the hasher holds what was read so far
abbrev pub invariant-pieces : goal.invariant-pieces
invariant-pieces g l = (bytes : List ℕ) × Holds l.hasher bytes × Consumes (g.F.Read.remaining l.fn.file) (g.F.Read.remaining l.file) bytes
