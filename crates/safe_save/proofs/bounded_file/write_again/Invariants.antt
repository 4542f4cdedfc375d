use Rattle.std.specs.Io.KnownBytes.{Keeps}
use Rattle.safe_save.proofs.bounded_file.write_again.Given as goal

abbrev pub invariant-tries : goal.invariant-tries
invariant-tries g l = Keeps (g.W.Write.contents l.fn.file) (g.W.Write.contents l.file)
