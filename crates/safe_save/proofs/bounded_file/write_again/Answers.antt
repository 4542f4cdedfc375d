use Rattle.safe_save.proofs.WriteLemmas.{Keeps-then, Keeps-twice, Keeps-self}
use Rattle.safe_save.proofs.bounded_file.write_again.Goals as goal

pub returns-in_default-clause-bytes : goal.returns-in_default-clause-bytes
returns-in_default-clause-bytes g c = Keeps-twice _ _ _ c.tries.invariant c.in-Err.ensures.bytes

pub returns-in_default-2-clause-bytes : goal.returns-in_default-2-clause-bytes
returns-in_default-2-clause-bytes g c = Keeps-then _ _ _ c.write.result _ c.tries.invariant c.write.ensures.bytes

pub tries-preserved : goal.tries-preserved
tries-preserved g c = Keeps-twice _ _ _ c.tries.invariant c.in-Err.ensures.bytes

pub tries-init : goal.tries-init
tries-init g c = Keeps-self _
