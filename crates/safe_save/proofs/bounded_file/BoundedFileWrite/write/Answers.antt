use Rattle.safe_save.proofs.WriteLemmas.{Appends-front}
use Rattle.safe_save.proofs.bounded_file.BoundedFileWrite.write.Goals as goal

pub returns-clause-bytes : goal.returns-clause-bytes
returns-clause-bytes g c = rw (← c.self.view_is) (Appends-front _ _ c.in_ok-count.count c.min-most.result _ c.in_ok-count.ensures.bound c.in_ok-count.ensures.bytes)
