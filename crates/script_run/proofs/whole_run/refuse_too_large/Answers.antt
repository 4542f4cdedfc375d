use Rattle.script_run.proofs.whole_run.refuse_too_large.Goals as goal

pub returns : goal.returns
returns g c = rw c.load_fault_line.ensures at c.tell.ensures
