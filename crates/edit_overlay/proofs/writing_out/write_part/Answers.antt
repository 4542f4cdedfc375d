use Rattle.edit_overlay.proofs.SavingLemmas.{taken_more, taken_less}
use Rattle.edit_overlay.proofs.writing_out.write_part.Goals as goal

pub returns-in-Ok-clause-saved : goal.returns-in-Ok-clause-saved
returns-in-Ok-clause-saved g c = taken_more _ _ c.args.written.now c.args.bytes.now c.in-Ok.ensures.bytes

pub returns-in-Err-clause-saved : goal.returns-in-Err-clause-saved
returns-in-Err-clause-saved g c = taken_less _ _ c.args.written.now c.in-Err.fault.written c.args.bytes.now c.in-Err.ensures.bytes
