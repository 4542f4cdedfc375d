use Rattle.journal_save.proofs.Sealing.{settles}
use Rattle.journal_save.proofs.Settling.{lost_stays, settle_stays}
use Rattle.journal_save.proofs.save.settle.Goals as goal

pub returns-clause-ok : goal.returns-clause-ok
returns-clause-ok g c = settles c.sync_folder.result _ _ _ c.in_ok-sync_file.ensures.turns c.sync_folder.ensures.turns

pub returns-clause-still : goal.returns-clause-still
returns-clause-still g c = settle_stays c.sync_folder.result _ _ _ c.in_ok-sync_file.ensures.turns c.sync_folder.ensures.turns

pub returns-in_err-sync_file-clause-still : goal.returns-in_err-sync_file-clause-still
returns-in_err-sync_file-clause-still g c = lost_stays _ _ c.in_err-sync_file.ensures.turns
