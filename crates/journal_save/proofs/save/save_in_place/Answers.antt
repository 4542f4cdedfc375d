use Rattle.std.proofs.Common.{List, subst}
use Rattle.journal_codes.specs.Codes.{Span}
use Rattle.journal_save.specs.Disk.{Over}
use Rattle.journal_save.specs.Saving.{IsOver}
use Rattle.journal_save.proofs.PuttingBack.{taken_moments, recovered_durable, writing_recoverable}
use Rattle.journal_save.proofs.Whole.{IsMoments, made_untouched, made_or, made_free, untouched_either, undone_moments, undone_either, undone, finished_moments}
use Rattle.journal_save.proofs.save.save_in_place.Goals as goal

pub returns-in-Err-clause-refused : goal.returns-in-Err-clause-refused
returns-in-Err-clause-refused g c = c.in-Err.ensures.untouched

pub returns-in-Err-clause-any_moment : goal.returns-in-Err-clause-any_moment
returns-in-Err-clause-any_moment g c = untouched_either _ _ (g.E.Edits.all c.args.edits.now) c.in-Err.ensures.untouched

pub returns-in-Ok-finish-clause-any_moment : goal.returns-in-Ok-finish-clause-any_moment
returns-in-Ok-finish-clause-any_moment g c =
    made_or _ _ _ c.in_default.ensures.free (IsMoments (g.E.Edits.all c.args.edits.now)) (finished_moments _ _ _ _ (g.E.Edits.all c.args.edits.now) (made_untouched _ _ c.in_default.ensures.free) c.in_default.ensures.ok c.in-Ok.ensures.writing (subst (λ (ss : List Span). Over (IsOver ss) (g.D.Disk.disk c.seal.new.disk) (g.D.Disk.disk c.write_over.new.disk)) c.in_default.ensures.all c.in-Ok.ensures.ok) c.in-Ok-finish.ensures.any_moment)

pub returns-in-Ok-finish-clause-free : goal.returns-in-Ok-finish-clause-free
returns-in-Ok-finish-clause-free g c =
    made_free _ _ _ c.in_default.ensures.free (IsMoments (g.E.Edits.all c.args.edits.now)) (finished_moments _ _ _ _ (g.E.Edits.all c.args.edits.now) (made_untouched _ _ c.in_default.ensures.free) c.in_default.ensures.ok c.in-Ok.ensures.writing (subst (λ (ss : List Span). Over (IsOver ss) (g.D.Disk.disk c.seal.new.disk) (g.D.Disk.disk c.write_over.new.disk)) c.in_default.ensures.all c.in-Ok.ensures.ok) c.in-Ok-finish.ensures.any_moment)

pub returns-in-Err-finish-clause-any_moment : goal.returns-in-Err-finish-clause-any_moment
returns-in-Err-finish-clause-any_moment g c =
    made_or _ _ _ c.in_default.ensures.free (IsMoments (g.E.Edits.all c.args.edits.now)) (finished_moments _ _ _ _ (g.E.Edits.all c.args.edits.now) (made_untouched _ _ c.in_default.ensures.free) c.in_default.ensures.ok c.in-Ok.ensures.writing (subst (λ (ss : List Span). Over (IsOver ss) (g.D.Disk.disk c.seal.new.disk) (g.D.Disk.disk c.write_over.new.disk)) c.in_default.ensures.all c.in-Ok.ensures.ok) c.in-Err-finish.ensures.any_moment)

pub returns-in-Ok-recover-clause-refused : goal.returns-in-Ok-recover-clause-refused
returns-in-Ok-recover-clause-refused g c =
    undone _ _ _ _ (g.E.Edits.all c.args.edits.now) (made_untouched _ _ c.in_default.ensures.free) c.in_default.ensures.ok c.in-Err-write_over.ensures.writing (taken_moments _ _ _ c.in-Err-write_over.ensures.writing c.in-Ok-recover.ensures.any_moment) (recovered_durable _ _ _ c.in-Ok-recover.ensures.recovered)

pub returns-in-Ok-recover-clause-any_moment : goal.returns-in-Ok-recover-clause-any_moment
returns-in-Ok-recover-clause-any_moment g c =
    made_or _ _ _ c.in_default.ensures.free (IsMoments (g.E.Edits.all c.args.edits.now)) (undone_either _ _ _ _ (g.E.Edits.all c.args.edits.now) (made_untouched _ _ c.in_default.ensures.free) c.in_default.ensures.ok c.in-Err-write_over.ensures.writing (taken_moments _ _ _ c.in-Err-write_over.ensures.writing c.in-Ok-recover.ensures.any_moment))

pub returns-in-Err-recover-clause-refused : goal.returns-in-Err-recover-clause-refused
returns-in-Err-recover-clause-refused g c =
    undone_moments _ _ _ _ (g.E.Edits.all c.args.edits.now) (made_untouched _ _ c.in_default.ensures.free) c.in_default.ensures.ok c.in-Err-write_over.ensures.writing (taken_moments _ _ _ c.in-Err-write_over.ensures.writing c.in-Err-recover.ensures.any_moment)

pub returns-in-Err-recover-clause-any_moment : goal.returns-in-Err-recover-clause-any_moment
returns-in-Err-recover-clause-any_moment g c =
    made_or _ _ _ c.in_default.ensures.free (IsMoments (g.E.Edits.all c.args.edits.now)) (undone_either _ _ _ _ (g.E.Edits.all c.args.edits.now) (made_untouched _ _ c.in_default.ensures.free) c.in_default.ensures.ok c.in-Err-write_over.ensures.writing (taken_moments _ _ _ c.in-Err-write_over.ensures.writing c.in-Err-recover.ensures.any_moment))

pub recover-requires-clause-recoverable : goal.recover-requires-clause-recoverable
recover-requires-clause-recoverable g c = writing_recoverable _ _ c.in-Err-write_over.ensures.writing
