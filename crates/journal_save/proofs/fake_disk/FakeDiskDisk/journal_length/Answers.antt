use Rattle.std.proofs.Common.{sym, ap, ◌∙◌}
use Rattle.journal_save.specs.declared.fake_disk.Moment.{Moment}
use Rattle.journal_save.proofs.FakeLemmas.{note_long}
use Rattle.journal_save.proofs.fake_disk.FakeDiskDisk.journal_length.Goals as goal

pub returns-in-Some-clause-length : goal.returns-in-Some-clause-length
returns-in-Some-clause-length c = note_long _ c.in-Some.note c.length_of.result (ap (λ (m : Moment). m.journal) (sym c.is_refused.ensures.now) ∙ c.in-Some.is) c.length_of.ensures
