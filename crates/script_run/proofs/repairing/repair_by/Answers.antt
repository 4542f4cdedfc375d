use Rattle.std.proofs.Common.{refl}
use Rattle.journal_save.specs.Disk.{laid_all}
use Rattle.script_run.proofs.InPlaceLemmas.{may_begin, saved, refused}
use Rattle.script_run.proofs.repairing.repair_by.Goals as goal

pub save_in_place-requires-clause-settled : goal.save_in_place-requires-clause-settled
save_in_place-requires-clause-settled g c = may_begin _ _ c.in_default.ensures.ok

pub returns-in-Ok-clause-repairs : goal.returns-in-Ok-clause-repairs
returns-in-Ok-clause-repairs g c = λ held. (
  refl,
  saved held (laid_all (g.E.Edits.all c.args.edits.now) held) (g.E.Edits.all c.args.edits.now) refl _ _ _ c.in_default.ensures.ok c.in_default.ensures.still c.in-Ok.ensures.any_moment c.in-Ok.ensures.saved,
)

pub returns-in-Err-save_in_place-clause-repairs : goal.returns-in-Err-save_in_place-clause-repairs
returns-in-Err-save_in_place-clause-repairs g c = λ held. (
  refl,
  refused held (laid_all (g.E.Edits.all c.args.edits.now) held) (g.E.Edits.all c.args.edits.now) refl _ _ _ c.in_default.ensures.ok c.in_default.ensures.still c.in-Err-save_in_place.ensures.any_moment c.in-Err-save_in_place.error c.in-Err-save_in_place.ensures.refused,
)

pub returns-in-Err-clause-repairs : goal.returns-in-Err-clause-repairs
returns-in-Err-clause-repairs g c = λ held. (refl, c.in-Err.ensures.still)
