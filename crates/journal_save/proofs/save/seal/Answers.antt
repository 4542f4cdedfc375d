use Rattle.journal_save.specs.Saving.{ranges, WasFree, IsUntouched}
use Rattle.std.proofs.Common.{inr}
use Rattle.journal_save.proofs.Moments.{over_knows, over_map}
use Rattle.journal_save.proofs.Sealing.{not_created, quiet_now, created_quiet, created_fresh, created_untouched, created_guarding}
use Rattle.journal_save.proofs.Whole.{cleaned_up}
use Rattle.journal_save.proofs.save.seal.Goals as goal

pub returns-in_err-create-clause-untouched : goal.returns-in_err-create-clause-untouched
returns-in_err-create-clause-untouched g c = not_created _ _ c.in_err-create.ensures.turns

pub fill-requires-clause-quiet : goal.fill-requires-clause-quiet
fill-requires-clause-quiet g c = created_quiet _ _ (quiet_now _ c.requires.settled c.in_ok-create.ensures.absent) c.in_ok-create.ensures.turns

pub fill-requires-clause-empty : goal.fill-requires-clause-empty
fill-requires-clause-empty g c = created_fresh _ _ c.in_ok-create.ensures.turns

pub returns-in-Ok-clause-ok : goal.returns-in-Ok-clause-ok
returns-in-Ok-clause-ok g c = created_guarding _ _ _ (ranges (g.E.Edits.all c.args.edits.now)) c.in_ok-create.ensures.turns c.in-Ok.ensures.ok

pub returns-in-Ok-clause-free : goal.returns-in-Ok-clause-free
returns-in-Ok-clause-free g c = over_knows WasFree IsUntouched _ _ c.in_ok-create.ensures.absent (created_untouched _ _ _ (quiet_now _ c.requires.settled c.in_ok-create.ensures.absent) c.in_ok-create.ensures.turns c.in-Ok.ensures.untouched)

pub returns-in-Ok-clause-untouched : goal.returns-in-Ok-clause-untouched
returns-in-Ok-clause-untouched g c = over_map _ _ (returns-in-Ok-clause-free g c) (λ d e h. inr h)

pub returns-in-Err-clause-untouched : goal.returns-in-Err-clause-untouched
returns-in-Err-clause-untouched g c =
    over_map _ _ (over_knows WasFree IsUntouched _ _ c.in_ok-create.ensures.absent (created_untouched _ _ _ (quiet_now _ c.requires.settled c.in_ok-create.ensures.absent) c.in_ok-create.ensures.turns (cleaned_up _ _ _ c.in-Err.ensures.untouched c.clean.ensures.cleaned))) (λ d e h. inr h)
