use Rattle.std.proofs.Common.{[], slice_range, refl}
use Rattle.std.proofs.lemmas.Result.{err_from_is_err_and}
use Rattle.base_file.proofs.HeldLemmas.{IsStill-refl}
use Rattle.edit_overlay.specs.Saving.{progress}
use Rattle.trace_store.proofs.FallLemmas.{IsReread-refl}
use Rattle.edit_overlay.proofs.SavingLemmas.{nothing, read_refused, refused_at, then_waits, waits_more}
use Rattle.edit_overlay.proofs.writing_out.write_range.Goals as goal

pub returns-then-from-waiting-clause-same : goal.returns-then-from-waiting-clause-same
returns-then-from-waiting-clause-same g c = IsReread-refl c.args.store.now

pub returns-then-from-waiting-clause-saved : goal.returns-then-from-waiting-clause-saved
returns-then-from-waiting-clause-saved g c =
    λ _. rw (c.if-from-waiting.true) (waits_more _ c.args.store.now.loaded.bytes c.args.waiting.now c.args.to (rw c.if-from-waiting.true at c.requires.range))

pub returns-in_err-flush-clause-saved : goal.returns-in_err-flush-clause-saved
returns-in_err-flush-clause-saved g c =
    let file = c.args.store.now.loaded.bytes in
    let p = err_from_is_err_and c.from_residual.result c.from_residual.ensures.1 in
    λ sure. refused_at c.from_residual.result c.in_err-flush.field-0.0 _ _ _ _ _ (progress file c.flush.new.waiting) [] [] (slice_range file c.args.from c.args.to) _ (rw p.2 at p.1) refl (nothing _ _) (c.in_err-flush.ensures.saved sure)

pub returns-in_err-flush-clause-read : goal.returns-in_err-flush-clause-read
returns-in_err-flush-clause-read g c =
    let loaded = c.args.store.now.loaded in
    let p = err_from_is_err_and c.from_residual.result c.from_residual.ensures.1 in
    read_refused c.from_residual.result c.in_err-flush.field-0.0 loaded loaded c.flush.new.store.loaded (rw p.2 at p.1) (IsStill-refl loaded) c.in_err-flush.ensures.read

pub returns-clause-saved : goal.returns-clause-saved
returns-clause-saved g c =
    λ sure. then_waits _ _ _ c.args.store.now.loaded.bytes c.flush.new.waiting c.args.from c.args.to c.in_ok-flush.ensures.empty (c.in_ok-flush.ensures.saved sure)
