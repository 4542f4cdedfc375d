use Rattle.std.proofs.Common.{rules, ◌∙◌, Some}
use Rattle.std.proofs.lemmas.Result.{err_from_is_err_and}
use Rattle.journal_save.specs.Disk.{Over, IsLong}
use Rattle.journal_save.specs.Saving.{IsRecoverable, IsGuarded, IsThere, IsRecovered, IsNotRecovered}
use Rattle.journal_save.proofs.Moments.{known_map, known_same}
use Rattle.journal_save.proofs.Walks.{if_err}
use Rattle.journal_save.proofs.PuttingBack.{checked, not_checked, unchanged, from_same, writing_moments, no_refusal, nothing_there, known_found, known_none, not_synced, back_guarded, back_moments, back_durable, IsMoments}
use Rattle.journal_save.proofs.recovery.recover.Goals as goal

pub returns-in_err-size-clause-any_moment : goal.returns-in_err-size-clause-any_moment
returns-in_err-size-clause-any_moment g c = unchanged _ _ c.requires.recoverable c.in_err-size.ensures.same

pub returns-in_default-clause-recovered : goal.returns-in_default-clause-recovered
returns-in_default-clause-recovered g c = nothing_there _ _ c.requires.recoverable (known_none _ c.in_ok-size.field-0 (search rules) c.in_ok-size.ensures.length) c.in_ok-size.ensures.same

pub returns-in_default-clause-any_moment : goal.returns-in_default-clause-any_moment
returns-in_default-clause-any_moment g c = unchanged _ _ c.requires.recoverable c.in_ok-size.ensures.same

pub returns-in_err-check-clause-any_moment : goal.returns-in_err-check-clause-any_moment
returns-in_err-check-clause-any_moment g c = unchanged _ _ c.requires.recoverable (c.in_err-check.ensures.same ∙ c.in_ok-size.ensures.same)

pub returns-in_err-check-clause-refused : goal.returns-in_err-check-clause-refused
returns-in_err-check-clause-refused g c =
    let p = err_from_is_err_and c.from_residual-in_err-check.result c.from_residual-in_err-check.ensures.1 in
    if_err (λ error. Over (IsNotRecovered error) (g.D.Disk.disk c.args.disk.now) (g.D.Disk.disk c.check.new.disk)) c.from_residual-in_err-check.result c.in_err-check.field-0.0 (rw p.2 at p.1)
    (from_same (IsNotRecovered c.in_err-check.field-0.0) (g.D.Disk.disk c.args.disk.now) (g.D.Disk.disk c.journal_length.new.self) (g.D.Disk.disk c.check.new.disk) c.in_ok-size.ensures.same
    (not_checked (g.D.Disk.disk c.journal_length.new.self) (g.D.Disk.disk c.check.new.disk) c.facts-facts.result c.in-Some.size c.in_err-check.field-0.0 (known_same (λ d. IsRecoverable d.now) (g.D.Disk.disk c.args.disk.now) (g.D.Disk.disk c.journal_length.new.self) c.requires.recoverable c.in_ok-size.ensures.same) (known_same (λ d. IsLong (Some c.in-Some.size) d.now.journal) (g.D.Disk.disk c.args.disk.now) (g.D.Disk.disk c.journal_length.new.self) (known_found _ c.in_ok-size.field-0 c.in-Some.size c.in-Some.is c.in_ok-size.ensures.length) c.in_ok-size.ensures.same) c.facts-facts.ensures c.in_err-check.ensures.refused c.in_err-check.ensures.same))

pub put_back-requires-clause-guarded : goal.put_back-requires-clause-guarded
put_back-requires-clause-guarded g c =
    (known_same (λ d. IsGuarded d.now × IsThere c.facts-facts.result.length c.in-Some.size d.now) (g.D.Disk.disk c.journal_length.new.self) (g.D.Disk.disk c.check.new.disk) (checked (g.D.Disk.disk c.journal_length.new.self) c.facts-facts.result c.in-Some.size (known_same (λ d. IsRecoverable d.now) (g.D.Disk.disk c.args.disk.now) (g.D.Disk.disk c.journal_length.new.self) c.requires.recoverable c.in_ok-size.ensures.same) (known_same (λ d. IsLong (Some c.in-Some.size) d.now.journal) (g.D.Disk.disk c.args.disk.now) (g.D.Disk.disk c.journal_length.new.self) (known_found _ c.in_ok-size.field-0 c.in-Some.size c.in-Some.is c.in_ok-size.ensures.length) c.in_ok-size.ensures.same) c.facts-facts.ensures c.in_ok-check.ensures.taken) c.in_ok-check.ensures.same)

pub returns-in_err-back-clause-refused : goal.returns-in_err-back-clause-refused
returns-in_err-back-clause-refused g c =
    let p = err_from_is_err_and c.from_residual-in_err-back.result c.from_residual-in_err-back.ensures.1 in
    if_err (λ error. Over (IsNotRecovered error) (g.D.Disk.disk c.args.disk.now) (g.D.Disk.disk c.put_back.new.disk)) c.from_residual-in_err-back.result c.in_err-back.field-0.0 (rw p.2 at p.1)
    (from_same (IsNotRecovered c.in_err-back.field-0.0) (g.D.Disk.disk c.args.disk.now) (g.D.Disk.disk c.check.new.disk) (g.D.Disk.disk c.put_back.new.disk) (c.in_ok-check.ensures.same ∙ c.in_ok-size.ensures.same) (no_refusal _ _ c.in_err-back.field-0.0 c.in_err-back.ensures.refused))

pub returns-in_err-back-clause-any_moment : goal.returns-in_err-back-clause-any_moment
returns-in_err-back-clause-any_moment g c =
    from_same IsMoments (g.D.Disk.disk c.args.disk.now) (g.D.Disk.disk c.check.new.disk) (g.D.Disk.disk c.put_back.new.disk) (c.in_ok-check.ensures.same ∙ c.in_ok-size.ensures.same) (writing_moments _ _ c.in_err-back.ensures.writing)

pub returns-in_err-sync_file-clause-any_moment : goal.returns-in_err-sync_file-clause-any_moment
returns-in_err-sync_file-clause-any_moment g c =
    from_same IsMoments (g.D.Disk.disk c.args.disk.now) (g.D.Disk.disk c.check.new.disk) (g.D.Disk.disk c.sync_file.new.self) (c.in_ok-check.ensures.same ∙ c.in_ok-size.ensures.same)
    (writing_moments _ _ (not_synced (g.D.Disk.disk c.check.new.disk) (g.D.Disk.disk c.put_back.new.disk) (g.D.Disk.disk c.sync_file.new.self) (known_map (λ d. IsGuarded d.now × IsThere c.facts-facts.result.length c.in-Some.size d.now) (λ d. IsGuarded d.now) _ (known_same (λ d. IsGuarded d.now × IsThere c.facts-facts.result.length c.in-Some.size d.now) (g.D.Disk.disk c.journal_length.new.self) (g.D.Disk.disk c.check.new.disk) (checked (g.D.Disk.disk c.journal_length.new.self) c.facts-facts.result c.in-Some.size (known_same (λ d. IsRecoverable d.now) (g.D.Disk.disk c.args.disk.now) (g.D.Disk.disk c.journal_length.new.self) c.requires.recoverable c.in_ok-size.ensures.same) (known_same (λ d. IsLong (Some c.in-Some.size) d.now.journal) (g.D.Disk.disk c.args.disk.now) (g.D.Disk.disk c.journal_length.new.self) (known_found _ c.in_ok-size.field-0 c.in-Some.size c.in-Some.is c.in_ok-size.ensures.length) c.in_ok-size.ensures.same) c.facts-facts.ensures c.in_ok-check.ensures.taken) c.in_ok-check.ensures.same) (λ d h. h.0)) c.in_ok-back.ensures.ok c.in_ok-back.ensures.file c.in_ok-back.ensures.writing c.in_err-sync_file.ensures.turns))

pub finish-requires-clause-guarded : goal.finish-requires-clause-guarded
finish-requires-clause-guarded g c =
    back_guarded (g.D.Disk.disk c.check.new.disk) (g.D.Disk.disk c.put_back.new.disk) (g.D.Disk.disk c.sync_file.new.self) (known_map (λ d. IsGuarded d.now × IsThere c.facts-facts.result.length c.in-Some.size d.now) (λ d. IsGuarded d.now) _ (known_same (λ d. IsGuarded d.now × IsThere c.facts-facts.result.length c.in-Some.size d.now) (g.D.Disk.disk c.journal_length.new.self) (g.D.Disk.disk c.check.new.disk) (checked (g.D.Disk.disk c.journal_length.new.self) c.facts-facts.result c.in-Some.size (known_same (λ d. IsRecoverable d.now) (g.D.Disk.disk c.args.disk.now) (g.D.Disk.disk c.journal_length.new.self) c.requires.recoverable c.in_ok-size.ensures.same) (known_same (λ d. IsLong (Some c.in-Some.size) d.now.journal) (g.D.Disk.disk c.args.disk.now) (g.D.Disk.disk c.journal_length.new.self) (known_found _ c.in_ok-size.field-0 c.in-Some.size c.in-Some.is c.in_ok-size.ensures.length) c.in_ok-size.ensures.same) c.facts-facts.ensures c.in_ok-check.ensures.taken) c.in_ok-check.ensures.same) (λ d h. h.0)) c.in_ok-back.ensures.ok c.in_ok-back.ensures.file c.in_ok-back.ensures.writing c.in_ok-sync_file.ensures.turns

pub returns-in_err-finish-clause-any_moment : goal.returns-in_err-finish-clause-any_moment
returns-in_err-finish-clause-any_moment g c =
    from_same IsMoments (g.D.Disk.disk c.args.disk.now) (g.D.Disk.disk c.check.new.disk) (g.D.Disk.disk c.finish.new.disk) (c.in_ok-check.ensures.same ∙ c.in_ok-size.ensures.same)
    (back_moments (g.D.Disk.disk c.check.new.disk) (g.D.Disk.disk c.put_back.new.disk) (g.D.Disk.disk c.sync_file.new.self) (known_map (λ d. IsGuarded d.now × IsThere c.facts-facts.result.length c.in-Some.size d.now) (λ d. IsGuarded d.now) _ (known_same (λ d. IsGuarded d.now × IsThere c.facts-facts.result.length c.in-Some.size d.now) (g.D.Disk.disk c.journal_length.new.self) (g.D.Disk.disk c.check.new.disk) (checked (g.D.Disk.disk c.journal_length.new.self) c.facts-facts.result c.in-Some.size (known_same (λ d. IsRecoverable d.now) (g.D.Disk.disk c.args.disk.now) (g.D.Disk.disk c.journal_length.new.self) c.requires.recoverable c.in_ok-size.ensures.same) (known_same (λ d. IsLong (Some c.in-Some.size) d.now.journal) (g.D.Disk.disk c.args.disk.now) (g.D.Disk.disk c.journal_length.new.self) (known_found _ c.in_ok-size.field-0 c.in-Some.size c.in-Some.is c.in_ok-size.ensures.length) c.in_ok-size.ensures.same) c.facts-facts.ensures c.in_ok-check.ensures.taken) c.in_ok-check.ensures.same) (λ d h. h.0)) c.in_ok-back.ensures.ok c.in_ok-back.ensures.file c.in_ok-back.ensures.writing c.in_ok-sync_file.ensures.turns (g.D.Disk.disk c.finish.new.disk) c.in_err-finish.ensures.any_moment)

pub returns-clause-any_moment : goal.returns-clause-any_moment
returns-clause-any_moment g c =
    from_same IsMoments (g.D.Disk.disk c.args.disk.now) (g.D.Disk.disk c.check.new.disk) (g.D.Disk.disk c.finish.new.disk) (c.in_ok-check.ensures.same ∙ c.in_ok-size.ensures.same)
    (back_moments (g.D.Disk.disk c.check.new.disk) (g.D.Disk.disk c.put_back.new.disk) (g.D.Disk.disk c.sync_file.new.self) (known_map (λ d. IsGuarded d.now × IsThere c.facts-facts.result.length c.in-Some.size d.now) (λ d. IsGuarded d.now) _ (known_same (λ d. IsGuarded d.now × IsThere c.facts-facts.result.length c.in-Some.size d.now) (g.D.Disk.disk c.journal_length.new.self) (g.D.Disk.disk c.check.new.disk) (checked (g.D.Disk.disk c.journal_length.new.self) c.facts-facts.result c.in-Some.size (known_same (λ d. IsRecoverable d.now) (g.D.Disk.disk c.args.disk.now) (g.D.Disk.disk c.journal_length.new.self) c.requires.recoverable c.in_ok-size.ensures.same) (known_same (λ d. IsLong (Some c.in-Some.size) d.now.journal) (g.D.Disk.disk c.args.disk.now) (g.D.Disk.disk c.journal_length.new.self) (known_found _ c.in_ok-size.field-0 c.in-Some.size c.in-Some.is c.in_ok-size.ensures.length) c.in_ok-size.ensures.same) c.facts-facts.ensures c.in_ok-check.ensures.taken) c.in_ok-check.ensures.same) (λ d h. h.0)) c.in_ok-back.ensures.ok c.in_ok-back.ensures.file c.in_ok-back.ensures.writing c.in_ok-sync_file.ensures.turns (g.D.Disk.disk c.finish.new.disk) c.in_ok-finish.ensures.any_moment)

pub returns-clause-recovered : goal.returns-clause-recovered
returns-clause-recovered g c =
    from_same (IsRecovered (Some c.in_ok-back.back)) (g.D.Disk.disk c.args.disk.now) (g.D.Disk.disk c.check.new.disk) (g.D.Disk.disk c.finish.new.disk) (c.in_ok-check.ensures.same ∙ c.in_ok-size.ensures.same)
    (back_durable (g.D.Disk.disk c.check.new.disk) (g.D.Disk.disk c.put_back.new.disk) (g.D.Disk.disk c.sync_file.new.self) (known_map (λ d. IsGuarded d.now × IsThere c.facts-facts.result.length c.in-Some.size d.now) (λ d. IsGuarded d.now) _ (known_same (λ d. IsGuarded d.now × IsThere c.facts-facts.result.length c.in-Some.size d.now) (g.D.Disk.disk c.journal_length.new.self) (g.D.Disk.disk c.check.new.disk) (checked (g.D.Disk.disk c.journal_length.new.self) c.facts-facts.result c.in-Some.size (known_same (λ d. IsRecoverable d.now) (g.D.Disk.disk c.args.disk.now) (g.D.Disk.disk c.journal_length.new.self) c.requires.recoverable c.in_ok-size.ensures.same) (known_same (λ d. IsLong (Some c.in-Some.size) d.now.journal) (g.D.Disk.disk c.args.disk.now) (g.D.Disk.disk c.journal_length.new.self) (known_found _ c.in_ok-size.field-0 c.in-Some.size c.in-Some.is c.in_ok-size.ensures.length) c.in_ok-size.ensures.same) c.facts-facts.ensures c.in_ok-check.ensures.taken) c.in_ok-check.ensures.same) (λ d h. h.0)) c.in_ok-back.ensures.ok c.in_ok-back.ensures.file c.in_ok-back.ensures.writing c.in_ok-sync_file.ensures.turns (g.D.Disk.disk c.finish.new.disk) c.in_ok-back.back c.in_ok-back.ensures.count c.in_ok-finish.ensures.ok)
