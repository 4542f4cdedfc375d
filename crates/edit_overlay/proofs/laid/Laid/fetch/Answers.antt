use Rattle.edit_overlay.proofs.laid.Laid.fetch.Goals as goal

pub returns-in-Some-clause-same : goal.returns-in-Some-clause-same
returns-in-Some-clause-same g c = c.fetch_then.ensures.reread

pub returns-in-None-clause-same : goal.returns-in-None-clause-same
returns-in-None-clause-same g c = c.fetch.ensures.reread
