use Rattle.std.proofs.Common.{◌∙◌, ap}
use Rattle.script_run.proofs.repairing.base_of.Goals as goal

pub returns : goal.returns
returns c = ap (λ l. l.bytes) c.store.ensures.loaded ∙ c.overlay.ensures.loaded ∙ ap (λ v. v.loaded) c.volume.ensures
