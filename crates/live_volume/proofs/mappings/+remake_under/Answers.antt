use Rattle.std.proofs.Common.{◌∙◌, sym}
use Rattle.live_volume.proofs.MappingLemmas.{bound_again}
use Rattle.live_volume.proofs.mappings.+remake_under.Goals as goal

pub returns-in-Err-clause-kept : goal.returns-in-Err-clause-kept
returns-in-Err-clause-kept t c = bound_again _ _ _ _ _ _ _ c.set_geometry.ensures.pairs c.in-Err.ensures.kept c.set_geometry-in-Err.ensures.pairs (sym c.place.ensures ∙ c.in-Some-place.is)
