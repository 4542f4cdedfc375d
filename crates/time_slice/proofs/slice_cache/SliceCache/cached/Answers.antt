use Rattle.time_slice.proofs.KeptLemmas.{is_kept}
use Rattle.time_slice.proofs.slice_cache.SliceCache.cached.Goals as goal

pub returns : goal.returns
returns c = rw (c.contains.ensures, ← c.self.view_is) (is_kept c.args.k c.self.inside.cache.entries)
