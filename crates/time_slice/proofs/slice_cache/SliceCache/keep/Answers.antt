use Rattle.std.proofs.Common.{ap, sym, subst, ◌∙◌, IsFalse}
use Rattle.bench_rules.specs.KeptSlices.{KeptSlices, keeps, after_slice}
use Rattle.time_slice.proofs.KeptLemmas.{put_seen}
use Rattle.time_slice.proofs.slice_cache.SliceCache.keep.Goals as goal

pub returns-clause-ok : goal.returns-clause-ok
returns-clause-ok c =
    let old = c.self.inside.cache in
    let new : IsFalse (keeps c.args.k old.entries) = subst (λ (s : KeptSlices). IsFalse (keeps c.args.k s.entries)) (sym c.self.view_is) c.requires.new in
    put_seen old c.put.new.self c.args.k c.in_ok-kept.kept c.args.rows.now c.len-count.ensures.valid.2 new c.in_ok-kept.ensures.kept (rw c.in_ok-told_back.ensures.ok at c.put.ensures.entries)
    ∙ ap (λ (s : KeptSlices). after_slice s c.args.k c.args.rows.now) c.self.view_is
