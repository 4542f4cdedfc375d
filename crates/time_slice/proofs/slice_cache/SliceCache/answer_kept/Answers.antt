use Rattle.std.proofs.Common.{ap, sym, subst, ◌∙◌, ◌≡◌, Some, true, false, map}
use Rattle.std.specs.Prelude.{is_some}
use Rattle.trace_record.specs.Facts.{facts_of}
use Rattle.bench_rules.specs.KeptSlices.{KeptSlices, keeps, kept_of, kept_rows, rows_again, after_slice}
use Rattle.time_slice.proofs.KeptLemmas.{found, is_kept, promoted_seen}
use Rattle.time_slice.proofs.slice_cache.SliceCache.answer_kept.Goals as goal

pub unreachable-requires : goal.unreachable-requires
unreachable-requires c =
    let es = c.self.inside.cache.entries in
    let kept : keeps c.args.k es ≡ true = subst (λ (s : KeptSlices). keeps c.args.k s.entries ≡ true) (sym c.self.view_is) c.requires in
    let bad : true ≡ false = sym kept ∙ sym (is_kept c.args.k es) ∙ ap is_some (sym c.in_default.ensures) in
    cc

pub returns-clause-rows : goal.returns-clause-rows
returns-clause-rows c = λ rows kept.
    let es = c.self.inside.cache.entries in
    let here : Some c.in-Some.kept.now ≡ Some (kept_of rows) = c.in-Some.ensures ∙ found c.args.k es ∙ ap (λ (s : KeptSlices). kept_rows c.args.k s.entries) c.self.view_is ∙ kept in
    let same : c.in-Some.kept.now ≡ kept_of rows = cc in
    c.in_ok-rows.ensures.rows ∙ ap (rows_again (map facts_of c.args.records.now)) same

pub returns-clause-ok : goal.returns-clause-ok
returns-clause-ok c = λ rows kept.
    let old = c.self.inside.cache in
    let here : kept_rows c.args.k old.entries ≡ Some (kept_of rows) = ap (λ (s : KeptSlices). kept_rows c.args.k s.entries) c.self.view_is ∙ kept in
    promoted_seen old c.promote.new.self c.args.k rows c.len-count.ensures.valid.0 c.len-count.ensures.valid.1 here c.promote.ensures.entries
    ∙ ap (λ (s : KeptSlices). after_slice s c.args.k rows) c.self.view_is
