use Rattle.std.proofs.Common.{◌≡◌, ◌∙◌, ap, sym, subst, Bool}
use Rattle.bench_rules.specs.KeptSlices.{Cache, kept_numbers}
use Rattle.bench_rules.specs.Live.{AreSlicesOf}
use Rattle.bench_rules.specs.State.{State}
use Rattle.bench_core.specs.Changes.{has_moved, entries_after}
use Rattle.bench_core.proofs.ChangeLemmas.{done, numbers_follow, refused_too, slices_follow}
use Rattle.bench_core.proofs.bench.Bench.apply.Goals as goal

pub invariant_of-self-2 : goal.invariant_of-self-2
invariant_of-self-2 c =
    let old : State = c.self.inside.volume.state in
    let new : State = c.change.new.volume.state in
    let cache : Cache = c.self.inside.slices.entries in
    let before = c.in_ok-moved.ensures.reads.agreed in
    record {
      slices = λ sure.
          let is = done old new c.args.edit.now _ (c.in_ok-moved.ensures.step sure) in
          let same : c.follow.new.slices.entries ≡ entries_after (has_moved old c.args.edit.now new) c.args.edit.now cache =
          c.follow.ensures.entries ∙ ap (λ (b : Bool). entries_after b c.args.edit.now cache) (c.in_ok-moved.ensures.moved sure) in
          subst (λ (l : Cache). AreSlicesOf new l) (sym same)
          (slices_follow old new c.args.edit.now cache (c.stands.ensures.cut (before sure)) c.stands.ensures.geometry is.0 is.1 (c.self.invariant.slices (before sure)));
      capacity = c.follow.ensures.capacity ∙ c.self.invariant.capacity;
    }

pub returns-clause-kept : goal.returns-clause-kept
returns-clause-kept c =
    let old : State = c.self.inside.volume.state in
    let new : State = c.change.new.volume.state in
    let cache : Cache = c.self.inside.slices.entries in
    rw (← c.self.view_is)
    (λ sure.
    let is = done old new c.args.edit.now _ (c.in_ok-moved.ensures.step sure) in
    ap (λ (l : Cache). kept_numbers l) (c.follow.ensures.entries ∙ ap (λ (b : Bool). entries_after b c.args.edit.now cache) (c.in_ok-moved.ensures.moved sure))
    ∙ numbers_follow old new c.args.edit.now cache (c.stands.ensures.cut (c.in_ok-moved.ensures.reads.agreed sure)) is.0 is.1)

pub returns-in_err-moved-clause-step : goal.returns-in_err-moved-clause-step
returns-in_err-moved-clause-step c =
    rw (← c.self.view_is)
    (λ sure. refused_too _ _ c.self.inside.volume.state c.change.new.volume.state c.args.edit.now c.in_err-moved.field-0.0 c.from_residual.result c.from_residual.ensures.1 (c.in_err-moved.ensures.step sure))
