use Rattle.std.proofs.Common.{◌≡◌, ◌∙◌, ap, sym, subst, ◌∷◌, take}
use Rattle.std.specs.Prelude.{filter, not, ◌==◌}
use Rattle.bench_rules.specs.KeptSlices.{KeptSlices, Cache, kept_numbers, cache_after_slice}
use Rattle.time_slice.proofs.CacheLemmas.{asked_stays_right}
use Rattle.bench_rules.specs.Live.{AreSlicesOf}
use Rattle.bench_rules.specs.Reports.{slice_in}
use Rattle.bench_rules.specs.State.{State}
use Rattle.bench_core.proofs.SliceLemmas.{asked_numbers, asked_room}
use Rattle.bench_core.proofs.bench.Bench.slice.Goals as goal

pub invariant_of-self-2 : goal.invariant_of-self-2
invariant_of-self-2 c =
    let s : State = c.self.inside.volume.state in
    let old : KeptSlices = c.self.inside.slices in
    let entries : Cache = cache_after_slice old.capacity c.args.k (slice_in s c.args.k) old.entries in
    record {
      slices = λ sure.
          let is : c.slice.new.slices.entries ≡ entries = ap (λ (l : KeptSlices). l.entries) (c.in_ok-rows.ensures.ok sure) in
          let right : AreSlicesOf s entries = asked_stays_right s.volume.head s.fields s.volume.traces old.capacity c.args.k old.entries (c.self.invariant.slices (c.in_ok-rows.ensures.reads.agreed sure)) in
          subst (λ (u : State). AreSlicesOf u c.slice.new.slices.entries) (sym c.in_ok-rows.ensures.state) (subst (λ (l : Cache). AreSlicesOf s l) (sym is) right);
      capacity = asked_room _ _ _ _ c.in_ok-rows.ensures.asked ∙ c.self.invariant.capacity;
    }

pub returns-clause-kept : goal.returns-clause-kept
returns-clause-kept c =
    let old : KeptSlices = c.self.inside.slices in
    rw (← c.self.view_is)
    (asked_numbers old c.slice.new.slices c.args.k c.in_ok-rows.rows.items c.in_ok-rows.ensures.asked
    ∙ ap (λ room. take room (c.args.k ∷ filter (λ j. not (j == c.args.k)) (kept_numbers old.entries))) c.self.invariant.capacity)
