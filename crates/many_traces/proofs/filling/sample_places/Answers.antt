use Rattle.std.proofs.Common.{◌≡◌, ◌∙◌, ℕ, ◌+◌, ◌-◌, ◌*◌, ◌<◌, ◌≤◌, ◌++◌, List, [], ◌∷◌, length, get_or, None, inr, ap, sym, subst, arith, length-append}
use borrow.Author.Count.{below_more}
use Rattle.sample_codes.specs.Formats.{width}
use Rattle.frame_cut.specs.Traces.{trace_at}
use Rattle.frame_cut.specs.Volume.{Volume}
use Rattle.trace_view.specs.Values.{samples_at}
use Rattle.bench_rules.specs.FilledSamples.{samples_refusal}
use Rattle.bench_rules.proofs.LookLemmas.{seen_after}
use Rattle.bench_rules.proofs.SwapLemmas.{here_listed, none_listed}
use Rattle.many_traces.proofs.SwappedLemmas.{listed_there}
use Rattle.many_traces.proofs.FillingLemmas.{place-before, place-next}
use Rattle.bench_rules.proofs.ReadTellLemmas.{no_read_tells}
use Rattle.many_traces.proofs.filling.sample_places.Goals as goal

pub place_at-requires : goal.place_at-requires
place_at-requires c = record { trace = rw (c.loop-k.invariant.seen.volume) (listed_there c.args.overlay.now.volume c.args.traces.now c.loop-k.k c.requires.rising c.loop-k-test.true) }

pub returns-in-Err-clause-err : goal.returns-in-Err-clause-err
returns-in-Err-clause-err c =
    let i = c.loop-k.invariant in
    let v : Volume = c.args.overlay.now.volume in
    let told = rw (c.in-Err.is) at c.in_ok-place.ensures.refused in
    inr (inr (λ sure.
    here_listed (λ p. samples_refusal v.head c.args.first c.args.last (trace_at v p)) c.args.traces.now c.loop-k.k c.in-Err.refusal c.loop-k-test.true (i.none (c.place_at.ensures.seen.reads.agreed sure)) (rw (i.seen.volume) at (told sure))))

pub loop-k-preserved : goal.loop-k-preserved
loop-k-preserved c =
    let i = c.loop-k.invariant in
    let made = c.in_ok-place.ensures in
    let v : Volume = c.args.overlay.now.volume in
    let ts : List ℕ = c.args.traces.now in
    let k : ℕ = c.loop-k.k in
    let old : List ℕ = c.loop-k.places.items in
    let free = rw (c.in-Ok.is) at made.none in
    let place = rw (c.in-Ok.is) at made.place in
    let room = rw (c.in-Ok.is) at made.room in
    let items : c.push.new.self.items ≡ old ++ c.in-Ok.place ∷ [] = rw c.in_ok-told_back-in-Ok.ensures.ok at c.push.ensures.items in
    let here : get_or c.push.new.self.items k 0 ≡ c.in-Ok.place = ap (λ (l : List ℕ). get_or l k 0) items ∙ place-next old c.in-Ok.place k i.count in
    let before : (j : ℕ) → j < k → get_or old j 0 ≡ get_or c.push.new.self.items j 0 =
    λ j less. sym (ap (λ (l : List ℕ). get_or l j 0) items ∙ place-before old c.in-Ok.place j (omega (arith, less, i.count))) in
    record {
      none = λ sure.
          below_more (λ (j : ℕ). samples_refusal v.head c.args.first c.args.last (trace_at v (get_or ts j 0)) ≡ None) k (i.none (made.seen.reads.agreed sure)) (rw (i.seen.volume) at (free sure));
      places = λ sure.
          below_more (λ (j : ℕ). get_or c.push.new.self.items j 0 ≡ samples_at v.head (trace_at v (get_or ts j 0)) + width v.head.format * c.args.first) k
          (λ j less. sym (before j less) ∙ i.places (made.seen.reads.agreed sure) j less) (here ∙ (rw (i.seen.volume) at (place sure)));
      count = omega (arith, ap (λ (l : List ℕ). length l) items, length-append old (c.in-Ok.place ∷ []), i.count);
      room =
          below_more (λ (j : ℕ). get_or c.push.new.self.items j 0 + width v.head.format * (c.args.last + 1 - c.args.first) ≤ length (trace_at v (get_or ts j 0))) k
          (λ j less. subst (λ (n : ℕ). n + width v.head.format * (c.args.last + 1 - c.args.first) ≤ length (trace_at v (get_or ts j 0))) (before j less) (i.room j less))
          (subst (λ (n : ℕ). n + width v.head.format * (c.args.last + 1 - c.args.first) ≤ length (trace_at v (get_or ts k 0))) (sym here) (rw (i.seen.volume) at room));
      seen = seen_after c.args.overlay.now c.loop-k.overlay c.place_at.new.overlay k 1 i.seen made.seen;
      memory = grind arith;
    }

pub returns-clause-none : goal.returns-clause-none
returns-clause-none c = λ sure.
    let v : Volume = c.args.overlay.now.volume in
    none_listed (λ p. samples_refusal v.head c.args.first c.args.last (trace_at v p)) c.args.traces.now (λ j less. c.loop-k.invariant.none sure j (omega (arith, less, c.loop-k-test.false)))

pub returns-in-Err-clause-reads_tell : goal.returns-in-Err-clause-reads_tell
returns-in-Err-clause-reads_tell c =
    let free = rw (c.in-Err.is) at c.in_ok-place.ensures.rule in
    no_read_tells c.args.overlay.now.reads c.place_at.new.overlay.reads c.in-Err.refusal free
