use Rattle.std.proofs.Common.{◌≡◌, ◌∙◌, ℕ, ◌+◌, ◌*◌, ◌<◌, ◌^◌, ◌++◌, List, length, get_or, None, inr, ap, sym, subst, rules, arith, length-append}
use borrow.Author.Count.{below_more}
use Rattle.field_map.specs.declared.place.Place.{Place}
use Rattle.frame_cut.specs.Splice.{splice}
use Rattle.frame_cut.specs.Traces.{count_of, trace_at}
use Rattle.frame_cut.specs.Volume.{Volume}
use Rattle.trace_store.specs.Each.{part_of}
use Rattle.bench_rules.specs.SwappedFields.{swap_refusal, swapped}
use Rattle.bench_rules.proofs.ChosenLemmas.{rising-few}
use Rattle.bench_rules.proofs.LookLemmas.{seen_after}
use Rattle.bench_rules.proofs.SeenLemmas.{seen_at_most}
use Rattle.bench_rules.proofs.SwapLemmas.{here_listed, none_listed}
use Rattle.many_traces.specs.Spans.{span_size, span_start, HasSpan}
use Rattle.many_traces.proofs.SwappedLemmas.{listed_there, part-before, part-next, room_for_all}
use Rattle.bench_rules.proofs.ReadTellLemmas.{no_read_tells}
use Rattle.many_traces.proofs.swapped.swapped_bytes.Goals as goal

pub overflow_mul-traces : goal.overflow_mul-traces
overflow_mul-traces c =
    let few = rising-few 1 (count_of c.args.overlay.now.volume) c.args.traces.now (omega arith) c.requires.rising in
    let counted : c.count-count.result ≡ count_of c.args.overlay.now.volume = c.count-count.ensures in
    let small : c.count-count.result < 2 ^ 32 = search rules in
    let less : length c.args.traces.now * c.span-at.result.1 < 2 ^ 64 = room_for_all (length c.args.traces.now) c.span-at.result.1 (omega (arith, few, counted, small)) c.span-at.ensures.small in
    search rules

pub swap_at-requires-clause-trace : goal.swap_at-requires-clause-trace
swap_at-requires-clause-trace c = rw (c.loop-k.invariant.seen.volume) (listed_there c.args.overlay.now.volume c.args.traces.now c.loop-k.k c.requires.rising c.loop-k-test.true)

pub returns-in-Some-clause-err : goal.returns-in-Some-clause-err
returns-in-Some-clause-err c =
    let i = c.loop-k.invariant in
    let v : Volume = c.args.overlay.now.volume in
    inr (inr (λ sure.
    let err = sym (sym c.in-Some.is ∙ c.in_ok-refusal.ensures.refusal sure) in
    here_listed (λ p. swap_refusal v.head (c.args.first, c.args.second) (trace_at v p)) c.args.traces.now c.loop-k.k c.in-Some.refusal c.loop-k-test.true (i.none (c.swap_at.ensures.seen.reads.agreed sure)) (rw (i.seen.volume) at err)))

pub returns-in_err-told-in-None-clause-seen : goal.returns-in_err-told-in-None-clause-seen
returns-in_err-told-in-None-clause-seen c =
    let old = c.args.overlay.now in
    let k = c.loop-k.k in
    let seen = seen_after old c.loop-k.overlay c.swap_at.new.overlay k 1 c.loop-k.invariant.seen c.in_ok-refusal.ensures.seen in
    seen_at_most old c.swap_at.new.overlay (k + 1) (length c.args.traces.now) seen (omega (arith, c.loop-k-test.true))

pub loop-k-preserved : goal.loop-k-preserved
loop-k-preserved c =
    let i = c.loop-k.invariant in
    let made = c.in_ok-refusal.ensures in
    let v : Volume = c.args.overlay.now.volume in
    let places : Place × Place = (c.args.first, c.args.second) in
    let size : ℕ = span_size places in
    let ts : List ℕ = c.args.traces.now in
    let k : ℕ = c.loop-k.k in
    let bytes : List ℕ = c.loop-k.bytes.items in
    let part : List ℕ = c.swap_at.new.part in
    let more : c.extend_from_slice.new.self.items ≡ bytes ++ part = rw c.in_ok-told-in-None.ensures.ok at c.extend_from_slice.ensures.items in
    let long : length part ≡ size = c.swap_at.auto.part ∙ i.size in
    let step : (k + 1) * size ≡ k * size + size = omega arith in
    let laid : ℕ → List ℕ → Type 0 = λ j l. splice (trace_at v (get_or ts j 0)) (span_start places) size l ≡ swapped v.head places (trace_at v (get_or ts j 0)) in
    record {
      none = λ sure.
          let free = sym (made.refusal sure) ∙ c.in-None.is in
          below_more (λ (j : ℕ). swap_refusal v.head places (trace_at v (get_or ts j 0)) ≡ None) k (i.none (made.seen.reads.agreed sure)) (rw (i.seen.volume) at free);
      parts = λ sure.
          let own = made.part sure c.in-None.is in
          below_more (λ (j : ℕ). laid j (part_of c.extend_from_slice.new.self.items size j)) k
          (λ j less. subst (laid j) (sym (ap (λ (bs : List ℕ). part_of bs size j) more ∙ part-before bytes part size j k less i.count)) (i.parts (made.seen.reads.agreed sure) j less))
          (subst (laid k) (sym (ap (λ (bs : List ℕ). part_of bs size k) more ∙ part-next bytes part size k i.count long)) (rw (i.seen.volume) at own));
      count = omega (arith, ap (λ (l : List ℕ). length l) more, length-append bytes part, i.count, long, step);
      inside =
          let own = made.inside c.in-None.is in
          below_more (λ (j : ℕ). HasSpan places (trace_at v (get_or ts j 0))) k i.inside (rw (i.seen.volume) at own);
      size = long;
      seen = seen_after c.args.overlay.now c.loop-k.overlay c.swap_at.new.overlay k 1 i.seen made.seen;
      memory = grind arith;
    }

pub returns-clause-none : goal.returns-clause-none
returns-clause-none c = λ sure.
    let v : Volume = c.args.overlay.now.volume in
    none_listed (λ p. swap_refusal v.head (c.args.first, c.args.second) (trace_at v p)) c.args.traces.now (λ j less. c.loop-k.invariant.none sure j (omega (arith, less, c.loop-k-test.false)))

pub returns-clause-inside : goal.returns-clause-inside
returns-clause-inside c = λ j less. c.loop-k.invariant.inside j (omega (arith, less, c.loop-k-test.false))

pub returns-in-Some-clause-reads_tell : goal.returns-in-Some-clause-reads_tell
returns-in-Some-clause-reads_tell c =
    let free = rw (c.in-Some.is) at c.in_ok-refusal.ensures.rule in
    no_read_tells c.args.overlay.now.reads c.swap_at.new.overlay.reads c.in-Some.refusal free
