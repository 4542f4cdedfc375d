use Rattle.std.proofs.Common.{◌≡◌, ◌∙◌, ℤ, ◌-◌, ◌+◌, ◌*◌, ◌<◌, ◌≤◌, List, ℕ, Some, length, ap, sym, subst, rules}
use Rattle.std.proofs.lemmas.Int.{to_z-of_z}
use Rattle.std.specs.Int.{w128}
use mir.Val.{SFits}
use Rattle.std.specs.Prelude.{replicate, unwrap_or, IfOk, IfSome, IsTrue, Option}
use Rattle.edit_overlay.specs.Reads.{HaveAgreed}
use Rattle.sample_codes.specs.declared.value_format.ValueFormat.{ValueFormat}
use Rattle.sample_codes.specs.Formats.{sample_fits, samples_bytes, values, width}
use Rattle.frame_cut.specs.declared.file_head.Head.{Head}
use Rattle.frame_cut.specs.Frames.{sample_count}
use Rattle.frame_cut.specs.Traces.{trace_at}
use Rattle.bench_rules.specs.FilledSamples.{range_values}
use Rattle.bench_rules.proofs.FillLemmas.{has_value, HasValue}
use Rattle.volume_records.proofs.SeenLemmas.{if_ok}
use Rattle.live_volume.specs.Held.{state_of}
use Rattle.live_volume.proofs.FillLemmas.{range_long, range_some, range_whole}
use Rattle.live_volume.proofs.live_volume.LiveVolume.range_bytes.Goals as goal
use Rattle.live_volume.proofs.live_volume.LiveVolume.range_bytes.Goals.{After-repeated_sample, After-values}

-- the format that has the value
has : (c : After-values) → HasValue (state_of c.self.inside).volume.head c.args.value
has c = has_value (state_of c.self.inside).volume.head c.args.value (rw (← c.self.view_is) at c.requires.fits)

pub unreachable-requires : goal.unreachable-requires
unreachable-requires c =
    let h = has c.before in
    c.in_default.not-Some h.format (c.values.ensures.values ∙ ap (λ (g : Head). values g.format) c.head-head.ensures ∙ h.reads)

pub repeated_sample-requires : goal.repeated_sample-requires
repeated_sample-requires c =
    let fit : SFits w128 c.args.value = search rules in
    let h = has_value (state_of c.self.inside).volume.head c.args.value (rw (← c.self.view_is) at c.requires.fits) in
    let reads : values (state_of c.self.inside).volume.head.format ≡ Some c.in-Some.format = ap (λ (g : Head). values g.format) (sym c.head-head.ensures) ∙ sym c.values.ensures.values ∙ c.in-Some.is in
    let same : h.format ≡ c.in-Some.format = ap (λ (o : Option ValueFormat). unwrap_or o h.format) (sym h.reads ∙ reads) in
    record { fits = rw (to_z-of_z w128 c.args.value fit) (subst (λ (f : ValueFormat). IsTrue (sample_fits f c.args.value)) same h.fits) }

-- the format is that of the head
reads : (c : After-repeated_sample) → values (state_of c.self.inside).volume.head.format ≡ Some c.in-Some.format
reads c = ap (λ (g : Head). values g.format) (sym c.head-head.ensures) ∙ sym c.values.ensures.values ∙ c.in-Some.is

-- the bytes that were made
made : (c : After-repeated_sample)
    → IfOk c.repeated_sample.result (λ bytes. bytes.items ≡ samples_bytes (state_of c.self.inside).volume.head.order c.in-Some.format (replicate c.saturating_add-count.result c.args.value))
made c =
    let fit : SFits w128 c.args.value = search rules in
    if_ok c.repeated_sample.result
    (λ bytes is. is ∙ ap (λ (x : ℤ). samples_bytes c.head-head.result.order c.in-Some.format (replicate c.saturating_add-count.result x)) (to_z-of_z w128 c.args.value fit)
    ∙ ap (λ (g : Head). samples_bytes g.order c.in-Some.format (replicate c.saturating_add-count.result c.args.value)) c.head-head.ensures) c.repeated_sample.ensures.ok

pub returns-clause-some : goal.returns-clause-some
returns-clause-some c = if_ok c.repeated_sample.result (λ bytes is.
    subst (λ (l : List ℕ). 0 < length l) (sym is)
    (range_some (state_of c.self.inside).volume.head c.in-Some.format c.args.first c.args.last c.saturating_add-count.result c.args.value (reads c) c.requires.samples c.saturating_add-count.ensures)) (made c)

pub returns-clause-long : goal.returns-clause-long
returns-clause-long c = rw (← c.self.view_is) (if_ok c.repeated_sample.result (λ bytes is.
    subst (λ (l : List ℕ). length l ≤ width (state_of c.self.inside).volume.head.format * (c.args.last + 1 - c.args.first)) (sym is)
    (range_long (state_of c.self.inside).volume.head c.in-Some.format c.args.first c.args.last c.saturating_add-count.result c.args.value (reads c) c.requires.samples c.saturating_add-count.ensures)) (made c))

pub returns-clause-bytes : goal.returns-clause-bytes
returns-clause-bytes c =
    let h : Head = (state_of c.self.inside).volume.head in
    let t : List ℕ = trace_at (state_of c.self.inside).volume c.args.p in
    let known : HaveAgreed c.self.inside.overlay.reads → c.sample_count-samples.result ≡ sample_count h t = rw (← c.self.view_is) at c.sample_count-samples.ensures in
    rw (← c.self.view_is) (if_ok c.repeated_sample.result (λ bytes is sure none.
    let all : replicate c.saturating_add-count.result c.args.value ≡ range_values c.args.first c.args.last c.args.value =
    range_whole h c.in-Some.format c.args.first c.args.last c.saturating_add-count.result c.args.value (reads c) c.requires.samples c.saturating_add-count.ensures t c.sample_count-samples.result c.sample_count-samples.type_inv (known sure) none in
    subst (λ (o : Option ValueFormat). IfSome o (λ f. bytes.items ≡ samples_bytes h.order f (range_values c.args.first c.args.last c.args.value))) (sym (reads c))
    (is ∙ ap (λ (xs : List ℤ). samples_bytes h.order c.in-Some.format xs) all)) (made c))
