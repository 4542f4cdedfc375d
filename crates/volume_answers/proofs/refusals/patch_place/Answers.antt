use Rattle.std.proofs.Common.{◌≡◌, ◌∙◌, ◌<◌, ◌^◌, ℕ, Some, ap, refl, sym, arith}
use Rattle.sample_codes.specs.Formats.{values}
use Rattle.frame_cut.specs.Frames.{sample_count}
use Rattle.trace_view.specs.Shown.{bytes_of, head_of}
use Rattle.bench_rules.specs.Refused.{values_refusal}
use Rattle.bench_rules.proofs.EditMemoryLemmas.{values_memory}
use Rattle.bench_rules.proofs.NoReadLemmas.{some_free, values_free}
use Rattle.bench_rules.proofs.ReadTellLemmas.{no_read_tells}
use Rattle.volume_answers.proofs.RoomLemmas.{sample_room}
use Rattle.volume_answers.proofs.refusals.patch_place.Goals as goal

few : (count n : ℕ) → n ≡ count → n < 2 ^ 32 → count < 2 ^ 32
few count n is small = omega (arith, is, small)

pub returns-in-None-clause-room : goal.returns-in-None-clause-room
returns-in-None-clause-room c =
    let view = c.in-Some.trace in
    let there = rw c.in-Some.is at c.in_ok-trace.ensures.there in
    let shape = rw c.in-Some.is at c.in_ok-trace.ensures.shape in
    sample_room c.args.overlay.now.volume c.args.p c.args.k c.sample_place.result c.args.values.now (head_of view) (bytes_of view) (there.0 refl) shape.0 view.whole shape.1
    (few (sample_count (head_of view) (bytes_of view)) c.sample_count-count.result c.sample_count-count.ensures c.sample_count-count.type_inv)
    c.sample_place.ensures (sym c.patch_refusal.ensures ∙ c.in-None.is)

pub returns-in-Some-patch_refusal-clause-other : goal.returns-in-Some-patch_refusal-clause-other
returns-in-Some-patch_refusal-clause-other c = λ e.
    let view = c.in-Some.trace in
    values_memory (values (head_of view).format) (head_of view) (bytes_of view) c.args.k c.args.values.now (sym c.patch_refusal.ensures ∙ c.in-Some-patch_refusal.is ∙ ap Some e)

pub returns-in-Some-patch_refusal-clause-reads_tell : goal.returns-in-Some-patch_refusal-clause-reads_tell
returns-in-Some-patch_refusal-clause-reads_tell c =
    let view = c.in-Some.trace in
    let refusal = c.in-Some-patch_refusal.refusal in
    let free = values_free (values (head_of view).format) (head_of view) (bytes_of view) c.args.k c.args.values.now in
    no_read_tells c.args.overlay.now.reads c.look.follows.lender-at-none.reads refusal
    (some_free (values_refusal (values (head_of view).format) (head_of view) (bytes_of view) c.args.k c.args.values.now) refusal (sym c.patch_refusal.ensures ∙ c.in-Some-patch_refusal.is) free)
