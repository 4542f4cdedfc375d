use Rattle.std.proofs.Common.{arith, refl, ◌≡◌, ◌+◌, length, ℕ, ◌<◌, List, [], take, drop, length-take, length-drop}
use Rattle.std.specs.Prelude.{slice_index_or}
use Rattle.edit_overlay.specs.Reads.{HaveAgreed}
use Rattle.frame_cut.specs.Cuts.{IsTrace}
use Rattle.frame_cut.specs.Splice.{splice}
use Rattle.trace_store.specs.Each.{part_of}
use Rattle.volume_tests.proofs.TwoLemmas.{two}
use Rattle.volume_tests.proofs.edit_tests.prepare_over_two.Goals as goal

pub prepare_put_each-requires-clause-whole : goal.prepare_put_each-requires-clause-whole
prepare_put_each-requires-clause-whole c =
    let o = c.may_put-2.new.volume in
    let v = o.volume in
    let bytes : List ℕ = c.args.bytes.now in
    let P : ℕ → Type 0 = λ i. HaveAgreed o.reads → IsTrace v.head (splice (slice_index_or v.traces (0 + i) []) c.args.at 2 (part_of bytes 2 i)) in
    let front : length (take 2 bytes) ≡ 2 = omega (arith, length-take 2 bytes, c.told-bytes) in
    let back : length (take 2 (drop 2 bytes)) ≡ 2 = omega (arith, length-take 2 (drop 2 bytes), length-drop 2 bytes, c.told-bytes) in
    let first : P 0 = λ agreed. rw (c.may_put-2.ensures.seen.volume, c.may_put.ensures.seen.volume) (rw front at (c.if-not-may_put.ensures.whole refl (c.may_put-2.ensures.seen.reads.agreed agreed))) in
    let second : P 1 = λ agreed. rw c.may_put-2.ensures.seen.volume (rw back at (c.if-not-may_put-2.ensures.whole refl agreed)) in
    λ k h. two P first second k (omega (arith, h, c.told-bytes))
