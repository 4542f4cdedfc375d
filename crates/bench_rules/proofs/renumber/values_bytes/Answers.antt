use Rattle.std.proofs.Common.{◌≡◌, ◌≤◌, ℕ, ℤ, List, length, take, ap, sym, subst, ◌∙◌, arith, rules}
use Rattle.std.proofs.lemmas.Int.{to_z-of_z}
use Rattle.std.proofs.lemmas.List.{length-take-le}
use Rattle.std.specs.Int.{w128}
use mir.Val.{SFits, to_z, of_z}
use Rattle.num_order.specs.Number.{bytes, fits, InRange}
use Rattle.num_order.proofs.InRangeLemmas.{in_range}
use Rattle.bench_rules.specs.TraceEdits.{counted, values_bytes}
use Rattle.bench_rules.proofs.PlaceLemmas.{at_most_8}
use Rattle.bench_rules.proofs.RenumberLemmas.{fits_wide, one_more_value}
use Rattle.bench_rules.proofs.renumber.values_bytes.Goals as goal

pub unreachable-requires : goal.unreachable-requires
unreachable-requires c =
    let first : SFits w128 c.args.first = search rules in
    let step : SFits w128 c.args.step = search rules in
    let fit = c.requires.fit c.loop-k.k c.loop-k-test.true in
    c.in_default.ensures (rw (to_z-of_z w128 c.args.first first, to_z-of_z w128 c.args.step step) (fits_wide c.args.kind (counted c.args.first c.args.step c.loop-k.k) c.requires.size fit))

-- the buffer has room for a number
room : (size : ℕ) (buffer : List ℕ) (given : ℕ) → size ≤ 8 → length buffer ≡ 8 → given ≡ size → length (take given buffer) ≡ size
room size buffer given few eight e = length-take-le given buffer (omega arith) ∙ e

pub slice_bounds-new-end : goal.slice_bounds-new-end
slice_bounds-new-end c =
    let eight : length c.loop-k.buffer ≡ 8 = search rules in
    c.from-size.ensures ∙ sym (room c.args.kind.size c.loop-k.buffer c.from-size.result (at_most_8 c.args.kind.size c.requires.size) eight c.from-size.ensures)

pub write-requires-clause-whole : goal.write-requires-clause-whole
write-requires-clause-whole c =
    let eight : length c.loop-k.buffer ≡ 8 = search rules in
    room c.args.kind.size c.loop-k.buffer c.from-size.result (at_most_8 c.args.kind.size c.requires.size) eight c.from-size.ensures

-- the value that was counted, of the values that were passed
value_is : (first step x : ℤ) (k : ℕ) → SFits w128 first → SFits w128 step → SFits w128 (counted (to_z w128 (of_z w128 first)) (to_z w128 (of_z w128 step)) k) → x ≡ counted (to_z w128 (of_z w128 first)) (to_z w128 (of_z w128 step)) k
    → to_z w128 (of_z w128 x) ≡ counted first step k
value_is first step x k f g fits e =
    ap (λ (y : ℤ). to_z w128 (of_z w128 y)) e
    ∙ to_z-of_z w128 (counted (to_z w128 (of_z w128 first)) (to_z w128 (of_z w128 step)) k) fits
    ∙ ap (λ (y : ℤ). counted y (to_z w128 (of_z w128 step)) k) (to_z-of_z w128 first f)
    ∙ ap (λ (y : ℤ). counted first y k) (to_z-of_z w128 step g)

pub write-requires-clause-fits : goal.write-requires-clause-fits
write-requires-clause-fits c =
    let first : SFits w128 c.args.first = search rules in
    let step : SFits w128 c.args.step = search rules in
    let same = value_is c.args.first c.args.step c.in-Some.value c.loop-k.k first step c.in-Some.ensures.0 c.in-Some.ensures.1 in
    subst (λ (x : ℤ). InRange c.args.kind x) (sym same) (in_range c.args.kind (counted c.args.first c.args.step c.loop-k.k) (c.requires.fit c.loop-k.k c.loop-k-test.true))

pub loop-k-preserved : goal.loop-k-preserved
loop-k-preserved c =
    let first : SFits w128 c.args.first = search rules in
    let step : SFits w128 c.args.step = search rules in
    let same = value_is c.args.first c.args.step c.in-Some.value c.loop-k.k first step c.in-Some.ensures.0 c.in-Some.ensures.1 in
    let a = to_z-of_z w128 c.args.first first in
    let b = to_z-of_z w128 c.args.step step in
    let kept : c.loop-k.bytes.items ≡ values_bytes c.args.order c.args.kind c.args.first c.args.step c.loop-k.k = rw (a, b) at c.loop-k.invariant.0 in (
      rw (a, b)
          (one_more_value c.args.order c.args.kind c.args.first c.args.step c.loop-k.k c.loop-k.bytes.items c.write.new.bytes c.extend_from_slice.new.self.items kept
          (c.write.ensures ∙ ap (bytes c.args.order c.args.kind) same) (rw c.in_ok-told.ensures.ok at c.extend_from_slice.ensures.items)),
      grind arith,
    )
