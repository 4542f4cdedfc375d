use Rattle.std.proofs.Common.{◌≡◌, ◌∙◌, ℕ, List, length, ap, sym, subst, refl, true, false, None, Some, ℤ, rules, arith}
use Rattle.std.proofs.lemmas.Int.{to_z-of_z}
use Rattle.std.specs.Int.{w128}
use mir.Val.{SFits, to_z, of_z}
use Rattle.num_order.specs.Number.{fits, InRange}
use Rattle.num_order.proofs.InRangeLemmas.{in_range}
use Rattle.field_map.specs.declared.place.Place.{Place}
use Rattle.frame_cut.specs.declared.file_head.Head.{Head}
use Rattle.frame_cut.specs.Splice.{splice}
use Rattle.trace_view.specs.Shown.{bytes_of, head_of}
use Rattle.trace_view.specs.Values.{has_place, value_at, value_of}
use Rattle.bench_rules.specs.SetRefusals.{set_refusal}
use Rattle.bench_rules.specs.SwappedFields.{swapped}
use Rattle.bench_rules.proofs.PlaceLemmas.{sized, stands}
use Rattle.bench_rules.proofs.SetLemmas.{has_value}
use Rattle.bench_rules.proofs.SwapLemmas.{is_set}
use Rattle.many_traces.specs.Spans.{span_size, span_start}
use Rattle.many_traces.proofs.SwappedLemmas.{by_length_of_both, lacks_second, laid_swapped, number_there, refused_first, refused_number, spans_both}
use Rattle.many_traces.proofs.swapped.swap_in.Goals as goal

pub returns-in_default-value-clause-refusal : goal.returns-in_default-value-clause-refusal
returns-in_default-value-clause-refusal c =
    let h : Head = head_of c.args.trace.now in
    let t : List ℕ = bytes_of c.args.trace.now in
    let a : Place = c.args.first in
    let b : Place = c.args.second in
    lacks_second h t a b (sym c.in_default-value.is ∙ c.value-2.ensures)

pub returns-in-Some-set_refusal-clause-refusal : goal.returns-in-Some-set_refusal-clause-refusal
returns-in-Some-set_refusal-clause-refusal c =
    let h : Head = head_of c.args.trace.now in
    let t : List ℕ = bytes_of c.args.trace.now in
    let a : Place = c.args.first in
    let b : Place = c.args.second in
    let X : Some c.in-Some.number ≡ value_of h t a = sym c.in-Some.is ∙ c.value.ensures in
    let Y : Some c.in-Some-value.other ≡ value_of h t b = sym c.in-Some-value.is ∙ c.value-2.ensures in
    let first : has_place h t a ≡ true = has_value h t a (Some c.in-Some.number) X refl in
    let second : has_place h t b ≡ true = has_value h t b (Some c.in-Some-value.other) Y refl in
    let fit : SFits w128 c.in-Some.number = search rules in
    let fit' : SFits w128 c.in-Some-value.other = search rules in
    let x : to_z w128 (of_z w128 c.in-Some.number) ≡ value_at h t a = to_z-of_z w128 c.in-Some.number fit ∙ number_there h t a c.in-Some.number X in
    let y : to_z w128 (of_z w128 c.in-Some-value.other) ≡ value_at h t b = to_z-of_z w128 c.in-Some-value.other fit' ∙ number_there h t b c.in-Some-value.other Y in
    let judged : set_refusal h t (Some a) (value_at h t b) ≡ c.set_refusal.result = sym (c.set_refusal.ensures ∙ ap (set_refusal h t (Some a)) y) in
    refused_first h t a b first second c.in-Some-set_refusal.refusal (judged ∙ c.in-Some-set_refusal.is)

pub returns-then-not-fits-clause-refusal : goal.returns-then-not-fits-clause-refusal
returns-then-not-fits-clause-refusal c =
    let h : Head = head_of c.args.trace.now in
    let t : List ℕ = bytes_of c.args.trace.now in
    let a : Place = c.args.first in
    let b : Place = c.args.second in
    let X : Some c.in-Some.number ≡ value_of h t a = sym c.in-Some.is ∙ c.value.ensures in
    let Y : Some c.in-Some-value.other ≡ value_of h t b = sym c.in-Some-value.is ∙ c.value-2.ensures in
    let first : has_place h t a ≡ true = has_value h t a (Some c.in-Some.number) X refl in
    let second : has_place h t b ≡ true = has_value h t b (Some c.in-Some-value.other) Y refl in
    let fit : SFits w128 c.in-Some.number = search rules in
    let fit' : SFits w128 c.in-Some-value.other = search rules in
    let x : to_z w128 (of_z w128 c.in-Some.number) ≡ value_at h t a = to_z-of_z w128 c.in-Some.number fit ∙ number_there h t a c.in-Some.number X in
    let y : to_z w128 (of_z w128 c.in-Some-value.other) ≡ value_at h t b = to_z-of_z w128 c.in-Some-value.other fit' ∙ number_there h t b c.in-Some-value.other Y in
    let judged : set_refusal h t (Some a) (value_at h t b) ≡ c.set_refusal.result = sym (c.set_refusal.ensures ∙ ap (set_refusal h t (Some a)) y) in
    let free : set_refusal h t (Some a) (value_at h t b) ≡ None = judged ∙ c.in_default-set_refusal.is in
    refused_number h t a b first second c.args.trace.now.whole free (ap (fits b.kind) (sym x) ∙ sym c.if-not-fits.ensures)

pub read-requires : goal.read-requires
read-requires c =
    let h : Head = head_of c.args.trace.now in
    let t : List ℕ = bytes_of c.args.trace.now in
    let a : Place = c.args.first in
    let b : Place = c.args.second in
    let X : Some c.in-Some.number ≡ value_of h t a = sym c.in-Some.is ∙ c.value.ensures in
    let Y : Some c.in-Some-value.other ≡ value_of h t b = sym c.in-Some-value.is ∙ c.value-2.ensures in
    let first : has_place h t a ≡ true = has_value h t a (Some c.in-Some.number) X refl in
    let second : has_place h t b ≡ true = has_value h t b (Some c.in-Some-value.other) Y refl in
    let fit : SFits w128 c.in-Some.number = search rules in
    let fit' : SFits w128 c.in-Some-value.other = search rules in
    let x : to_z w128 (of_z w128 c.in-Some.number) ≡ value_at h t a = to_z-of_z w128 c.in-Some.number fit ∙ number_there h t a c.in-Some.number X in
    let y : to_z w128 (of_z w128 c.in-Some-value.other) ≡ value_at h t b = to_z-of_z w128 c.in-Some-value.other fit' ∙ number_there h t b c.in-Some-value.other Y in
    let judged : set_refusal h t (Some a) (value_at h t b) ≡ c.set_refusal.result = sym (c.set_refusal.ensures ∙ ap (set_refusal h t (Some a)) y) in
    let free : set_refusal h t (Some a) (value_at h t b) ≡ None = judged ∙ c.in_default-set_refusal.is in
    let s = spans_both h t a b c.args.trace.now.whole first second in
    omega (arith, c.from.ensures, c.requires.start, c.requires.size, s.has.1)

pub put_number-requires-clause-fits : goal.put_number-requires-clause-fits
put_number-requires-clause-fits c =
    let h : Head = head_of c.args.trace.now in
    let t : List ℕ = bytes_of c.args.trace.now in
    let a : Place = c.args.first in
    let b : Place = c.args.second in
    let X : Some c.in-Some.number ≡ value_of h t a = sym c.in-Some.is ∙ c.value.ensures in
    let Y : Some c.in-Some-value.other ≡ value_of h t b = sym c.in-Some-value.is ∙ c.value-2.ensures in
    let first : has_place h t a ≡ true = has_value h t a (Some c.in-Some.number) X refl in
    let second : has_place h t b ≡ true = has_value h t b (Some c.in-Some-value.other) Y refl in
    let fit : SFits w128 c.in-Some.number = search rules in
    let fit' : SFits w128 c.in-Some-value.other = search rules in
    let x : to_z w128 (of_z w128 c.in-Some.number) ≡ value_at h t a = to_z-of_z w128 c.in-Some.number fit ∙ number_there h t a c.in-Some.number X in
    let y : to_z w128 (of_z w128 c.in-Some-value.other) ≡ value_at h t b = to_z-of_z w128 c.in-Some-value.other fit' ∙ number_there h t b c.in-Some-value.other Y in
    let judged : set_refusal h t (Some a) (value_at h t b) ≡ c.set_refusal.result = sym (c.set_refusal.ensures ∙ ap (set_refusal h t (Some a)) y) in
    let free : set_refusal h t (Some a) (value_at h t b) ≡ None = judged ∙ c.in_default-set_refusal.is in
    subst (λ (z : ℤ). InRange a.kind z) (sym y) (in_range a.kind (value_at h t b) (is_set h t a (value_at h t b) c.args.trace.now.whole free).fits)

pub put_number-requires-2-clause-first : goal.put_number-requires-2-clause-first
put_number-requires-2-clause-first c =
    let h : Head = head_of c.args.trace.now in
    let t : List ℕ = bytes_of c.args.trace.now in
    let a : Place = c.args.first in
    let b : Place = c.args.second in
    let second : has_place h t b ≡ true = has_value h t b (Some c.in-Some-value.other) (sym c.in-Some-value.is ∙ c.value-2.ensures) refl in
    (stands h t b second).first

pub put_number-requires-2-clause-size : goal.put_number-requires-2-clause-size
put_number-requires-2-clause-size c =
    let h : Head = head_of c.args.trace.now in
    let t : List ℕ = bytes_of c.args.trace.now in
    let a : Place = c.args.first in
    let b : Place = c.args.second in
    let second : has_place h t b ≡ true = has_value h t b (Some c.in-Some-value.other) (sym c.in-Some-value.is ∙ c.value-2.ensures) refl in
    sized b.kind.size (stands h t b second).size

pub put_number-requires-2-clause-fits : goal.put_number-requires-2-clause-fits
put_number-requires-2-clause-fits c = in_range c.args.second.kind _ (sym c.if-not-fits.ensures)

pub changed_length-requires : goal.changed_length-requires
changed_length-requires c =
    let h : Head = head_of c.args.trace.now in
    let t : List ℕ = bytes_of c.args.trace.now in
    let a : Place = c.args.first in
    let b : Place = c.args.second in
    let X : Some c.in-Some.number ≡ value_of h t a = sym c.in-Some.is ∙ c.value.ensures in
    let Y : Some c.in-Some-value.other ≡ value_of h t b = sym c.in-Some-value.is ∙ c.value-2.ensures in
    let first : has_place h t a ≡ true = has_value h t a (Some c.in-Some.number) X refl in
    let second : has_place h t b ≡ true = has_value h t b (Some c.in-Some-value.other) Y refl in
    let fit : SFits w128 c.in-Some.number = search rules in
    let fit' : SFits w128 c.in-Some-value.other = search rules in
    let x : to_z w128 (of_z w128 c.in-Some.number) ≡ value_at h t a = to_z-of_z w128 c.in-Some.number fit ∙ number_there h t a c.in-Some.number X in
    let y : to_z w128 (of_z w128 c.in-Some-value.other) ≡ value_at h t b = to_z-of_z w128 c.in-Some-value.other fit' ∙ number_there h t b c.in-Some-value.other Y in
    let judged : set_refusal h t (Some a) (value_at h t b) ≡ c.set_refusal.result = sym (c.set_refusal.ensures ∙ ap (set_refusal h t (Some a)) y) in
    let free : set_refusal h t (Some a) (value_at h t b) ≡ None = judged ∙ c.in_default-set_refusal.is in
    let s = spans_both h t a b c.args.trace.now.whole first second in
    omega (arith, c.from-2.ensures, c.requires.start, c.requires.size, s.has.1, c.put_number-2.auto.bytes, c.put_number.auto.bytes, c.read.auto.out)

pub returns-then-ne-clause-refusal : goal.returns-then-ne-clause-refusal
returns-then-ne-clause-refusal c =
    let h : Head = head_of c.args.trace.now in
    let t : List ℕ = bytes_of c.args.trace.now in
    let a : Place = c.args.first in
    let b : Place = c.args.second in
    let X : Some c.in-Some.number ≡ value_of h t a = sym c.in-Some.is ∙ c.value.ensures in
    let Y : Some c.in-Some-value.other ≡ value_of h t b = sym c.in-Some-value.is ∙ c.value-2.ensures in
    let first : has_place h t a ≡ true = has_value h t a (Some c.in-Some.number) X refl in
    let second : has_place h t b ≡ true = has_value h t b (Some c.in-Some-value.other) Y refl in
    let fit : SFits w128 c.in-Some.number = search rules in
    let fit' : SFits w128 c.in-Some-value.other = search rules in
    let x : to_z w128 (of_z w128 c.in-Some.number) ≡ value_at h t a = to_z-of_z w128 c.in-Some.number fit ∙ number_there h t a c.in-Some.number X in
    let y : to_z w128 (of_z w128 c.in-Some-value.other) ≡ value_at h t b = to_z-of_z w128 c.in-Some-value.other fit' ∙ number_there h t b c.in-Some-value.other Y in
    let judged : set_refusal h t (Some a) (value_at h t b) ≡ c.set_refusal.result = sym (c.set_refusal.ensures ∙ ap (set_refusal h t (Some a)) y) in
    let free : set_refusal h t (Some a) (value_at h t b) ≡ None = judged ∙ c.in_default-set_refusal.is in
    let s = spans_both h t a b c.args.trace.now.whole first second in
    let laid : splice t (span_start (a, b)) (span_size (a, b)) c.put_number-2.new.bytes ≡ swapped h (a, b) t =
    laid_swapped h t a b c.args.order _ _ c.from.result c.args.at c.args.part.now c.read.new.out c.put_number.new.bytes c.put_number-2.new.bytes s c.requires.start c.requires.size c.requires.order x y c.from.ensures c.read.ensures c.put_number.ensures c.put_number-2.ensures in
    let long : length c.put_number-2.new.bytes ≡ span_size (a, b) = omega (arith, c.put_number-2.auto.bytes, c.put_number.auto.bytes, c.read.auto.out, c.requires.size) in
    let fits-second : fits b.kind (value_at h t a) ≡ true = ap (fits b.kind) (sym x) ∙ sym c.if-not-fits.ensures in
    by_length_of_both h t a b first second c.args.trace.now.whole free c.from-2.result (span_size (a, b)) c.put_number-2.new.bytes true c.changed_length.result c.length.result fits-second
    (ap (λ (n : ℕ). splice t n (span_size (a, b)) c.put_number-2.new.bytes) (c.from-2.ensures ∙ c.requires.start) ∙ laid) long c.changed_length.ensures c.length.ensures c.if-ne.ensures

pub returns-clause-refusal : goal.returns-clause-refusal
returns-clause-refusal c =
    let h : Head = head_of c.args.trace.now in
    let t : List ℕ = bytes_of c.args.trace.now in
    let a : Place = c.args.first in
    let b : Place = c.args.second in
    let X : Some c.in-Some.number ≡ value_of h t a = sym c.in-Some.is ∙ c.value.ensures in
    let Y : Some c.in-Some-value.other ≡ value_of h t b = sym c.in-Some-value.is ∙ c.value-2.ensures in
    let first : has_place h t a ≡ true = has_value h t a (Some c.in-Some.number) X refl in
    let second : has_place h t b ≡ true = has_value h t b (Some c.in-Some-value.other) Y refl in
    let fit : SFits w128 c.in-Some.number = search rules in
    let fit' : SFits w128 c.in-Some-value.other = search rules in
    let x : to_z w128 (of_z w128 c.in-Some.number) ≡ value_at h t a = to_z-of_z w128 c.in-Some.number fit ∙ number_there h t a c.in-Some.number X in
    let y : to_z w128 (of_z w128 c.in-Some-value.other) ≡ value_at h t b = to_z-of_z w128 c.in-Some-value.other fit' ∙ number_there h t b c.in-Some-value.other Y in
    let judged : set_refusal h t (Some a) (value_at h t b) ≡ c.set_refusal.result = sym (c.set_refusal.ensures ∙ ap (set_refusal h t (Some a)) y) in
    let free : set_refusal h t (Some a) (value_at h t b) ≡ None = judged ∙ c.in_default-set_refusal.is in
    let s = spans_both h t a b c.args.trace.now.whole first second in
    let laid : splice t (span_start (a, b)) (span_size (a, b)) c.put_number-2.new.bytes ≡ swapped h (a, b) t =
    laid_swapped h t a b c.args.order _ _ c.from.result c.args.at c.args.part.now c.read.new.out c.put_number.new.bytes c.put_number-2.new.bytes s c.requires.start c.requires.size c.requires.order x y c.from.ensures c.read.ensures c.put_number.ensures c.put_number-2.ensures in
    let long : length c.put_number-2.new.bytes ≡ span_size (a, b) = omega (arith, c.put_number-2.auto.bytes, c.put_number.auto.bytes, c.read.auto.out, c.requires.size) in
    let fits-second : fits b.kind (value_at h t a) ≡ true = ap (fits b.kind) (sym x) ∙ sym c.if-not-fits.ensures in
    by_length_of_both h t a b first second c.args.trace.now.whole free c.from-2.result (span_size (a, b)) c.put_number-2.new.bytes false c.changed_length.result c.length.result fits-second
    (ap (λ (n : ℕ). splice t n (span_size (a, b)) c.put_number-2.new.bytes) (c.from-2.ensures ∙ c.requires.start) ∙ laid) long c.changed_length.ensures c.length.ensures c.if-ne.ensures

pub returns-clause-part : goal.returns-clause-part
returns-clause-part c =
    let h : Head = head_of c.args.trace.now in
    let t : List ℕ = bytes_of c.args.trace.now in
    let a : Place = c.args.first in
    let b : Place = c.args.second in
    let X : Some c.in-Some.number ≡ value_of h t a = sym c.in-Some.is ∙ c.value.ensures in
    let Y : Some c.in-Some-value.other ≡ value_of h t b = sym c.in-Some-value.is ∙ c.value-2.ensures in
    let first : has_place h t a ≡ true = has_value h t a (Some c.in-Some.number) X refl in
    let second : has_place h t b ≡ true = has_value h t b (Some c.in-Some-value.other) Y refl in
    let fit : SFits w128 c.in-Some.number = search rules in
    let fit' : SFits w128 c.in-Some-value.other = search rules in
    let x : to_z w128 (of_z w128 c.in-Some.number) ≡ value_at h t a = to_z-of_z w128 c.in-Some.number fit ∙ number_there h t a c.in-Some.number X in
    let y : to_z w128 (of_z w128 c.in-Some-value.other) ≡ value_at h t b = to_z-of_z w128 c.in-Some-value.other fit' ∙ number_there h t b c.in-Some-value.other Y in
    let judged : set_refusal h t (Some a) (value_at h t b) ≡ c.set_refusal.result = sym (c.set_refusal.ensures ∙ ap (set_refusal h t (Some a)) y) in
    let free : set_refusal h t (Some a) (value_at h t b) ≡ None = judged ∙ c.in_default-set_refusal.is in
    let s = spans_both h t a b c.args.trace.now.whole first second in
    let laid : splice t (span_start (a, b)) (span_size (a, b)) c.put_number-2.new.bytes ≡ swapped h (a, b) t =
    laid_swapped h t a b c.args.order _ _ c.from.result c.args.at c.args.part.now c.read.new.out c.put_number.new.bytes c.put_number-2.new.bytes s c.requires.start c.requires.size c.requires.order x y c.from.ensures c.read.ensures c.put_number.ensures c.put_number-2.ensures in
    λ none. laid

pub returns-clause-inside : goal.returns-clause-inside
returns-clause-inside c =
    let h : Head = head_of c.args.trace.now in
    let t : List ℕ = bytes_of c.args.trace.now in
    let a : Place = c.args.first in
    let b : Place = c.args.second in
    let X : Some c.in-Some.number ≡ value_of h t a = sym c.in-Some.is ∙ c.value.ensures in
    let Y : Some c.in-Some-value.other ≡ value_of h t b = sym c.in-Some-value.is ∙ c.value-2.ensures in
    let first : has_place h t a ≡ true = has_value h t a (Some c.in-Some.number) X refl in
    let second : has_place h t b ≡ true = has_value h t b (Some c.in-Some-value.other) Y refl in
    let fit : SFits w128 c.in-Some.number = search rules in
    let fit' : SFits w128 c.in-Some-value.other = search rules in
    let x : to_z w128 (of_z w128 c.in-Some.number) ≡ value_at h t a = to_z-of_z w128 c.in-Some.number fit ∙ number_there h t a c.in-Some.number X in
    let y : to_z w128 (of_z w128 c.in-Some-value.other) ≡ value_at h t b = to_z-of_z w128 c.in-Some-value.other fit' ∙ number_there h t b c.in-Some-value.other Y in
    let judged : set_refusal h t (Some a) (value_at h t b) ≡ c.set_refusal.result = sym (c.set_refusal.ensures ∙ ap (set_refusal h t (Some a)) y) in
    let free : set_refusal h t (Some a) (value_at h t b) ≡ None = judged ∙ c.in_default-set_refusal.is in
    let s = spans_both h t a b c.args.trace.now.whole first second in
    λ none. s.has
