-- A value that was set is read again, and the rest of the file is as it was.
use Rattle.std.proofs.Common.{◌≡◌, ℕ, ◌+◌, ◌*◌, ◌-◌, ◌<◌, ◌≤◌, Bool, true, ◌&&◌, cond, leb, List, [], length, take, drop, Option, Some, None, Ok, Err, ℤ, refl, sym, ap, subst, ◌∙◌, arith}
use Rattle.std.proofs.lemmas.Bool.{le-leb}
use Rattle.std.proofs.lemmas.List.{length-set, get_or-set_same, get_or-set_other}
use Rattle.num_order.specs.Number.{num, bytes, fits, IsSize}
use Rattle.num_order.proofs.InRangeLemmas.{in_range, length-number}
use Rattle.num_order.proofs.RoundTripLemmas.{reads_back}
use Rattle.field_map.specs.declared.place.Place.{Place}
use Rattle.field_map.specs.Pairs.{Pairs}
use Rattle.frame_cut.specs.declared.file_head.Head.{Head}
use Rattle.frame_cut.specs.Cuts.{IsTrace, IsCut}
use Rattle.frame_cut.specs.Frames.{header_bytes, extensions_of, trace_length}
use Rattle.frame_cut.specs.Splice.{splice}
use Rattle.frame_cut.specs.Traces.{count_of, is_trace, trace_at, with_trace}
use Rattle.frame_cut.specs.Volume.{Volume, bytes_of}
use Rattle.frame_cut.proofs.OneCutLemmas.{at_most_one_cut}
use Rattle.trace_view.specs.Values.{is_in_header, has_place, value_of, value_at}
use Rattle.bench_rules.specs.declared.answer.Answer.TheVariants as answers
use Rattle.bench_rules.specs.declared.ask_fault.AskFault.TheVariants.{NoTrace, NoPlace}
use Rattle.bench_rules.specs.declared.edit.Edit.TheVariants.{Set}
use Rattle.bench_rules.specs.declared.field.Field.{Field}
use Rattle.bench_rules.specs.declared.query.Query.TheVariants as queries
use Rattle.bench_rules.specs.After.{bytes_after}
use Rattle.bench_rules.specs.Answer.{Reply, answer, of_trace, or_fault, trace_value}
use Rattle.bench_laws.specs.EditLaws.{ReadsWhatWasSet, SetLeavesTheRest, LeavesOthers}
use Rattle.bench_rules.specs.Places.{place_in_trace}
use Rattle.bench_rules.specs.Refused.{first_refusal, with_value}
use Rattle.bench_rules.specs.State.{State}
use Rattle.bench_rules.proofs.HeaderEditLemmas.{same_refused, same_after, no_place}
use Rattle.bench_rules.proofs.PlaceLemmas.{stands, place_inside, sized, at_most_8}
use Rattle.bench_rules.proofs.SetLemmas.{Accepted, accepted, is_after, whole_trace}
use Rattle.bench_rules.proofs.SpliceLemmas.{itself}
use Rattle.frame_cut.proofs.ExtensionLemmas.{extensions_kept}

-- ---- the value at the place

-- the place is there with the value at it
read_again : (h : Head) (t : List ℕ) (place : Place) (x : ℤ) → IsTrace h t → has_place h t place ≡ true → fits place.kind x ≡ true → trace_length h (with_value h t place x) ≡ Some (length t)
    → value_of h (with_value h t place x) place ≡ Some x
read_again h t place x is has fit exact =
    let new : List ℕ = bytes h.order place.kind x in
    let size : length new ≡ place.kind.size = length-number h.order place.kind x in
    let at : ℕ = 240 * place.extension + place.byte - 1 in
    let one : IsSize place.kind.size = sized place.kind.size (stands h t place has).size in
    let inside : at + length new ≤ length t = omega (arith, size, place_inside h t place is has) in
    let few : length new ≤ 8 = omega (arith, size, at_most_8 place.kind.size one) in
    let u : List ℕ = with_value h t place x in
    let same : u ≡ splice t at (length new) new = ap (λ (n : ℕ). splice t at n new) (sym size) in
    let kept : extensions_of h u ≡ extensions_of h t =
    ap (extensions_of h) same ∙ extensions_kept h t new at is few inside (sym (ap (trace_length h) same) ∙ exact) in
    let there : has_place h u place ≡ true = ap (λ (n : ℕ). is_in_header place && leb place.extension n) kept ∙ has in
    let shown : header_bytes place.extension place.byte place.kind.size u ≡ new =
    ap (λ (n : ℕ). take n (drop at u)) (sym size) ∙ ap (λ (s : List ℕ). take (length new) (drop at s)) same ∙ itself t new at inside in
    let value : value_at h u place ≡ x = ap (num h.order place.kind) shown ∙ reads_back h.order place.kind x one (in_range place.kind x fit) in
    ap (λ (b : Bool). let o : Option ℤ = cond b (Some (value_at h u place)) None in o) there ∙ ap (λ (y : ℤ). let o : Option ℤ = Some y in o) value

-- ---- the volume with the value

-- trace p is there, and is the new one
still_there : (v : Volume) (p : ℕ) (t : List ℕ) → 1 ≤ p → p ≤ count_of v → is_trace (with_trace v p t) p ≡ true
still_there v p t first last =
    let few : p ≤ count_of (with_trace v p t) = omega (arith, length-set v.traces (p - 1) t) in
    rw (le-leb 1 p first, le-leb p (count_of (with_trace v p t)) few) refl

-- the answer where each part of it is known
replies : (w : Volume) (fields : Pairs) (p : ℕ) (f : Field) (place : Place) (t : List ℕ) (x : ℤ) → is_trace w p ≡ true → trace_at w p ≡ t → place_in_trace fields f ≡ Some place → value_of w.head t place ≡ Some x
    → of_trace w p (λ u. trace_value w.head u (place_in_trace fields f)) ≡ Ok (answers.Value x)
replies w fields p f place t x there is e read =
    ap (λ (b : Bool). let r : Reply = cond b (trace_value w.head (trace_at w p) (place_in_trace fields f)) (Err (NoTrace p (count_of w))) in r) there
    ∙ ap (λ (u : List ℕ). trace_value w.head u (place_in_trace fields f)) is
    ∙ ap (trace_value w.head t) e
    ∙ ap (λ (o : Option ℤ). or_fault o NoPlace answers.Value) read

-- what is known of the volume that is read from the new bytes
pub record IsMade (s : State) (p : ℕ) (place : Place) (x : ℤ) (v : Volume) : Type 0 where
  pub accepted : Accepted s.volume p place x
  pub same : v ≡ with_trace s.volume p (with_value s.volume.head (trace_at s.volume p) place x)

pub made : (s : State) (p : ℕ) (f : Field) (place : Place) (x : ℤ) (v : Volume) → place_in_trace s.fields f ≡ Some place → IsCut (bytes_of s.volume) s.reading s.limits s.volume → first_refusal s (Set p f x) ≡ None
    → IsCut (bytes_after s (Set p f x)) s.reading s.limits v → IsMade s p place x v
made s p f place x v e cut none after =
    let w : Volume = with_trace s.volume p (with_value s.volume.head (trace_at s.volume p) place x) in
    let a = accepted s p place x (sym (same_refused s p f place x e) ∙ none) in
    let again = (same_after s p f place x (record s { volume = w }) e (is_after s p place x cut a)).volume in
    record { accepted = a; same = at_most_one_cut (bytes_after s (Set p f x)) s.reading s.limits v w after again }

pub reads_what_was_set : ReadsWhatWasSet
reads_what_was_set s p f x v cut none after = by (place_in_trace s.fields f) refl
  where
    by : (o : Option Place) → place_in_trace s.fields f ≡ o → answer (record s { volume = v }) (queries.Get p f) ≡ Ok (answers.Value x)
    by None e = absurd (no_place s p f x e none)
    by (Some place) e =
        let t : List ℕ = trace_at s.volume p in
        let u : List ℕ = with_value s.volume.head t place x in
        let m = made s p f place x v e cut none after in
        let a = m.accepted in
        let there : p - 1 < length s.volume.traces = omega (arith, a.first, a.last) in
        ap (λ (w : Volume). answer (record s { volume = w }) (queries.Get p f)) m.same
        ∙ replies (with_trace s.volume p u) s.fields p f place u x
        (still_there s.volume p u a.first a.last)
        (get_or-set_same s.volume.traces (p - 1) u [] there) e
        (read_again s.volume.head t place x (whole_trace s p cut a.first a.last) a.has a.fits a.length)

-- ---- the rest

pub leaves : (v : Volume) (p : ℕ) (t : List ℕ) → 1 ≤ p → LeavesOthers v (with_trace v p t) p
leaves v p t first = record {
  head = refl;
  text = refl;
  bin = refl;
  blocks = refl;
  tail = refl;
  trailer = refl;
  count = length-set v.traces (p - 1) t;
  traces = λ q low other. get_or-set_other v.traces (p - 1) (q - 1) t [] (λ same. other (omega arith));
}

pub set_leaves_the_rest : SetLeavesTheRest
set_leaves_the_rest s p f x v cut none after = by (place_in_trace s.fields f) refl
  where
    by : (o : Option Place) → place_in_trace s.fields f ≡ o → LeavesOthers s.volume v p
    by None e = absurd (no_place s p f x e none)
    by (Some place) e =
        let m = made s p f place x v e cut none after in
        subst (λ (w : Volume). LeavesOthers s.volume w p) (sym m.same)
        (leaves s.volume p (with_value s.volume.head (trace_at s.volume p) place x) m.accepted.first)
