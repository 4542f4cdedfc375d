-- Two fields of chosen traces that are swapped, and swapped again in the same traces.
use Rattle.std.proofs.Common.{◌≡◌, ℕ, ◌-◌, ◌<◌, ◌≤◌, All, true, List, [], length, get_or, Option, Some, None, inl, inr, ap, subst, ◌∙◌, arith}
use Rattle.std.specs.Prelude.{is_some, option_map, option_and_then}
use Rattle.std.specs.Option.{option_map_or}
use Rattle.std.proofs.lemmas.Bool.{cases_lt}
use Rattle.std.proofs.lemmas.List.{get_or_past}
use Rattle.std.proofs.lemmas.List.Elements.{All-get_or}
use Rattle.field_map.specs.declared.place.Place.{Place}
use Rattle.field_map.specs.Pairs.{Pairs}
use Rattle.frame_cut.specs.declared.file_head.Head.{Head}
use Rattle.frame_cut.specs.Cuts.{IsCut, IsTrace}
use Rattle.frame_cut.specs.Traces.{count_of, trace_at}
use Rattle.frame_cut.specs.Volume.{Volume, bytes_of}
use Rattle.frame_cut.proofs.OneCutLemmas.{at_most_one_cut}
use Rattle.bench_rules.specs.declared.chosen.Chosen.{Chosen}
use Rattle.bench_rules.specs.declared.chosen_edit.ChosenEdit.{ChosenEdit}
use Rattle.bench_rules.specs.declared.chosen_edit.ChosenEdit.TheVariants.{Swap}
use Rattle.bench_rules.specs.declared.edit.Edit.TheVariants.{OfChosen}
use Rattle.bench_rules.specs.declared.field.Field.{Field}
use Rattle.bench_rules.specs.After.{bytes_after}
use Rattle.bench_rules.specs.ChosenEdits.{bytes_after_each, has_fields, refusal_of_edit}
use Rattle.bench_rules.specs.Computed.{first_at}
use Rattle.bench_rules.specs.Conditions.{AreRising, chosen}
use Rattle.bench_rules.specs.Places.{place_in_trace}
use Rattle.bench_rules.specs.RangeRefusals.{range_refusal}
use Rattle.bench_rules.specs.Refused.{first_refusal}
use Rattle.bench_rules.specs.State.{State}
use Rattle.bench_rules.specs.SwappedFields.{changed_each, swap_refusal, swapped, two_places}
use Rattle.bench_rules.proofs.ChosenLemmas.{chosen_accepted, chosen_first}
use Rattle.bench_rules.proofs.ManyValueLemmas.{IsRead}
use Rattle.bench_rules.proofs.SetLemmas.{whole_trace}
use Rattle.bench_rules.proofs.SwapLemmas.{head-changed, listed_none, none_listed, rising_at, swapped_cut}
use Rattle.chosen_laws.specs.SwapLaws.{AreApart, AreOfBytes, IsNoLength, IsSwapOf, SwapAgainIsNotRefused, SwapBackIsNotRefused, SwapTwiceIsNothing}
use Rattle.chosen_laws.proofs.ChangedLemmas.{each_changed, restored}
use Rattle.chosen_laws.proofs.StepLemmas.{accepted_traces, bytes_of_chosen, chosen_after}
use Rattle.chosen_laws.proofs.SwappedTraceLemmas.{back_not_refused, swapped_back, swapped_twice, twice_not_refused}
use Rattle.chosen_laws.proofs.WrittenLemmas.{AreBytes}

-- ---- the places, in the other turn

module _ (fields : Pairs) (first second : Field) (places : Place × Place) where
  abbrev other : Place × Place → Place × Place
  other p = (p.1, p.0)

  by-places : (o q : Option Place) → option_and_then {U = Place × Place} (λ a. option_map (λ b. (a, b)) q) o ≡ Some places
      → option_and_then {U = Place × Place} (λ a. option_map (λ b. (a, b)) o) q ≡ Some (other places)
  by-places None q e = absurd cc
  by-places (Some a) None e = absurd cc
  by-places (Some a) (Some b) e = ap (λ (o : Option (Place × Place)). option_map other o) e

  turned : two_places fields first second ≡ Some places → two_places fields second first ≡ Some (places.1, places.0)
  turned e = by-places (place_in_trace fields first) (place_in_trace fields second) e

-- ---- each trace

bytes-at : (t : List ℕ) → All (λ b. b < 256) t → AreBytes t
bytes-at t each i = elim (cases_lt i (length t)) [
  | inl less ↦ All-get_or (λ b. b < 256) t i 0 less each
  | inr past ↦ let none : get_or t i 0 ≡ 0 = get_or_past t i 0 (omega (arith, past)) in omega (arith, none)
]

module _ (s : State) (places : Place × Place) (ps : List ℕ) (read : IsRead s) (each : AreOfBytes s.volume.traces) (away : AreApart places) (up : AreRising 1 (count_of s.volume) ps)
    (free : first_at (λ p. swap_refusal s.volume.head places (trace_at s.volume p)) ps ≡ None) where
  abbrev h : Head
  h = s.volume.head

  abbrev w : Volume
  w = changed_each (swapped h places) s.volume ps

  abbrev trace : ℕ → List ℕ
  trace i = trace_at s.volume (get_or ps i 0)

  there : (i : ℕ) → i < length ps → (1 ≤ get_or ps i 0) × (get_or ps i 0 ≤ count_of s.volume)
  there i less = rising_at 1 (count_of s.volume) ps i up less

  is : (i : ℕ) → i < length ps → IsTrace h (trace i)
  is i less = whole_trace s (get_or ps i 0) read (there i less).0 (there i less).1

  of_bytes : (i : ℕ) → i < length ps → AreBytes (trace i)
  of_bytes i less =
      let at = there i less in
      bytes-at (trace i) (All-get_or (λ t. All (λ b. b < 256) t) s.volume.traces (get_or ps i 0 - 1) [] (omega (arith, at.0, at.1)) each)

  none : (i : ℕ) → i < length ps → swap_refusal h places (trace i) ≡ None
  none i less = listed_none (λ p. swap_refusal h places (trace_at s.volume p)) ps free i less

  -- the volume is as it was where they are swapped again
  back : changed_each (swapped h (places.1, places.0)) w ps ≡ s.volume
  back =
      restored (swapped h places) (swapped h (places.1, places.0)) s.volume 1 (count_of s.volume) ps (omega arith) up (omega arith)
      (λ i less. swapped_back h places (trace i) (is i less) (of_bytes i less) away (none i less))

  twice : changed_each (swapped h places) w ps ≡ s.volume
  twice =
      restored (swapped h places) (swapped h places) s.volume 1 (count_of s.volume) ps (omega arith) up (omega arith)
      (λ i less. swapped_twice h places (trace i) (is i less) (of_bytes i less) away (none i less))

  -- and none of them is refused in the other turn
  free_again : first_at (λ p. swap_refusal w.head (places.1, places.0) (trace_at w p)) ps ≡ None
  free_again =
      let head : w.head ≡ h = head-changed (swapped h places) s.volume ps in
      none_listed (λ p. swap_refusal w.head (places.1, places.0) (trace_at w p)) ps
      (λ i less.
      ap (λ (k : Head). swap_refusal k (places.1, places.0) (trace_at w (get_or ps i 0))) head
      ∙ ap (λ (t : List ℕ). swap_refusal h (places.1, places.0) t) (each_changed (swapped h places) s.volume 1 (count_of s.volume) ps i (omega arith) up (omega arith) less)
      ∙ back_not_refused h places (trace i) (is i less) (of_bytes i less) away (none i less))

  -- nor, where neither says how long a trace is, in the same
  free_twice : IsNoLength places.0 → IsNoLength places.1 → first_at (λ p. swap_refusal w.head places (trace_at w p)) ps ≡ None
  free_twice short long =
      let head : w.head ≡ h = head-changed (swapped h places) s.volume ps in
      none_listed (λ p. swap_refusal w.head places (trace_at w p)) ps
      (λ i less.
      ap (λ (k : Head). swap_refusal k places (trace_at w (get_or ps i 0))) head
      ∙ ap (λ (t : List ℕ). swap_refusal h places t) (each_changed (swapped h places) s.volume 1 (count_of s.volume) ps i (omega arith) up (omega arith) less)
      ∙ twice_not_refused h places (trace i) (is i less) (of_bytes i less) away (none i less) short long)

-- ---- the edits

-- what is known of the first swap
record IsMade (s : State) (c : Chosen) (first second : Field) (ps : List ℕ) (new : State) (places : Place × Place) : Type 0 where
  rising : AreRising 1 (count_of s.volume) ps
  free : first_at (λ p. swap_refusal s.volume.head places (trace_at s.volume p)) ps ≡ None
  volume : new.volume ≡ changed_each (swapped s.volume.head places) s.volume ps
  fields : new.fields ≡ s.fields

made : (s new : State) (c : Chosen) (first second : Field) (places : Place × Place) (ps : List ℕ) → IsSwapOf s c first second places ps new → IsMade s c first second ps new places
made s new c first second places ps i =
    let edit : ChosenEdit = Swap first second in
    let a = chosen_accepted s c edit i.none in
    let same : a.traces ≡ ps = accepted_traces s c edit ps a i.traces in
    let up : AreRising 1 (count_of s.volume) ps = subst (AreRising 1 (count_of s.volume)) same a.rising in
    let none : refusal_of_edit s.volume s.fields edit ps ≡ None = subst (λ (qs : List ℕ). refusal_of_edit s.volume s.fields edit qs ≡ None) same a.none in
    let found : two_places s.fields first second ≡ Some places = i.found in
    let free : first_at (λ p. swap_refusal s.volume.head places (trace_at s.volume p)) ps ≡ None = rw found at none in
    let w : Volume = changed_each (swapped s.volume.head places) s.volume ps in
    let cut : IsCut (bytes_after_each s.volume s.fields edit ps) s.reading s.limits w = rw found (swapped_cut s places ps i.cut up free) in
    let again = (chosen_after s c edit ps w i.traces cut).volume in
    record {
      rising = up;
      free = free;
      volume = at_most_one_cut (bytes_after s (OfChosen c edit)) s.reading s.limits new.volume w i.after.volume again;
      fields = i.after.fields;
    }

-- the bytes after one more swap
bytes-again : (fields : Pairs) (first second : Field) (places : Place × Place) (u v : Volume) (ps : List ℕ) → two_places fields first second ≡ Some places → changed_each (swapped u.head places) u ps ≡ v
    → bytes_after_each u fields (Swap first second) ps ≡ bytes_of v
bytes-again fields first second places u v ps found back =
    ap (λ (o : Option (Place × Place)). option_map_or (λ p. bytes_of (changed_each (swapped u.head p) u ps)) o (bytes_of u)) found ∙ ap bytes_of back

bytes-new : (s new : State) (d : Chosen) (first second : Field) (places : Place × Place) (w : Volume) (ps : List ℕ) → new.volume ≡ w → new.fields ≡ s.fields → chosen new.volume new.fields d ≡ Some ps
    → two_places s.fields first second ≡ Some places → changed_each (swapped w.head places) w ps ≡ s.volume → bytes_after new (OfChosen d (Swap first second)) ≡ bytes_of s.volume
bytes-new s new d first second places w ps volume fields e found back =
    bytes_of_chosen new d (Swap first second) ps e
    ∙ ap (λ (u : Volume). bytes_after_each u new.fields (Swap first second) ps) volume
    ∙ ap (λ (fs : Pairs). bytes_after_each w fs (Swap first second) ps) fields
    ∙ bytes-again s.fields first second places w s.volume ps found back

-- what is refused of the traces with one more swap
refused-new : (s new : State) (d : Chosen) (first second : Field) (places : Place × Place) (w : Volume) (ps : List ℕ) → new.volume ≡ w → new.fields ≡ s.fields → range_refusal new.volume d.traces ≡ None
    → chosen new.volume new.fields d ≡ Some ps → two_places s.fields first second ≡ Some places → first_at (λ p. swap_refusal w.head places (trace_at w p)) ps ≡ None
    → first_refusal new (OfChosen d (Swap first second)) ≡ None
refused-new s new d first second places w ps volume fields range e found free =
    let edit : ChosenEdit = Swap first second in
    let has : has_fields new.fields edit ≡ true = ap (λ (fs : Pairs). has_fields fs edit) fields ∙ ap (λ (o : Option (Place × Place)). is_some o) found in
    chosen_first new d edit ps range has e
    ∙ ap (λ (u : Volume). refusal_of_edit u new.fields edit ps) volume
    ∙ ap (λ (fs : Pairs). refusal_of_edit w fs edit ps) fields
    ∙ ap (λ (o : Option (Place × Place)). option_map_or (λ both. first_at (λ p. swap_refusal w.head both (trace_at w p)) ps) o None) found
    ∙ free

pub swap_back_is_not_refused : SwapBackIsNotRefused
swap_back_is_not_refused s new c d first second places ps i range e =
    let m = made s new c first second places ps i in
    refused-new s new d second first (places.1, places.0) (changed_each (swapped s.volume.head places) s.volume ps) ps m.volume m.fields range e (turned s.fields first second places i.found)
    (free_again s places ps i.cut i.bytes i.apart m.rising m.free)

pub swap_again_is_not_refused : SwapAgainIsNotRefused
swap_again_is_not_refused s new c d first second places ps i short long range e =
    let m = made s new c first second places ps i in
    refused-new s new d first second places (changed_each (swapped s.volume.head places) s.volume ps) ps m.volume m.fields range e i.found
    (free_twice s places ps i.cut i.bytes i.apart m.rising m.free short long)

pub swap_twice_is_nothing : SwapTwiceIsNothing
swap_twice_is_nothing s new c d first second places ps i e =
    let m = made s new c first second places ps i in
    let w : Volume = changed_each (swapped s.volume.head places) s.volume ps in
    let head : w.head ≡ s.volume.head = head-changed (swapped s.volume.head places) s.volume ps in
    let other : two_places s.fields second first ≡ Some (places.1, places.0) = turned s.fields first second places i.found in
    let back : changed_each (swapped w.head (places.1, places.0)) w ps ≡ s.volume =
    ap (λ (k : Head). changed_each (swapped k (places.1, places.0)) w ps) head ∙ back s places ps i.cut i.bytes i.apart m.rising m.free in
    let twice : changed_each (swapped w.head places) w ps ≡ s.volume =
    ap (λ (k : Head). changed_each (swapped k places) w ps) head ∙ twice s places ps i.cut i.bytes i.apart m.rising m.free in
    (bytes-new s new d second first (places.1, places.0) w ps m.volume m.fields e other back, bytes-new s new d first second places w ps m.volume m.fields e i.found twice)
