-- Two numbers of a trace in the place of one another: the trace stays whole, and so does the file.
use Rattle.std.proofs.Common.{◌≡◌, ℕ, ℤ, zero, suc, ◌+◌, ◌*◌, ◌-◌, ◌<◌, ◌≤◌, true, ◌&&◌, List, [], ◌∷◌, length, get_or, Option, Some, None, refl, sym, ap, subst, ◌∙◌, arith}
use Rattle.std.specs.Option.{option_or}
use Rattle.std.proofs.lemmas.List.{length-set, get_or-set_other}
use Rattle.num_order.specs.Number.{bytes, fits}
use Rattle.num_order.proofs.InRangeLemmas.{length-number}
use Rattle.field_map.specs.declared.place.Place.{Place}
use Rattle.frame_cut.specs.declared.file_head.Head.{Head}
use Rattle.frame_cut.specs.declared.limits.Limits.{Limits}
use Rattle.frame_cut.specs.declared.reading.Reading.{Reading}
use Rattle.frame_cut.specs.Cuts.{IsCut, IsTrace}
use Rattle.frame_cut.specs.Frames.{extensions_of, trace_length}
use Rattle.frame_cut.specs.Splice.{splice}
use Rattle.frame_cut.specs.Traces.{count_of, trace_at, with_trace}
use Rattle.frame_cut.specs.Volume.{Volume, bytes_of}
use Rattle.frame_cut.proofs.EditLemmas.{cut_with_trace}
use Rattle.frame_cut.proofs.ExtensionLemmas.{extensions_kept}
use Rattle.trace_view.specs.Values.{has_place, value_at}
use Rattle.bench_rules.specs.declared.refusal.Refusal.{Refusal}
use Rattle.bench_rules.specs.declared.refusal.Refusal.TheVariants.{NoPlace, DoesNotFit, Frame}
use Rattle.bench_rules.specs.Computed.{first_at}
use Rattle.bench_rules.specs.Conditions.{AreRising}
use Rattle.bench_rules.specs.Refused.{is_length, set_refusal, with_value}
use Rattle.bench_rules.specs.State.{State}
use Rattle.bench_rules.specs.SwappedFields.{changed_each, half_swapped, swap_refusal, swapped}
use Rattle.bench_rules.proofs.FirstLemmas.{both_none}
use Rattle.bench_rules.proofs.ManyValueLemmas.{IsRead, length-with_value}
use Rattle.bench_rules.proofs.PlaceLemmas.{at_most_8, place_inside, sized, stands}
use Rattle.bench_rules.proofs.SetLemmas.{both, same_length, unless, whole_trace}

-- ---- one set in a trace

-- the trace with another number at a place is whole, as long as it was, with as many header extensions
pub record IsSet (h : Head) (t : List ℕ) (place : Place) (x : ℤ) : Type 0 where
  pub has : has_place h t place ≡ true
  pub fits : fits place.kind x ≡ true
  pub long : length (with_value h t place x) ≡ length t
  pub whole : IsTrace h (with_value h t place x)
  pub extensions : extensions_of h (with_value h t place x) ≡ extensions_of h t

pub is_set : (h : Head) (t : List ℕ) (place : Place) (x : ℤ) → IsTrace h t → set_refusal h t (Some place) x ≡ None → IsSet h t place x
is_set h t place x is e =
    let has = unless (has_place h t place) NoPlace _ e in
    let fit = unless (fits place.kind x) DoesNotFit _ has.1 in
    let same = unless (is_length (trace_length h (with_value h t place x)) (length t)) Frame None fit.1 in
    let exact : trace_length h (with_value h t place x) ≡ Some (length t) = same_length _ _ same.0 in
    let new : List ℕ = bytes h.order place.kind x in
    let at : ℕ = 240 * place.extension + place.byte - 1 in
    let size : length new ≡ place.kind.size = length-number h.order place.kind x in
    let inside : at + length new ≤ length t = omega (arith, size, place_inside h t place is has.0) in
    let few : length new ≤ 8 = omega (arith, size, at_most_8 place.kind.size (sized place.kind.size (stands h t place has.0).size)) in
    let spliced : with_value h t place x ≡ splice t at (length new) new = ap (λ (n : ℕ). splice t at n new) (sym size) in
    let long : length (with_value h t place x) ≡ length t = length-with_value h t place x is has.0 in
    record {
      has = has.0;
      fits = fit.0;
      long = long;
      whole = record { whole = omega (arith, long, is.whole); exact = exact ∙ ap (λ (n : ℕ). let o : Option ℕ = Some n in o) (sym long) };
      extensions = ap (extensions_of h) spliced ∙ extensions_kept h t new at is few inside (sym (ap (trace_length h) spliced) ∙ exact);
    }

-- ---- both sets

-- the trace has both places, and each has room for the other's number; with both numbers it is whole, as long as it was, with as many
-- header extensions
pub record IsSwapped (h : Head) (places : Place × Place) (t : List ℕ) : Type 0 where
  pub first : has_place h t places.0 ≡ true
  pub second : has_place h t places.1 ≡ true
  pub long : length (swapped h places t) ≡ length t
  pub whole : IsTrace h (swapped h places t)
  pub extensions : extensions_of h (swapped h places t) ≡ extensions_of h t

pub is_swapped : (h : Head) (places : Place × Place) (t : List ℕ) → IsTrace h t → swap_refusal h places t ≡ None → IsSwapped h places t
is_swapped h places t is e =
    let there = unless (has_place h t places.0 && has_place h t places.1) NoPlace _ e in
    let has = both _ _ there.0 in
    let sets = both_none (set_refusal h t (Some places.0) (value_at h t places.1)) (set_refusal h (half_swapped h places t) (Some places.1) (value_at h t places.0)) there.1 in
    let one = is_set h t places.0 (value_at h t places.1) is sets.0 in
    let two = is_set h (half_swapped h places t) places.1 (value_at h t places.0) one.whole sets.1 in
    record {
      first = has.0;
      second = has.1;
      long = two.long ∙ one.long;
      whole = two.whole;
      extensions = two.extensions ∙ one.extensions;
    }

-- ---- the first refusal at listed positions

pub listed_none : (refusal : ℕ → Option Refusal) (ps : List ℕ) → first_at refusal ps ≡ None → (i : ℕ) → i < length ps → refusal (get_or ps i 0) ≡ None
listed_none refusal [] e i less = absurd (omega (arith, less))
listed_none refusal (p ∷ ps) e zero less = (both_none (refusal p) (first_at refusal ps) e).0
listed_none refusal (p ∷ ps) e (suc i) less = listed_none refusal ps (both_none (refusal p) (first_at refusal ps) e).1 i (omega (arith, less))

pub none_listed : (refusal : ℕ → Option Refusal) (ps : List ℕ) → ((i : ℕ) → i < length ps → refusal (get_or ps i 0) ≡ None) → first_at refusal ps ≡ None
none_listed refusal [] each = refl
none_listed refusal (p ∷ ps) each = rw (each 0 (omega arith)) (none_listed refusal ps (λ i less. each (suc i) (omega (arith, less))))

pub here_listed : (refusal : ℕ → Option Refusal) (ps : List ℕ) (k : ℕ) (r : Refusal) → k < length ps → ((i : ℕ) → i < k → refusal (get_or ps i 0) ≡ None) → refusal (get_or ps k 0) ≡ Some r → first_at refusal ps ≡ Some r
here_listed refusal [] k r less before here = absurd (omega (arith, less))
here_listed refusal (p ∷ ps) zero r less before here = ap (λ (o : Option Refusal). option_or o (first_at refusal ps)) here
here_listed refusal (p ∷ ps) (suc k) r less before here =
    rw (before 0 (omega arith)) (here_listed refusal ps k r (omega (arith, less)) (λ i l. before (suc i) (omega (arith, l))) here)

-- ---- each of the traces

-- the change leaves the trace whole, and as long as it was
pub record StaysWhole (h : Head) (change : List ℕ → List ℕ) (t : List ℕ) : Type 0 where
  pub long : length (change t) ≡ length t
  pub whole : IsTrace h (change t)

-- the k-th of rising positions
pub rising_at : (m n : ℕ) (ps : List ℕ) (k : ℕ) → AreRising m n ps → k < length ps → (m ≤ get_or ps k 0) × (get_or ps k 0 ≤ n)
rising_at m n [] k up less = absurd (omega (arith, less))
rising_at m n (p ∷ ps) zero up less = (up.0, up.1)
rising_at m n (p ∷ ps) (suc k) up less = let rest = rising_at (p + 1) n ps k up.2 (omega (arith, less)) in (omega (arith, rest.0, up.0), rest.1)

pub head-changed : (change : List ℕ → List ℕ) (v : Volume) (ps : List ℕ) → (changed_each change v ps).head ≡ v.head
head-changed change v [] = refl
head-changed change v (p ∷ ps) = head-changed change (with_trace v p (change (trace_at v p))) ps

-- changes that leave each trace whole leave the file cut
pub changed_cut : (reading : Reading) (limits : Limits) (change : List ℕ → List ℕ) (v : Volume) (k : ℕ) (ps : List ℕ) → 1 ≤ k → IsCut (bytes_of v) reading limits v → AreRising k (count_of v) ps
    → ((i : ℕ) → i < length ps → StaysWhole v.head change (trace_at v (get_or ps i 0))) → IsCut (bytes_of (changed_each change v ps)) reading limits (changed_each change v ps)
changed_cut reading limits change v k [] low cut up each = cut
changed_cut reading limits change v k (p ∷ ps) low cut up each =
    let t : List ℕ = trace_at v p in
    let w : Volume = with_trace v p (change t) in
    let here : StaysWhole v.head change t = each 0 (omega arith) in
    let exact : trace_length v.head (change t) ≡ Some (length (change t)) = here.whole.exact in
    let next : IsCut (bytes_of w) reading limits w = cut_with_trace reading limits v (p - 1) (change t) cut (omega (arith, low, up.0, up.1)) here.long exact in
    let many : count_of w ≡ count_of v = length-set v.traces (p - 1) (change t) in
    let rest : AreRising (p + 1) (count_of w) ps = subst (λ (n : ℕ). AreRising (p + 1) n ps) (sym many) up.2 in
    changed_cut reading limits change w (p + 1) ps (omega arith) next rest
    (λ i less.
    let at = rising_at (p + 1) (count_of v) ps i up.2 less in
    let same : trace_at w (get_or ps i 0) ≡ trace_at v (get_or ps i 0) =
    get_or-set_other v.traces (p - 1) (get_or ps i 0 - 1) (change t) [] (λ e. omega (arith, e, at.0, low, up.0)) in
    subst (λ (u : List ℕ). StaysWhole v.head change u) (sym same) (each (suc i) (omega (arith, less))))

-- ---- the numbers of two places of each

module _ (s : State) (places : Place × Place) (ps : List ℕ) (read : IsRead s) (up : AreRising 1 (count_of s.volume) ps)
    (none : first_at (λ p. swap_refusal s.volume.head places (trace_at s.volume p)) ps ≡ None) where
  pub each_swapped : (i : ℕ) → i < length ps → IsSwapped s.volume.head places (trace_at s.volume (get_or ps i 0))
  each_swapped i less =
      let at = rising_at 1 (count_of s.volume) ps i up less in
      is_swapped s.volume.head places (trace_at s.volume (get_or ps i 0)) (whole_trace s (get_or ps i 0) read at.0 at.1)
      (listed_none (λ p. swap_refusal s.volume.head places (trace_at s.volume p)) ps none i less)

  pub each_whole : (i : ℕ) → i < length ps → StaysWhole s.volume.head (swapped s.volume.head places) (trace_at s.volume (get_or ps i 0))
  each_whole i less = record { long = (each_swapped i less).long; whole = (each_swapped i less).whole }

  pub swapped_cut : IsCut (bytes_of (changed_each (swapped s.volume.head places) s.volume ps)) s.reading s.limits (changed_each (swapped s.volume.head places) s.volume ps)
  swapped_cut = changed_cut s.reading s.limits (swapped s.volume.head places) s.volume 1 ps (omega arith) read up each_whole
