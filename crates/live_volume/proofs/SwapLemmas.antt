-- Two numbers of chosen traces in the place of one another: the bytes that are laid over the traces in front, and the volume once all are brought back.
use Rattle.std.proofs.Common.{◌≡◌, ◌⊎◌, ℕ, suc, ◌+◌, ◌*◌, ◌-◌, ◌/◌, ◌%◌, ◌<◌, ◌≤◌, List, [], ◌∷◌, length, take, drop, get_or, set, Some, None, inl, inr, refl, sym, ap, ap₂, subst, ◌∙◌, arith}
use Rattle.std.proofs.lemmas.List.{length-set, get_or-set_other, drop-drop, length-drop}
use Rattle.std.proofs.Math.Nat.{mul-div_cancel, mul-mod_left}
use Rattle.field_map.specs.declared.place.Place.{Place}
use Rattle.field_map.specs.Pairs.{Pairs}
use Rattle.frame_cut.specs.Cuts.{IsCut, IsTrace}
use Rattle.frame_cut.specs.Frames.{extensions_of}
use Rattle.frame_cut.specs.Parts.{put_each_at, with_each}
use Rattle.frame_cut.specs.Splice.{splice}
use Rattle.frame_cut.specs.Traces.{count_of, trace_at}
use Rattle.frame_cut.specs.Volume.{Volume}
use Rattle.trace_store.specs.Each.{part_of}
use Rattle.trace_store.specs.Swapped.{with_places_swapped}
use Rattle.volume_records.specs.OfVolume.{AreHeaderParts}
use Rattle.edit_overlay.specs.CountedVolume.{RisesAtMost}
use Rattle.bench_rules.specs.declared.chosen_edit.ChosenEdit.TheVariants as each
use Rattle.bench_rules.specs.declared.field.Field.{Field}
use Rattle.bench_rules.specs.declared.refusal.Refusal.{Refusal}
use Rattle.bench_rules.specs.declared.refusal.Refusal.TheVariants.{OutOfMemory}
use Rattle.bench_rules.specs.ChosenEdits.{bytes_after_each, refusal_of_edit}
use Rattle.bench_rules.specs.Computed.{first_at}
use Rattle.bench_rules.specs.Conditions.{AreRising}
use Rattle.bench_rules.specs.Places.{place_in_trace}
use Rattle.bench_rules.specs.ReadFaults.{IsReadRefusal}
use Rattle.bench_rules.specs.State.{State}
use Rattle.bench_rules.specs.SwappedFields.{changed_each, swap_refusal, swapped, two_places}
use Rattle.bench_rules.proofs.ManyValueLemmas.{IsRead, put_each-none, put_each-step}
use Rattle.bench_rules.proofs.SwapLemmas.{IsSwapped, each_swapped, swapped_cut}
use Rattle.many_traces.specs.Spans.{span_size, span_start, AreSwapped, HaveSpan}
use Rattle.many_traces.proofs.SwappedLemmas.{spans_front}
use Rattle.chosen_traces.specs.Gathered.{pairs_back}
use Rattle.chosen_traces.proofs.FrontLemmas.{read-front, with_front}
use Rattle.chosen_traces.proofs.GatheredLemmas.{changed, in_front}
use Rattle.live_volume.specs.Chosen.{IsRefusedFor}
use Rattle.live_volume.specs.Held.{with_volume, IsCutAs, IsReadAs}
use Rattle.live_volume.specs.Refusals.{IsOfMachine}
use Rattle.live_volume.proofs.ChangedLemmas.{changed_state, changes, front_room, in_front_is, laid_cut}

-- ---- bytes laid over each

no_bytes : (bs : List ℕ) (size : ℕ) → length bs ≡ 0 * size → bs ≡ []
no_bytes [] size e = refl
no_bytes (b ∷ bs) size e = absurd (omega (arith, e))

-- parts that make of each trace the changed one, laid over the traces from position k on, are the changes
laid-changed : (change : List ℕ → List ℕ) (at size k : ℕ) (ps bs : List ℕ) (ts : List (List ℕ)) → 0 < size → 1 ≤ k → length bs ≡ length ps * size → k - 1 + length ps ≤ length ts
    → ((i : ℕ) → i < length ps → splice (get_or ts (k - 1 + i) []) at size (part_of bs size i) ≡ change (get_or ts (k - 1 + i) []))
    → put_each_at ts (k - 1) at size bs ≡ changed [] (in_front [] k (changes change ps)) ts
laid-changed change at size k [] bs ts some low long within each =
    ap (put_each_at ts (k - 1) at size) (no_bytes bs size long) ∙ put_each-none ts (k - 1) at size
laid-changed change at size k (p ∷ ps) bs ts some low long within each =
    let t : List ℕ = get_or ts (k - 1) [] in
    let none : 0 * size ≡ 0 = omega arith in
    let zeroth : k - 1 + 0 ≡ k - 1 = omega arith in
    let here : splice t at size (take size bs) ≡ change t = rw (none, zeroth) at (each 0 (omega arith)) in
    let us : List (List ℕ) = set ts (k - 1) (change t) in
    let next : suc (k - 1) ≡ k + 1 - 1 = omega (arith, low) in
    let more : suc (length ps) * size ≡ size + length ps * size = omega arith in
    let left : length (drop size bs) ≡ length ps * size = omega (arith, length-drop size bs, long, more) in
    sym (put_each-step ts (k - 1) at size bs (omega (arith, within)) (omega (arith, long, more, some)))
    ∙ ap (λ (u : List ℕ). put_each_at (set ts (k - 1) u) (suc (k - 1)) at size (drop size bs)) here
    ∙ ap (λ (n : ℕ). put_each_at us n at size (drop size bs)) next
    ∙ laid-changed change at size (k + 1) ps (drop size bs) us some (omega arith) left (omega (arith, within, low, length-set ts (k - 1) (change t)))
    (λ i less.
    let far : k + 1 - 1 + i ≡ k - 1 + suc i = omega (arith, low) in
    let other : get_or us (k + 1 - 1 + i) [] ≡ get_or ts (k - 1 + suc i) [] =
    get_or-set_other ts (k - 1) (k + 1 - 1 + i) (change t) [] (λ e. omega (arith, e, low)) ∙ ap (λ (n : ℕ). get_or ts n []) far in
    let further : size + i * size ≡ suc i * size = omega arith in
    let same : part_of (drop size bs) size i ≡ part_of bs size (suc i) = ap (take size) (drop-drop (i * size) size bs ∙ ap (λ (n : ℕ). drop n bs) further) in
    subst (λ (u : List ℕ). splice u at size (part_of (drop size bs) size i) ≡ change u) (sym other)
    (ap (splice (get_or ts (k - 1 + suc i) []) at size) same ∙ each (suc i) (omega (arith, less))))

-- ---- the volume in front, and back

module _ (s : State) (places : Place × Place) (ps bs : List ℕ) (up : AreRising 1 (count_of s.volume) ps) (some : 0 < length ps) (long : length bs ≡ length ps * span_size places) (have : HaveSpan s.volume places ps) where
  abbrev v : Volume
  v = s.volume

  abbrev change : List ℕ → List ℕ
  change = swapped v.head places

  abbrev at : ℕ
  at = span_start places

  abbrev size : ℕ
  size = span_size places

  abbrev n : ℕ
  n = length ps

  abbrev front : State
  front = with_front s ps

  -- the bytes are as many parts as there are traces
  pub some_bytes : 0 < size
  some_bytes = (have 0 some).0

  pub parts_many : length bs / size ≡ n
  parts_many = rw long (mul-div_cancel n some_bytes)

  pub parts_exact : length bs % size ≡ 0
  parts_exact = rw long (mul-mod_left n size)

  pub parts_last : 1 - 1 + n ≤ count_of front.volume
  parts_last = front_room s ps up some

  pub parts_inside : (k : ℕ) → k < length bs / size → at + size ≤ length (get_or front.volume.traces (1 - 1 + k) [])
  parts_inside k less = let here : k < n = omega (arith, less, parts_many) in subst (λ (t : List ℕ). at + size ≤ length t) (sym (in_front_is s ps up some k here)) (have k here).1

  module _ (read : IsRead s) (are : AreSwapped v places ps bs) (none : first_at (λ p. swap_refusal v.head places (trace_at v p)) ps ≡ None) where
    own : (k : ℕ) → k < n → IsSwapped v.head places (get_or front.volume.traces (1 - 1 + k) [])
    own k less = subst (IsSwapped v.head places) (sym (in_front_is s ps up some k less)) (each_swapped s places ps read up none k less)

    over : (k : ℕ) → k < n → splice (get_or front.volume.traces (1 - 1 + k) []) at size (part_of bs size k) ≡ change (get_or front.volume.traces (1 - 1 + k) [])
    over k less = subst (λ (t : List ℕ). splice t at size (part_of bs size k) ≡ change t) (sym (in_front_is s ps up some k less)) (are k less)

    there : (k : ℕ) → k < length bs / size → k < n
    there k less = omega (arith, less, parts_many)

    pub header_parts : AreHeaderParts front.volume 1 at size bs
    header_parts = record {
      some = some_bytes;
      exact = parts_exact;
      last = omega (arith, parts_last, parts_many);
      traces = (read-front s ps read up).parts.traces;
      front = λ k less. let o = own k (there k less) in spans_front v.head (get_or front.volume.traces (1 - 1 + k) []) places.0 places.1 o.first o.second;
      whole = λ k less. subst (IsTrace v.head) (sym (over k (there k less))) (own k (there k less)).whole;
      kept = λ k less. ap (extensions_of v.head) (over k (there k less)) ∙ (own k (there k less)).extensions;
    }

    -- the traces in front with the bytes over them
    laid : (with_each front.volume 1 at size bs).traces ≡ changed [] (in_front [] 1 (changes change ps)) front.volume.traces
    laid = laid-changed change at size 1 ps bs front.volume.traces some_bytes (omega arith) long parts_last over

    pub front_cut : IsCutAs front (with_each front.volume 1 at size bs)
    front_cut = laid_cut s ps up some change (with_each front.volume 1 at size bs).traces laid read (λ k less. let o = own k less in record { long = o.long; whole = o.whole })

    -- the state behind the edit
    pub swapped_state : (s1 s2 s3 : State) (from wide : ℕ) → s1 ≡ front → s2 ≡ with_volume s1 (with_each s1.volume 1 from wide bs) → from ≡ at → wide ≡ size
        → s3 ≡ record s2 { volume = with_places_swapped s2.volume (pairs_back 1 ps) } → s3 ≡ with_volume s (changed_each change v ps)
    swapped_state s1 s2 s3 from wide in-front-of done from-is wide-is back =
        changed_state s ps up some change (with_each front.volume 1 at size bs).traces laid s2 s3
        (done
        ∙ ap (λ (u : State). with_volume u (with_each u.volume 1 from wide bs)) in-front-of
        ∙ ap₂ (λ (i : ℕ) (j : ℕ). with_volume front (with_each front.volume 1 i j bs)) from-is wide-is)
        back

-- ---- what is read, and told

-- laid over and brought back, the state is read in the same way
pub read_through : (s s1 s2 s3 : State) (w : Volume) (ps : List ℕ) → s1 ≡ with_front s ps → s2 ≡ with_volume s1 w → s3 ≡ record s2 { volume = with_places_swapped s2.volume (pairs_back 1 ps) } → IsReadAs s s3
read_through s s1 s2 s3 w ps first done back = record {
  reading = ap (λ (u : State). u.reading) back ∙ ap (λ (u : State). u.reading) done ∙ ap (λ (u : State). u.reading) first;
  limits = ap (λ (u : State). u.limits) back ∙ ap (λ (u : State). u.limits) done ∙ ap (λ (u : State). u.limits) first;
  on_disk = ap (λ (u : State). u.on_disk) back ∙ ap (λ (u : State). u.on_disk) done ∙ ap (λ (u : State). u.on_disk) first;
}

-- the places of both fields
pub both_places : (fields : Pairs) (f g : Field) (a b : Place) → Some a ≡ place_in_trace fields f → Some b ≡ place_in_trace fields g → two_places fields f g ≡ Some (a, b)
both_places fields f g a b e h = rw (← e, ← h) refl

module _ (s : State) (f g : Field) (a b : Place) (ps : List ℕ) (found : two_places s.fields f g ≡ Some (a, b)) where
  -- a refusal that is told of the traces
  pub swap_told : {P : Type 0} (r : Refusal) → 0 < length ps → P → (r ≡ OutOfMemory) ⊎ IsReadRefusal s.on_disk r ⊎ (P → first_at (λ p. swap_refusal s.volume.head (a, b) (trace_at s.volume p)) ps ≡ Some r) → IsRefusedFor s (each.Swap f g) ps r
  swap_told r some sure (inl want) = inl want
  swap_told r some sure (inr (inl read)) = inr (inl (read, omega (arith, some)))
  swap_told r some sure (inr (inr told)) = inr (inr (rw found (told sure)))

  -- or of the machine
  pub machine_told : (r : Refusal) → 0 < length ps → IsOfMachine s.on_disk r → IsRefusedFor s (each.Swap f g) ps r
  machine_told r some (inl want) = inl want
  machine_told r some (inr read) = inr (inl (read, omega (arith, some)))

  -- nothing is refused, and the volume behind the edit is the cut of its bytes
  pub swap_free : first_at (λ p. swap_refusal s.volume.head (a, b) (trace_at s.volume p)) ps ≡ None → refusal_of_edit s.volume s.fields (each.Swap f g) ps ≡ None
  swap_free none = rw found none

  pub swap_cut : IsRead s → AreRising 1 (count_of s.volume) ps → first_at (λ p. swap_refusal s.volume.head (a, b) (trace_at s.volume p)) ps ≡ None
      → IsCut (bytes_after_each s.volume s.fields (each.Swap f g) ps) s.reading s.limits (changed_each (swapped s.volume.head (a, b)) s.volume ps)
  swap_cut read up none = rw found (swapped_cut s (a, b) ps read up none)

-- the looks of both calls
pub looked_twice : (old mid new n : ℕ) → RisesAtMost old mid n → RisesAtMost mid new n → RisesAtMost old new (2 * n)
looked_twice old mid new n first second = (omega (arith, first, second), omega (arith, first, second))

-- and of one alone
pub looked_once : (old new n : ℕ) → RisesAtMost old new n → RisesAtMost old new (2 * n)
looked_once old new n first = (omega (arith, first), omega (arith, first))
