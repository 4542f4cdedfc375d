-- One value in samples of chosen traces: the bytes that are laid over the traces in front, and the volume once all are brought back.
use Rattle.std.proofs.Common.{◌≡◌, ◌⊎◌, ◌∙◌, ℕ, ℤ, zero, suc, ◌+◌, ◌*◌, ◌-◌, ◌<◌, ◌≤◌, ◌^◌, List, [], ◌∷◌, ◌++◌, length, take, drop, get_or, set, Option, Some, None, inl, inr, refl, sym, ap, ap₂, subst, arith}
use Rattle.std.specs.Option.{option_map_or, option_or}
use Rattle.std.specs.Prelude.{max, min, replicate, IfSome}
use Rattle.std.proofs.Math.Nat.{mul-le-mul_left}
use Rattle.std.proofs.lemmas.List.{append-nil, length-replicate, length-set, get_or-set_other, set-get_or, take-append-drop}
use Rattle.sample_codes.specs.declared.value_format.ValueFormat.{ValueFormat}
use Rattle.sample_codes.specs.Formats.{samples_bytes, values, width}
use Rattle.sample_codes.proofs.WidthLemmas.{width-positive}
use Rattle.frame_cut.specs.declared.file_head.Head.{Head}
use Rattle.frame_cut.specs.Cuts.{IsCut, IsTrace}
use Rattle.frame_cut.specs.Frames.{sample_count}
use Rattle.frame_cut.specs.Splice.{splice}
use Rattle.frame_cut.specs.Traces.{count_of, trace_at, with_trace}
use Rattle.frame_cut.specs.Volume.{Volume}
use Rattle.trace_store.specs.Each.{put_over}
use Rattle.trace_store.specs.Swapped.{with_places_swapped}
use Rattle.trace_view.specs.Values.{samples_at}
use Rattle.edit_overlay.specs.CountedVolume.{with_over}
use Rattle.bench_rules.specs.declared.chosen_edit.ChosenEdit.TheVariants as each
use Rattle.bench_rules.specs.declared.refusal.Refusal.{Refusal}
use Rattle.bench_rules.specs.declared.refusal.Refusal.TheVariants.{OutOfMemory}
use Rattle.bench_rules.specs.ChosenEdits.{bytes_after_each, refusal_of_edit}
use Rattle.bench_rules.specs.Computed.{first_at}
use Rattle.bench_rules.specs.Conditions.{AreRising}
use Rattle.bench_rules.specs.FilledSamples.{filled, range_values, samples_refusal, sample_value_refusal, with_samples}
use Rattle.bench_rules.specs.ReadFaults.{IsReadRefusal}
use Rattle.bench_rules.specs.State.{State}
use Rattle.bench_rules.specs.SwappedFields.{changed_each}
use Rattle.bench_rules.proofs.FillLemmas.{each_filled, filled-is, filled_cut, has_samples, has_value, length-range, HasValue}
use Rattle.bench_rules.proofs.ManyValueLemmas.{IsRead}
use Rattle.bench_rules.proofs.PatchLemmas.{length-values}
use Rattle.bench_rules.proofs.SwapLemmas.{StaysWhole}
use Rattle.many_traces.specs.SamplePlaces.{AreSamplePlaces, HaveSampleRoom}
use Rattle.chosen_traces.specs.Gathered.{pairs_back}
use Rattle.chosen_traces.proofs.FrontLemmas.{with_front}
use Rattle.chosen_traces.proofs.GatheredLemmas.{changed, in_front}
use Rattle.live_volume.specs.Chosen.{IsRefusedFor}
use Rattle.live_volume.specs.Held.{with_volume, IsCutAs}
use Rattle.live_volume.specs.Refusals.{IsOfMachine}
use Rattle.live_volume.proofs.ChangedLemmas.{changed_state, changes, front_room, in_front_is, laid_cut}

-- ---- bytes laid over each

-- over no trace
over-none : (ts : List (List ℕ)) (p : ℕ) (bytes : List ℕ) → put_over ts p [] bytes ≡ ts
over-none [] p bytes = refl
over-none (t ∷ ts) zero bytes = refl
over-none (t ∷ ts) (suc p) bytes = ap (λ (us : List (List ℕ)). t ∷ us) (over-none ts p bytes)

-- over the first one, and then over the others
over-step : (ts : List (List ℕ)) (p at : ℕ) (places bytes : List ℕ) → p < length ts
    → put_over (set ts p (splice (get_or ts p []) at (length bytes) bytes)) (suc p) places bytes ≡ put_over ts p (at ∷ places) bytes
over-step [] p at places bytes within = absurd (omega (arith, within))
over-step (t ∷ ts) zero at places bytes within = refl
over-step (t ∷ ts) (suc p) at places bytes within = ap (λ (us : List (List ℕ)). t ∷ us) (over-step ts p at places bytes (omega (arith, within)))

-- bytes that make of each trace the changed one, laid over the traces from position k on, are the changes
over-changed : (change : List ℕ → List ℕ) (k : ℕ) (ps places bs : List ℕ) (ts : List (List ℕ)) → 1 ≤ k → length places ≡ length ps → k - 1 + length ps ≤ length ts
    → ((i : ℕ) → i < length ps → splice (get_or ts (k - 1 + i) []) (get_or places i 0) (length bs) bs ≡ change (get_or ts (k - 1 + i) []))
    → put_over ts (k - 1) places bs ≡ changed [] (in_front [] k (changes change ps)) ts
over-changed change k [] [] bs ts low same within each = over-none ts (k - 1) bs
over-changed change k [] (at ∷ places) bs ts low same within each = absurd (omega (arith, same))
over-changed change k (p ∷ ps) [] bs ts low same within each = absurd (omega (arith, same))
over-changed change k (p ∷ ps) (at ∷ places) bs ts low same within each =
    let t : List ℕ = get_or ts (k - 1) [] in
    let zeroth : k - 1 + 0 ≡ k - 1 = omega arith in
    let here : splice t at (length bs) bs ≡ change t = rw zeroth at (each 0 (omega arith)) in
    let us : List (List ℕ) = set ts (k - 1) (change t) in
    let next : suc (k - 1) ≡ k + 1 - 1 = omega (arith, low) in
    sym (over-step ts (k - 1) at places bs (omega (arith, within)))
    ∙ ap (λ (u : List ℕ). put_over (set ts (k - 1) u) (suc (k - 1)) places bs) here
    ∙ ap (λ (n : ℕ). put_over us n places bs) next
    ∙ over-changed change (k + 1) ps places bs us (omega arith) (omega (arith, same)) (omega (arith, within, low, length-set ts (k - 1) (change t)))
    (λ i less.
    let far : k + 1 - 1 + i ≡ k - 1 + suc i = omega (arith, low) in
    let other : get_or us (k + 1 - 1 + i) [] ≡ get_or ts (k - 1 + suc i) [] =
    get_or-set_other ts (k - 1) (k + 1 - 1 + i) (change t) [] (λ e. omega (arith, e, low)) ∙ ap (λ (n : ℕ). get_or ts n []) far in
    subst (λ (u : List ℕ). splice u (get_or places i 0) (length bs) bs ≡ change u) (sym other) (each (suc i) (omega (arith, less))))

-- ---- the bytes of the value, as often as there are samples from the first to the last, counted in 32 bits

module _ (h : Head) (f : ValueFormat) (first last count : ℕ) (x : ℤ) (reads : values h.format ≡ Some f) (samples : first ≤ last) (is : count ≡ min (last - first + 1) (2 ^ 32 - 1)) where
  size_of_range : length (samples_bytes h.order f (replicate count x)) ≡ width h.format * count
  size_of_range = length-values h f (replicate count x) reads ∙ ap (λ (n : ℕ). width h.format * n) (length-replicate count x)

  pub range_some : 0 < length (samples_bytes h.order f (replicate count x))
  range_some =
      let one : 1 ≤ count = omega (arith, is) in
      let least : width h.format * 1 ≤ width h.format * count = mul-le-mul_left (width h.format) one in
      omega (arith, size_of_range, least, width-positive h.format)

  pub range_long : length (samples_bytes h.order f (replicate count x)) ≤ width h.format * (last + 1 - first)
  range_long =
      let most : count ≤ last + 1 - first = omega (arith, is) in
      omega (arith, size_of_range, mul-le-mul_left (width h.format) most)

  -- where a trace has them they are all counted
  pub range_whole : (t : List ℕ) (number : ℕ) → number < 2 ^ 32 → number ≡ sample_count h t → samples_refusal h first last t ≡ None → replicate count x ≡ range_values first last x
  range_whole t number small number_is none =
      let has : max first last < sample_count h t = has_samples h first last t none in
      let all : count ≡ last + 1 - first = omega (arith, is, has, number_is, small, samples) in
      ap (λ (n : ℕ). replicate n x) all

-- ---- the volume in front, and back

module _ (s : State) (first last : ℕ) (x : ℤ) (ps places bs : List ℕ) (up : AreRising 1 (count_of s.volume) ps) (some : 0 < length ps) (count : length places ≡ length ps) (long : length bs ≤ width s.volume.head.format * (last + 1 - first))
    (room : HaveSampleRoom s.volume (last + 1 - first) ps places) where
  abbrev v : Volume
  v = s.volume

  abbrev change : List ℕ → List ℕ
  change = filled v.head first last x

  abbrev front : State
  front = with_front s ps

  pub over_last : 1 - 1 + length places ≤ count_of front.volume
  over_last = omega (arith, front_room s ps up some, count)

  pub over_inside : (k : ℕ) → k < length places → get_or places k 0 + length bs ≤ length (get_or front.volume.traces (1 - 1 + k) [])
  over_inside k less =
      let here : k < length ps = omega (arith, less, count) in
      subst (λ (t : List ℕ). get_or places k 0 + length bs ≤ length t) (sym (in_front_is s ps up some k here)) (omega (arith, long, room k here))

  module _ (read : IsRead s) (fits : sample_value_refusal (values s.volume.head.format) x ≡ None) (none : first_at (λ p. samples_refusal s.volume.head first last (trace_at s.volume p)) ps ≡ None) (are : AreSamplePlaces s.volume first ps places)
      (bytes : IfSome (values s.volume.head.format) (λ f. bs ≡ samples_bytes s.volume.head.order f (range_values first last x))) where
    has : HasValue v.head x
    has = has_value v.head x fits

    is : bs ≡ samples_bytes v.head.order has.format (range_values first last x)
    is = subst (λ (o : Option ValueFormat). IfSome o (λ f. bs ≡ samples_bytes v.head.order f (range_values first last x))) has.reads bytes

    free : option_or (sample_value_refusal (values v.head.format) x) (first_at (λ p. samples_refusal v.head first last (trace_at v p)) ps) ≡ None
    free = rw fits none

    own : (k : ℕ) → k < length ps → StaysWhole v.head change (get_or front.volume.traces (1 - 1 + k) [])
    own k less = subst (StaysWhole v.head change) (sym (in_front_is s ps up some k less)) (each_filled s first last x ps read up free k less)

    -- as many bytes as the values take
    size : length bs ≡ width v.head.format * length (range_values first last x)
    size = ap (λ (l : List ℕ). length l) is ∙ length-values v.head has.format (range_values first last x) has.reads

    over : (k : ℕ) → k < length ps → splice (get_or front.volume.traces (1 - 1 + k) []) (get_or places k 0) (length bs) bs ≡ change (get_or front.volume.traces (1 - 1 + k) [])
    over k less =
        let t : List ℕ = trace_at v (get_or ps k 0) in
        let laid : splice t (get_or places k 0) (length bs) bs ≡ change t =
        ap (λ (at : ℕ). splice t at (length bs) bs) (are k less)
        ∙ ap₂ (λ (n : ℕ) (l : List ℕ). splice t (samples_at v.head t + width v.head.format * first) n l) size is
        ∙ sym (filled-is v.head has.format first last x t has.reads) in
        subst (λ (u : List ℕ). splice u (get_or places k 0) (length bs) bs ≡ change u) (sym (in_front_is s ps up some k less)) laid

    pub over_whole : (k : ℕ) → k < length places → IsTrace front.volume.head (splice (get_or front.volume.traces (1 - 1 + k) []) (get_or places k 0) (length bs) bs)
    over_whole k less =
        let here : k < length ps = omega (arith, less, count) in
        subst (IsTrace v.head) (sym (over k here)) (own k here).whole

    -- the traces in front with the bytes over them
    laid : put_over front.volume.traces (1 - 1) places bs ≡ changed [] (in_front [] 1 (changes change ps)) front.volume.traces
    laid = over-changed change 1 ps places bs front.volume.traces (omega arith) count (front_room s ps up some) over

    pub over_cut : IsCutAs front (with_over front.volume 1 places bs)
    over_cut = laid_cut s ps up some change (put_over front.volume.traces (1 - 1) places bs) laid read own

    -- the state behind the edit
    pub filled_state : (s1 s2 s3 : State) → s1 ≡ front → s2 ≡ with_volume s1 (with_over s1.volume 1 places bs) → s3 ≡ record s2 { volume = with_places_swapped s2.volume (pairs_back 1 ps) }
        → s3 ≡ with_volume s (changed_each change v ps)
    filled_state s1 s2 s3 in-front-of done back =
        changed_state s ps up some change (put_over front.volume.traces (1 - 1) places bs) laid s2 s3 (done ∙ ap (λ (u : State). with_volume u (with_over u.volume 1 places bs)) in-front-of) back

-- ---- no samples

-- a range that has none leaves a trace as it is
filled-none : (h : Head) (first last : ℕ) (x : ℤ) (t : List ℕ) → last < first → filled h first last x t ≡ t
filled-none h first last x t less = by (values h.format)
  where
    none : (xs : List ℤ) → length xs ≡ 0 → xs ≡ []
    none [] e = refl
    none (y ∷ ys) e = absurd (omega (arith, e))

    here : (f : ValueFormat) → with_samples h f t first [] ≡ t
    here f =
        let at : ℕ = samples_at h t + width h.format * first in
        let long : at + width h.format * 0 ≡ at = omega arith in
        ap (λ (n : ℕ). let ys : List ℕ = take at t ++ [] ++ drop n t in ys) long ∙ ap (λ (l : List ℕ). l ++ drop at t) (append-nil (take at t)) ∙ take-append-drop at t

    by : (o : Option ValueFormat) → option_map_or (λ f. with_samples h f t first (range_values first last x)) o t ≡ t
    by None = refl
    by (Some f) = ap (λ (xs : List ℤ). with_samples h f t first xs) (none (range_values first last x) (omega (arith, length-range first last x, less))) ∙ here f

pub unfilled : (h : Head) (first last : ℕ) (x : ℤ) (v : Volume) (ps : List ℕ) → last < first → changed_each (filled h first last x) v ps ≡ v
unfilled h first last x v [] less = refl
unfilled h first last x v (p ∷ ps) less =
    let same : with_trace v p (filled h first last x (trace_at v p)) ≡ v =
    ap (λ (t : List ℕ). with_trace v p t) (filled-none h first last x (trace_at v p) less) ∙ ap (λ (ts : List (List ℕ)). let w : Volume = record v { traces = ts } in w) (set-get_or v.traces (p - 1) []) in
    ap (λ (w : Volume). changed_each (filled h first last x) w ps) same ∙ unfilled h first last x v ps less

-- ---- what is told

module _ (s : State) (first last : ℕ) (x : ℤ) (ps : List ℕ) (fits : sample_value_refusal (values s.volume.head.format) x ≡ None) where
  -- a refusal that is told of the traces
  pub fill_told : {P : Type 0} (r : Refusal) → 0 < length ps → P → (r ≡ OutOfMemory) ⊎ IsReadRefusal s.on_disk r ⊎ (P → first_at (λ p. samples_refusal s.volume.head first last (trace_at s.volume p)) ps ≡ Some r)
      → IsRefusedFor s (each.Fill first last x) ps r
  fill_told r some sure (inl want) = inl want
  fill_told r some sure (inr (inl read)) = inr (inl (read, omega (arith, some)))
  fill_told r some sure (inr (inr told)) = inr (inr (rw fits (told sure)))

  -- or of the machine
  pub fill_failed : (r : Refusal) → 0 < length ps → IsOfMachine s.on_disk r → IsRefusedFor s (each.Fill first last x) ps r
  fill_failed r some (inl want) = inl want
  fill_failed r some (inr read) = inr (inl (read, omega (arith, some)))

  -- nothing is refused, and the volume behind the edit is the cut of its bytes
  pub fill_free : first_at (λ p. samples_refusal s.volume.head first last (trace_at s.volume p)) ps ≡ None → refusal_of_edit s.volume s.fields (each.Fill first last x) ps ≡ None
  fill_free none = rw fits none

  pub fill_cut : IsRead s → AreRising 1 (count_of s.volume) ps → first_at (λ p. samples_refusal s.volume.head first last (trace_at s.volume p)) ps ≡ None
      → IsCut (bytes_after_each s.volume s.fields (each.Fill first last x) ps) s.reading s.limits (changed_each (filled s.volume.head first last x) s.volume ps)
  fill_cut read up none = filled_cut s first last x ps read up (fill_free none)

-- the value itself is refused
pub value_told : (s : State) (first last : ℕ) (x : ℤ) (ps : List ℕ) (r : Refusal) → sample_value_refusal (values s.volume.head.format) x ≡ Some r → refusal_of_edit s.volume s.fields (each.Fill first last x) ps ≡ Some r
value_told s first last x ps r e = rw e refl
