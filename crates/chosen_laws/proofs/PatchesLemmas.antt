-- One value in a range of the samples of chosen traces is what patches of them make.
use Rattle.std.proofs.Common.{◌≡◌, ℕ, ℤ, zero, suc, ◌+◌, ◌-◌, ◌<◌, ◌≤◌, true, List, [], ◌∷◌, length, get_or, replicate, Some, None, refl, sym, ap, subst, ◌∙◌, arith}
use Rattle.std.specs.List.{list_all}
use Rattle.std.proofs.lemmas.Bool.{le-leb, le-ltb}
use Rattle.std.proofs.lemmas.List.{get_or-set_other, length-set}
use Rattle.sample_codes.specs.declared.value_format.ValueFormat.{ValueFormat}
use Rattle.sample_codes.specs.Formats.{sample_fits}
use Rattle.frame_cut.specs.declared.file_head.Head.{Head}
use Rattle.frame_cut.specs.Cuts.{IsCut}
use Rattle.frame_cut.specs.Frames.{sample_count}
use Rattle.frame_cut.specs.Traces.{count_of, is_trace, trace_at, with_trace}
use Rattle.frame_cut.specs.Volume.{Volume}
use Rattle.bench_rules.specs.declared.chosen_edit.ChosenEdit.{ChosenEdit}
use Rattle.bench_rules.specs.declared.chosen_edit.ChosenEdit.TheVariants as each
use Rattle.bench_rules.specs.declared.edit.Edit.TheVariants.{Patch}
use Rattle.bench_rules.specs.Conditions.{AreRising}
use Rattle.bench_rules.specs.FilledSamples.{filled, range_values, samples_refusal}
use Rattle.bench_rules.specs.Refused.{first_refusal, values_refusal}
use Rattle.bench_rules.specs.State.{State}
use Rattle.bench_rules.specs.Steps.{IsAfter, Steps}
use Rattle.bench_rules.specs.SwappedFields.{changed_each}
use Rattle.bench_rules.specs.ChosenEdits.{refusal_of_edit}
use Rattle.bench_rules.proofs.ChosenLemmas.{chosen_accepted}
use Rattle.bench_rules.proofs.FillLemmas.{HasValue, filled-is, filled_cut, range_inside, samples_there, value_there}
use Rattle.bench_rules.proofs.ManyValueLemmas.{IsRead}
use Rattle.bench_rules.proofs.SwapLemmas.{rising_at}
use Rattle.bench_rules.proofs.TraceStepLemmas.{patch_is_after}
use Rattle.chosen_laws.specs.EditLaws.{FillIsItsPatches, done_each, patches_of}
use Rattle.chosen_laws.proofs.StepLemmas.{accepted_traces, chosen_after, step_done}

-- ---- one patch

-- a value fits as often as it stands there
all-fit : (f : ValueFormat) (x : ℤ) (n : ℕ) → sample_fits f x ≡ true → list_all (sample_fits f) (replicate n x) ≡ true
all-fit f x zero fit = refl
all-fit f x (suc n) fit = rw fit (all-fit f x n fit)

values-accepted : (f : ValueFormat) (h : Head) (t : List ℕ) (k : ℕ) (xs : List ℤ) → list_all (sample_fits f) xs ≡ true → k + length xs ≤ sample_count h t → values_refusal (Some f) h t k xs ≡ None
values-accepted f h t k xs fit inside = rw (fit, le-ltb (sample_count h t) (k + length xs) inside) refl

module _ (first last : ℕ) (x : ℤ) where
  -- the state with one more trace filled
  abbrev one_filled : State → ℕ → State
  one_filled s p = record s { volume = with_trace s.volume p (filled s.volume.head first last x (trace_at s.volume p)) }

  record IsPatched (s : State) (p : ℕ) : Type 0 where
    none : first_refusal s (Patch p first (range_values first last x)) ≡ None
    after : IsAfter s (Patch p first (range_values first last x)) (one_filled s p)
    read : IsRead (one_filled s p)

  patched : (s : State) (p : ℕ) → IsRead s → HasValue s.volume.head x → 1 ≤ p → p ≤ count_of s.volume → samples_refusal s.volume.head first last (trace_at s.volume p) ≡ None → IsPatched s p
  patched s p cut has low high free =
      let h : Head = s.volume.head in
      let t : List ℕ = trace_at s.volume p in
      let f : ValueFormat = has.format in
      let xs : List ℤ = range_values first last x in
      let there : is_trace s.volume p ≡ true = rw (le-leb 1 p low, le-leb p (count_of s.volume) high) refl in
      let accepted : values_refusal (Some f) h t first xs ≡ None = values-accepted f h t first xs (all-fit f x (last + 1 - first) has.fits) (range_inside h first last x t free) in
      let none : first_refusal s (Patch p first xs) ≡ None = rw (there, has.reads) accepted in
      let after : IsAfter s (Patch p first xs) (one_filled s p) =
      subst (λ (u : List ℕ). IsAfter s (Patch p first xs) (record s { volume = with_trace s.volume p u })) (sym (filled-is h f first last x t has.reads)) (patch_is_after s f p first xs has.reads cut none) in
      record {
        none = none;
        after = after;
        read = subst (λ (file : List ℕ). IsCut file s.reading s.limits (one_filled s p).volume) (sym after.volume.joined) after.volume;
      }

  -- ---- one patch after another

  -- the state with all of them filled
  abbrev all_filled : State → List ℕ → State
  all_filled s ps = record s { volume = changed_each (filled s.volume.head first last x) s.volume ps }

  patches_from : (s : State) (k : ℕ) (ps : List ℕ) → IsRead s → HasValue s.volume.head x → 1 ≤ k → AreRising k (count_of s.volume) ps
      → ((i : ℕ) → i < length ps → samples_refusal s.volume.head first last (trace_at s.volume (get_or ps i 0)) ≡ None) → Steps s (patches_of first last x ps) (done_each ps) (all_filled s ps)
  patches_from s k [] cut has low up free = refl
  patches_from s k (p ∷ ps) cut has low up free =
      let v : Volume = s.volume in
      let t : List ℕ = filled v.head first last x (trace_at v p) in
      let mid : State = one_filled s p in
      let one = patched s p cut has (omega (arith, low, up.0)) up.1 (free 0 (omega arith)) in
      let many : count_of mid.volume ≡ count_of v = length-set v.traces (p - 1) t in
      let rest : AreRising (p + 1) (count_of mid.volume) ps = subst (λ (n : ℕ). AreRising (p + 1) n ps) (sym many) up.2 in (
        mid,
        step_done s mid (Patch p first (range_values first last x)) one.none one.after,
        patches_from mid (p + 1) ps one.read has (omega arith) rest
            (λ i less.
            let at = rising_at (p + 1) (count_of v) ps i up.2 less in
            let same : trace_at mid.volume (get_or ps i 0) ≡ trace_at v (get_or ps i 0) = get_or-set_other v.traces (p - 1) (get_or ps i 0 - 1) t [] (λ e. omega (arith, e, at.0, low, up.0)) in
            ap (samples_refusal v.head first last) same ∙ free (suc i) (omega (arith, less))),
      )

pub fill_is_its_patches : FillIsItsPatches
fill_is_its_patches s c first last x ps cut none e =
    let edit : ChosenEdit = each.Fill first last x in
    let a = chosen_accepted s c edit none in
    let same : a.traces ≡ ps = accepted_traces s c edit ps a e in
    let up : AreRising 1 (count_of s.volume) ps = subst (AreRising 1 (count_of s.volume)) same a.rising in
    let free : refusal_of_edit s.volume s.fields edit ps ≡ None = subst (λ (qs : List ℕ). refusal_of_edit s.volume s.fields edit qs ≡ None) same a.none in
    let new : State = all_filled first last x s ps in
    (new, patches_from first last x s 1 ps cut (value_there s first last x ps cut up free) (omega arith) up (samples_there s first last x ps cut up free), chosen_after s c edit ps new.volume e (filled_cut s first last x ps cut up free))
