-- Edits one after another, each of them done, and an edit of the traces that are chosen.
use Rattle.std.proofs.Common.{◌≡◌, ℕ, List, [], ◌∷◌, ◌++◌, Option, Some, None, Result, Ok, refl, sym, ap, subst, ◌∙◌}
use Rattle.std.specs.Option.{option_map_or}
use Rattle.frame_cut.specs.Cuts.{IsCut}
use Rattle.frame_cut.specs.Volume.{Volume, bytes_of}
use Rattle.bench_rules.specs.declared.chosen.Chosen.{Chosen}
use Rattle.bench_rules.specs.declared.chosen_edit.ChosenEdit.{ChosenEdit}
use Rattle.bench_rules.specs.declared.edit.Edit.{Edit}
use Rattle.bench_rules.specs.declared.edit.Edit.TheVariants.{OfChosen}
use Rattle.bench_rules.specs.declared.refusal.Refusal.{Refusal}
use Rattle.bench_rules.specs.ChosenEdits.{bytes_after_each}
use Rattle.bench_rules.specs.Conditions.{chosen}
use Rattle.bench_rules.specs.Refused.{first_refusal}
use Rattle.bench_rules.specs.State.{State}
use Rattle.bench_rules.specs.Steps.{IsAfter, Step, StepUnless, Steps}
use Rattle.bench_rules.proofs.ChosenLemmas.{ChosenAccepted}
use Rattle.chosen_laws.specs.EditLaws.{done_each}

-- ---- steps

-- an edit that is not refused is done
pub step_done : (s new : State) (edit : Edit) → first_refusal s edit ≡ None → IsAfter s edit new → Step {T = Option ℕ} s edit (Ok None) new
step_done s new edit none after = subst (λ (o : Option Refusal). StepUnless {T = Option ℕ} o s edit (Ok None) new) (sym none) after

-- one more edit behind the others
pub steps_then : (s mid new : State) (edits : List Edit) (replies : List (Result (Option ℕ) Refusal)) (edit : Edit) (reply : Result (Option ℕ) Refusal)
    → Steps s edits replies mid → Step mid edit reply new → Steps s (edits ++ edit ∷ []) (replies ++ reply ∷ []) new
steps_then s mid new [] [] edit reply steps step = (new, subst (λ (u : State). Step u edit reply new) steps step, refl)
steps_then s mid new [] (r ∷ rs) edit reply steps step = absurd steps
steps_then s mid new (e ∷ es) [] edit reply steps step = absurd steps
steps_then s mid new (e ∷ es) (r ∷ rs) edit reply steps step = (steps.0, steps.1, steps_then steps.0 mid new es rs edit reply steps.2 step)

-- one more reply is the same in front and behind
pub done_behind : {X : Type 0} (xs : List X) → done_each xs ++ Ok None ∷ [] ≡ Ok None ∷ done_each xs
done_behind [] = refl
done_behind (x ∷ xs) = ap (λ (rs : List (Result (Option ℕ) Refusal)). Ok None ∷ rs) (done_behind xs)

-- ---- an edit of chosen traces

-- the bytes after it are those after the edit of the traces that are chosen
pub bytes_of_chosen : (s : State) (c : Chosen) (edit : ChosenEdit) (ps : List ℕ) → chosen s.volume s.fields c ≡ Some ps
    → option_map_or (bytes_after_each s.volume s.fields edit) (chosen s.volume s.fields c) (bytes_of s.volume) ≡ bytes_after_each s.volume s.fields edit ps
bytes_of_chosen s c edit ps e = ap (λ (o : Option (List ℕ)). option_map_or (bytes_after_each s.volume s.fields edit) o (bytes_of s.volume)) e

-- so it is done where the volume is the cut of those
pub chosen_after : (s : State) (c : Chosen) (edit : ChosenEdit) (ps : List ℕ) (w : Volume) → chosen s.volume s.fields c ≡ Some ps → IsCut (bytes_after_each s.volume s.fields edit ps) s.reading s.limits w
    → IsAfter s (OfChosen c edit) (record s { volume = w })
chosen_after s c edit ps w e cut =
    record {
      volume = subst (λ (file : List ℕ). IsCut file s.reading s.limits w) (sym (bytes_of_chosen s c edit ps e)) cut;
      fields = refl;
      reading = refl;
      limits = refl;
      on_disk = refl;
    }

-- what is accepted are these traces
some-same : {X : Type 0} {x y : X} → (let o : Option X = Some x in o) ≡ Some y → x ≡ y
some-same e = cc

pub accepted_traces : (s : State) (c : Chosen) (edit : ChosenEdit) (ps : List ℕ) → (a : ChosenAccepted s c edit) → chosen s.volume s.fields c ≡ Some ps → a.traces ≡ ps
accepted_traces s c edit ps a e = some-same (sym a.found ∙ e)
