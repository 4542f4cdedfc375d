-- Edits of chosen traces one after another, and what the whole edit tells.
use Rattle.std.proofs.Common.{◌≡◌, ◌⊎◌, ℕ, zero, suc, ◌+◌, ◌-◌, ◌*◌, ◌<◌, ◌≤◌, Bool, true, false, ◌&&◌, leb, List, [], ◌∷◌, length, drop, Option, Some, None, Ok, Err, inl, inr, refl, sym, ap, subst, ◌∙◌, arith}
use Rattle.std.specs.Prelude.{get_or, Result, IsErr, IsErrAnd, if◌then◌else◌}
use Rattle.std.proofs.lemmas.Bool.{le-leb}
use Rattle.field_map.specs.declared.place.Place.{Place}
use Rattle.field_map.specs.Pairs.{Pairs}
use Rattle.frame_cut.specs.Traces.{count_of}
use Rattle.edit_overlay.specs.CountedVolume.{RisesAtMost}
use Rattle.bench_rules.specs.declared.ask_fault.AskFault.{AskFault}
use Rattle.bench_rules.specs.declared.ask_fault.AskFault.TheVariants as asks
use Rattle.bench_rules.specs.declared.chosen.Chosen.{Chosen}
use Rattle.bench_rules.specs.declared.chosen_edit.ChosenEdit.{ChosenEdit}
use Rattle.bench_rules.specs.declared.chosen_edit.ChosenEdit.TheVariants as each
use Rattle.bench_rules.specs.declared.edit.Edit.TheVariants.{Delete, OfChosen}
use Rattle.bench_rules.specs.declared.refusal.Refusal.{Refusal}
use Rattle.bench_rules.specs.declared.refusal.Refusal.TheVariants as refusals
use Rattle.bench_rules.specs.declared.test.Test.{Test}
use Rattle.bench_rules.specs.ChosenEdits.{has_fields, refusal_of_chosen, refusal_under, without_each}
use Rattle.bench_rules.specs.Conditions.{AreRising, chosen, chosen_among, lacks_values, range_of, tests_of}
use Rattle.bench_rules.specs.Looks.{choosing_looks, each_looks, edit_looks, is_told, most_chosen, put_looks}
use Rattle.bench_rules.specs.Places.{place_in_trace}
use Rattle.bench_rules.specs.RangeFaults.{refusal_for}
use Rattle.bench_rules.specs.RangeRefusals.{range_refusal}
use Rattle.bench_rules.specs.ReadFaults.{IsReadFault, IsReadRefusal}
use Rattle.bench_rules.specs.Refused.{first_refusal}
use Rattle.bench_rules.specs.State.{State, Session}
use Rattle.bench_rules.specs.Steps.{Step}
use Rattle.bench_rules.proofs.ChosenLemmas.{chosen_first, rising-few, without_cut}
use Rattle.chosen_traces.specs.Choosing.{choosing_fault, fault_under, fault_without}
use Rattle.live_volume.specs.Chosen.{IsRefusedFor}
use Rattle.live_volume.specs.Held.{with_volume}
use Rattle.live_volume.proofs.HeldLemmas.{told_first, told_of_read}

-- ---- the whole edit

-- more traces are no fewer looks
put-more : (fields : Pairs) (o : Option Place) (n m : ℕ) → n ≤ m → put_looks fields o n ≤ put_looks fields o m
put-more fields None n m less = omega arith
put-more fields (Some place) n m less = by (is_told fields place)
  where
    by : (b : Bool) → (if b then 0 else n) ≤ (if b then 0 else m)
    by true = omega arith
    by false = less

each-more : (fields : Pairs) (edit : ChosenEdit) (n m : ℕ) → n ≤ m → each_looks fields edit n ≤ each_looks fields edit m
each-more fields (each.Nothing names) n m less = omega arith
each-more fields (each.Renumber f first step) n m less = put-more fields (place_in_trace fields f) (2 * n) (2 * m) (omega (arith, less))
each-more fields (each.Compute f source steps) n m less = omega (arith, less)
each-more fields each.Delete n m less = omega arith
each-more fields (each.Swap first second) n m less = omega (arith, less)
each-more fields (each.Fill first last x) n m less = omega (arith, less)

-- the looks of the choice and of the edit are those of the whole
pub all_looked : (s : State) (c : Chosen) (edit : ChosenEdit) (n old mid new : ℕ) → n ≤ most_chosen s.volume s.fields c → RisesAtMost old mid (choosing_looks s.volume s.fields c)
    → RisesAtMost mid new (each_looks s.fields edit n) → RisesAtMost old new (edit_looks s (OfChosen c edit))
all_looked s c edit n old mid new few choice each =
    let more = each-more s.fields edit n (most_chosen s.volume s.fields c) few in
    (omega (arith, choice, each), omega (arith, choice, each, more))

module _ (s : State) (c : Chosen) (edit : ChosenEdit) (free : range_refusal s.volume c.traces ≡ None) (has : has_fields s.fields edit ≡ true) where
  -- want of memory may be told
  wants : (T : Type 0) (new : State) → new ≡ s → (let r : Result T Refusal = Err refusals.OutOfMemory in Step s (OfChosen c edit) r new)
  wants T new same = by (first_refusal s (OfChosen c edit)) refl
    where
      by : (o : Option Refusal) → first_refusal s (OfChosen c edit) ≡ o → (let r : Result T Refusal = Err refusals.OutOfMemory in Step s (OfChosen c edit) r new)
      by None e = rw e (inl (refl, tt), same)
      by (Some first) e = rw e (inl (inr (refl, free)), same)

  -- the fault of the choice is the refusal of the edit
  under-fault : (o : Option (List Test)) (fault : AskFault) → fault_under s.volume c.traces o ≡ Some fault → refusal_under s.volume s.fields c.traces edit o ≡ Some (refusal_for fault)
  under-fault None fault e = let is : asks.NoField ≡ fault = cc in ap (λ (f : AskFault). let o : Option Refusal = Some (refusal_for f) in o) is
  under-fault (Some tests) fault e = by (lacks_values s.volume.head.format tests) (chosen_among s.volume tests (range_of c.traces)) e
    where
      by : (lacks : Bool) (o : Option (List ℕ)) → (if lacks then Some asks.NoValues else fault_without o) ≡ Some fault
          → (if lacks then Some refusals.NoValues else refusal_of_chosen s.volume s.fields edit o) ≡ Some (refusal_for fault)
      by true o f = let is : asks.NoValues ≡ fault = cc in ap (λ (g : AskFault). let o : Option Refusal = Some (refusal_for g) in o) is
      by false None f = let is : asks.NoPlace ≡ fault = cc in ap (λ (g : AskFault). let o : Option Refusal = Some (refusal_for g) in o) is
      by false (Some ps) f = absurd cc

  first-fault : (fault : AskFault) → choosing_fault s.volume s.fields c ≡ Some fault → first_refusal s (OfChosen c edit) ≡ Some (refusal_for fault)
  first-fault fault e = rw (free, has) (under-fault (tests_of s.fields c.conditions) fault e)

  read-so : (fault : AskFault) → IsReadFault s.on_disk fault → IsReadRefusal s.on_disk (refusal_for fault)
  read-so fault (disk, inl is) = (disk, inl (ap refusal_for is))
  read-so fault (disk, inr is) = (disk, inr (ap refusal_for is))

  -- no traces are chosen
  pub choice_told : {P : Type 0} (T : Type 0) (new : State) (fault : AskFault) → P → new ≡ s
      → (fault ≡ asks.OutOfMemory) ⊎ (IsReadFault s.on_disk fault × (0 < choosing_looks s.volume s.fields c)) ⊎ (P → choosing_fault s.volume s.fields c ≡ Some fault)
      → (let r : Result T Refusal = Err (refusal_for fault) in Step s (OfChosen c edit) r new)
  choice_told T new fault sure same (inl is) =
      subst (λ (f : AskFault). let r : Result T Refusal = Err (refusal_for f) in Step s (OfChosen c edit) r new) (sym is) (wants T new same)
  choice_told T new fault sure same (inr (inl read)) = told_of_read T s new (OfChosen c edit) (refusal_for fault) (omega (arith, read.1)) (read-so fault read.0) same
  choice_told T new fault sure same (inr (inr is)) = told_first T s new (OfChosen c edit) (refusal_for fault) (first-fault fault (is sure)) same

  module _ (ps : List ℕ) (found : chosen s.volume s.fields c ≡ Some ps) where
    -- those that are chosen are not edited
    pub each_told : (T : Type 0) (new : State) (refusal : Refusal) → length ps ≤ most_chosen s.volume s.fields c → new ≡ s → IsRefusedFor s edit ps refusal
        → (let r : Result T Refusal = Err refusal in Step s (OfChosen c edit) r new)
    each_told T new refusal few same (inl is) =
        subst (λ (f : Refusal). let r : Result T Refusal = Err f in Step s (OfChosen c edit) r new) (sym is) (wants T new same)
    each_told T new refusal few same (inr (inl read)) =
        let more = each-more s.fields edit (length ps) (most_chosen s.volume s.fields c) few in
        told_of_read T s new (OfChosen c edit) refusal (omega (arith, read.1, more)) read.0 same
    each_told T new refusal few same (inr (inr is)) = told_first T s new (OfChosen c edit) refusal (chosen_first s c edit ps free has found ∙ is) same

    -- as it comes back
    pub each_refused : {T : Type 0} (new : State) (refusal : Refusal) (r : Result T Refusal) → IsErr r → IsErrAnd r (λ e. e ≡ refusal) → length ps ≤ most_chosen s.volume s.fields c → new ≡ s
        → IsRefusedFor s edit ps refusal → Step s (OfChosen c edit) r new
    each_refused new refusal (Ok x) err is few same told = absurd is
    each_refused new refusal (Err e) err is few same told = each_told _ new e few same (subst (λ (f : Refusal). IsRefusedFor s edit ps f) (sym is) told)
