-- A volume without some of its traces, and their records.
use Rattle.std.proofs.Common.{◌≡◌, ℕ, suc, ◌+◌, ◌-◌, ◌<◌, ◌≤◌, List, [], ◌∷◌, length, map, refl, sym, ap, ◌∙◌, subst, arith, add-one}
use Rattle.std.specs.Prelude.{All}
use Rattle.std.specs.List.{remove}
use Rattle.std.proofs.lemmas.List.Elements.{All-cons, All-nil}
use Rattle.field_map.specs.Pairs.{Pairs}
use Rattle.frame_cut.specs.declared.limits.Limits.{Limits}
use Rattle.frame_cut.specs.Parts.{without}
use Rattle.frame_cut.specs.Traces.{count_of}
use Rattle.frame_cut.specs.Volume.{Volume}
use Rattle.trace_seq.specs.Without.{taken_out, AreRising as AreUpFrom}
use Rattle.trace_record.specs.Facts.{facts_of}
use Rattle.trace_record.specs.declared.record.Record.{Record}
use Rattle.record_table.proofs.ListLemmas.{map-remove}
use Rattle.edit_overlay.specs.CountedVolume.{with_traces}
use Rattle.volume_records.specs.OfVolume.{records_of}
use Rattle.volume_records.proofs.EditLemmas.{records-without}
use Rattle.bench_rules.specs.ChosenEdits.{without_each}
use Rattle.bench_rules.specs.Conditions.{AreRising}
use Rattle.bench_rules.specs.State.{State}
use Rattle.bench_rules.proofs.ChosenLemmas.{rising-few, without_cut}
use Rattle.live_volume.specs.Held.{AreMeasured, HasFrame}
use Rattle.live_volume.proofs.MeasuredLemmas.{frame_without, measured_remove}

-- they rise, and each is there
pub up_from : (k n : ℕ) (ps : List ℕ) → AreRising k n ps → AreUpFrom k ps
up_from k n [] up = tt
up_from k n (p ∷ ps) up = (up.0, subst (λ m. AreUpFrom m ps) (add-one p) (up_from (p + 1) n ps up.2))

pub all_there : (k n : ℕ) (ps : List ℕ) → AreRising k n ps → All (λ p. p ≤ n) ps
all_there k n [] up = All-nil (λ p. p ≤ n)
all_there k n (p ∷ ps) up = All-cons (λ q. q ≤ n) p ps up.1 (all_there (p + 1) n ps up.2)

-- one by one they are out of the list of the traces
pub without_traces : (v : Volume) (ps : List ℕ) → without_each v ps ≡ with_traces v (taken_out v.traces ps)
without_traces v [] = refl
without_traces v (p ∷ ps) = ap (λ (w : Volume). without w p) (without_traces v ps)

pub map_out : {X Y : Type 0} (f : X → Y) (xs : List X) (ps : List ℕ) → map f (taken_out xs ps) ≡ taken_out (map f xs) ps
map_out f xs [] = refl
map_out f xs (p ∷ ps) = map-remove f (taken_out xs ps) (p - 1) ∙ ap (λ l. remove l (p - 1)) (map_out f xs ps)

pub records_out : (v : Volume) (fields : Pairs) (rs : List Record) (ps : List ℕ) → map facts_of rs ≡ records_of v fields → map facts_of (taken_out rs ps) ≡ records_of (without_each v ps) fields
records_out v fields rs [] e = e
records_out v fields rs (p ∷ ps) e = records-without (without_each v ps) fields (taken_out rs ps) p (records_out v fields rs ps e)

pub measured_out : (rs : List Record) (ts : List (List ℕ)) (ps : List ℕ) → AreMeasured rs ts → AreMeasured (taken_out rs ps) (taken_out ts ps)
measured_out rs ts [] m = m
measured_out rs ts (p ∷ ps) m = measured_remove (taken_out rs ps) (taken_out ts ps) (p - 1) (measured_out rs ts ps m)

pub frame_out : (limits : Limits) (s : State) (k : ℕ) (ps : List ℕ) → HasFrame limits s.volume → 1 ≤ k → AreRising k (count_of s.volume) ps → HasFrame limits (without_each s.volume ps)
frame_out limits s k [] f low up = f
frame_out limits s k (p ∷ ps) f low up =
    let few : p + 1 + length ps ≤ count_of s.volume + 1 = rising-few (p + 1) (count_of s.volume) ps (omega (arith, up.1)) up.2 in
    let left = (without_cut s (p + 1) ps (omega arith) up.2).count in
    frame_without limits (without_each s.volume ps) p (frame_out limits s (p + 1) ps f (omega arith) up.2) (omega (arith, low, up.0)) (omega (arith, few, left))
