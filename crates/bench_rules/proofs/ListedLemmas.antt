-- A value over one place of each of many traces that are listed, rising: the volume that it gives.
use Rattle.std.proofs.Common.{◌≡◌, ℕ, ℤ, ◌+◌, ◌-◌, ◌<◌, ◌≤◌, List, [], ◌∷◌, length, Option, Some, None, refl, sym, ap, subst, ◌∙◌, arith}
use Rattle.field_map.specs.declared.place.Place.{Place}
use Rattle.frame_cut.specs.declared.file_head.Head.{Head}
use Rattle.frame_cut.specs.Cuts.{IsCut}
use Rattle.frame_cut.specs.Volume.{Volume, bytes_of}
use Rattle.bench_rules.specs.State.{State}
use Rattle.bench_rules.specs.TraceEdits.{put_each}
use Rattle.bench_rules.proofs.ManyValueLemmas.{IsRead, IsAlike, alike_first, with_traces, with_one, one_value, HasValues}
use Rattle.bench_rules.proofs.SetLemmas.{Accepted}

-- the traces with each value over the place of its trace
abbrev pub with_listed : Head → Place → List (ℕ × ℤ) → List (List ℕ) → List (List ℕ)
with_listed h place [] ts = ts
with_listed h place (n ∷ ns) ts = with_listed h place ns (with_one h ts n.0 place n.1)

-- the traces rise, from trace k on, and each value is accepted at its trace
abbrev pub AreListed : Volume → Place → ℕ → List (ℕ × ℤ) → Type 0
AreListed v place k [] = Unit {0}
AreListed v place k (n ∷ ns) = (k ≤ n.0) × Accepted v n.0 place n.1 × AreListed v place (n.0 + 1) ns

-- from a later trace on each is as it was too
alike_later : (old ts : List (List ℕ)) (k m : ℕ) → k ≤ m → IsAlike old ts k → IsAlike old ts m
alike_later old ts k m later a = record { count = a.count; starts = a.starts; ahead = λ q le. a.ahead q (omega (arith, later, le)) }

-- the values one after another give the new bytes
pub listed_from : (s : State) (place : Place) (k : ℕ) (ns : List (ℕ × ℤ)) (ts : List (List ℕ)) → IsAlike s.volume.traces ts k → IsRead (with_traces s ts) → AreListed s.volume place k ns
    → HasValues s ts place ns (with_listed s.volume.head place ns ts)
listed_from s place k [] ts a cut ok = record { read = cut; bytes = refl }
listed_from s place k (n ∷ ns) ts a cut ok =
    let one = one_value s ts n.0 place n.1 (alike_later s.volume.traces ts k n.0 ok.0 a) cut ok.1 in
    let mid : List (List ℕ) = with_one s.volume.head ts n.0 place n.1 in
    let rest = listed_from s place (n.0 + 1) ns mid one.alike one.read ok.2 in
    record {
      read = rest.read;
      bytes = rest.bytes ∙ ap (λ (file : List ℕ). put_each s.volume place ns file) one.bytes;
    }

-- their volume is the cut of the new bytes
pub listed_cut : (s : State) (place : Place) (k : ℕ) (ns : List (ℕ × ℤ)) → IsRead s → AreListed s.volume place k ns
    → IsCut (put_each s.volume place ns (bytes_of s.volume)) s.reading s.limits (with_traces s (with_listed s.volume.head place ns s.volume.traces)).volume
listed_cut s place k ns cut ok =
    let m = listed_from s place k ns s.volume.traces (alike_first s.volume.traces k) cut ok in
    subst (λ (file : List ℕ). IsCut file s.reading s.limits (with_traces s (with_listed s.volume.head place ns s.volume.traces)).volume) m.bytes m.read
