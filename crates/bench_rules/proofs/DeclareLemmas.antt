-- The reading written into a file, and its tail taken away: the file is accepted again, and the overlay's put makes it.
use Rattle.std.proofs.Common.{◌≡◌, ℕ, ◌+◌, ◌≤◌, List, [], ◌∷◌, ◌++◌, length, take, drop, refl, sym, ap, subst, ◌∙◌, arith}
use Rattle.std.proofs.lemmas.List.{length-drop, append-nil}
use Rattle.frame_cut.specs.Cuts.{IsCut}
use Rattle.frame_cut.specs.Parts.{untailed, with_header_bytes}
use Rattle.frame_cut.proofs.EditLemmas.{cut_untailed}
use Rattle.frame_cut.specs.Splice.{splice}
use Rattle.frame_cut.specs.Volume.{Volume, bytes_of}
use Rattle.declared_frame.specs.Written.{declared, with_declared}
use Rattle.declared_frame.proofs.StaysLemmas.{stays_cut, length-declared}
use Rattle.bench_rules.specs.declared.edit.Edit.TheVariants.{Declare, DropTail}
use Rattle.bench_rules.specs.State.{State}
use Rattle.bench_rules.specs.Steps.{IsAfter}

pub declare_is_after : (s : State) → IsCut (bytes_of s.volume) s.reading s.limits s.volume → IsAfter s Declare (record s { volume = with_declared s.reading s.volume })
declare_is_after s cut = record {
  volume = stays_cut s.reading s.limits s.volume cut;
  fields = refl;
  reading = refl;
  limits = refl;
  on_disk = refl;
}

none_left : (xs : List ℕ) → length xs ≡ 0 → xs ≡ []
none_left [] e = refl
none_left (x ∷ xs) e = absurd (omega (arith, e))

-- as many bytes over all
whole : (bin new : List ℕ) → length bin ≡ 400 → length new ≡ 400 → splice bin 0 (length new) new ≡ new
whole bin new len size =
    let rest : drop (0 + length new) bin ≡ [] = none_left (drop (0 + length new) bin) (omega (arith, length-drop (0 + length new) bin, len, size)) in
    ap (λ (r : List ℕ). new ++ r) rest ∙ append-nil new

pub declare_done : (s : State) (w : Volume) (new : List ℕ) → IsCut (bytes_of s.volume) s.reading s.limits s.volume → new ≡ declared s.reading s.volume.head s.volume.bin → w ≡ with_header_bytes s.volume 0 new
    → IsAfter s Declare (record s { volume = w })
declare_done s w new cut is same =
    let size : length new ≡ 400 = ap (λ (b : List ℕ). length b) is ∙ length-declared s.reading s.volume.head s.volume.bin cut.parts.bin in
    let made : w ≡ with_declared s.reading s.volume = same ∙ ap (λ (b : List ℕ). record s.volume { bin = b }) (whole s.volume.bin new cut.parts.bin size ∙ is) in
    subst (λ (u : Volume). IsAfter s Declare (record s { volume = u })) (sym made) (declare_is_after s cut)

pub drop_tail_is_after : (s : State) → IsCut (bytes_of s.volume) s.reading s.limits s.volume → IsAfter s DropTail (record s { volume = untailed s.volume })
drop_tail_is_after s cut = record {
  volume = cut_untailed s.reading s.limits s.volume cut;
  fields = refl;
  reading = refl;
  limits = refl;
  on_disk = refl;
}
