-- Bytes over which the length of a trace stays.
use Rattle.std.proofs.Common.{◌≡◌, ◌⊎◌, ℕ, ◌+◌, ◌≤◌, Bool, true, false, List, length, refl, ap, ◌∙◌, inl, inr}
use Rattle.std.specs.Prelude.{nat_le, ◌&&◌, ◌||◌, ◌==◌, Option, Some, option_map, if◌then◌else◌}
use Rattle.std.proofs.lemmas.Bool.{leb-true}
use Rattle.num_order.specs.Number.{unsigned}
use Rattle.frame_cut.specs.declared.file_head.Head.{Head}
use Rattle.frame_cut.specs.Frames.{count_within, extension_count, extension_samples, header_unsigned, length_with, sample_count, samples_by, trace_length}
use Rattle.frame_cut.specs.Splice.{splice}
use Rattle.frame_cut.proofs.BinEditLemmas.{apart}
use Rattle.trace_view.specs.Counted.{leave_length, share_no_byte}
use Rattle.trace_view.proofs.PlainLemmas.{both}

-- the bytes lie before or behind
sides : (a n b m : ℕ) → share_no_byte a n b m ≡ true → (b + m ≤ a) ⊎ (a + n ≤ b)
sides a n b m h = side (nat_le (a + n) b) refl h where
  side : (t : Bool) → nat_le (a + n) b ≡ t → (t || nat_le (b + m) a) ≡ true → (b + m ≤ a) ⊎ (a + n ≤ b)
  side true e g = inr (leb-true (a + n) b e)
  side false e g = inl (leb-true (b + m) a g)

-- of an extension nothing is read where the file has none
same-without : (t p : Bool) (A : Type 0) (x y z : A) → (t || p) ≡ true → (p ≡ true → y ≡ z) → (if t then x else y) ≡ (if t then x else z)
same-without true p A x y z h e = refl
same-without false p A x y z h e = e h

-- the length of a trace with such bytes laid over it
pub length-kept : (h : Head) (t new : List ℕ) (at : ℕ) → at + length new ≤ length t → leave_length h at (length new) ≡ true → trace_length h (splice t at (length new) new) ≡ trace_length h t
length-kept h t new at inside leaves =
    let n : ℕ = length new in
    let u : List ℕ = splice t at n new in
    let none : Bool = h.extensions == 0 in
    let wide : Bool = share_no_byte at n 376 4 in
    let count : Bool = share_no_byte at n 396 2 in
    let first = both (share_no_byte at n 114 2) (none || (wide && count)) leaves in
    let short : header_unsigned h 0 115 2 u ≡ header_unsigned h 0 115 2 t = ap (unsigned h.order) (apart t new at 114 2 inside (sides at n 114 2 first.0)) in
    let samples : extension_samples h u ≡ extension_samples h t =
    same-without none (wide && count) ℕ 0 (header_unsigned h 1 137 4 u) (header_unsigned h 1 137 4 t) first.1
    (λ e. ap (unsigned h.order) (apart t new at 376 4 inside (sides at n 376 4 (both wide count e).0))) in
    let extensions : extension_count h u ≡ extension_count h t =
    same-without none (wide && count) (Option ℕ) (Some 0) (count_within h.extensions (header_unsigned h 1 157 2 u)) (count_within h.extensions (header_unsigned h 1 157 2 t)) first.1
    (λ e. ap (λ (s : List ℕ). count_within h.extensions (unsigned h.order s)) (apart t new at 396 2 inside (sides at n 396 2 (both wide count e).1))) in
    ap (λ (o : Option ℕ). option_map (λ e. length_with h e (sample_count h u)) o) extensions
    ∙ ap (λ (w : ℕ). option_map (λ e. length_with h e (samples_by h w (header_unsigned h 0 115 2 u))) (extension_count h t)) samples
    ∙ ap (λ (s : ℕ). option_map (λ e. length_with h e (samples_by h (extension_samples h t) s)) (extension_count h t)) short
