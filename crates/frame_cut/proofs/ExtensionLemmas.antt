-- A splice that leaves a trace's length leaves the number of its header extensions.
use Rattle.std.proofs.Common.{◌≡◌, ℕ, ◌+◌, ◌*◌, ◌<◌, ◌≤◌, Bool, true, false, leb, List, length, Option, Some, None, refl, sym, ap, ◌∙◌, arith, inl, inr}
use Rattle.std.specs.Prelude.{option_map, unwrap_or}
use Rattle.std.proofs.lemmas.Bool.{leb-true, leb-false}
use Rattle.sample_codes.specs.Formats.{width}
use Rattle.frame_cut.specs.declared.file_head.Head.{Head}
use Rattle.frame_cut.specs.Cuts.{IsTrace}
use Rattle.frame_cut.specs.Frames.{header_bytes, extension_count, extensions_of, sample_count, trace_length, length_with}
use Rattle.frame_cut.specs.Splice.{splice}
use Rattle.frame_cut.proofs.BinEditLemmas.{apart}

same_count : (h : Head) (t u : List ℕ) → header_bytes 1 157 2 u ≡ header_bytes 1 157 2 t → extension_count h u ≡ extension_count h t
same_count h t u e = rw e refl

same_samples : (h : Head) (t u : List ℕ) → header_bytes 0 115 2 u ≡ header_bytes 0 115 2 t → header_bytes 1 137 4 u ≡ header_bytes 1 137 4 t → sample_count h u ≡ sample_count h t
same_samples h t u e f = rw (e, f) refl

one_number : (a b w n len : ℕ) → 240 * (1 + a) + w * n ≡ len → 240 * (1 + b) + w * n ≡ len → a ≡ b
one_number a b w n len e f = omega arith

-- two traces with one length and one number of samples have one number of extensions
by_length : (h : Head) (o q : Option ℕ) (n len : ℕ) → option_map (λ e. length_with h e n) o ≡ Some len → option_map (λ e. length_with h e n) q ≡ Some len → unwrap_or o 0 ≡ unwrap_or q 0
by_length h None q n len e f = absurd cc
by_length h (Some a) None n len e f = absurd cc
by_length h (Some a) (Some b) n len e f =
    let first : length_with h a n ≡ len = cc in
    let second : length_with h b n ≡ len = cc in
    one_number a b (width h.format) n len first second

-- at most 8 bytes that leave the length leave the number of extensions: they do not touch both it and a number of samples
pub extensions_kept : (h : Head) (t new : List ℕ) (at : ℕ) → IsTrace h t → length new ≤ 8 → at + length new ≤ length t → trace_length h (splice t at (length new) new) ≡ Some (length t)
    → extensions_of h (splice t at (length new) new) ≡ extensions_of h t
extensions_kept h t new at is few inside exact = by (leb (at + length new) 396) (leb 398 at) refl refl
  where
    u : List ℕ
    u = splice t at (length new) new

    touched : 388 < at → extensions_of h u ≡ extensions_of h t
    touched low =
        let same : sample_count h u ≡ sample_count h t =
        same_samples h t u (apart t new at 114 2 inside (inl (omega arith))) (apart t new at 376 4 inside (inl (omega arith))) in
        by_length h (extension_count h u) (extension_count h t) (sample_count h t) (length t)
        (ap (λ (n : ℕ). option_map (λ e. length_with h e n) (extension_count h u)) (sym same) ∙ exact) is.exact

    by : (b c : Bool) → leb (at + length new) 396 ≡ b → leb 398 at ≡ c → extensions_of h u ≡ extensions_of h t
    by true c e f = ap (λ (o : Option ℕ). unwrap_or o 0) (same_count h t u (apart t new at 396 2 inside (inr (leb-true _ _ e))))
    by false true e f = ap (λ (o : Option ℕ). unwrap_or o 0) (same_count h t u (apart t new at 396 2 inside (inl (leb-true _ _ f))))
    by false false e f =
        let over : 396 < at + length new = leb-false (at + length new) 396 e in
        touched (omega arith)
