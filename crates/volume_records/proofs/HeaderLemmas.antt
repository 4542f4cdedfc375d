-- Bytes over the headers of a trace that leave it whole leave its samples.
use Rattle.std.proofs.Common.{◌≡◌, ℕ, ◌+◌, ◌*◌, ◌-◌, ◌/◌, ◌<◌, ◌≤◌, List, [], ◌++◌, length, take, drop, Option, Some, None, refl, sym, ap, ap₂, subst, ◌∙◌, arith}
use Rattle.std.specs.Prelude.{option_map, unwrap_or}
use Rattle.std.specs.Option.{option_map_or}
use Rattle.std.proofs.Math.Nat.{mul-div_cancel_left}
use Rattle.std.proofs.Math.Seq.{drop-append-add}
use Rattle.std.proofs.lemmas.List.{length-append, length-take-le, drop-drop}
use Rattle.sample_codes.specs.Formats.{width, values}
use Rattle.sample_codes.proofs.WidthLemmas.{width-positive}
use Rattle.field_map.specs.Pairs.{Pairs}
use Rattle.frame_cut.specs.declared.file_head.Head.{Head}
use Rattle.frame_cut.specs.Cuts.{IsTrace}
use Rattle.frame_cut.specs.Frames.{extension_count, extensions_of, sample_count, trace_length, length_with}
use Rattle.frame_cut.specs.Splice.{splice}
use Rattle.frame_cut.proofs.EditLemmas.{length-splice}
use Rattle.frame_cut.proofs.ExtensionLemmas.{extensions_kept}
use Rattle.trace_view.specs.Values.{samples_at, sample_bytes, samples_in, has_floats, samples_of}
use Rattle.trace_record.specs.declared.amplitudes.Amplitudes.{Amplitudes}
use Rattle.trace_record.specs.Statistics.{amplitudes_of}
use Rattle.trace_record.specs.Facts.{with_amplitudes, with_samples_of}
use Rattle.trace_record.specs.OfTrace.{record_of}

-- ---- the parts of a trace

-- the headers and the samples are the whole trace
pub record IsMeasured (h : Head) (t : List ℕ) : Type 0 where
  pub whole : samples_at h t + width h.format * sample_count h t ≡ length t

measured-by : (h : Head) (t : List ℕ) (o : Option ℕ) → extension_count h t ≡ o → option_map (λ e. length_with h e (sample_count h t)) o ≡ Some (length t) → IsMeasured h t
measured-by h t None e is = absurd cc
measured-by h t (Some x) e is =
    let same : length_with h x (sample_count h t) ≡ length t = cc in
    let extensions : extensions_of h t ≡ x = ap (λ (o : Option ℕ). unwrap_or o 0) e in
    record { whole = rw extensions same }

pub measured : (h : Head) (t : List ℕ) → IsTrace h t → IsMeasured h t
measured h t is = measured-by h t (extension_count h t) refl is.exact

-- ---- what a splice leaves

-- the bytes behind it
drop-splice : (t new : List ℕ) (at k : ℕ) → at + length new ≤ k → k ≤ length t → drop k (splice t at (length new) new) ≡ drop k t
drop-splice t new at k behind inside =
    let end : ℕ = at + length new in
    let more : ℕ = k - end in
    let front : length (take at t ++ new) ≡ end = omega (arith, length-append (take at t) new, length-take-le at t (omega arith)) in
    let place : k ≡ length (take at t ++ new) + more = omega (arith, front) in
    let same : end + more ≡ k = omega arith in
    ap (λ (i : ℕ). drop i (splice t at (length new) new)) place
    ∙ drop-append-add (take at t ++ new) (drop end t) more
    ∙ drop-drop more end t
    ∙ ap (λ (i : ℕ). drop i t) same

-- the length that the headers give after a splice
exact-splice : (h : Head) (t new : List ℕ) (at : ℕ) → at + length new ≤ length t → IsTrace h (splice t at (length new) new) → trace_length h (splice t at (length new) new) ≡ Some (length t)
exact-splice h t new at inside whole = whole.exact ∙ ap (λ (n : ℕ). let o : Option ℕ = Some n in o) (length-splice t at new inside)

-- ---- the samples

times-cancel : (w a b : ℕ) → 0 < w → w * a ≡ w * b → a ≡ b
times-cancel w a b some e = sym (mul-div_cancel_left a some) ∙ ap (λ (n : ℕ). n / w) e ∙ mul-div_cancel_left b some

-- two traces have the same samples: as many, and the same bytes
pub record SameSamples (h : Head) (t u : List ℕ) : Type 0 where
  pub count : sample_count h u ≡ sample_count h t
  pub bytes : sample_bytes h u ≡ sample_bytes h t

-- bytes over the headers that leave the number of extensions leave the samples
pub SameSamples-splice : (h : Head) (t new : List ℕ) (at : ℕ) → IsTrace h t → IsTrace h (splice t at (length new) new) → at + length new ≤ samples_at h t
    → extensions_of h (splice t at (length new) new) ≡ extensions_of h t → SameSamples h t (splice t at (length new) new)
SameSamples-splice h t new at is whole front extensions =
    let u : List ℕ = splice t at (length new) new in
    let old = measured h t is in
    let now = measured h u whole in
    let inside : at + length new ≤ length t = omega (arith, front, old.whole) in
    let len : length u ≡ length t = length-splice t at new inside in
    let starts : samples_at h u ≡ samples_at h t = ap (λ (x : ℕ). 240 * (1 + x)) extensions in
    let there : samples_at h t ≤ length t = omega (arith, old.whole) in
    record {
      count = times-cancel (width h.format) _ _ (width-positive h.format) (omega (arith, now.whole, old.whole, starts, len));
      bytes = ap (λ (k : ℕ). drop k u) starts ∙ drop-splice t new at (samples_at h t) front there;
    }

-- at most 8 bytes over the headers that leave the trace whole leave the samples
pub SameSamples-header : (h : Head) (t u new : List ℕ) (at : ℕ) → IsTrace h t → IsTrace h u → u ≡ splice t at (length new) new → length new ≤ 8 → at + length new ≤ samples_at h t → SameSamples h t u
SameSamples-header h t u new at is whole e few front =
    let spliced : IsTrace h (splice t at (length new) new) = subst (λ (s : List ℕ). IsTrace h s) e whole in
    let inside : at + length new ≤ length t = omega (arith, front, (measured h t is).whole) in
    subst (SameSamples h t) (sym e) (SameSamples-splice h t new at is spliced front (extensions_kept h t new at is few inside (exact-splice h t new at inside spliced)))

-- the amplitudes of so many samples in these bytes
amplitudes_in : Head → ℕ → List ℕ → Option Amplitudes
amplitudes_in h n bytes = amplitudes_of (has_floats h) (option_map_or (λ f. samples_in h.order f n bytes) (values h.format) [])

amplitudes-same : (h : Head) (t u : List ℕ) → SameSamples h t u → amplitudes_of (has_floats h) (samples_of h u) ≡ amplitudes_of (has_floats h) (samples_of h t)
unfolding amplitudes_in
amplitudes-same h t u s = ap₂ (amplitudes_in h) s.count s.bytes

-- a trace with the samples of another: its record is that of its headers, with the samples of the other's
pub record-same_samples : (h : Head) (fields : Pairs) (t u : List ℕ) → SameSamples h t u → with_samples_of (record_of h fields u) (record_of h fields t) ≡ record_of h fields u
record-same_samples h fields t u s = ap₂ (with_amplitudes (record_of h fields u)) (sym (amplitudes-same h t u s)) (sym s.count)

-- so it is after at most 8 bytes over the headers that leave the trace whole
pub record-header : (h : Head) (fields : Pairs) (t u new : List ℕ) (at : ℕ) → IsTrace h t → IsTrace h u → u ≡ splice t at (length new) new → length new ≤ 8 → at + length new ≤ samples_at h t
    → with_samples_of (record_of h fields u) (record_of h fields t) ≡ record_of h fields u
record-header h fields t u new at is whole e few front = record-same_samples h fields t u (SameSamples-header h t u new at is whole e few front)

-- and after any bytes over the headers that leave the trace whole, with as many header extensions
pub record-kept : (h : Head) (fields : Pairs) (t u new : List ℕ) (at : ℕ) → IsTrace h t → IsTrace h u → u ≡ splice t at (length new) new → at + length new ≤ samples_at h t → extensions_of h u ≡ extensions_of h t
    → with_samples_of (record_of h fields u) (record_of h fields t) ≡ record_of h fields u
record-kept h fields t u new at is whole e front kept =
    let spliced : IsTrace h (splice t at (length new) new) = subst (λ (s : List ℕ). IsTrace h s) e whole in
    record-same_samples h fields t u (subst (SameSamples h t) (sym e) (SameSamples-splice h t new at is spliced front (ap (extensions_of h) (sym e) ∙ kept)))
