-- When a trace's row in a slice is as it was.
use Rattle.std.proofs.Common.{◌≡◌, ◌⊎◌, ℕ, ℤ, zero, suc, ◌+◌, ◌*◌, ◌-◌, ◌/◌, ◌<◌, ◌≤◌, Bool, true, false, ◌||◌, ◌&&◌, cond, eqb, leb, ltb, List, [], ◌∷◌, ◌++◌, length, take, drop, set, get_or, Option, Some, None, pos, refl, sym, ap, ◌∙◌, arith, inl, inr}
use Rattle.std.specs.Prelude.{codes, not, option_map, unwrap_or}
use Rattle.std.specs.Option.{option_map_or}
use Rattle.std.proofs.Math.Nat.{mul-div_cancel_left, mul-le-mul_left}
use Rattle.std.proofs.lemmas.Bool.{and_cases, leb-false, ltb-false, ltb-true}
use Rattle.std.proofs.lemmas.List.{drop-drop}
use Rattle.std.proofs.lemmas.Bool.Decides.{nat_tests}
use Rattle.num_order.specs.Number.{num}
use Rattle.sample_codes.specs.declared.value_format.ValueFormat.{ValueFormat}
use Rattle.sample_codes.specs.Formats.{width, values, sample_value, samples_bytes}
use Rattle.sample_codes.proofs.WidthLemmas.{width-positive}
use Rattle.field_map.specs.declared.place.Place.{Place}
use Rattle.field_map.specs.Binding.{HasGeometry, is_geometry, is_geometry_place, is_geometry_kind}
use Rattle.field_map.specs.Pairs.{Pairs, place_of}
use Rattle.frame_cut.specs.declared.file_head.Head.{Head}
use Rattle.frame_cut.specs.Cuts.{IsTrace}
use Rattle.frame_cut.specs.Frames.{extensions_of, sample_count, trace_length}
use Rattle.frame_cut.specs.Splice.{splice}
use Rattle.frame_cut.proofs.BinEditLemmas.{slice_before}
use Rattle.frame_cut.proofs.EditLemmas.{length-splice}
use Rattle.trace_view.specs.Values.{value_at, samples_at, sample_of}
use Rattle.trace_record.specs.Facts.{Facts}
use Rattle.trace_record.specs.OfTrace.{bound_value, record_of}
use Rattle.key_counts.specs.Rising.{rising}
use Rattle.bench_rules.specs.declared.row.Row.{Row}
use Rattle.bench_rules.specs.KeptSlices.{is_from}
use Rattle.bench_rules.specs.Slices.{row_cmp, row_of, rows_from, with_sample, slice_of}
use Rattle.bench_rules.proofs.PatchLemmas.{measured, with_samples, length-values, samples_inside}
use Rattle.frame_cut.proofs.ExtensionLemmas.{extensions_kept}
use Rattle.bench_rules.proofs.ResizingLemmas.{SameFront, same_extensions, same_samples}
use Rattle.frame_cut.proofs.BinEditLemmas.{apart}

-- ---- rows

-- trace u gives slice k the row that trace t gave it under another map
pub record SameRow (h : Head) (fields other : Pairs) (k : ℕ) (t u : List ℕ) : Type 0 where
  pub inline : bound_value h fields u (codes "inline") ≡ bound_value h other t (codes "inline")
  pub crossline : bound_value h fields u (codes "crossline") ≡ bound_value h other t (codes "crossline")
  pub sample : sample_of h u k ≡ sample_of h t k

row-by : (p : ℕ) (f g : Facts) (o : Option ℤ) → f.inline ≡ g.inline → f.crossline ≡ g.crossline → row_of p f o ≡ row_of p g o
row-by p f g None e d = refl
row-by p f g (Some v) e d =
    ap (λ (i : ℤ). record { inline = i; crossline = f.crossline; position = p; value = v } ∷ []) e
    ∙ ap (λ (c : ℤ). record { inline = g.inline; crossline = c; position = p; value = v } ∷ []) d

row-same : (h : Head) (fields other : Pairs) (k p : ℕ) (t u : List ℕ) → SameRow h fields other k t u → row_of p (record_of h fields u) (sample_of h u k) ≡ row_of p (record_of h other t) (sample_of h t k)
row-same h fields other k p t u s =
    ap (λ (o : Option ℤ). row_of p (record_of h fields u) o) s.sample ∙ row-by p (record_of h fields u) (record_of h other t) (sample_of h t k) s.inline s.crossline

rows-set : (h : Head) (fields : Pairs) (k p : ℕ) (ts : List (List ℕ)) (i : ℕ) (u : List ℕ) → SameRow h fields fields k (get_or ts i []) u
    → rows_from p (with_sample h fields k (set ts i u)) ≡ rows_from p (with_sample h fields k ts)
rows-set h fields k p [] i u s = refl
rows-set h fields k p (t ∷ ts) zero u s = ap (λ (rows : List Row). rows ++ rows_from (p + 1) (with_sample h fields k ts)) (row-same h fields fields k p t u s)
rows-set h fields k p (t ∷ ts) (suc i) u s = ap (λ (rows : List Row). row_of p (record_of h fields t) (sample_of h t k) ++ rows) (rows-set h fields k (p + 1) ts i u s)

-- another trace at one place, with the same row
pub slice_of-set : (h : Head) (fields : Pairs) (k : ℕ) (ts : List (List ℕ)) (i : ℕ) (u : List ℕ) → SameRow h fields fields k (get_or ts i []) u → slice_of h fields k (set ts i u) ≡ slice_of h fields k ts
slice_of-set h fields k ts i u s = ap (rising row_cmp) (rows-set h fields k 1 ts i u s)

rows-bound : (h : Head) (fields other : Pairs) (k p : ℕ) (ts : List (List ℕ)) → place_of fields (codes "inline") ≡ place_of other (codes "inline")
    → place_of fields (codes "crossline") ≡ place_of other (codes "crossline")
    → rows_from p (with_sample h fields k ts) ≡ rows_from p (with_sample h other k ts)
rows-bound h fields other k p [] e d = refl
rows-bound h fields other k p (t ∷ ts) e d =
    let at = λ (o : Option Place). option_map_or (value_at h t) o (pos 0) in
    ap (λ (rows : List Row). rows ++ rows_from (p + 1) (with_sample h fields k ts)) (row-same h fields other k p t t (record { inline = ap at e; crossline = ap at d; sample = refl }))
    ∙ ap (λ (rows : List Row). row_of p (record_of h other t) (sample_of h t k) ++ rows) (rows-bound h fields other k (p + 1) ts e d)

-- another map that binds the inline and the crossline to the same places
pub slice_of-bound : (h : Head) (fields other : Pairs) (k : ℕ) (ts : List (List ℕ)) → place_of fields (codes "inline") ≡ place_of other (codes "inline")
    → place_of fields (codes "crossline") ≡ place_of other (codes "crossline")
    → slice_of h fields k ts ≡ slice_of h other k ts
slice_of-bound h fields other k ts e d = ap (rising row_cmp) (rows-bound h fields other k 1 ts e d)

-- ---- samples

sample-by : (b : Bool) (read : List ℕ → Option ℤ) (x y : List ℕ) → (b ≡ true → x ≡ y) → cond b (read x) None ≡ cond b (read y) None
sample-by true read x y e = ap read (e refl)
sample-by false read x y e = refl

-- the bytes of sample k are the same, in as many headers and of as many samples
sample_of-same : (h : Head) (t u : List ℕ) (k : ℕ) → extensions_of h u ≡ extensions_of h t → sample_count h u ≡ sample_count h t
    → (k < sample_count h t → take (width h.format) (drop (samples_at h t + width h.format * k) u) ≡ take (width h.format) (drop (samples_at h t + width h.format * k) t))
    → sample_of h u k ≡ sample_of h t k
sample_of-same h t u k e c same =
    let w : ℕ = width h.format in
    let read = λ (bytes : List ℕ). option_map (λ f. sample_value h.order f bytes) (values h.format) in
    let at = λ (x n : ℕ). let r : Option ℤ = cond (ltb k n) (read (take w (drop (w * k) (drop (240 * (1 + x)) u)))) None in r in
    ap (λ (x : ℕ). at x (sample_count h u)) e
    ∙ ap (at (extensions_of h t)) c
    ∙ sample-by (ltb k (sample_count h t)) read _ _
    (λ inside. ap (take w) (drop-drop (w * k) (samples_at h t) u) ∙ same (ltb-true k (sample_count h t) inside) ∙ ap (take w) (sym (drop-drop (w * k) (samples_at h t) t)))

times-cancel : (w a b : ℕ) → 0 < w → w * a ≡ w * b → a ≡ b
times-cancel w a b some e = sym (mul-div_cancel_left a some) ∙ ap (λ (n : ℕ). n / w) e ∙ mul-div_cancel_left b some

-- bytes over a header that leave the length leave each sample
pub sample_of-header : (h : Head) (t new : List ℕ) (at k : ℕ) → IsTrace h t → length new ≤ 8 → at + length new ≤ samples_at h t → trace_length h (splice t at (length new) new) ≡ Some (length t)
    → sample_of h (splice t at (length new) new) k ≡ sample_of h t k
sample_of-header h t new at k is few front exact =
    let u : List ℕ = splice t at (length new) new in
    let w : ℕ = width h.format in
    let old = measured h t is in
    let inside : at + length new ≤ length t = omega (arith, front, old.whole) in
    let len : length u ≡ length t = length-splice t at new inside in
    let extensions : extensions_of h u ≡ extensions_of h t = extensions_kept h t new at is few inside exact in
    let whole : IsTrace h u = record { whole = omega (arith, len, is.whole); exact = exact ∙ ap (λ (n : ℕ). let o : Option ℕ = Some n in o) (sym len) } in
    let now = measured h u whole in
    let starts : samples_at h u ≡ samples_at h t = ap (λ (x : ℕ). 240 * (1 + x)) extensions in
    let counts : sample_count h u ≡ sample_count h t = times-cancel w _ _ (width-positive h.format) (omega (arith, now.whole, old.whole, starts, len)) in
    sample_of-same h t u k extensions counts (λ there. apart t new at (samples_at h t + w * k) w inside (inr (omega (arith, front))))

-- ---- samples that are patched, and headers in front of them

-- sample k lies in front of the samples from first on or behind them
beside : (a w first many k at size : ℕ) → is_from first many k ≡ false → at ≡ a + w * first → size ≡ w * many → (a + w * k + w ≤ at) ⊎ (at + size ≤ a + w * k)
beside a w first many k at size e place sized = by (and_cases (leb first k) (ltb k (first + many)) e)
  where
    by : (leb first k ≡ false) ⊎ (ltb k (first + many) ≡ false) → (a + w * k + w ≤ at) ⊎ (at + size ≤ a + w * k)
    by (inl f) = let l : k + 1 ≤ first = omega (arith, leb-false first k f) in inl (omega (arith, mul-le-mul_left w l))
    by (inr f) = let l : first + many ≤ k = ltb-false k (first + many) f in inr (omega (arith, mul-le-mul_left w l))

-- values over the samples leave the front
pub front_of-patched : (h : Head) (f : ValueFormat) (t : List ℕ) (first : ℕ) (xs : List ℤ) → IsTrace h t → first + length xs ≤ sample_count h t → SameFront h t (with_samples h f t first xs)
front_of-patched h f t first xs is few j i le =
    let room = samples_inside h t first xs is few in
    let old = measured h t is in
    slice_before t (samples_at h t + width h.format * first) (width h.format * length xs) (samples_bytes h.order f xs) j i (omega (arith, le, old.front)) (omega (arith, room))

-- and each other sample
pub sample_of-patched : (h : Head) (f : ValueFormat) (t : List ℕ) (first : ℕ) (xs : List ℤ) (k : ℕ) → values h.format ≡ Some f → IsTrace h t → first + length xs ≤ sample_count h t → is_from first (length xs) k ≡ false
    → sample_of h (with_samples h f t first xs) k ≡ sample_of h t k
sample_of-patched h f t first xs k reads is few apart_from =
    let w : ℕ = width h.format in
    let at : ℕ = samples_at h t + w * first in
    let new : List ℕ = samples_bytes h.order f xs in
    let u : List ℕ = with_samples h f t first xs in
    let size : length new ≡ w * length xs = length-values h f xs reads in
    let same : u ≡ splice t at (length new) new = ap (λ (n : ℕ). splice t at n new) (sym size) in
    let inside : at + length new ≤ length t = omega (arith, size, samples_inside h t first xs is few) in
    let front : SameFront h t u = front_of-patched h f t first xs is few in
    sample_of-same h t u k (ap (λ (o : Option ℕ). unwrap_or o 0) (same_extensions h t u front)) (same_samples h t u front)
    (λ there. ap (λ (s : List ℕ). take w (drop (samples_at h t + w * k) s)) same
    ∙ apart t new at (samples_at h t + w * k) w inside (beside (samples_at h t) w first (length xs) k at (length new) apart_from refl size))

-- the place of a geometry name lies in the front of each trace
in_front : (byte size extension x : ℕ) (kind : Bool) → (not (eqb byte 0 || ltb 240 (byte + size - 1) || ltb (cond (ltb 1 x) 1 x) extension) && kind) ≡ true
    → 240 * extension + byte - 1 + size ≤ cond (eqb x 0) 240 480
in_front byte size extension x kind e = grind (arith, nat_tests)

-- so a trace with the same front has the same value of the name
pub bound_value-front : (h : Head) (fields : Pairs) (t u : List ℕ) (name : List ℕ) → is_geometry name ≡ true → HasGeometry h.extensions fields → SameFront h t u
    → bound_value h fields u name ≡ bound_value h fields t name
bound_value-front h fields t u name g has front = by (place_of fields name) (has.stands name g)
  where
    by : (o : Option Place) → option_map_or (is_geometry_place h.extensions name) o false ≡ true → option_map_or (value_at h u) o (pos 0) ≡ option_map_or (value_at h t) o (pos 0)
    by None stands = refl
    by (Some place) stands =
        ap (num h.order place.kind) (front (240 * place.extension + place.byte - 1) place.kind.size
        (in_front place.byte place.kind.size place.extension h.extensions (is_geometry_kind name place.kind) (rw g at stands)))
