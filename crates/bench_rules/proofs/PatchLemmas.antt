-- Values over the samples of a trace leave a file that is cut.
use Rattle.std.proofs.Common.{◌≡◌, ℕ, ℤ, pos, zero, suc, ◌+◌, ◌*◌, ◌-◌, ◌<◌, ◌≤◌, Bool, true, false, cond, eqb, leb, List, [], ◌∷◌, length, Option, Some, None, refl, sym, ap, subst, ◌∙◌, arith}
use Rattle.std.specs.Prelude.{option_map, unwrap_or}
use Rattle.std.specs.Option.{option_map_or}
use Rattle.std.proofs.Math.Nat.{mul-le-mul_left}
use Rattle.std.proofs.lemmas.List.{length-append}
use Rattle.std.proofs.lemmas.List.Elements.{All-get_or}
use Rattle.num_order.specs.declared.order.Order.{Order}
use Rattle.num_order.proofs.InRangeLemmas.{length-number}
use Rattle.sample_codes.specs.declared.value_format.ValueFormat.{ValueFormat}
use Rattle.sample_codes.specs.declared.value_format.ValueFormat.TheVariants.{Integer, Float}
use Rattle.float_codes.specs.Values.{float_width}
use Rattle.float_codes.specs.Nearest.{pattern_of}
use Rattle.float_codes.specs.Ranks.{value_at}
use Rattle.sample_codes.specs.Formats.{value_width, width, values, kind_of, samples_bytes, sample_bytes}
use Rattle.sample_codes.proofs.WidthLemmas.{width-values}
use Rattle.frame_cut.specs.declared.file_head.Head.{Head}
use Rattle.frame_cut.specs.declared.limits.Limits.{Limits}
use Rattle.frame_cut.specs.declared.reading.Reading.{Reading}
use Rattle.frame_cut.specs.Cuts.{IsTrace, IsCut}
use Rattle.frame_cut.specs.Frames.{count_within, header_unsigned, extension_count, extensions_of, sample_count, length_with, trace_length, front_length}
use Rattle.frame_cut.specs.Splice.{splice}
use Rattle.frame_cut.specs.Traces.{count_of, trace_at, with_trace}
use Rattle.frame_cut.specs.Volume.{Volume, bytes_of, start_of}
use Rattle.frame_cut.proofs.EditLemmas.{bytes_with_splice, cut_with_trace, length-splice}
use Rattle.trace_view.specs.Values.{samples_at}
pub use Rattle.bench_rules.specs.FilledSamples.{with_samples}
use Rattle.bench_rules.specs.WholeTraces.{bytes_after_patch, patched, samples_start}
use Rattle.bench_rules.proofs.PlaceLemmas.{length_same}

-- ---- where the samples lie

length-sample : (o : Order) (f : ValueFormat) (x : ℤ) → length (sample_bytes o f x) ≡ value_width f
length-sample o (Integer f) x = length-number o (kind_of f) x
length-sample o (Float f) x = length-number o (record { size = float_width f; signed = false }) (pos (unwrap_or (pattern_of f (value_at x)) 0))

pub length-samples : (o : Order) (f : ValueFormat) (xs : List ℤ) → length (samples_bytes o f xs) ≡ value_width f * length xs
length-samples o f [] = omega arith
length-samples o f (x ∷ xs) =
    let rest = length-samples o f xs in
    let first = length-sample o f x in
    omega (arith, length-append (sample_bytes o f x) (samples_bytes o f xs))

some-number : (x : ℕ) → eqb x 0 ≡ false → 0 < x
some-number zero e = absurd cc
some-number (suc x) e = omega arith

-- a count of extensions that is no more than the most is at least 1 where there may be some
some-by : (none fits : Bool) (x count e : ℕ) → (none ≡ false → 0 < count) → 0 < x → cond none (Some x) (cond fits (Some count) None) ≡ Some e → 0 < e
some-by true fits x count e some h is = let same : x ≡ e = cc in omega arith
some-by false true x count e some h is = let least = some refl in let same : count ≡ e = cc in omega arith
some-by false false x count e some h is = absurd cc

some-within : (x count : ℕ) (e : ℕ) → 0 < x → count_within x count ≡ Some e → 0 < e
some-within x count e h is = some-by (eqb count 0) (leb count x) x count e (λ n. some-number count n) h is

-- the front lies in front of the samples
front-by : (none : Bool) (x e count : ℕ) → (none ≡ false → 0 < x) → cond none (Some 0) (count_within x count) ≡ Some e → cond none 240 480 ≤ 240 * (1 + e)
front-by true x e count some is = omega arith
front-by false x e count some is = let least : 0 < e = some-within x count e (some refl) is in omega arith

-- the headers and samples are the whole trace
pub record IsMeasured (h : Head) (t : List ℕ) : Type 0 where
  pub front : front_length h ≤ samples_at h t
  pub whole : samples_at h t + width h.format * sample_count h t ≡ length t

measured-by : (h : Head) (t : List ℕ) (o : Option ℕ) → extension_count h t ≡ o → option_map (λ e. length_with h e (sample_count h t)) o ≡ Some (length t) → IsMeasured h t
measured-by h t None e is = absurd cc
measured-by h t (Some x) e is =
    let same : length_with h x (sample_count h t) ≡ length t = cc in
    let extensions : extensions_of h t ≡ x = ap (λ (o : Option ℕ). unwrap_or o 0) e in
    let front : front_length h ≤ 240 * (1 + x) =
    front-by (eqb h.extensions 0) h.extensions x (header_unsigned h 1 157 2 t) (λ n. some-number h.extensions n) e in
    record { front = rw extensions front; whole = rw extensions same }

pub measured : (h : Head) (t : List ℕ) → IsTrace h t → IsMeasured h t
measured h t is = measured-by h t (extension_count h t) refl is.exact

-- ---- the values over them

-- their bytes are as many as those of the file's samples
pub length-values : (h : Head) (f : ValueFormat) (xs : List ℤ) → values h.format ≡ Some f → length (samples_bytes h.order f xs) ≡ width h.format * length xs
length-values h f xs reads = length-samples h.order f xs ∙ ap (λ (w : ℕ). w * length xs) (sym (width-values h.format f reads))

pub samples_inside : (h : Head) (t : List ℕ) (k : ℕ) (xs : List ℤ) → IsTrace h t → k + length xs ≤ sample_count h t → samples_at h t + width h.format * k + width h.format * length xs ≤ length t
samples_inside h t k xs is inside =
    let m = measured h t is in
    omega (arith, m.whole, mul-le-mul_left (width h.format) inside)

pub cut_patched : (reading : Reading) (l : Limits) (v : Volume) (f : ValueFormat) (p k : ℕ) (xs : List ℤ) → values v.head.format ≡ Some f → IsCut (bytes_of v) reading l v → 1 ≤ p → p ≤ count_of v → k + length xs ≤ sample_count v.head (trace_at v p)
    → IsCut (bytes_after_patch v p k xs) reading l (with_trace v p (with_samples v.head f (trace_at v p) k xs))
cut_patched reading l v f p k xs reads cut first last inside =
    let h : Head = v.head in
    let t : List ℕ = trace_at v p in
    let new : List ℕ = samples_bytes h.order f xs in
    let there : p - 1 < length v.traces = omega arith in
    let is : IsTrace h t = All-get_or (IsTrace h) v.traces (p - 1) [] there cut.parts.traces in
    let at : ℕ = samples_at h t + width h.format * k in
    let n : ℕ = width h.format * length xs in
    let size : length new ≡ n = length-values h f xs reads in
    let room : at + n ≤ length t = samples_inside h t k xs is inside in
    let fits : at + length new ≤ length t = omega (arith, size, room) in
    let exactly : splice t at n new ≡ splice t at (length new) new = ap (λ (m : ℕ). splice t at m new) (sym size) in
    let same : length (splice t at n new) ≡ length t = ap (λ (u : List ℕ). length u) exactly ∙ length-splice t at new fits in
    let behind : front_length h ≤ at = omega (arith, (measured h t is).front) in
    let exact : trace_length h (splice t at n new) ≡ Some (length (splice t at n new)) =
    ap (trace_length h) exactly ∙ length_same h t at new is fits behind ∙ ap (λ (m : ℕ). let o : Option ℕ = Some m in o) (sym same) in
    let recut = cut_with_trace reading l v (p - 1) (splice t at n new) cut there same exact in
    let place : start_of v (p - 1) + at ≡ samples_start v p + width h.format * k = omega arith in
    let bytes_are : bytes_of (with_trace v p (splice t at n new)) ≡ bytes_after_patch v p k xs =
    bytes_with_splice v (p - 1) at n new there room ∙ ap (λ (i : ℕ). splice (bytes_of v) i n new) place ∙ ap (λ (o : Option ValueFormat). option_map_or (λ g. patched v g p k xs) o (bytes_of v)) (sym reads) in
    subst (λ (file : List ℕ). IsCut file reading l (with_trace v p (splice t at n new))) bytes_are recut
