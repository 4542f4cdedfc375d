-- A trace that is given another number of samples has its first samples as they were, and zeros behind them.
use Rattle.std.proofs.Common.{◌≡◌, ℕ, ℤ, zero, suc, ◌+◌, ◌*◌, ◌-◌, ◌≤◌, List, [], ◌∷◌, ◌++◌, length, take, drop, replicate, Option, Some, pos, refl, sym, ap, ◌∙◌, arith}
use Rattle.std.specs.Prelude.{min, unwrap_or}
use Rattle.std.specs.Option.{option_map_or}
use Rattle.std.proofs.lemmas.List.{length-take-le, length-drop, drop_at, take_at, drop-replicate, take-replicate}
use Rattle.num_order.specs.declared.order.Order.{Order}
use Rattle.num_order.specs.Number.{with_sign}
use Rattle.sample_codes.specs.declared.value_format.ValueFormat.{ValueFormat}
use Rattle.sample_codes.specs.declared.value_format.ValueFormat.TheVariants.{Integer, Float}
use Rattle.float_codes.specs.declared.float_format.FloatFormat.{FloatFormat}
use Rattle.float_codes.specs.declared.float_format.FloatFormat.TheVariants.{Ibm32, Ieee32, Ieee64}
use Rattle.float_codes.specs.Ranks.{rank_of}
use Rattle.float_codes.specs.Values.{float_width, float_of_bits, ibm_value}
use lib.Ieee.{odd, of_bits, to_bits}
use Rattle.sample_codes.specs.declared.integer_format.IntegerFormat.{IntegerFormat}
use Rattle.sample_codes.specs.declared.integer_format.IntegerFormat.TheVariants.{Signed32, Signed16, Signed24, Signed8, Signed64, Unsigned32, Unsigned16, Unsigned64, Unsigned24, Unsigned8}
use Rattle.sample_codes.specs.Formats.{integer_width, value_width, width, values, is_signed, sample_value}
use Rattle.sample_codes.proofs.WidthLemmas.{width-values}
use Rattle.frame_cut.specs.declared.file_head.Head.{Head}
use Rattle.frame_cut.specs.Cuts.{IsTrace}
use Rattle.frame_cut.specs.Frames.{sample_count}
use Rattle.trace_view.specs.Values.{samples_at, sample_bytes, samples_in, samples_of}
use Rattle.trace_record.proofs.SampleLemmas.{samples_in-append, samples_in-take}
use Rattle.bench_rules.specs.TraceEdits.{resized}
use Rattle.bench_rules.proofs.PatchLemmas.{measured}
use Rattle.bench_rules.proofs.ResizingLemmas.{CanCount, resized_trace, times-add}
use Rattle.bench_rules.proofs.WholeTraceLemmas.{zero-number}
use Rattle.bench_laws.specs.NumberLaws.{samples_up_to, bytes_up_to}

-- zeros are samples of the number 0
zero-sign : (f : IntegerFormat) → with_sign (is_signed f) (integer_width f) 0 ≡ pos 0
zero-sign Signed32 = refl
zero-sign Signed16 = refl
zero-sign Signed24 = refl
zero-sign Signed8 = refl
zero-sign Signed64 = refl
zero-sign Unsigned32 = refl
zero-sign Unsigned16 = refl
zero-sign Unsigned64 = refl
zero-sign Unsigned24 = refl
zero-sign Unsigned8 = refl

zero-float : (f : FloatFormat) → rank_of (float_of_bits f 0) ≡ pos 0
unfolding ibm_value odd of_bits to_bits
zero-float Ibm32 = refl
zero-float Ieee32 = refl
zero-float Ieee64 = refl

zero-sample : (o : Order) (f : ValueFormat) → sample_value o f (replicate (value_width f) 0) ≡ pos 0
zero-sample o (Integer f) = ap (with_sign (is_signed f) (integer_width f)) (zero-number o (integer_width f)) ∙ zero-sign f
zero-sample o (Float f) = ap (λ (n : ℕ). rank_of (float_of_bits f n)) (zero-number o (float_width f)) ∙ zero-float f

zero-samples : (o : Order) (f : ValueFormat) (n : ℕ) → samples_in o f n (replicate (value_width f * n) 0) ≡ replicate n (pos 0)
zero-samples o f zero = refl
zero-samples o f (suc n) =
    let more : value_width f * suc n ≡ value_width f + value_width f * n = omega arith in
    let less : value_width f * suc n - value_width f ≡ value_width f * n = omega arith in
    let one : sample_value o f (take (value_width f) (replicate (value_width f * suc n) 0)) ≡ pos 0 = ap (sample_value o f) (take-replicate (value_width f) (value_width f * suc n) 0 (omega (arith, more))) ∙ zero-sample o f in
    let rest : samples_in o f n (drop (value_width f) (replicate (value_width f * suc n) 0)) ≡ replicate n (pos 0) =
    ap (samples_in o f n) (drop-replicate (value_width f) (value_width f * suc n) 0 ∙ ap (λ (k : ℕ). replicate k 0) less) ∙ zero-samples o f n in
    ap (λ (x : ℤ). x ∷ samples_in o f n (drop (value_width f) (replicate (value_width f * suc n) 0))) one ∙ ap (λ (xs : List ℤ). pos 0 ∷ xs) rest

-- the first m of n samples
first_samples : (o : Order) (f : ValueFormat) (n m : ℕ) (bs : List ℕ) → take m (samples_in o f n bs) ≡ samples_in o f (min n m) bs
first_samples o f zero zero bs = refl
first_samples o f zero (suc m) bs = let none : min 0 (suc m) ≡ 0 = omega arith in rw none refl
first_samples o f (suc n) zero bs = let none : min (suc n) 0 ≡ 0 = omega arith in rw none refl
first_samples o f (suc n) (suc m) bs =
    let next : min (suc n) (suc m) ≡ suc (min n m) = omega arith in
    rw next (ap (λ (xs : List ℤ). sample_value o f (take (value_width f) bs) ∷ xs) (first_samples o f n m (drop (value_width f) bs)))

-- k samples in front of g zeros
then_zeros : (o : Order) (f : ValueFormat) (k g : ℕ) (bs : List ℕ) → value_width f * k ≤ length bs → samples_in o f (k + g) (take (value_width f * k) bs ++ replicate (value_width f * g) 0) ≡ samples_in o f k bs ++ replicate g (pos 0)
then_zeros o f k g bs inside =
    let front : List ℕ = take (value_width f * k) bs in
    let all : List ℕ = front ++ replicate (value_width f * g) 0 in
    let size : length front ≡ value_width f * k = length-take-le (value_width f * k) bs inside in
    let old : samples_in o f k all ≡ samples_in o f k bs =
    sym (samples_in-take o f k (value_width f * k) all (omega arith)) ∙ ap (samples_in o f k) (take_at front (replicate (value_width f * g) 0) (value_width f * k) size) ∙ samples_in-take o f k (value_width f * k) bs (omega arith) in
    let new : samples_in o f g (drop (value_width f * k) all) ≡ replicate g (pos 0) = ap (samples_in o f g) (drop_at front (replicate (value_width f * g) 0) (value_width f * k) size) ∙ zero-samples o f g in
    samples_in-append o f k g all ∙ ap (λ (xs : List ℤ). xs ++ samples_in o f g (drop (value_width f * k) all)) old ∙ ap (λ (xs : List ℤ). samples_in o f k bs ++ xs) new

-- ---- the trace with m samples

pub sample_bytes-resized : (h : Head) (m : ℕ) (t : List ℕ) → IsTrace h t → CanCount h m → sample_bytes h (resized h t m) ≡ bytes_up_to (width h.format) (sample_count h t) m (sample_bytes h t)
sample_bytes-resized h m t is can =
    let u : List ℕ = resized h t m in
    let r = resized_trace h m t is can in
    let at : samples_at h u ≡ samples_at h t = ap (λ (o : Option ℕ). 240 * (1 + unwrap_or o 0)) r.extensions in
    ap (λ (i : ℕ). drop i u) at ∙ r.samples

-- the values of samples of a format that has them
samples_with : (h : Head) (f : ValueFormat) (t : List ℕ) → values h.format ≡ Some f → samples_of h t ≡ samples_in h.order f (sample_count h t) (sample_bytes h t)
samples_with h f t reads = ap (λ (o : Option ValueFormat). option_map_or (λ g. samples_in h.order g (sample_count h t) (sample_bytes h t)) o []) reads

pub samples_of-resized : (h : Head) (f : ValueFormat) (m : ℕ) (t : List ℕ) → values h.format ≡ Some f → IsTrace h t → CanCount h m → samples_of h (resized h t m) ≡ samples_up_to (sample_count h t) m (samples_of h t)
samples_of-resized h f m t reads is can =
    let w : ℕ = value_width f in
    let n : ℕ = sample_count h t in
    let k : ℕ = min n m in
    let u : List ℕ = resized h t m in
    let bs : List ℕ = sample_bytes h t in
    let r = resized_trace h m t is can in
    let narrow : width h.format ≡ w = width-values h.format f reads in
    let whole : samples_at h t + w * n ≡ length t = ap (λ (x : ℕ). samples_at h t + x * n) (sym narrow) ∙ (measured h t is).whole in
    let fewer : w * k + w * (n - m) ≡ w * n = times-add w k (n - m) n (omega arith) in
    let inside : w * k ≤ length bs = omega (arith, length-drop (samples_at h t) t, whole, fewer) in
    let sum : k + (m - n) ≡ m = omega arith in
    let bytes : sample_bytes h u ≡ take (w * k) bs ++ replicate (w * (m - n)) 0 = sample_bytes-resized h m t is can ∙ ap (λ (x : ℕ). bytes_up_to x n m bs) narrow in
    samples_with h f u reads
    ∙ ap (λ (i : ℕ). samples_in h.order f i (sample_bytes h u)) (r.count ∙ sym sum)
    ∙ ap (samples_in h.order f (k + (m - n))) bytes
    ∙ then_zeros h.order f k (m - n) bs inside
    ∙ ap (λ (xs : List ℤ). xs ++ replicate (m - n) (pos 0)) (sym (first_samples h.order f n m bs))
    ∙ ap (samples_up_to n m) (sym (samples_with h f t reads))
