-- One value in a range of samples of a trace: the trace stays whole, and so does the file.
use Rattle.std.proofs.Common.{◌≡◌, ℕ, ℤ, ◌+◌, ◌*◌, ◌-◌, ◌<◌, ◌≤◌, Bool, true, false, cond, List, [], ◌∷◌, length, get_or, Option, Some, None, refl, sym, ap, subst, ◌∙◌, arith}
use Rattle.std.specs.Prelude.{max, nat_lt, replicate}
use Rattle.std.specs.Option.{option_map_or, option_or}
use Rattle.std.proofs.Math.Nat.{mul-le-mul_left}
use Rattle.std.proofs.lemmas.Bool.{ltb-true}
use Rattle.std.proofs.lemmas.List.{length-replicate}
use Rattle.sample_codes.specs.declared.value_format.ValueFormat.{ValueFormat}
use Rattle.sample_codes.specs.Formats.{sample_fits, samples_bytes, values, width}
use Rattle.frame_cut.specs.declared.file_head.Head.{Head}
use Rattle.frame_cut.specs.Cuts.{IsCut, IsTrace}
use Rattle.frame_cut.specs.Frames.{front_length, sample_count, trace_length}
use Rattle.frame_cut.specs.Splice.{splice}
use Rattle.frame_cut.specs.Traces.{count_of, trace_at}
use Rattle.frame_cut.specs.Volume.{bytes_of}
use Rattle.frame_cut.proofs.EditLemmas.{length-splice}
use Rattle.trace_view.specs.Values.{samples_at}
use Rattle.bench_rules.specs.declared.refusal.Refusal.{Refusal}
use Rattle.bench_rules.specs.declared.refusal.Refusal.TheVariants.{DoesNotFit, NoSample}
use Rattle.bench_rules.specs.Computed.{first_at}
use Rattle.bench_rules.specs.Conditions.{AreRising}
use Rattle.bench_rules.specs.FilledSamples.{filled, range_values, samples_refusal, sample_value_refusal, with_samples}
use Rattle.bench_rules.specs.State.{State}
use Rattle.bench_rules.specs.SwappedFields.{changed_each}
use Rattle.bench_rules.proofs.FirstLemmas.{both_none}
use Rattle.bench_rules.proofs.ManyValueLemmas.{IsRead}
use Rattle.bench_rules.proofs.PatchLemmas.{length-values, measured, samples_inside}
use Rattle.bench_rules.proofs.PlaceLemmas.{length_same}
use Rattle.bench_rules.proofs.SetLemmas.{whole_trace}
use Rattle.bench_rules.proofs.SwapLemmas.{StaysWhole, changed_cut, listed_none, rising_at}

-- ---- one trace

pub length-range : (first last : ℕ) (x : ℤ) → length (range_values first last x) ≡ last + 1 - first
length-range first last x = length-replicate (last + 1 - first) x

-- the trace has the samples from k on
pub samples_whole : (h : Head) (f : ValueFormat) (t : List ℕ) (k : ℕ) (xs : List ℤ) → values h.format ≡ Some f → IsTrace h t → k + length xs ≤ sample_count h t → StaysWhole h (λ u. with_samples h f u k xs) t
samples_whole h f t k xs reads is inside =
    let new : List ℕ = samples_bytes h.order f xs in
    let at : ℕ = samples_at h t + width h.format * k in
    let n : ℕ = width h.format * length xs in
    let size : length new ≡ n = length-values h f xs reads in
    let room : at + n ≤ length t = samples_inside h t k xs is inside in
    let fits : at + length new ≤ length t = omega (arith, size, room) in
    let exactly : splice t at n new ≡ splice t at (length new) new = ap (λ (m : ℕ). splice t at m new) (sym size) in
    let same : length (splice t at n new) ≡ length t = ap (λ (u : List ℕ). length u) exactly ∙ length-splice t at new fits in
    let behind : front_length h ≤ at = omega (arith, (measured h t is).front) in
    let exact : trace_length h (splice t at n new) ≡ Some (length (splice t at n new)) =
    ap (trace_length h) exactly ∙ length_same h t at new is fits behind ∙ ap (λ (m : ℕ). let o : Option ℕ = Some m in o) (sym same) in
    record { long = same; whole = record { whole = omega (arith, same, is.whole); exact = exact } }

-- the two samples are there
less-by : (b : Bool) (m n : ℕ) (r : Refusal) → nat_lt m n ≡ b → cond b None (Some r) ≡ None → m < n
less-by true m n r e is = ltb-true m n e
less-by false m n r e is = absurd cc

pub has_samples : (h : Head) (first last : ℕ) (t : List ℕ) → samples_refusal h first last t ≡ None → max first last < sample_count h t
has_samples h first last t none = less-by _ (max first last) (sample_count h t) (NoSample (max first last) (sample_count h t)) refl none

-- and all between them
pub range_inside : (h : Head) (first last : ℕ) (x : ℤ) (t : List ℕ) → samples_refusal h first last t ≡ None → first + length (range_values first last x) ≤ sample_count h t
range_inside h first last x t none = omega (arith, has_samples h first last t none, length-range first last x)

-- so many samples from k on lie in the trace
pub samples_room : (h : Head) (t : List ℕ) (k n : ℕ) → IsTrace h t → k + n ≤ sample_count h t → samples_at h t + width h.format * k + width h.format * n ≤ length t
samples_room h t k n is inside = omega (arith, (measured h t is).whole, mul-le-mul_left (width h.format) inside)

pub range_room : (h : Head) (t : List ℕ) (first last : ℕ) → IsTrace h t → samples_refusal h first last t ≡ None → samples_at h t + width h.format * first + width h.format * (last + 1 - first) ≤ length t
range_room h t first last is none = samples_room h t first (last + 1 - first) is (omega (arith, has_samples h first last t none))

-- ---- the value fits

fits-by : (f : ValueFormat) (x : ℤ) (b : Bool) → sample_fits f x ≡ b → cond b None (Some DoesNotFit) ≡ None → sample_fits f x ≡ true
fits-by f x true e is = e
fits-by f x false e is = absurd cc

-- the format whose values the samples are, which has this one
pub record HasValue (h : Head) (x : ℤ) : Type 0 where
  pub format : ValueFormat
  pub reads : values h.format ≡ Some format
  pub fits : sample_fits format x ≡ true

has_value-by : (h : Head) (x : ℤ) (o : Option ValueFormat) → values h.format ≡ o → sample_value_refusal o x ≡ None → HasValue h x
has_value-by h x None e is = absurd cc
has_value-by h x (Some f) e is = record { format = f; reads = e; fits = fits-by f x (sample_fits f x) refl is }

pub has_value : (h : Head) (x : ℤ) → sample_value_refusal (values h.format) x ≡ None → HasValue h x
has_value h x none = has_value-by h x (values h.format) refl none

-- what is filled, as values over samples
pub filled-is : (h : Head) (f : ValueFormat) (first last : ℕ) (x : ℤ) (t : List ℕ) → values h.format ≡ Some f → filled h first last x t ≡ with_samples h f t first (range_values first last x)
filled-is h f first last x t reads = ap (λ (o : Option ValueFormat). option_map_or (λ g. with_samples h g t first (range_values first last x)) o t) reads

pub filled_whole : (h : Head) (first last : ℕ) (x : ℤ) (t : List ℕ) → IsTrace h t → HasValue h x → samples_refusal h first last t ≡ None → StaysWhole h (filled h first last x) t
filled_whole h first last x t is has none =
    let s = samples_whole h has.format t first (range_values first last x) has.reads is (range_inside h first last x t none) in
    let same : with_samples h has.format t first (range_values first last x) ≡ filled h first last x t = sym (filled-is h has.format first last x t has.reads) in
    record {
      long = subst (λ (u : List ℕ). length u ≡ length t) same s.long;
      whole = subst (IsTrace h) same s.whole;
    }

-- ---- each of the traces

module _ (s : State) (first last : ℕ) (x : ℤ) (ps : List ℕ) (read : IsRead s) (up : AreRising 1 (count_of s.volume) ps)
    (none : option_or (sample_value_refusal (values s.volume.head.format) x) (first_at (λ p. samples_refusal s.volume.head first last (trace_at s.volume p)) ps) ≡ None) where
  pub value_there : HasValue s.volume.head x
  value_there = has_value s.volume.head x (both_none (sample_value_refusal (values s.volume.head.format) x) (first_at (λ p. samples_refusal s.volume.head first last (trace_at s.volume p)) ps) none).0

  pub samples_there : (i : ℕ) → i < length ps → samples_refusal s.volume.head first last (trace_at s.volume (get_or ps i 0)) ≡ None
  samples_there i less =
      listed_none (λ p. samples_refusal s.volume.head first last (trace_at s.volume p)) ps
      (both_none (sample_value_refusal (values s.volume.head.format) x) (first_at (λ p. samples_refusal s.volume.head first last (trace_at s.volume p)) ps) none).1 i less

  pub each_filled : (i : ℕ) → i < length ps → StaysWhole s.volume.head (filled s.volume.head first last x) (trace_at s.volume (get_or ps i 0))
  each_filled i less =
      let at = rising_at 1 (count_of s.volume) ps i up less in
      filled_whole s.volume.head first last x (trace_at s.volume (get_or ps i 0)) (whole_trace s (get_or ps i 0) read at.0 at.1) value_there (samples_there i less)

  pub filled_cut : IsCut (bytes_of (changed_each (filled s.volume.head first last x) s.volume ps)) s.reading s.limits (changed_each (filled s.volume.head first last x) s.volume ps)
  filled_cut = changed_cut s.reading s.limits (filled s.volume.head first last x) s.volume 1 ps (omega arith) read up each_filled
