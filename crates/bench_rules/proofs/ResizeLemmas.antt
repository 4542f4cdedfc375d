-- Another number of samples of a trace, where it is not refused, leaves a file that is cut.
use Rattle.std.proofs.Common.{◌≡◌, ℕ, ℤ, pos, negsuc, ◌+◌, ◌-◌, ◌*◌, ◌<◌, ◌≤◌, ◌^◌, Bool, true, false, cond, ltb, List, length, Option, Some, None, refl, sym, ap, subst, ◌∙◌, arith}
use Rattle.std.specs.Prelude.{nat_abs, int_lt, not}
use Rattle.std.proofs.lemmas.Bool.Decides.{nat_tests}
use Rattle.std.proofs.lemmas.Int.{ints}
use Rattle.std.proofs.lemmas.Bool.{leb-true, ltb-false, lt-ltb, le-ltb}
use Rattle.std.proofs.lemmas.List.{length-set}
use Rattle.std.proofs.lemmas.List.Elements.{All-set}
use Rattle.sample_codes.specs.Formats.{width}
use Rattle.frame_cut.specs.declared.file_head.Head.{Head}
use Rattle.frame_cut.specs.Cuts.{IsTrace, IsCut}
use Rattle.frame_cut.specs.Traces.{count_of, trace_at, with_trace}
use Rattle.frame_cut.specs.Volume.{Volume, bytes_of}
use Rattle.frame_cut.proofs.EditLemmas.{recut_with}
use Rattle.frame_cut.proofs.HeadFrontLemmas.{has_head}
use Rattle.trace_view.specs.Values.{samples_at}
use Rattle.bench_rules.specs.declared.edit.Edit.TheVariants.{Resize}
use Rattle.bench_rules.specs.declared.refusal.Refusal.{Refusal}
use Rattle.bench_rules.specs.declared.refusal.Refusal.TheVariants as refusals
use Rattle.bench_rules.specs.Refused.{first_refusal, count_refusal, is_sample_count, is_too_large}
use Rattle.bench_rules.specs.State.{State}
use Rattle.bench_rules.specs.Steps.{IsAfter}
use Rattle.bench_rules.specs.TraceEdits.{bytes_after_resize, resized}
use Rattle.bench_rules.proofs.AcceptedLemmas.{IsWithin, there_is, unless_so}
use Rattle.bench_rules.proofs.ResizingLemmas.{CanCount, resized_trace}
use Rattle.bench_rules.proofs.SetLemmas.{unless, both, none_of_either, whole_trace}
use Rattle.bench_rules.proofs.SpliceLemmas.{bytes_with_trace, length-with_trace}

-- ---- what is known where it is not refused

-- a number above 0 is a natural one
pub record IsPositive (m : ℤ) : Type 0 where
  pub number : m ≡ pos (nat_abs m)
  pub some : 0 < nat_abs m

positive : (m : ℤ) → int_lt (pos 0) m ≡ true → IsPositive m
positive (pos m) e = record { number = refl; some = grind (arith, nat_tests, ints) }
positive (negsuc m) e = absurd cc

-- the most that the headers can count is below 2^32
few : (h : Head) (m : ℕ) → CanCount h m → m < 2 ^ 32
few h m can = grind (arith, nat_tests, can.few)

pub can_count : (h : Head) (m : ℤ) → is_sample_count h m ≡ true → h.fixed ≡ false → CanCount h (nat_abs m)
can_count h m counts loose =
    let range = both _ _ counts in
    record { loose = loose; some = (positive m range.0).some; few = leb-true _ _ range.1 }

pub record ResizeAccepted (s : State) (p : ℕ) (m : ℤ) : Type 0 where
  pub place : IsWithin p (count_of s.volume)
  pub positive : IsPositive m
  pub can : CanCount s.volume.head (nat_abs m)
  pub few : nat_abs m < 2 ^ 32
  pub small : length (bytes_of s.volume) - length (trace_at s.volume p) + length (resized s.volume.head (trace_at s.volume p) (nat_abs m)) ≤ s.limits.bytes

pub resize_accepted : (s : State) (p : ℕ) (m : ℤ) → first_refusal s (Resize p m) ≡ None → ResizeAccepted s p m
resize_accepted s p m e =
    let v : Volume = s.volume in
    let t : List ℕ = trace_at v p in
    let place = none_of_either _ (refusals.NoTrace p (count_of v)) _ e in
    let counts = unless (is_sample_count v.head m) refusals.DoesNotFit _ place.1 in
    let loose = unless_so v.head.fixed refusals.Frame _ counts.1 in
    let small = unless_so (is_too_large v.head (length (bytes_of v)) s.limits.bytes t (nat_abs m)) refusals.TooLarge None loose.1 in
    let range = both _ _ counts.0 in
    let above = positive m range.0 in
    let can = can_count v.head m counts.0 loose.0 in
    record {
      place = there_is v p (ap (λ (b : Bool). let o : Option Refusal = cond b None (Some (refusals.NoTrace p (count_of v))) in o) place.0);
      positive = above;
      can = can;
      few = few v.head (nat_abs m) can;
      small = ltb-false _ _ small.0;
    }

by_tests : (counts fixed large : Bool) → counts ≡ true → fixed ≡ false
    → cond (not counts) (Some refusals.DoesNotFit) (cond fixed (Some refusals.Frame) (cond large (Some refusals.TooLarge) None)) ≡ cond large (Some refusals.TooLarge) None
by_tests true false large e f = refl
by_tests true true large e f = absurd cc
by_tests false fixed large e f = absurd cc

-- where the headers can count them, the length decides
by_length : (h : Head) (t : List ℕ) (file limit new : ℕ) (m : ℤ) → IsTrace h t → is_sample_count h m ≡ true → h.fixed ≡ false → new ≡ samples_at h t + width h.format * nat_abs m
    → count_refusal h file limit t m ≡ cond (ltb limit (file - length t + new)) (Some refusals.TooLarge) None
by_length h t file limit new m is counts loose e =
    let r = resized_trace h (nat_abs m) t is (can_count h m counts loose) in
    let size : length (resized h t (nat_abs m)) ≡ new = r.length ∙ sym e in
    by_tests (is_sample_count h m) h.fixed (is_too_large h file limit t (nat_abs m)) counts loose
    ∙ ap (λ (n : ℕ). let o : Option Refusal = cond (ltb limit (file - length t + n)) (Some refusals.TooLarge) None in o) size

pub too_large : (h : Head) (t : List ℕ) (file limit new : ℕ) (m : ℤ) → IsTrace h t → is_sample_count h m ≡ true → h.fixed ≡ false → new ≡ samples_at h t + width h.format * nat_abs m → limit < file - length t + new
    → count_refusal h file limit t m ≡ Some refusals.TooLarge
too_large h t file limit new m is counts loose e above =
    by_length h t file limit new m is counts loose e ∙ ap (λ (b : Bool). let o : Option Refusal = cond b (Some refusals.TooLarge) None in o) (lt-ltb limit (file - length t + new) above)

pub not_too_large : (h : Head) (t : List ℕ) (file limit new : ℕ) (m : ℤ) → IsTrace h t → is_sample_count h m ≡ true → h.fixed ≡ false → new ≡ samples_at h t + width h.format * nat_abs m → file - length t + new ≤ limit
    → count_refusal h file limit t m ≡ None
not_too_large h t file limit new m is counts loose e within =
    by_length h t file limit new m is counts loose e ∙ ap (λ (b : Bool). let o : Option Refusal = cond b (Some refusals.TooLarge) None in o) (le-ltb limit (file - length t + new) within)

-- ---- the trace that is made

-- it is a whole trace, and the file with it is within its limit
pub record ResizeFits (s : State) (p : ℕ) (u : List ℕ) : Type 0 where
  pub whole : IsTrace s.volume.head u
  pub short : length u ≤ 2 ^ 40
  pub small : length (bytes_of s.volume) + length u < 2 ^ 64
  pub limit : length (bytes_of (with_trace s.volume p u)) ≤ s.limits.bytes

pub resize_fits : (s : State) (p : ℕ) (m : ℤ) (u : List ℕ) → IsCut (bytes_of s.volume) s.reading s.limits s.volume → first_refusal s (Resize p m) ≡ None → u ≡ resized s.volume.head (trace_at s.volume p) (nat_abs m)
    → ResizeFits s p u
resize_fits s p m u cut none e =
    let v : Volume = s.volume in
    let t : List ℕ = trace_at v p in
    let a = resize_accepted s p m none in
    let r = resized_trace v.head (nat_abs m) t (whole_trace s p cut a.place.first a.place.last) a.can in
    let old : length (bytes_of v) ≤ s.limits.bytes = (has_head (bytes_of v) s.reading s.limits v.head cut.parts.head).small in
    let room : length (bytes_of v) - length t + length u ≤ s.limits.bytes = rw e a.small in
    record {
      whole = rw e r.whole;
      short = omega (arith, room, s.limits.small);
      small = omega (arith, room, old, s.limits.small);
      limit = omega (arith, room, length-with_trace v p u a.place.first a.place.last);
    }

-- the edit is done where the overlay makes it the whole of its trace
pub resize_done : (s : State) (p : ℕ) (m : ℤ) (w : Volume) (u : List ℕ) → IsCut (bytes_of s.volume) s.reading s.limits s.volume → first_refusal s (Resize p m) ≡ None → u ≡ resized s.volume.head (trace_at s.volume p) (nat_abs m)
    → w ≡ with_trace s.volume p u → IsAfter s (Resize p m) (record s { volume = w })
resize_done s p m w u cut none e is =
    let v : Volume = s.volume in
    let made : Volume = with_trace v p u in
    let a = resize_accepted s p m none in
    let f = resize_fits s p m u cut none e in
    let bytes_are : bytes_of made ≡ bytes_after_resize v p (nat_abs m) = bytes_with_trace v p u a.place.first a.place.last ∙ rw e refl in
    let again : IsCut (bytes_of made) s.reading s.limits made =
    recut_with s.reading s.limits v v.text made.traces v.tail cut cut.parts.text (All-set (IsTrace v.head) v.traces (p - 1) u f.whole cut.parts.traces)
    (omega (arith, cut.parts.few, length-set v.traces (p - 1) u)) cut.parts.tail f.limit in
    record {
      volume = subst (λ (x : Volume). IsCut (bytes_after_resize v p (nat_abs m)) s.reading s.limits x) (sym is)
          (subst (λ (file : List ℕ). IsCut file s.reading s.limits made) bytes_are again);
      fields = refl;
      reading = refl;
      limits = refl;
      on_disk = refl;
    }
