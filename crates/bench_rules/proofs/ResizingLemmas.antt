-- A trace that is given another number of samples is a whole trace with that number.
use Rattle.std.proofs.Common.{◌≡◌, ℕ, ◌+◌, ◌*◌, ◌-◌, ◌<◌, ◌≤◌, Bool, true, false, cond, eqb, ltb, List, [], ◌++◌, length, take, drop, replicate, Option, Some, None, pos, refl, sym, ap, ◌∙◌, arith, inl, inr, append-nil}
use Rattle.std.specs.Prelude.{min, option_map, unwrap_or}
use Rattle.std.proofs.lemmas.Bool.{ltb-true, ltb-false}
use Rattle.std.proofs.lemmas.Bool.Decides.{nat_tests}
use Rattle.std.proofs.lemmas.Int.{ints}
use Rattle.std.proofs.lemmas.List.{length-append, length-replicate, length-take-le, length-drop, take_all, drop_all, drop-append-le, drop-take, drop-replicate}
use Rattle.num_order.specs.declared.order.Order.{Order}
use Rattle.num_order.specs.Number.{bytes, unsigned}
use Rattle.num_order.proofs.InRangeLemmas.{length-number}
use Rattle.num_order.proofs.RoundTripLemmas.{num-bytes}
use Rattle.sample_codes.specs.Formats.{width}
use Rattle.frame_cut.specs.declared.file_head.Head.{Head}
use Rattle.frame_cut.specs.Cuts.{IsTrace}
use Rattle.frame_cut.specs.Frames.{count_within, or_else, header_unsigned, extension_count, sample_count, length_with, trace_length, front_length}
use Rattle.frame_cut.specs.Splice.{splice}
use Rattle.frame_cut.proofs.BinEditLemmas.{slice_before}
use Rattle.frame_cut.proofs.EditLemmas.{length-splice}
use Rattle.trace_view.specs.Values.{samples_at}
use Rattle.bench_rules.specs.Refused.{most_samples}
use Rattle.bench_rules.specs.TraceEdits.{short_count, with_count, cut_or_filled, resized}
use Rattle.bench_rules.proofs.PatchLemmas.{measured}
use Rattle.bench_rules.proofs.SpliceLemmas.{itself}
use Rattle.frame_cut.proofs.BinEditLemmas.{apart}

-- the bytes of a number of samples for the main header, and for the first header extension
abbrev short_bytes : Head → ℕ → List ℕ
short_bytes h m = bytes h.order (record { size = 2; signed = false }) (pos (short_count m))

abbrev wide_bytes : Head → ℕ → List ℕ
wide_bytes h m = bytes h.order (record { size = 4; signed = false }) (pos m)

-- ---- a number that is written is the number that is read

same_number : (a b : ℕ) → pos a ≡ pos b → a ≡ b
same_number a b e = cc

reads_short : (o : Order) (m : ℕ) → m ≤ 65535 → unsigned o (bytes o (record { size = 2; signed = false }) (pos m)) ≡ m
reads_short o m small = same_number _ _ (num-bytes o false 2 (pos m) (inr (inl refl)) (omega (arith, ints), omega (arith, ints)))

reads_wide : (o : Order) (m : ℕ) → m ≤ 4294967295 → unsigned o (bytes o (record { size = 4; signed = false }) (pos m)) ≡ m
reads_wide o m small = same_number _ _ (num-bytes o false 4 (pos m) (inr (inr (inr (inl refl)))) (omega (arith, ints), omega (arith, ints)))

-- ---- what the headers of a trace say, by their bytes

-- two traces with one front say the same
extensions-by : (none : Bool) (x : ℕ) (o : Order) (t u : List ℕ) → ((k m : ℕ) → k + m ≤ cond none 240 480 → take m (drop k u) ≡ take m (drop k t))
    → cond none (Some 0) (count_within x (unsigned o (take 2 (drop 396 u)))) ≡ cond none (Some 0) (count_within x (unsigned o (take 2 (drop 396 t))))
extensions-by true x o t u same = refl
extensions-by false x o t u same = ap (λ (s : List ℕ). count_within x (unsigned o s)) (same 396 2 (omega arith))

wide-by : (none : Bool) (o : Order) (t u : List ℕ) → ((k m : ℕ) → k + m ≤ cond none 240 480 → take m (drop k u) ≡ take m (drop k t))
    → cond none 0 (unsigned o (take 4 (drop 376 u))) ≡ cond none 0 (unsigned o (take 4 (drop 376 t)))
wide-by true o t u same = refl
wide-by false o t u same = ap (unsigned o) (same 376 4 (omega arith))

short-by : (none : Bool) (t u : List ℕ) → ((k m : ℕ) → k + m ≤ cond none 240 480 → take m (drop k u) ≡ take m (drop k t)) → take 2 (drop 114 u) ≡ take 2 (drop 114 t)
short-by true t u same = same 114 2 (omega arith)
short-by false t u same = same 114 2 (omega arith)

-- the bytes up to the end of the front are those of the other trace
abbrev pub SameFront : Head → List ℕ → List ℕ → Type 0
SameFront h t u = (k m : ℕ) → k + m ≤ front_length h → take m (drop k u) ≡ take m (drop k t)

pub same_extensions : (h : Head) (t u : List ℕ) → SameFront h t u → extension_count h u ≡ extension_count h t
same_extensions h t u same = extensions-by (eqb h.extensions 0) h.extensions h.order t u same

pub same_samples : (h : Head) (t u : List ℕ) → SameFront h t u → sample_count h u ≡ sample_count h t
same_samples h t u same = rw (wide-by (eqb h.extensions 0) h.order t u same, short-by (eqb h.extensions 0) t u same) refl

-- the number of samples is that of the extension, or of the main header where there is no extension
first_number : (a b : ℕ) → 0 < a → or_else a b ≡ a
first_number a b h = grind (arith, nat_tests)

number-by : (fixed none : Bool) (wide short n m : ℕ) → fixed ≡ false → (none ≡ false → wide ≡ m) → (none ≡ true → short ≡ m) → 0 < m → cond fixed n (or_else (cond none 0 wide) (or_else short n)) ≡ m
number-by true none wide short n m e f g some = absurd cc
number-by false true wide short n m e f g some = rw (g refl) (first_number m n some)
number-by false false wide short n m e f g some = rw (f refl) (first_number m (or_else short n) some)

-- ---- the trace with the number in its headers

-- the number that the headers hold is at least 1, and they can hold it
pub record CanCount (h : Head) (m : ℕ) : Type 0 where
  pub loose : h.fixed ≡ false
  pub some : 0 < m
  pub few : m ≤ most_samples h

-- the headers say m samples, and all else is as it was
pub record IsCounted (h : Head) (t : List ℕ) (m : ℕ) (u : List ℕ) : Type 0 where
  pub length : length u ≡ length t
  pub extensions : extension_count h u ≡ extension_count h t
  pub samples : sample_count h u ≡ m
  pub behind : (k j : ℕ) → front_length h ≤ k → take j (drop k u) ≡ take j (drop k t)

-- a file without header extensions
plain : (h : Head) (m : ℕ) (t : List ℕ) → front_length h ≤ length t → CanCount h m → eqb h.extensions 0 ≡ true → ltb 0 h.extensions ≡ false → IsCounted h t m (with_count h m t)
plain h m t whole can e f =
    let new : List ℕ = short_bytes h m in
    let u : List ℕ = splice t 114 (length new) new in
    let size : length new ≡ 2 = length-number h.order (record { size = 2; signed = false }) (pos (short_count m)) in
    let front : front_length h ≡ 240 = rw e refl in
    let inside : 114 + length new ≤ length t = omega (arith, size, front) in
    let made : with_count h m t ≡ u = rw (f, size) refl in
    let small : m ≤ 65535 = rw e at can.few in
    let written : short_count m ≡ m = grind (arith, nat_tests) in
    let shown : take 2 (drop 114 u) ≡ new = ap (λ (n : ℕ). take n (drop 114 u)) (sym size) ∙ itself t new 114 inside in
    let read : header_unsigned h 0 115 2 u ≡ m =
    ap (unsigned h.order) shown ∙ ap (λ (n : ℕ). unsigned h.order (bytes h.order (record { size = 2; signed = false }) (pos n))) written ∙ reads_short h.order m small in
    rw made (record {
      length = length-splice t 114 new inside;
      extensions = rw e refl;
      samples = number-by h.fixed (eqb h.extensions 0) (header_unsigned h 1 137 4 u) (header_unsigned h 0 115 2 u) h.samples m can.loose
          (λ g. let no : true ≡ false = sym e ∙ g in absurd cc) (λ g. read) can.some;
      behind = λ k j le. apart t new 114 k j inside (inr (omega (arith, size, le, front)));
    })

-- a file with header extensions
wide : (h : Head) (m : ℕ) (t : List ℕ) → front_length h ≤ length t → CanCount h m → eqb h.extensions 0 ≡ false → ltb 0 h.extensions ≡ true → IsCounted h t m (with_count h m t)
wide h m t whole can e f =
    let short : List ℕ = short_bytes h m in
    let long : List ℕ = wide_bytes h m in
    let s : List ℕ = splice t 114 (length short) short in
    let u : List ℕ = splice s 376 (length long) long in
    let two : length short ≡ 2 = length-number h.order (record { size = 2; signed = false }) (pos (short_count m)) in
    let four : length long ≡ 4 = length-number h.order (record { size = 4; signed = false }) (pos m) in
    let front : front_length h ≡ 480 = rw e refl in
    let inside : 114 + length short ≤ length t = omega (arith, two, front) in
    let kept : length s ≡ length t = length-splice t 114 short inside in
    let there : 376 + length long ≤ length s = omega (arith, four, kept, front) in
    let made : with_count h m t ≡ u = rw (f, two, four) refl in
    let small : m ≤ 4294967295 = rw e at can.few in
    let shown : take 4 (drop 376 u) ≡ long = ap (λ (n : ℕ). take n (drop 376 u)) (sym four) ∙ itself s long 376 there in
    let read : header_unsigned h 1 137 4 u ≡ m = ap (unsigned h.order) shown ∙ reads_wide h.order m small in
    let both = λ (k j : ℕ) (le : 380 ≤ k). apart s long 376 k j there (inr (omega (arith, four, le))) ∙ apart t short 114 k j inside (inr (omega (arith, two, le))) in
    rw made (record {
      length = length-splice s 376 long there ∙ kept;
      extensions = rw e (ap (λ (b : List ℕ). count_within h.extensions (unsigned h.order b)) (both 396 2 (omega arith)));
      samples = number-by h.fixed (eqb h.extensions 0) (header_unsigned h 1 137 4 u) (header_unsigned h 0 115 2 u) h.samples m can.loose
          (λ g. read) (λ g. let no : false ≡ true = sym e ∙ g in absurd cc) can.some;
      behind = λ k j le. both k j (omega (arith, le, front));
    })

-- one of the two it is
pub counted_in : (h : Head) (m : ℕ) (t : List ℕ) → front_length h ≤ length t → CanCount h m → IsCounted h t m (with_count h m t)
counted_in h m t whole can = by (eqb h.extensions 0) refl
  where
    by : (b : Bool) → eqb h.extensions 0 ≡ b → IsCounted h t m (with_count h m t)
    by true e = plain h m t whole can e (grind (arith, nat_tests))
    by false e = wide h m t whole can e (grind (arith, nat_tests))

-- ---- the trace with its first samples, and zeros behind them

-- the trace up to a place behind its headers, and zeros behind it
record IsCutOff (u z : List ℕ) (a k : ℕ) (t : List ℕ) : Type 0 where
  pub length : length t ≡ a + k + length z
  pub before : (j i : ℕ) → j + i ≤ a → take i (drop j t) ≡ take i (drop j u)
  pub samples : drop a t ≡ take k (drop a u) ++ z

cut_off : (u z : List ℕ) (a k d : ℕ) → length u ≡ a + k + d → IsCutOff u z a k (take (a + k) u ++ z)
cut_off u z a k d size =
    let t : List ℕ = take (a + k) u ++ z in
    let front : length (take (a + k) u) ≡ a + k = length-take-le (a + k) u (omega arith) in
    let none : drop (a + k + d) u ≡ [] = drop_all (a + k + d) u (omega arith) in
    let is : splice u (a + k) d z ≡ t = ap (λ (s : List ℕ). take (a + k) u ++ z ++ s) none ∙ append-nil (take (a + k) u ++ z) in
    record {
      length = length-append (take (a + k) u) z ∙ ap (λ (n : ℕ). n + length z) front;
      before = λ j i le. ap (λ (s : List ℕ). take i (drop j s)) (sym is) ∙ slice_before u (a + k) d z j i (omega (arith, le)) (omega arith);
      samples = drop-append-le a (take (a + k) u) z (omega arith) ∙ ap (λ (s : List ℕ). s ++ z) (drop-take a k u);
    }

pub times-add : (w k d n : ℕ) → k + d ≡ n → w * k + w * d ≡ w * n
times-add w k d n e = rw (sym e) (omega arith)

-- taking more samples than there are takes all
take_up_to : (w n m a : ℕ) (t : List ℕ) → length t ≡ a + w * n → take (a + w * m) t ≡ take (a + w * min n m) t
take_up_to w n m a t size = by (ltb n m) refl
  where
    by : (b : Bool) → ltb n m ≡ b → take (a + w * m) t ≡ take (a + w * min n m) t
    by true e =
        let less : n < m = grind (arith, nat_tests) in
        let least : min n m ≡ n = omega arith in
        let more : w * n + w * (m - n) ≡ w * m = times-add w n (m - n) m (omega arith) in
        rw least (take_all (a + w * m) t (omega arith) ∙ sym (take_all (a + w * n) t (omega arith)))
    by false e =
        let least : min n m ≡ m = grind (arith, nat_tests) in
        rw least refl

-- its headers are as they were, and behind them are as many of the samples as there are, and zeros
pub record IsFilled (h : Head) (t : List ℕ) (m : ℕ) (s : List ℕ) : Type 0 where
  pub length : length s ≡ samples_at h t + width h.format * m
  pub before : (j i : ℕ) → j + i ≤ samples_at h t → take i (drop j s) ≡ take i (drop j t)
  pub samples : drop (samples_at h t) s ≡ take (width h.format * min (sample_count h t) m) (drop (samples_at h t) t) ++ replicate (width h.format * (m - sample_count h t)) 0

pub filled : (h : Head) (m : ℕ) (t : List ℕ) → IsTrace h t → IsFilled h t m (cut_or_filled h m t)
filled h m t is =
    let w : ℕ = width h.format in
    let n : ℕ = sample_count h t in
    let a : ℕ = samples_at h t in
    let k : ℕ = min n m in
    let old = measured h t is in
    let zeros : List ℕ = replicate (w * (m - n)) 0 in
    let fewer : w * k + w * (n - m) ≡ w * n = times-add w k (n - m) n (omega arith) in
    let more : w * k + w * (m - n) ≡ w * m = times-add w k (m - n) m (omega arith) in
    let same : cut_or_filled h m t ≡ take (a + w * k) t ++ zeros = ap (λ (s : List ℕ). s ++ zeros) (take_up_to w n m a t (sym old.whole)) in
    let c = cut_off t zeros a (w * k) (w * (n - m)) (omega (arith, old.whole, fewer)) in
    rw same (record {
      length = omega (arith, c.length, length-replicate {A = ℕ}, more);
      before = c.before;
      samples = c.samples;
    })

-- so are the bytes that were kept in front of zeros
pub kept_and_zeros : (h : Head) (m : ℕ) (t : List ℕ) (len kept : ℕ) → IsTrace h t → len ≡ samples_at h t + width h.format * m → kept ≡ min len (length t) → take kept t ++ drop kept (replicate len 0) ≡ cut_or_filled h m t
kept_and_zeros h m t len kept is e f = by (ltb n m) refl
  where
    w : ℕ
    w = width h.format

    n : ℕ
    n = sample_count h t

    by : (b : Bool) → ltb n m ≡ b → take kept t ++ drop kept (replicate len 0) ≡ cut_or_filled h m t
    by true g =
        let less : n < m = ltb-true n m g in
        let old = measured h t is in
        let more : w * n + w * (m - n) ≡ w * m = times-add w n (m - n) m (omega arith) in
        let all : kept ≡ length t = omega (arith, old.whole) in
        let left : len - kept ≡ w * (m - n) = omega (arith, old.whole) in
        let front : take kept t ≡ take (samples_at h t + w * m) t = take_all kept t (omega arith) ∙ sym (take_all (samples_at h t + w * m) t (omega (arith, old.whole))) in
        let back : drop kept (replicate len 0) ≡ replicate (w * (m - n)) 0 = drop-replicate kept len 0 ∙ ap (λ (i : ℕ). replicate i 0) left in
        ap (λ (s : List ℕ). s ++ drop kept (replicate len 0)) front ∙ ap (λ (s : List ℕ). take (samples_at h t + w * m) t ++ s) back
    by false g =
        let few : m ≤ n = ltb-false n m g in
        let old = measured h t is in
        let fewer : w * m + w * (n - m) ≡ w * n = times-add w m (n - m) n (omega arith) in
        let all : kept ≡ len = omega (arith, old.whole) in
        let none : m - n ≡ 0 = omega arith in
        let left : len - kept ≡ w * (m - n) = rw none (omega arith) in
        let front : take kept t ≡ take (samples_at h t + w * m) t = ap (λ (i : ℕ). take i t) (all ∙ e) in
        let back : drop kept (replicate len 0) ≡ replicate (w * (m - n)) 0 = drop-replicate kept len 0 ∙ ap (λ (i : ℕ). replicate i 0) left in
        ap (λ (s : List ℕ). s ++ drop kept (replicate len 0)) front ∙ ap (λ (s : List ℕ). take (samples_at h t + w * m) t ++ s) back

-- ---- the trace with m samples

-- it is a whole trace with that number of samples, and behind its headers are as many of the old ones as there are, and zeros
pub record IsResized (h : Head) (t : List ℕ) (m : ℕ) (u : List ℕ) : Type 0 where
  pub whole : IsTrace h u
  pub length : length u ≡ samples_at h t + width h.format * m
  pub count : sample_count h u ≡ m
  pub extensions : extension_count h u ≡ extension_count h t
  pub samples : drop (samples_at h t) u ≡ take (width h.format * min (sample_count h t) m) (drop (samples_at h t) t) ++ replicate (width h.format * (m - sample_count h t)) 0

length-by : (h : Head) (o : Option ℕ) (n m a len : ℕ) → option_map (λ e. length_with h e n) o ≡ Some len → a ≡ 240 * (1 + unwrap_or o 0)
    → option_map (λ e. length_with h e m) o ≡ Some (a + width h.format * m)
length-by h None n m a len e is = absurd cc
length-by h (Some x) n m a len e is = rw is refl

-- all bytes from a place on, by those of another list of one length
same_behind : (s u : List ℕ) (a : ℕ) → length u ≡ length s → ((j : ℕ) → take j (drop a u) ≡ take j (drop a s)) → drop a u ≡ drop a s
same_behind s u a e same =
    let n : ℕ = length s in
    sym (take_all n (drop a u) (omega (arith, length-drop a u))) ∙ same n ∙ take_all n (drop a s) (omega (arith, length-drop a s))

pub resized_trace : (h : Head) (m : ℕ) (t : List ℕ) → IsTrace h t → CanCount h m → IsResized h t m (resized h t m)
resized_trace h m t is can =
    let n : ℕ = sample_count h t in
    let a : ℕ = samples_at h t in
    let s : List ℕ = cut_or_filled h m t in
    let u : List ℕ = resized h t m in
    let old = measured h t is in
    let f = filled h m t is in
    let c = counted_in h m s (omega (arith, f.length, old.front)) can in
    let front : SameFront h t s = λ j i le. f.before j i (omega (arith, le, old.front)) in
    let extensions : extension_count h u ≡ extension_count h t = c.extensions ∙ same_extensions h t s front in
    let size : length u ≡ a + width h.format * m = c.length ∙ f.length in
    let exact : trace_length h u ≡ Some (a + width h.format * m) =
    ap (λ (i : ℕ). option_map (λ e. length_with h e i) (extension_count h u)) c.samples
    ∙ ap (λ (o : Option ℕ). option_map (λ e. length_with h e m) o) extensions
    ∙ length-by h (extension_count h t) n m a (length t) is.exact refl in
    record {
      whole = record { whole = omega (arith, size, old.front); exact = exact ∙ ap (λ (i : ℕ). let o : Option ℕ = Some i in o) (sym size) };
      length = size;
      count = c.samples;
      extensions = extensions;
      samples = same_behind s u a c.length (λ j. c.behind a j old.front) ∙ f.samples;
    }
