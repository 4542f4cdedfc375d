-- The fields of the binary header say what was written into them.
use Rattle.std.proofs.Common.{◌≡◌, ℕ, ◌+◌, ◌≤◌, ◌<◌, ◌*◌, ◌^◌, Bool, true, false, cond, eqb, ltb, leb, List, length, take, drop, refl, sym, ap, subst, ◌∙◌, arith, ℤ, pos, ◌⊎◌, inl, inr, lit≤, Option, Some, None}
use Rattle.std.specs.Prelude.{◌==◌, ◌&&◌, not, unwrap_or, ◌||◌, nat_lt, nat_le, ◌≤ℤ◌, ◌<ℤ◌}
use Rattle.std.specs.Ordering.{int_eq}
use Rattle.std.proofs.lemmas.Int.{ints}
use Rattle.std.proofs.lemmas.Bool.{eqb-true, ltb-false, ltb-true, leb-true, le-ltb, lt-ltb}
use Rattle.num_order.specs.declared.order.Order.{Order}
use Rattle.num_order.specs.Number.{bytes, num, unsigned, with_sign, IsSize, IsBetween}
use Rattle.num_order.proofs.RoundTripLemmas.{num-bytes}
use Rattle.frame_cut.specs.declared.file_head.Head.{Head}
use Rattle.frame_cut.specs.BinaryHeader.{bin_bytes, bin_unsigned, bin_signed, wide_samples as wide_field, written_samples, since_1, major_of}
use Rattle.declared_frame.specs.Written.{put_at, unsigned_bytes, short_samples, wide_samples, with_samples, with_format, with_flag, with_texts, holds_samples, holds_texts}
use Rattle.declared_frame.proofs.WindowLemmas.{Written, written, short_put, wide_put, format_put, flag_put, texts_put}
use Rattle.declared_frame.proofs.StaysLemmas.{declared_by, major_left}

pos_is : (a b : ℕ) → pos a ≡ pos b → a ≡ b
pos_is a b e = cc

two_bytes : IsSize 2
two_bytes = inr (inl refl)

four_bytes : IsSize 4
four_bytes = inr (inr (inr (inl refl)))

-- a number without a sign is read as it was written
back_2 : (o : Order) (n : ℕ) → n < 65536 → unsigned o (unsigned_bytes o 2 n) ≡ n
back_2 o n lt = pos_is _ _ (num-bytes o false 2 (pos n) two_bytes (omega (ints, arith), omega (ints, arith, lt)))

back_4 : (o : Order) (n : ℕ) → n < 4294967296 → unsigned o (unsigned_bytes o 4 n) ≡ n
back_4 o n lt = pos_is _ _ (num-bytes o false 4 (pos n) four_bytes (omega (ints, arith), omega (ints, arith, lt)))

-- ---- the number of samples

-- the number in the two fields, where the wide one counts
both_fields : (b : Bool) (n : ℕ) → ltb 65535 n ≡ b → (let w : ℕ = cond b n 0 in cond (eqb w 0) (cond b 0 n) w) ≡ n
both_fields true n e = let lt : 65535 < n = ltb-true 65535 n e in let some : eqb n 0 ≡ false = by (eqb n 0) refl lt in rw some refl
  where
    by : (c : Bool) → eqb n 0 ≡ c → 65535 < n → eqb n 0 ≡ false
    by false e lt = e
    by true e lt = absurd (omega (arith, eqb-true n 0 e, lt))
both_fields false n e = refl

short_lt : (b : Bool) (n : ℕ) → ltb 65535 n ≡ b → cond b 0 n < 65536
short_lt true n e = lit≤ tt
short_lt false n e = omega (arith, ltb-false 65535 n e)

wide_lt : (b : Bool) (n : ℕ) → n < 4294967296 → cond b n 0 < 4294967296
wide_lt true n lt = lt
wide_lt false n lt = lit≤ tt

-- what the two fields of a header say
says_samples : (o : Order) (two : Bool) (n : ℕ) (bin : List ℕ) → n < 4294967296 → eqb (major_of o bin) 2 ≡ two → bin_bytes 3221 2 bin ≡ unsigned_bytes o 2 (short_samples n)
    → (two ≡ true → bin_bytes 3269 4 bin ≡ unsigned_bytes o 4 (wide_samples n)) → (two || nat_le n 65535) ≡ true → written_samples o bin ≡ n
says_samples o true n bin lt major short wide holds =
    rw (major, wide refl, short, back_4 o (wide_samples n) (wide_lt (ltb 65535 n) n lt), back_2 o (short_samples n) (short_lt (ltb 65535 n) n refl)) (both_fields (ltb 65535 n) n refl)
says_samples o false n bin lt major short wide holds =
    let le : n ≤ 65535 = leb-true n 65535 holds in
    let few : ltb 65535 n ≡ false = le-ltb 65535 n le in
    rw (major, short, back_2 o (short_samples n) (short_lt (ltb 65535 n) n refl), few) refl

-- the windows of the two fields
samples_written : (h : Head) (two : Bool) (n : ℕ) (f : Option ℕ) (asked : Bool) (t : Option ℤ) (bin : List ℕ) → eqb h.major 2 ≡ two → length bin ≡ 400
    → (bin_bytes 3221 2 (declared_by h (Some n) f asked t bin) ≡ unsigned_bytes h.order 2 (short_samples n)) × (two ≡ true → bin_bytes 3269 4 (declared_by h (Some n) f asked t bin) ≡ unsigned_bytes h.order 4 (wide_samples n))
samples_written h two n f asked t bin major len =
    let w = written h (Some n) f asked t bin len in
    let p = short_put h n bin len in
    let behind = λ (k m : ℕ) (le : k + m ≤ 302) (apart : (k + m ≤ 24) ⊎ (26 ≤ k)). w.texts.apart k m (inl (omega (arith, le))) ∙ w.flag.apart k m (inl le) ∙ w.format.apart k m apart in
    let q = wide_put h n (put_at 3221 (unsigned_bytes h.order 2 (short_samples n)) bin) p.length in
    by two major
  where
    by : (b : Bool) → eqb h.major 2 ≡ b → (bin_bytes 3221 2 (declared_by h (Some n) f asked t bin) ≡ unsigned_bytes h.order 2 (short_samples n)) × (b ≡ true → bin_bytes 3269 4 (declared_by h (Some n) f asked t bin) ≡ unsigned_bytes h.order 4 (wide_samples n))
    by true e =
        let w = written h (Some n) f asked t bin len in
        let p = short_put h n bin len in
        let q = wide_put h n (put_at 3221 (unsigned_bytes h.order 2 (short_samples n)) bin) p.length in
        let in_wide : with_samples h (Some n) bin ≡ put_at 3269 (unsigned_bytes h.order 4 (wide_samples n)) (put_at 3221 (unsigned_bytes h.order 2 (short_samples n)) bin) = rw e refl in (
          w.texts.apart 20 2 (inl (lit≤ tt)) ∙ w.flag.apart 20 2 (inl (lit≤ tt)) ∙ w.format.apart 20 2 (inl (lit≤ tt)) ∙ ap (λ (s : List ℕ). take 2 (drop 20 s)) in_wide ∙ q.apart 20 2 (inl (lit≤ tt)) ∙ p.own,
          λ two. w.texts.apart 68 4 (inl (lit≤ tt)) ∙ w.flag.apart 68 4 (inl (lit≤ tt)) ∙ w.format.apart 68 4 (inr (lit≤ tt)) ∙ ap (λ (s : List ℕ). take 4 (drop 68 s)) in_wide ∙ q.own,
        )
    by false e =
        let w = written h (Some n) f asked t bin len in
        let p = short_put h n bin len in
        let in_short : with_samples h (Some n) bin ≡ put_at 3221 (unsigned_bytes h.order 2 (short_samples n)) bin = rw e refl in
        (w.texts.apart 20 2 (inl (lit≤ tt)) ∙ w.flag.apart 20 2 (inl (lit≤ tt)) ∙ w.format.apart 20 2 (inl (lit≤ tt)) ∙ ap (λ (s : List ℕ). take 2 (drop 20 s)) in_short ∙ p.own, λ two. absurd cc)

-- the fields say the number of samples that is asked for
pub samples_said : (h : Head) (s f : Option ℕ) (asked : Bool) (t : Option ℤ) (bin : List ℕ) (o : Order) → length bin ≡ 400 → h.order ≡ o → h.major ≡ major_of o bin → ((n : ℕ) → s ≡ Some n → n < 4294967296) → holds_samples h s ≡ true
    → written_samples o (declared_by h s f asked t bin) ≡ unwrap_or s (written_samples o (declared_by h s f asked t bin))
samples_said h None f asked t bin o len order major small holds = refl
samples_said h (Some n) f asked t bin o len order major small holds =
    let w = samples_written h (eqb h.major 2) n f asked t bin refl len in
    let here : major_of o (declared_by h (Some n) f asked t bin) ≡ h.major = rw (major_left h (Some n) f asked t bin len) (sym major) in
    says_samples o (eqb h.major 2) n (declared_by h (Some n) f asked t bin) (small n refl) (ap (λ (m : ℕ). eqb m 2) here)
    (w.0 ∙ ap (λ (p : Order). unsigned_bytes p 2 (short_samples n)) order)
    (λ two. w.1 two ∙ ap (λ (p : Order). unsigned_bytes p 4 (wide_samples n)) order)
    holds

-- and where they do not hold it they say 0
pub short_said : (h : Head) (n : ℕ) (f : Option ℕ) (asked : Bool) (t : Option ℤ) (bin : List ℕ) (o : Order) → length bin ≡ 400 → h.order ≡ o → h.major ≡ major_of o bin → eqb h.major 2 ≡ false → 65535 < n
    → written_samples o (declared_by h (Some n) f asked t bin) ≡ 0
short_said h n f asked t bin o len order major two many =
    let w = samples_written h false n f asked t bin two len in
    let here : eqb (major_of o (declared_by h (Some n) f asked t bin)) 2 ≡ false = rw (major_left h (Some n) f asked t bin len) (ap (λ (m : ℕ). eqb m 2) (sym major) ∙ two) in
    let short : bin_bytes 3221 2 (declared_by h (Some n) f asked t bin) ≡ unsigned_bytes o 2 (short_samples n) = w.0 ∙ ap (λ (p : Order). unsigned_bytes p 2 (short_samples n)) order in
    rw (here, short, back_2 o (short_samples n) (short_lt (ltb 65535 n) n refl), lt-ltb 65535 n many) refl

-- ---- the format

pub format_said : (h : Head) (s f : Option ℕ) (asked : Bool) (t : Option ℤ) (bin : List ℕ) (o : Order) → length bin ≡ 400 → h.order ≡ o → ((n : ℕ) → f ≡ Some n → n < 65536)
    → bin_unsigned o 3225 2 (declared_by h s f asked t bin) ≡ unwrap_or f (bin_unsigned o 3225 2 (declared_by h s f asked t bin))
format_said h s None asked t bin o len order small = refl
format_said h s (Some code) asked t bin o len order small =
    let w = written h s (Some code) asked t bin len in
    let p = format_put h code (with_samples h s bin) w.samples.length in
    let is : bin_bytes 3225 2 (declared_by h s (Some code) asked t bin) ≡ unsigned_bytes h.order 2 code = w.texts.apart 24 2 (inl (lit≤ tt)) ∙ w.flag.apart 24 2 (inl (lit≤ tt)) ∙ p.own in
    ap (unsigned o) (is ∙ ap (λ (q : Order). unsigned_bytes q 2 code) order) ∙ back_2 o code (small code refl)

-- ---- the extended textual headers

texts_if : (h : Head) (b : Bool) (n : ℤ) (bin other : List ℕ) (o : Order) → eqb (major_of o other) 0 ≡ b → IsBetween true 2 n → (b ≡ false → bin_bytes 3505 2 other ≡ bytes o (record { size = 2; signed = true }) n) → (not b || int_eq n (pos 0)) ≡ true
    → since_1 o other (bin_signed o 3505 2 other) ≡ n
texts_if h true n bin other o major range is holds = rw major (sym (zero n holds))
  where
    zero : (n : ℤ) → int_eq n (pos 0) ≡ true → n ≡ pos 0
    zero n e = grind (arith, ints)
texts_if h false n bin other o major range is holds = rw (major, is refl) (num-bytes o true 2 n two_bytes range)

pub texts_said : (h : Head) (s f : Option ℕ) (asked : Bool) (t : Option ℤ) (bin : List ℕ) (o : Order) → length bin ≡ 400 → h.order ≡ o → h.major ≡ major_of o bin → ((n : ℤ) → t ≡ Some n → IsBetween true 2 n) → holds_texts h t ≡ true
    → since_1 o (declared_by h s f asked t bin) (bin_signed o 3505 2 (declared_by h s f asked t bin)) ≡ unwrap_or t (since_1 o (declared_by h s f asked t bin) (bin_signed o 3505 2 (declared_by h s f asked t bin)))
texts_said h s f asked None bin o len order major range holds = refl
texts_said h s f asked (Some n) bin o len order major range holds =
    let here : major_of o (declared_by h s f asked (Some n) bin) ≡ h.major = rw (major_left h s f asked (Some n) bin len) (sym major) in
    texts_if h (eqb h.major 0) n bin (declared_by h s f asked (Some n) bin) o (ap (λ (m : ℕ). eqb m 0) here) (range n refl) (own (eqb h.major 0) refl) holds
  where
    own : (b : Bool) → eqb h.major 0 ≡ b → b ≡ false → bin_bytes 3505 2 (declared_by h s f asked (Some n) bin) ≡ bytes o (record { size = 2; signed = true }) n
    own true e off = absurd cc
    own false e off =
        let w = written h s f asked (Some n) bin len in
        let before : List ℕ = with_flag h asked (with_format h f (with_samples h s bin)) in
        let p = texts_put h n before w.flag.length in
        let is : declared_by h s f asked (Some n) bin ≡ put_at 3505 (bytes h.order (record { size = 2; signed = true }) n) before = rw e refl in
        ap (λ (b : List ℕ). take 2 (drop 304 b)) is ∙ p.own ∙ ap (λ (q : Order). bytes q (record { size = 2; signed = true }) n) order

-- ---- the flag

-- the flag is set where it is asked for and counts
pub flag_said : (h : Head) (s f : Option ℕ) (t : Option ℤ) (bin : List ℕ) (o : Order) → length bin ≡ 400 → h.order ≡ o → eqb h.major 0 ≡ false → bin_unsigned o 3503 2 (declared_by h s f true t bin) ≡ 1
flag_said h s f t bin o len order some =
    let w = written h s f true t bin len in
    let before : List ℕ = with_format h f (with_samples h s bin) in
    let p = flag_put h before w.format.length in
    let flag : with_flag h true before ≡ put_at 3503 (unsigned_bytes h.order 2 1) before = rw some refl in
    let is : bin_bytes 3503 2 (declared_by h s f true t bin) ≡ unsigned_bytes h.order 2 1 = w.texts.apart 302 2 (inl (lit≤ tt)) ∙ ap (λ (b : List ℕ). take 2 (drop 302 b)) flag ∙ p.own in
    ap (unsigned o) (is ∙ ap (λ (q : Order). unsigned_bytes q 2 1) order) ∙ back_2 o 1 (lit≤ tt)
