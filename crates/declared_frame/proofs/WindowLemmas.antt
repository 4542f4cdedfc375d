-- The bytes of the binary header that a reading written into it leaves as they were, and those that it writes. Places are counted from 0 in the header.
use Rattle.std.proofs.Common.{◌≡◌, ℕ, ◌+◌, ◌-◌, ◌≤◌, Bool, true, false, cond, eqb, ltb, List, ◌++◌, length, take, drop, refl, sym, ap, ◌∙◌, arith, append_assoc, ℤ, pos, ◌⊎◌, inl, inr, lit≤, Option, Some, None}
use Rattle.std.specs.Prelude.{◌==◌, ◌&&◌, not, unwrap_or, nat_lt, ◌||◌}
use Rattle.std.proofs.lemmas.List.{length-append, length-take, length-drop, drop_at, take_at}
use Rattle.num_order.specs.declared.order.Order.{Order}
use Rattle.num_order.specs.Number.{bytes}
use Rattle.num_order.proofs.InRangeLemmas.{length-number}
use Rattle.frame_cut.specs.declared.file_head.Head.{Head}
use Rattle.frame_cut.specs.declared.reading.Reading.{Reading}
use Rattle.frame_cut.specs.BinaryHeader.{asks_fixed}
use Rattle.frame_cut.specs.Splice.{splice}
use Rattle.frame_cut.proofs.BinEditLemmas.{apart}
use Rattle.declared_frame.specs.Written.{put_at, unsigned_bytes, short_samples, wide_samples, with_wide_samples, with_samples, with_format, with_flag, with_texts, declared}

-- ---- one field

length-put : (bin : List ℕ) (a : ℕ) (new : List ℕ) → a + length new ≤ length bin → length (splice bin a (length new) new) ≡ length bin
length-put bin a new le =
    omega (arith, length-append (take a bin ++ new) (drop (a + length new) bin), length-append (take a bin) new, length-take a bin, length-drop (a + length new) bin)

own : (bin : List ℕ) (a : ℕ) (new : List ℕ) → a + length new ≤ length bin → take (length new) (drop a (splice bin a (length new) new)) ≡ new
own bin a new le =
    let front : length (take a bin) ≡ a = omega (arith, length-take a bin) in
    ap (λ (s : List ℕ). take (length new) (drop a s)) (append_assoc (take a bin) new (drop (a + length new) bin))
    ∙ ap (take (length new)) (drop_at (take a bin) (new ++ drop (a + length new) bin) a front)
    ∙ take_at new (drop (a + length new) bin) (length new) refl

-- the bytes of the number, n of them, over those from a on
pub record Puts (bin other : List ℕ) (a n : ℕ) (new : List ℕ) : Type 0 where
  pub length : length other ≡ 400
  pub own : take n (drop a other) ≡ new
  pub apart : (k m : ℕ) → (k + m ≤ a) ⊎ (a + n ≤ k) → take m (drop k other) ≡ take m (drop k bin)

puts : (bin : List ℕ) (a n : ℕ) (new : List ℕ) → length bin ≡ 400 → length new ≡ n → a + n ≤ 400 → Puts bin (splice bin a (length new) new) a n new
puts bin a n new len size le =
    let inside : a + length new ≤ length bin = omega (arith, len, size, le) in
    record {
      length = length-put bin a new inside ∙ len;
      own = ap (λ (k : ℕ). take k (drop a (splice bin a (length new) new))) (sym size) ∙ own bin a new inside;
      apart = λ k m h. apart bin new a k m inside (moved k m h);
    }
  where
    moved : (k m : ℕ) → (k + m ≤ a) ⊎ (a + n ≤ k) → (k + m ≤ a) ⊎ (a + length new ≤ k)
    moved k m (inl before) = inl before
    moved k m (inr behind) = inr (omega (arith, behind, size))

-- ---- what each step writes

-- the step leaves the length
pub record Keeps (bin other : List ℕ) (P : (k m : ℕ) → Type 0) : Type 0 where
  pub length : length other ≡ 400
  pub apart : (k m : ℕ) → P k m → take m (drop k other) ≡ take m (drop k bin)

-- bytes k to k + m do not meet those from a to a + n
abbrev pub Beside : (a n k m : ℕ) → Type 0
Beside a n k m = (k + m ≤ a) ⊎ (a + n ≤ k)

same : (bin : List ℕ) (P : (k m : ℕ) → Type 0) → length bin ≡ 400 → Keeps bin bin P
same bin P len = record { length = len; apart = λ k m h. refl }

pub short_put : (h : Head) (n : ℕ) (bin : List ℕ) → length bin ≡ 400 → Puts bin (put_at 3221 (unsigned_bytes h.order 2 (short_samples n)) bin) 20 2 (unsigned_bytes h.order 2 (short_samples n))
short_put h n bin len = puts bin 20 2 (unsigned_bytes h.order 2 (short_samples n)) len (length-number h.order (record { size = 2; signed = false }) (pos (short_samples n))) (lit≤ tt)

pub wide_put : (h : Head) (n : ℕ) (bin : List ℕ) → length bin ≡ 400 → Puts bin (put_at 3269 (unsigned_bytes h.order 4 (wide_samples n)) bin) 68 4 (unsigned_bytes h.order 4 (wide_samples n))
wide_put h n bin len = puts bin 68 4 (unsigned_bytes h.order 4 (wide_samples n)) len (length-number h.order (record { size = 4; signed = false }) (pos (wide_samples n))) (lit≤ tt)

pub format_put : (h : Head) (code : ℕ) (bin : List ℕ) → length bin ≡ 400 → Puts bin (put_at 3225 (unsigned_bytes h.order 2 code) bin) 24 2 (unsigned_bytes h.order 2 code)
format_put h code bin len = puts bin 24 2 (unsigned_bytes h.order 2 code) len (length-number h.order (record { size = 2; signed = false }) (pos code)) (lit≤ tt)

pub flag_put : (h : Head) (bin : List ℕ) → length bin ≡ 400 → Puts bin (put_at 3503 (unsigned_bytes h.order 2 1) bin) 302 2 (unsigned_bytes h.order 2 1)
flag_put h bin len = puts bin 302 2 (unsigned_bytes h.order 2 1) len (length-number h.order (record { size = 2; signed = false }) (pos 1)) (lit≤ tt)

pub texts_put : (h : Head) (n : ℤ) (bin : List ℕ) → length bin ≡ 400 → Puts bin (put_at 3505 (bytes h.order (record { size = 2; signed = true }) n) bin) 304 2 (bytes h.order (record { size = 2; signed = true }) n)
texts_put h n bin len = puts bin 304 2 (bytes h.order (record { size = 2; signed = true }) n) len (length-number h.order (record { size = 2; signed = true }) n) (lit≤ tt)

wide_keeps : (h : Head) (b : Bool) (n : ℕ) (bin : List ℕ) → length bin ≡ 400 → Keeps bin (cond b (put_at 3269 (unsigned_bytes h.order 4 (wide_samples n)) bin) bin) (Beside 68 4)
wide_keeps h true n bin len = let p = wide_put h n bin len in record { length = p.length; apart = p.apart }
wide_keeps h false n bin len = same bin (Beside 68 4) len

pub samples_keep : (h : Head) (o : Option ℕ) (bin : List ℕ) → length bin ≡ 400 → Keeps bin (with_samples h o bin) (λ k m. Beside 20 2 k m × Beside 68 4 k m)
samples_keep h None bin len = same bin _ len
samples_keep h (Some n) bin len =
    let p = short_put h n bin len in
    let w = wide_keeps h (h.major == 2) n (put_at 3221 (unsigned_bytes h.order 2 (short_samples n)) bin) p.length in
    record { length = w.length; apart = λ k m s. w.apart k m s.1 ∙ p.apart k m s.0 }

pub format_keeps : (h : Head) (o : Option ℕ) (bin : List ℕ) → length bin ≡ 400 → Keeps bin (with_format h o bin) (Beside 24 2)
format_keeps h None bin len = same bin (Beside 24 2) len
format_keeps h (Some code) bin len = let p = format_put h code bin len in record { length = p.length; apart = p.apart }

flag_keeps_if : (h : Head) (b : Bool) (bin : List ℕ) → length bin ≡ 400 → Keeps bin (cond b (put_at 3503 (unsigned_bytes h.order 2 1) bin) bin) (Beside 302 2)
flag_keeps_if h true bin len = let p = flag_put h bin len in record { length = p.length; apart = p.apart }
flag_keeps_if h false bin len = same bin (Beside 302 2) len

pub flag_keeps : (h : Head) (asked : Bool) (bin : List ℕ) → length bin ≡ 400 → Keeps bin (with_flag h asked bin) (Beside 302 2)
flag_keeps h asked bin len = flag_keeps_if h (asked && not (h.major == 0)) bin len

texts_keep_if : (h : Head) (b : Bool) (n : ℤ) (bin : List ℕ) → length bin ≡ 400 → Keeps bin (cond b bin (put_at 3505 (bytes h.order (record { size = 2; signed = true }) n) bin)) (Beside 304 2)
texts_keep_if h true n bin len = same bin (Beside 304 2) len
texts_keep_if h false n bin len = let p = texts_put h n bin len in record { length = p.length; apart = p.apart }

pub texts_keep : (h : Head) (o : Option ℤ) (bin : List ℕ) → length bin ≡ 400 → Keeps bin (with_texts h o bin) (Beside 304 2)
texts_keep h None bin len = same bin (Beside 304 2) len
texts_keep h (Some n) bin len = texts_keep_if h (h.major == 0) n bin len

-- ---- all of them

-- the header behind each step
pub record Written (h : Head) (s f : Option ℕ) (asked : Bool) (t : Option ℤ) (bin : List ℕ) : Type 0 where
  pub samples : Keeps bin (with_samples h s bin) (λ k m. Beside 20 2 k m × Beside 68 4 k m)
  pub format : Keeps (with_samples h s bin) (with_format h f (with_samples h s bin)) (Beside 24 2)
  pub flag : Keeps (with_format h f (with_samples h s bin)) (with_flag h asked (with_format h f (with_samples h s bin))) (Beside 302 2)
  pub texts : Keeps (with_flag h asked (with_format h f (with_samples h s bin))) (with_texts h t (with_flag h asked (with_format h f (with_samples h s bin)))) (Beside 304 2)

pub written : (h : Head) (s f : Option ℕ) (asked : Bool) (t : Option ℤ) (bin : List ℕ) → length bin ≡ 400 → Written h s f asked t bin
written h s f asked t bin len =
    let a = samples_keep h s bin len in
    let b = format_keeps h f (with_samples h s bin) a.length in
    let c = flag_keeps h asked (with_format h f (with_samples h s bin)) b.length in
    record { samples = a; format = b; flag = c; texts = texts_keep h t (with_flag h asked (with_format h f (with_samples h s bin))) c.length }

-- bytes apart from all of them
pub record Apart (k m : ℕ) : Type 0 where
  pub samples : Beside 20 2 k m
  pub wide : Beside 68 4 k m
  pub format : Beside 24 2 k m
  pub flag : Beside 302 2 k m
  pub texts : Beside 304 2 k m

pub left : (h : Head) (s f : Option ℕ) (asked : Bool) (t : Option ℤ) (bin : List ℕ) (w : Written h s f asked t bin) (k m : ℕ) → Apart k m
    → take m (drop k (with_texts h t (with_flag h asked (with_format h f (with_samples h s bin))))) ≡ take m (drop k bin)
left h s f asked t bin w k m a = w.texts.apart k m a.texts ∙ w.flag.apart k m a.flag ∙ w.format.apart k m a.format ∙ w.samples.apart k m (a.samples, a.wide)
