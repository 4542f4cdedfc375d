-- A file stays cut under the reading that is written into it: each field that is written is one that the reading stands for.
use Rattle.std.proofs.Common.{◌≡◌, ℕ, ◌+◌, ◌≤◌, Bool, true, false, cond, List, length, take, drop, refl, sym, ap, ◌∙◌, arith, ℤ, pos, ◌⊎◌, inl, inr, lit≤, Option, Some, None}
use Rattle.std.specs.Prelude.{◌==◌, ◌&&◌, not, unwrap_or, ◌||◌}
use Rattle.num_order.specs.declared.order.Order.{Order}
use Rattle.frame_cut.specs.declared.file_head.Head.{Head}
use Rattle.frame_cut.specs.declared.limits.Limits.{Limits}
use Rattle.frame_cut.specs.declared.reading.Reading.{Reading}
use Rattle.frame_cut.specs.BinaryHeader.{asks_fixed, bin_bytes, bin_unsigned, written_samples, samples_field, format_code, text_count, since_1, bin_signed, is_fixed, is_flag_set, major_of}
use Rattle.frame_cut.specs.Cuts.{IsCut}
use Rattle.frame_cut.specs.Volume.{Volume, bytes_of}
use Rattle.frame_cut.proofs.BinEditLemmas.{SameUnder, cut_with_bin}
use Rattle.declared_frame.specs.Written.{declared, with_declared, with_samples, with_format, with_flag, with_texts}
use Rattle.declared_frame.proofs.WindowLemmas.{Written, written, Apart, Beside, left}

-- the header by what is asked for
abbrev pub declared_by : Head → Option ℕ → Option ℕ → Bool → Option ℤ → List ℕ → List ℕ
declared_by h s f asked t bin = with_texts h t (with_flag h asked (with_format h f (with_samples h s bin)))

-- bytes that no field of them has
pub major_left : (h : Head) (s f : Option ℕ) (asked : Bool) (t : Option ℤ) (bin : List ℕ) → length bin ≡ 400 → bin_bytes 3501 1 (declared_by h s f asked t bin) ≡ bin_bytes 3501 1 bin
major_left h s f asked t bin len = left h s f asked t bin (written h s f asked t bin len) 300 1 (record { samples = inr (lit≤ tt); wide = inr (lit≤ tt); format = inr (lit≤ tt); flag = inl (lit≤ tt); texts = inl (lit≤ tt) })

pub minor_left : (h : Head) (s f : Option ℕ) (asked : Bool) (t : Option ℤ) (bin : List ℕ) → length bin ≡ 400 → bin_bytes 3502 1 (declared_by h s f asked t bin) ≡ bin_bytes 3502 1 bin
minor_left h s f asked t bin len = left h s f asked t bin (written h s f asked t bin len) 301 1 (record { samples = inr (lit≤ tt); wide = inr (lit≤ tt); format = inr (lit≤ tt); flag = inl (lit≤ tt); texts = inl (lit≤ tt) })

pub order_left : (h : Head) (s f : Option ℕ) (asked : Bool) (t : Option ℤ) (bin : List ℕ) → length bin ≡ 400 → bin_bytes 3297 4 (declared_by h s f asked t bin) ≡ bin_bytes 3297 4 bin
order_left h s f asked t bin len = left h s f asked t bin (written h s f asked t bin len) 96 4 (record { samples = inr (lit≤ tt); wide = inr (lit≤ tt); format = inr (lit≤ tt); flag = inl (lit≤ tt); texts = inl (lit≤ tt) })

-- bytes behind all of them
behind_left : (h : Head) (s f : Option ℕ) (asked : Bool) (t : Option ℤ) (bin : List ℕ) → length bin ≡ 400 → (k m : ℕ) → 306 ≤ k → take m (drop k (declared_by h s f asked t bin)) ≡ take m (drop k bin)
behind_left h s f asked t bin len k m le = left h s f asked t bin (written h s f asked t bin len) k m (record { samples = inr (omega (arith, le)); wide = inr (omega (arith, le)); format = inr (omega (arith, le)); flag = inr (omega (arith, le)); texts = inr (omega (arith, le)) })

-- ---- what is not asked for keeps its bytes

samples_same : (h : Head) (s f : Option ℕ) (asked : Bool) (t : Option ℤ) (bin : List ℕ) → length bin ≡ 400 → (o : Order) → unwrap_or s (written_samples o (declared_by h s f asked t bin)) ≡ unwrap_or s (written_samples o bin)
samples_same h (Some n) f asked t bin len o = refl
samples_same h None f asked t bin len o =
    let w = written h None f asked t bin len in
    let short : bin_bytes 3221 2 (declared_by h None f asked t bin) ≡ bin_bytes 3221 2 bin = w.texts.apart 20 2 (inl (lit≤ tt)) ∙ w.flag.apart 20 2 (inl (lit≤ tt)) ∙ w.format.apart 20 2 (inl (lit≤ tt)) in
    let wide : bin_bytes 3269 4 (declared_by h None f asked t bin) ≡ bin_bytes 3269 4 bin = w.texts.apart 68 4 (inl (lit≤ tt)) ∙ w.flag.apart 68 4 (inl (lit≤ tt)) ∙ w.format.apart 68 4 (inr (lit≤ tt)) in
    rw (major_left h None f asked t bin len, wide, short) refl

format_same : (h : Head) (s f : Option ℕ) (asked : Bool) (t : Option ℤ) (bin : List ℕ) → length bin ≡ 400 → (o : Order) → unwrap_or f (bin_unsigned o 3225 2 (declared_by h s f asked t bin)) ≡ unwrap_or f (bin_unsigned o 3225 2 bin)
format_same h s (Some code) asked t bin len o = refl
format_same h s None asked t bin len o =
    let w = written h s None asked t bin len in
    let is : bin_bytes 3225 2 (declared_by h s None asked t bin) ≡ bin_bytes 3225 2 bin = w.texts.apart 24 2 (inl (lit≤ tt)) ∙ w.flag.apart 24 2 (inl (lit≤ tt)) ∙ w.samples.apart 24 2 (inr (lit≤ tt), inl (lit≤ tt)) in
    rw is refl

fixed_same : (h : Head) (s f : Option ℕ) (asked : Bool) (t : Option ℤ) (bin : List ℕ) → length bin ≡ 400 → (o : Order) → (asked || is_flag_set o (declared_by h s f asked t bin)) ≡ (asked || is_flag_set o bin)
fixed_same h s f true t bin len o = refl
fixed_same h s f false t bin len o =
    let w = written h s f false t bin len in
    let is : bin_bytes 3503 2 (declared_by h s f false t bin) ≡ bin_bytes 3503 2 bin = w.texts.apart 302 2 (inl (lit≤ tt)) ∙ w.format.apart 302 2 (inr (lit≤ tt)) ∙ w.samples.apart 302 2 (inr (lit≤ tt), inr (lit≤ tt)) in
    rw (major_left h s f false t bin len, is) refl

texts_same : (h : Head) (s f : Option ℕ) (asked : Bool) (t : Option ℤ) (bin : List ℕ) → length bin ≡ 400 → (o : Order) → unwrap_or t (since_1 o (declared_by h s f asked t bin) (bin_signed o 3505 2 (declared_by h s f asked t bin))) ≡ unwrap_or t (since_1 o bin (bin_signed o 3505 2 bin))
texts_same h s f asked (Some n) bin len o = refl
texts_same h s f asked None bin len o =
    let w = written h s f asked None bin len in
    let is : bin_bytes 3505 2 (declared_by h s f asked None bin) ≡ bin_bytes 3505 2 bin = w.flag.apart 304 2 (inr (lit≤ tt)) ∙ w.format.apart 304 2 (inr (lit≤ tt)) ∙ w.samples.apart 304 2 (inr (lit≤ tt), inr (lit≤ tt)) in
    rw (major_left h s f asked None bin len, is) refl

-- ---- the frame

pub length-declared : (reading : Reading) (h : Head) (bin : List ℕ) → length bin ≡ 400 → length (declared reading h bin) ≡ 400
length-declared reading h bin len = let w = written h reading.samples reading.format (asks_fixed reading) reading.texts bin len in w.texts.length

pub declared_same : (reading : Reading) (h : Head) (bin : List ℕ) → length bin ≡ 400 → SameUnder reading bin (declared reading h bin)
declared_same reading h bin len =
    let s : Option ℕ = reading.samples in
    let f : Option ℕ = reading.format in
    let asked : Bool = asks_fixed reading in
    let t : Option ℤ = reading.texts in
    record {
      samples = samples_same h s f asked t bin len;
      format = format_same h s f asked t bin len;
      fixed = fixed_same h s f asked t bin len;
      texts = texts_same h s f asked t bin len;
      order = order_left h s f asked t bin len;
      major = major_left h s f asked t bin len;
      minor = minor_left h s f asked t bin len;
      extensions = behind_left h s f asked t bin len 306 4 (lit≤ tt);
      first_trace = behind_left h s f asked t bin len 320 8 (lit≤ tt);
      trailer = behind_left h s f asked t bin len 328 4 (lit≤ tt);
    }

-- a file stays cut under the reading that is written into it
pub stays_cut : (reading : Reading) (limits : Limits) (v : Volume) → IsCut (bytes_of v) reading limits v → IsCut (bytes_of (with_declared reading v)) reading limits (with_declared reading v)
stays_cut reading limits v cut =
    cut_with_bin reading limits v (declared reading v.head v.bin) cut (length-declared reading v.head v.bin cut.parts.bin) (declared_same reading v.head v.bin cut.parts.bin)
