-- Samples as ranks, written and read.
use mathlib.Core.Path.{◌≡◌, refl, sym, ap, ◌∙◌, subst}
use mathlib.Core.Bool.{Bool, true, false, not, ◌&&◌, cond}
use Prim.Native.Nat.{ℕ, ◌+◌, ◌*◌, ◌/◌, ◌%◌, ◌^◌, ◌<◌, ◌≤◌}
use native.Mathlib.Omega.{arith}
use lib.IntN.{pos, negsuc}
use lib.Dec.{T, leb, leb→le, lit≤}
use borrow.Author.Tests.{leb-false, le-leb, lt-ltb}
use lib.Ieee.{Float, Format, nan, inf, fin, binary32, binary64, of_bits, to_bits, is_nan, fits}
use lib.Ieee.Fits.{fits_widens, odd-fits}
use lib.Ieee.Bits.{of_bits-to_bits, to_bits-lt, of_bits-fits}
use Rattle.std.proofs.Common.{Option, Some}
use Rattle.std.specs.Option.{option_map_or}
use Rattle.std.specs.Float.{float_is_finite, round_to_format}
use Rattle.std.specs.Ordering.{int_eq}
use Rattle.num_order.specs.Number.{is_between}
use Rattle.float_codes.specs.declared.float_format.FloatFormat.{FloatFormat}
use Rattle.float_codes.specs.declared.float_format.FloatFormat.TheVariants.{Ibm32, Ieee32, Ieee64}
use Rattle.float_codes.specs.Values.{float_width, float_of_bits, ibm_value}
use Rattle.float_codes.specs.Nearest.{pattern_of}
use Rattle.float_codes.specs.Ranks.{rank, pattern_at, rank_of, value_at}
use Rattle.float_codes.specs.Codes.{SamplesFit}
use Rattle.float_codes.specs.Laws.{IeeeReadsBack}
use Rattle.float_codes.proofs.IbmLemmas.{odd_shift}
use Rattle.float_codes.proofs.LawLemmas.{ibm_reads_back, ieee32_reads_back, ieee64_reads_back}
use native.Mathlib.Nat.{mod-lt, le_trans, le_of_lt, lt_of_lt_of_le}
use Rattle.std.proofs.lemmas.Cmp.{int_eq_equiv}
use lib.Pow.{pow_mono, shl_lt}

-- the pattern of the rank of a pattern
pattern_of_rank : (b : ℕ) → b < 2 ^ 64 → pattern_at (rank b) ≡ b
pattern_of_rank b h = go (leb (2 ^ 63) b) refl
  where
    go : (t : Bool) → leb (2 ^ 63) b ≡ t → pattern_at (cond t (negsuc (b % 2 ^ 63)) (pos (b % 2 ^ 63))) ≡ b
    go true e = let l : 2 ^ 63 ≤ b = leb→le (2 ^ 63) b (subst T (sym e) tt) in omega arith
    go false e = let l = leb-false (2 ^ 63) b e in omega arith

-- each float that binary64 holds is that of its rank
value_of_rank : (v : Float) → T (fits binary64 v) → value_at (rank_of v) ≡ v
value_of_rank v h = ap (of_bits binary64) (pattern_of_rank (to_bits binary64 v) (to_bits-lt binary64 v h)) ∙ of_bits-to_bits binary64 v h

-- the values of samples are such
ibm_fits : (b : ℕ) → T (fits binary64 (ibm_value b))
unfolding ibm_value
ibm_fits b =
    let s = leb (2 ^ 31) b in
    let m = b % 2 ^ 24 in
    let e = b / 2 ^ 24 % 128 in
    let M : m < 2 ^ 24 = mod-lt b (lit≤ tt) in
    let E : e < 128 = mod-lt (b / 2 ^ 24) (lit≤ tt) in
    let far : 24 + (4 * e + 794) ≤ 1074 + 1024 = omega arith in
    subst (λ (v : Float). T (fits binary64 v)) (odd_shift 24 s m (4 * e) 280 794)
    (odd-fits binary64 24 s m (4 * e + 794) M (le_trans (le_of_lt M) (lit≤ tt)) (lt_of_lt_of_le (shl_lt 24 (4 * e + 794) M) (pow_mono far)))

values_fit : (f : FloatFormat) (b : ℕ) → T (fits binary64 (float_of_bits f b))
values_fit Ibm32 b = ibm_fits b
values_fit Ieee32 b = fits_widens (of_bits binary32 b) (of_bits-fits binary32 b)
values_fit Ieee64 b = of_bits-fits binary64 b

-- ranks are of 64 bits
between : (v : Float) → T (fits binary64 v) → is_between true 8 (rank_of v) ≡ true
between v h = go (leb (2 ^ 63) (to_bits binary64 v))
  where
    n : ℕ
    n = to_bits binary64 v % 2 ^ 63

    small : n < 2 ^ 63
    small = mod-lt (to_bits binary64 v) (lit≤ tt)

    go : (t : Bool) → is_between true 8 (cond t (negsuc (to_bits binary64 v % 2 ^ 63)) (pos (to_bits binary64 v % 2 ^ 63))) ≡ true
    go true = ap (λ (t : Bool). t && true) (le-leb (to_bits binary64 v % 2 ^ 63) 9223372036854775807 (omega (arith, small)))
    go false = lt-ltb (to_bits binary64 v % 2 ^ 63) (2 ^ 63) small

is_nan-nan : (v : Float) → is_nan v ≡ true → v ≡ nan
unfolding is_nan
is_nan-nan nan e = refl
is_nan-nan (inf s) e = absurd (subst (λ (t : Bool). T (not t)) e tt)
is_nan-nan (fin s m e) h = absurd (subst (λ (t : Bool). T (not t)) h tt)

-- what is no number has one pattern
nan_narrow : pattern_of Ieee32 nan ≡ Some (to_bits binary32 nan)
unfolding float_is_finite round_to_format
nan_narrow = refl

nan_read : (f : FloatFormat) (g : Format) → Type 0
nan_read f g = float_of_bits f (to_bits g nan) ≡ nan

nan_read_narrow : nan_read Ieee32 binary32
unfolding to_bits of_bits nan_read
nan_read_narrow = refl

nan_read_wide : nan_read Ieee64 binary64
unfolding to_bits of_bits nan_read
nan_read_wide = refl

-- the rank of a sample's value has 64 bits
pub rank_is_small : (f : FloatFormat) (b : ℕ) → is_between true 8 (rank_of (float_of_bits f b)) ≡ true
rank_is_small f b = between (float_of_bits f b) (values_fit f b)

pub samples_fit : SamplesFit
unfolding nan_read
samples_fit f b h =
    let v = float_of_bits f b in
    ap (λ (t : Bool). t && option_map_or (λ p. int_eq (rank_of (float_of_bits f p)) (rank_of v)) (pattern_of f (value_at (rank_of v))) false) (between v (values_fit f b))
    ∙ ap (λ (w : Float). option_map_or (λ p. int_eq (rank_of (float_of_bits f p)) (rank_of v)) (pattern_of f w) false) (value_of_rank v (values_fit f b))
    ∙ again f b h
  where
    same : (f : FloatFormat) (b p : ℕ) → pattern_of f (float_of_bits f b) ≡ Some p → float_of_bits f p ≡ float_of_bits f b
        → option_map_or (λ p. int_eq (rank_of (float_of_bits f p)) (rank_of (float_of_bits f b))) (pattern_of f (float_of_bits f b)) false ≡ true
    same f b p e i =
        ap (λ (o : Option ℕ). option_map_or (λ p. int_eq (rank_of (float_of_bits f p)) (rank_of (float_of_bits f b))) o false) e
        ∙ ap (λ (w : Float). int_eq (rank_of w) (rank_of (float_of_bits f b))) i
        ∙ int_eq_equiv.refl (rank_of (float_of_bits f b))

    ieee : (f : FloatFormat) (b : ℕ) (g : Format) → IeeeReadsBack f → b < 2 ^ (8 * float_width f) → pattern_of f nan ≡ Some (to_bits g nan) → float_of_bits f (to_bits g nan) ≡ nan
        → option_map_or (λ p. int_eq (rank_of (float_of_bits f p)) (rank_of (float_of_bits f b))) (pattern_of f (float_of_bits f b)) false ≡ true
    ieee f b g law h none back = by (is_nan (float_of_bits f b)) refl
      where
        by : (t : Bool) → is_nan (float_of_bits f b) ≡ t → option_map_or (λ p. int_eq (rank_of (float_of_bits f p)) (rank_of (float_of_bits f b))) (pattern_of f (float_of_bits f b)) false ≡ true
        by false e = same f b b (law b h (subst (λ (t : Bool). T (not t)) (sym e) tt)) refl
        by true e =
            let n = is_nan-nan (float_of_bits f b) e in
            same f b (to_bits g nan) (ap (pattern_of f) n ∙ none) (back ∙ sym n)

    again : (f : FloatFormat) (b : ℕ) → b < 2 ^ (8 * float_width f)
        → option_map_or (λ p. int_eq (rank_of (float_of_bits f p)) (rank_of (float_of_bits f b))) (pattern_of f (float_of_bits f b)) false ≡ true
    again Ibm32 b h = let c = ibm_reads_back b in same Ibm32 b c.0 c.1 c.2
    again Ieee32 b h = ieee Ieee32 b binary32 ieee32_reads_back h nan_narrow nan_read_narrow
    again Ieee64 b h = ieee Ieee64 b binary64 ieee64_reads_back h refl nan_read_wide
