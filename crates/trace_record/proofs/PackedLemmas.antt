-- Records of the same fields are one record.
use Rattle.std.specs.Prelude.{◌≡◌, ◌<◌, ℕ, ℤ, Bool, true, false, pos, neg_ℤ, ◌+◌, ◌*◌, ◌/◌, ◌%◌, ◌^◌, ◌==◌, ◌&&◌, Option, Some, None, unwrap_or, refl}
use Rattle.std.proofs.Common.{arith, ap, ap₂, subst, ◌∙◌, SFits, to_z, of_z}
use Rattle.std.specs.Int.{w128}
use Rattle.std.proofs.lemmas.Bool.Decides.{nat_tests}
use Rattle.std.proofs.lemmas.Int.{ints, to_z-of_z}
use Rattle.key_counts.specs.Parts.{first_flag, second_flag}
use Rattle.trace_record.specs.Parts.{FitsSample, FitsWord, FitsSum, signed_of}
use Rattle.trace_record.specs.Packable.{HaveRange, IsPackable, IsPackable-prop, amplitudes_from}
use Rattle.trace_record.specs.Facts.{Facts, facts_of}
use Rattle.trace_record.specs.declared.amplitudes.Amplitudes.{Amplitudes}
use Rattle.trace_record.specs.declared.record.Record.{Record}

-- what is true of the facts of every record
abbrev pub HasRoom : Facts → Type 0
HasRoom f = IsPackable f.amplitudes f.number f.x f.y

HasRoom-prop : (f : Facts) → IsProp (HasRoom f)
HasRoom-prop f = IsPackable-prop f.amplitudes f.number f.x f.y

-- a record of its facts
of_facts : (f : Facts) → HasRoom f → Record
of_facts f h = record {
  amplitudes = f.amplitudes;
  x = f.x;
  y = f.y;
  inline = f.inline;
  crossline = f.crossline;
  offset = f.offset;
  sequence = f.sequence;
  number = f.number;
  scalar = f.scalar;
  units = f.units;
  interval = f.interval;
  samples_field = f.samples_field;
  has_known_name = f.has_known_name;
  small = h;
}

pub same_facts : (a b : Record) → facts_of a ≡ facts_of b → a ≡ b
unfolding of_facts
same_facts a b e =
    let at : (h : HasRoom (facts_of b)) → of_facts (facts_of a) a.small ≡ of_facts (facts_of b) h
    = subst (λ (f : Facts). (h : HasRoom f) → of_facts (facts_of a) a.small ≡ of_facts f h) e (λ h. ap (of_facts (facts_of a)) (HasRoom-prop (facts_of a) a.small h)) in
    at b.small

-- each field of one record is that of the other
pub record SameFields (a b : Record) : Type 0 where
  pub amplitudes : a.amplitudes ≡ b.amplitudes
  pub x : a.x ≡ b.x
  pub y : a.y ≡ b.y
  pub inline : a.inline ≡ b.inline
  pub crossline : a.crossline ≡ b.crossline
  pub offset : a.offset ≡ b.offset
  pub sequence : a.sequence ≡ b.sequence
  pub number : a.number ≡ b.number
  pub scalar : a.scalar ≡ b.scalar
  pub units : a.units ≡ b.units
  pub interval : a.interval ≡ b.interval
  pub samples_field : a.samples_field ≡ b.samples_field
  pub has_known_name : a.has_known_name ≡ b.has_known_name

pub same_record : (a b : Record) → SameFields a b → a ≡ b
same_record a b e = same_facts a b (λ i. record {
  inline = e.inline i;
  crossline = e.crossline i;
  offset = e.offset i;
  x = e.x i;
  y = e.y i;
  scalar = e.scalar i;
  sequence = e.sequence i;
  units = e.units i;
  interval = e.interval i;
  samples_field = e.samples_field i;
  has_known_name = e.has_known_name i;
  amplitudes = e.amplitudes i;
  number = e.number i;
})

-- a sample without its sign, and the sign from a flag, are the sample
pub kept_sample : (flag sign : Bool) (v : ℤ) (low : ℕ) → SFits w128 v → flag ≡ sign → signed_of sign (2 ^ 64) low ≡ to_z w128 (of_z w128 v) → signed_of flag (2 ^ 64) low ≡ v
kept_sample flag sign v low fits same is = ap (λ (b : Bool). signed_of b (2 ^ 64) low) same ∙ is ∙ to_z-of_z w128 v fits

-- a sum in two parts without its sign, and the sign from a flag, are the sum
pub kept_sum : (flag sign : Bool) (v : ℤ) (low : ℕ) → SFits w128 v → flag ≡ sign → signed_of sign (2 ^ 96) low ≡ to_z w128 (of_z w128 v)
    → signed_of flag (2 ^ 96) (low / 2 ^ 64 * 2 ^ 64 + low % 2 ^ 64) ≡ v
kept_sum flag sign v low fits same is =
    let joined : low / 2 ^ 64 * 2 ^ 64 + low % 2 ^ 64 ≡ low = omega arith in
    ap₂ (λ (b : Bool) (n : ℕ). signed_of b (2 ^ 96) n) same joined ∙ is ∙ to_z-of_z w128 v fits

-- ---- no amplitudes, and some

-- what is kept where there are none
abbrev pub kept_for_none : Amplitudes
kept_for_none = record { least = neg_ℤ (pos (2 ^ 64)); greatest = pos 0; sum = pos 0 }

stands_for_none : (flag : Bool) (low : ℕ) → signed_of flag (2 ^ 64) low ≡ neg_ℤ (pos (2 ^ 64)) → (flag && low == 0) ≡ true
stands_for_none true low e = let none : low ≡ 0 = omega (arith, ints) in rw none refl
stands_for_none false low e = absurd (omega (arith, ints))

is_sample : (flag : Bool) (low : ℕ) (v : ℤ) → FitsSample v → signed_of flag (2 ^ 64) low ≡ v → (flag && low == 0) ≡ false
is_sample true low v fits e = let l = fits.0 in grind (arith, nat_tests, ints)
is_sample false low v fits e = refl

-- the parts of amplitudes, or of what is kept for none, are them
pub amplitudes_kept : (o : Option Amplitudes) (n : ℕ) (a : Amplitudes) (x y least greatest high low : ℕ) → HaveRange o n → a ≡ unwrap_or o kept_for_none
    → signed_of (first_flag x) (2 ^ 64) least ≡ a.least → signed_of (second_flag x) (2 ^ 64) greatest ≡ a.greatest → signed_of (first_flag y) (2 ^ 96) (high * 2 ^ 64 + low) ≡ a.sum
    → amplitudes_from x y least greatest high low ≡ o
unfolding HaveRange
amplitudes_kept None n a x y least greatest high low range is l g s =
    let none = stands_for_none (first_flag x) least (l ∙ ap (λ (b : Amplitudes). b.least) is) in
    rw none refl
amplitudes_kept (Some v) n a x y least greatest high low range is l g s =
    let some = is_sample (first_flag x) least v.least range.least (l ∙ ap (λ (b : Amplitudes). b.least) is) in
    let least' = l ∙ ap (λ (b : Amplitudes). b.least) is in
    let greatest' = g ∙ ap (λ (b : Amplitudes). b.greatest) is in
    let sum' = s ∙ ap (λ (b : Amplitudes). b.sum) is in
    rw some (λ i. Some (record { least = least' i; greatest = greatest' i; sum = sum' i }))

-- the parts that are made of what is kept
pub parts_kept : (o : Option Amplitudes) (n : ℕ) (a : Amplitudes) (x y least greatest sum : ℕ) (r s t : Bool) → HaveRange o n → a ≡ unwrap_or o kept_for_none
    → SFits w128 a.least → SFits w128 a.greatest → SFits w128 a.sum → first_flag x ≡ r → second_flag x ≡ s → first_flag y ≡ t
    → signed_of r (2 ^ 64) least ≡ to_z w128 (of_z w128 a.least) → signed_of s (2 ^ 64) greatest ≡ to_z w128 (of_z w128 a.greatest) → signed_of t (2 ^ 96) sum ≡ to_z w128 (of_z w128 a.sum)
    → amplitudes_from x y least greatest (sum / 2 ^ 64) (sum % 2 ^ 64) ≡ o
parts_kept o n a x y least greatest sum r s t range is fl fg fs er es et l g m =
    amplitudes_kept o n a x y least greatest (sum / 2 ^ 64) (sum % 2 ^ 64) range is
    (kept_sample (first_flag x) r a.least least fl er l)
    (kept_sample (second_flag x) s a.greatest greatest fg es g)
    (kept_sum (first_flag y) t a.sum sum fs et m)

-- what is kept fits the parts
pub kept_fits : (o : Option Amplitudes) (n : ℕ) (a : Amplitudes) → n < 2 ^ 32 → HaveRange o n → a ≡ unwrap_or o kept_for_none → FitsWord a.least × FitsWord a.greatest × FitsSum a.sum
unfolding HaveRange
kept_fits None n a few range is =
    let least = ap (λ (b : Amplitudes). b.least) is in
    let greatest = ap (λ (b : Amplitudes). b.greatest) is in
    let sum = ap (λ (b : Amplitudes). b.sum) is in
    ((omega (arith, ints), omega (arith, ints)), (omega (arith, ints), omega (arith, ints)), (omega (arith, ints), omega (arith, ints)))
kept_fits (Some v) n a few range is =
    let least = ap (λ (b : Amplitudes). b.least) is in
    let greatest = ap (λ (b : Amplitudes). b.greatest) is in
    let sum = ap (λ (b : Amplitudes). b.sum) is in
    let l0 = range.least.0 in
    let l1 = range.least.1 in
    let g0 = range.greatest.0 in
    let g1 = range.greatest.1 in
    let low = range.low in
    let high = range.high in
    ((omega (arith, ints), omega (arith, ints)), (omega (arith, ints), omega (arith, ints)), (omega (arith, ints), omega (arith, ints)))
