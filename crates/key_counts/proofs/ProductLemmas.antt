-- A product that fits 128 bits, and one that fits 64.
use Rattle.std.proofs.Common.{◌≡◌, ◌∙◌, ap, ap₂, ℕ, ℤ, pos, negsuc, neg_ℤ, ◌*ℤ◌, ◌≤ℤ◌, ◌<ℤ◌, ◌^◌, ◌<◌, ◌≤◌, arith}
use Rattle.std.specs.Prelude.{unsigned_abs}
use mir.Syntax.{w64, w128}
use mir.Val.{to_z, of_z, SFits}
use Rattle.std.proofs.lemmas.Int.{ints, to_z-of_z, fits_signed_mul}
use Rattle.key_counts.specs.Parts.{FitsCoordinate}
use Rattle.key_counts.specs.declared.ratio.Ratio.{Ratio}

abs_small : (n : ℤ) → SFits w64 n → unsigned_abs n ≤ 2 ^ 63
abs_small (pos m) f = omega (arith, ints)
abs_small (negsuc m) f = omega (arith, ints)

pub product_is : (n : ℤ) (d : ℕ) (a b : ℤ) → SFits w64 n → d < 2 ^ 32 → a ≡ to_z w64 (of_z w64 n) → b ≡ pos d
    → to_z w128 (of_z w128 (to_z w128 (of_z w128 a) *ℤ to_z w128 (of_z w128 b))) ≡ n *ℤ pos d
product_is n d a b fn fd ea eb =
    let a_is : to_z w128 (of_z w128 a) ≡ n = omega (arith, ints) in
    let b_is : to_z w128 (of_z w128 b) ≡ pos d = omega (arith, ints) in
    let small : unsigned_abs n ≤ 2 ^ 63 = abs_small n fn in
    let fits : SFits w128 (n *ℤ pos d) = fits_signed_mul w128 n (pos d) (2 ^ 63) (2 ^ 32) small (omega arith) (omega arith) in
    ap (λ z. to_z w128 (of_z w128 z)) (ap₂ (λ u v. u *ℤ v) a_is b_is) ∙ to_z-of_z w128 (n *ℤ pos d) fits

coordinate_small : (n : ℤ) → neg_ℤ (pos (2 ^ 46)) ≤ℤ n → n <ℤ pos (2 ^ 46) → unsigned_abs n ≤ 2 ^ 46
coordinate_small (pos m) l h = omega (arith, ints)
coordinate_small (negsuc m) l h = omega (arith, ints)

across_fits : (n : ℤ) (d : ℕ) → neg_ℤ (pos (2 ^ 46)) ≤ℤ n → n <ℤ pos (2 ^ 46) → d ≤ 2 ^ 15 → SFits w64 (n *ℤ pos d)
across_fits n d low high small = fits_signed_mul w64 n (pos d) (2 ^ 46) (2 ^ 15) (coordinate_small n low high) (omega arith) (omega arith)

within_bits : (n : ℤ) (d : ℕ) (b : ℤ) → neg_ℤ (pos (2 ^ 46)) ≤ℤ n → n <ℤ pos (2 ^ 46) → d ≤ 2 ^ 15 → b ≡ pos d
    → to_z w64 (of_z w64 n) *ℤ to_z w64 (of_z w64 b) ≡ n *ℤ pos d
within_bits n d b low high small eb =
    let a_is : to_z w64 (of_z w64 n) ≡ n = omega (arith, ints) in
    let b_is : to_z w64 (of_z w64 b) ≡ pos d = omega (arith, ints) in
    ap₂ (λ u v. u *ℤ v) a_is b_is

-- the numerator of a packed fraction times the denominator of another, as it is computed
pub across_is : (r s : Ratio) (b : ℤ) → FitsCoordinate r → FitsCoordinate s → b ≡ pos s.den
    → to_z w64 (of_z w64 r.num) *ℤ to_z w64 (of_z w64 b) ≡ r.num *ℤ pos s.den
across_is r s b fr fs eb = within_bits r.num s.den b fr.0 fr.1 fs.2 eb

-- it fits 64 bits
pub across_product : (r s : Ratio) → FitsCoordinate r → FitsCoordinate s → SFits w64 (r.num *ℤ pos s.den)
across_product r s fr fs = across_fits r.num s.den fr.0 fr.1 fs.2
