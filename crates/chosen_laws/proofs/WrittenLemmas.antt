-- A number that is read from bytes fits its kind, and is written as the same bytes.
use Rattle.std.proofs.Common.{◌≡◌, ℕ, ℤ, zero, suc, ◌+◌, ◌*◌, ◌^◌, ◌<◌, ◌≤◌, inl, inr, Bool, true, false, T, List, [], ◌∷◌, length, take, drop, get_or, refl, sym, ap, subst, ◌∙◌, arith}
use Rattle.std.specs.Int.{byte_at, bytes_high_first, bytes_low_first}
use Rattle.std.proofs.Math.Nat.{mod-lt, mul-le-mul_right}
use Rattle.std.proofs.lemmas.Bool.{cases_lt}
use Rattle.std.proofs.lemmas.Bool.Decides.{nat_tests}
use Rattle.std.proofs.lemmas.Int.{ints}
use Rattle.std.proofs.lemmas.List.{get_or-drop, length-drop, length-take-le, take_all}
use Rattle.num_order.specs.declared.kind.Kind.{Kind}
use Rattle.num_order.specs.declared.order.Order.{Order}
use Rattle.num_order.specs.declared.order.Order.TheVariants.{Big, Little}
use Rattle.num_order.specs.Number.{InRange, IsBetween, IsSize, bytes, fits, high_first, is_between, low_first, num, residue, unsigned, with_sign}
use Rattle.num_order.proofs.InRangeLemmas.{length-number}
use Rattle.num_order.proofs.RoundTripLemmas.{reads_back}
use Rattle.num_order.proofs.SizeLemmas.{slice-lt}

-- each is one of 8 bits
abbrev pub AreBytes : List ℕ → Type 0
AreBytes bs = (i : ℕ) → get_or bs i 0 < 256

-- ---- the bytes of a number

byte-lt : (k n : ℕ) → byte_at k n < 256
byte-lt zero n = mod-lt n (omega arith)
byte-lt (suc k) n = mod-lt _ (omega arith)

high-bytes : (k n : ℕ) → AreBytes (bytes_high_first k n)
high-bytes zero n i = omega arith
high-bytes (suc k) n zero = byte-lt k n
high-bytes (suc k) n (suc i) = high-bytes k n i

low-bytes : (at k n : ℕ) → AreBytes (bytes_low_first at k n)
low-bytes at zero n i = omega arith
low-bytes at (suc k) n zero = byte-lt at n
low-bytes at (suc k) n (suc i) = low-bytes (suc at) k n i

number-bytes : (o : Order) (k : Kind) (x : ℤ) → AreBytes (bytes o k x)
number-bytes Big k x = high-bytes k.size (residue k.size x)
number-bytes Little k x = low-bytes 0 k.size (residue k.size x)

-- ---- bytes of one number are one list

unsigned-lt : (o : Order) (bs : List ℕ) → AreBytes bs → unsigned o bs < 256 ^ length bs
unsigned-lt o bs each =
    subst (λ (s : List ℕ). unsigned o s < 256 ^ length bs) (take_all (length bs) bs (omega arith)) (slice-lt o 0 (length bs) (length bs) bs refl (omega arith) (λ i. let less : get_or bs i 0 < 256 = each i in omega arith))

-- a digit times a power, with less than that behind it
digits : (b c p r q : ℕ) → r < p → q < p → b * p + r ≡ c * p + q → (b ≡ c) × (r ≡ q)
digits b c p r q less most e = elim (cases_lt b c) [
  | inl low ↦
      let step : (b + 1) * p ≤ c * p = mul-le-mul_right p (omega arith) in
      absurd (omega (arith, step))
  | inr high ↦ elim (cases_lt c b) [
    | inl low ↦
        let step : (c + 1) * p ≤ b * p = mul-le-mul_right p (omega arith) in
        absurd (omega (arith, step))
    | inr low ↦
        let same : b ≡ c = omega arith in
        (same, let times : b * p ≡ c * p = ap (λ (n : ℕ). n * p) same in omega arith)
  ]
]

one-high : (bs cs : List ℕ) → AreBytes bs → AreBytes cs → length bs ≡ length cs → high_first bs ≡ high_first cs → bs ≡ cs
one-high [] [] each other long e = refl
one-high [] (c ∷ cs) each other long e = absurd (omega (arith, long))
one-high (b ∷ bs) [] each other long e = absurd (omega (arith, long))
one-high (b ∷ bs) (c ∷ cs) each other long e =
    let same : length bs ≡ length cs = omega (arith, long) in
    let power : 256 ^ length cs ≡ 256 ^ length bs = ap (λ (n : ℕ). 256 ^ n) (sym same) in
    let less : high_first bs < 256 ^ length bs = unsigned-lt Big bs (λ i. each (suc i)) in
    let most : high_first cs < 256 ^ length bs = subst (λ (n : ℕ). high_first cs < n) power (unsigned-lt Big cs (λ i. other (suc i))) in
    let sums : b * 256 ^ length bs + high_first bs ≡ c * 256 ^ length bs + high_first cs = e ∙ ap (λ (n : ℕ). c * n + high_first cs) power in
    let d = digits b c (256 ^ length bs) (high_first bs) (high_first cs) less most sums in
    ap (λ (x : ℕ). x ∷ bs) d.0 ∙ ap (λ (s : List ℕ). c ∷ s) (one-high bs cs (λ i. each (suc i)) (λ i. other (suc i)) same d.1)

one-low : (bs cs : List ℕ) → AreBytes bs → AreBytes cs → length bs ≡ length cs → low_first bs ≡ low_first cs → bs ≡ cs
one-low [] [] each other long e = refl
one-low [] (c ∷ cs) each other long e = absurd (omega (arith, long))
one-low (b ∷ bs) [] each other long e = absurd (omega (arith, long))
one-low (b ∷ bs) (c ∷ cs) each other long e =
    let less : b < 256 = each 0 in
    let most : c < 256 = other 0 in
    let first : b ≡ c = omega (arith, e, less, most) in
    let rest : low_first bs ≡ low_first cs = omega (arith, e, less, most) in
    ap (λ (x : ℕ). x ∷ bs) first ∙ ap (λ (s : List ℕ). c ∷ s) (one-low bs cs (λ i. each (suc i)) (λ i. other (suc i)) (omega (arith, long)) rest)

one-list : (o : Order) (bs cs : List ℕ) → AreBytes bs → AreBytes cs → length bs ≡ length cs → unsigned o bs ≡ unsigned o cs → bs ≡ cs
one-list Big bs cs each other long e = one-high bs cs each other long e
one-list Little bs cs each other long e = one-low bs cs each other long e

-- ---- a number with its sign

one-sign : (signed : Bool) (size n m : ℕ) → IsSize size → n < 256 ^ size → m < 256 ^ size → with_sign signed size n ≡ with_sign signed size m → n ≡ m
one-sign false size n m s less most e = omega (arith, ints, e)
one-sign true size n m (inl s) less most e = let a = rw s at less in let b = rw s at most in let f = rw s at e in grind (arith, nat_tests, ints, a, b, f)
one-sign true size n m (inr (inl s)) less most e = let a = rw s at less in let b = rw s at most in let f = rw s at e in grind (arith, nat_tests, ints, a, b, f)
one-sign true size n m (inr (inr (inl s))) less most e = let a = rw s at less in let b = rw s at most in let f = rw s at e in grind (arith, nat_tests, ints, a, b, f)
one-sign true size n m (inr (inr (inr (inl s)))) less most e = let a = rw s at less in let b = rw s at most in let f = rw s at e in grind (arith, nat_tests, ints, a, b, f)
one-sign true size n m (inr (inr (inr (inr s)))) less most e = let a = rw s at less in let b = rw s at most in let f = rw s at e in grind (arith, nat_tests, ints, a, b, f)

-- ---- the number of some bytes

in-range : (signed : Bool) (size n : ℕ) → IsSize size → n < 256 ^ size → IsBetween signed size (with_sign signed size n)
in-range false size n (inl s) less = let a = rw s at less in rw s (omega (arith, ints), omega (arith, ints, a))
in-range false size n (inr (inl s)) less = let a = rw s at less in rw s (omega (arith, ints), omega (arith, ints, a))
in-range false size n (inr (inr (inl s))) less = let a = rw s at less in rw s (omega (arith, ints), omega (arith, ints, a))
in-range false size n (inr (inr (inr (inl s)))) less = let a = rw s at less in rw s (omega (arith, ints), omega (arith, ints, a))
in-range false size n (inr (inr (inr (inr s)))) less = let a = rw s at less in rw s (omega (arith, ints), omega (arith, ints, a))
in-range true size n (inl s) less = let a = rw s at less in rw s (grind (arith, nat_tests, ints, a), grind (arith, nat_tests, ints, a))
in-range true size n (inr (inl s)) less = let a = rw s at less in rw s (grind (arith, nat_tests, ints, a), grind (arith, nat_tests, ints, a))
in-range true size n (inr (inr (inl s))) less = let a = rw s at less in rw s (grind (arith, nat_tests, ints, a), grind (arith, nat_tests, ints, a))
in-range true size n (inr (inr (inr (inl s)))) less = let a = rw s at less in rw s (grind (arith, nat_tests, ints, a), grind (arith, nat_tests, ints, a))
in-range true size n (inr (inr (inr (inr s)))) less = let a = rw s at less in rw s (grind (arith, nat_tests, ints, a), grind (arith, nat_tests, ints, a))

-- a test that is true
true-from : (b : Bool) → T b → b ≡ true
true-from true t = refl
true-from false t = absurd t

tested : (signed : Bool) (size : ℕ) (x : ℤ) → IsBetween signed size x → is_between signed size x ≡ true
tested false size x h = rw (true-from _ h.0.le, true-from _ h.1.lt) refl
tested true size x h = rw (true-from _ h.0.le, true-from _ h.1.lt) refl

-- so many bytes from a place on
module _ (o : Order) (k : Kind) (at : ℕ) (t : List ℕ) (size : IsSize k.size) (inside : at + k.size ≤ length t) (each : AreBytes t) where
  abbrev part : List ℕ
  part = take k.size (drop at t)

  part-lt : unsigned o part < 256 ^ k.size
  part-lt = slice-lt o at k.size k.size t refl inside (λ i. let less : get_or t i 0 < 256 = each i in omega arith)

  long : length part ≡ k.size
  long = omega (arith, length-take-le k.size (drop at t) (omega (arith, length-drop at t, inside)))

  part-range : InRange k (num o k part)
  part-range = in-range k.signed k.size (unsigned o part) size part-lt

  -- their number is one of the kind
  pub part_fits : fits k (num o k part) ≡ true
  part_fits = tested k.signed k.size (num o k part) part-range

  taken : AreBytes part
  taken i = taken-lt k.size (drop at t) (λ j. let same = get_or-drop at t j 0 in let less : get_or t (at + j) 0 < 256 = each (at + j) in omega (arith, same, less)) i
    where
      taken-lt : (n : ℕ) (bs : List ℕ) → AreBytes bs → AreBytes (take n bs)
      taken-lt zero bs h j = omega arith
      taken-lt (suc n) [] h j = omega arith
      taken-lt (suc n) (b ∷ bs) h zero = h 0
      taken-lt (suc n) (b ∷ bs) h (suc j) = taken-lt n bs (λ i. h (suc i)) j

  -- and is written as they are
  pub written_again : bytes o k (num o k part) ≡ part
  written_again =
      let x : ℤ = num o k part in
      let size_is : length (bytes o k x) ≡ k.size = length-number o k x in
      let less : unsigned o (bytes o k x) < 256 ^ k.size = subst (λ (n : ℕ). unsigned o (bytes o k x) < 256 ^ n) size_is (unsigned-lt o (bytes o k x) (number-bytes o k x)) in
      let same : unsigned o (bytes o k x) ≡ unsigned o part = one-sign k.signed k.size (unsigned o (bytes o k x)) (unsigned o part) size less part-lt (reads_back o k x size part-range) in
      one-list o (bytes o k x) part (number-bytes o k x) taken (size_is ∙ sym long) same
