-- Counts as a function from keys to numbers, where keys are counted once more.
use Rattle.std.specs.Prelude.{◌≡◌, ℕ, ◌+◌, ◌<◌, ◌≤◌, ◌^◌, if◌then◌else◌, Option, Some, None}
use Rattle.std.specs.Ordering.{is_eq}
use Rattle.std.specs.declared.cmp.Ordering.{Ordering}

-- each key has the number that it had
abbrev pub IsSame : {K : Type 0} → (K → ℕ) → (K → ℕ) → Type 0
IsSame {K} old new = (q : K) → new q ≡ old q

module _ {K : Type 0} (cmp : K → K → Ordering) where
  -- the key has one more than it had, and each other the same
  abbrev pub IsOneMore : (K → ℕ) → (K → ℕ) → K → Type 0
  IsOneMore old new k = (q : K) → new q ≡ old q + (if is_eq (cmp k q) then 1 else 0)

  -- the key that there may be is counted beside another: none where both are the same
  abbrev pub beside_of : Option K → Option K → Option K
  beside_of None other = None
  beside_of (Some k) None = Some k
  beside_of (Some k) (Some o) = if is_eq (cmp k o) then None else Some k

-- keys that stand for what they are seen as
module _ {X K : Type 0} (seen : X → K) (cmp : K → K → Ordering) where
  -- how often q is the key that there may be
  abbrev pub times_of : Option X → K → ℕ
  times_of None q = 0
  times_of (Some x) q = if is_eq (cmp (seen x) q) then 1 else 0

  -- the key has one more than it had, where there is one, and each other the same
  abbrev pub IsMoreBy : (K → ℕ) → (K → ℕ) → Option X → Type 0
  IsMoreBy old new key = (q : K) → new q ≡ old q + times_of key q

  -- with the key, where there is one, each number is below 2^64
  abbrev pub HasRoom : (K → ℕ) → Option X → Type 0
  HasRoom number key = (q : K) → number q + times_of key q < 2 ^ 64

  -- the key, where there is one, is counted already
  abbrev pub Holds : (K → ℕ) → Option X → Type 0
  Holds number key = (q : K) → times_of key q ≤ number q
