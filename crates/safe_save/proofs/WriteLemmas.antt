-- A write that comes behind writes which took nothing, and one of the front of the bytes.
use Rattle.std.proofs.Common.{◌≤◌, ◌+◌, ◌-◌, ℕ, List, ◌++◌, Option, Some, None, Result, Ok, Err, refl, ◌∙◌, sym, length, take, drop, subst, append_assoc}
use Rattle.std.proofs.Math.Seq.{take-add}
use Rattle.std.proofs.Math.Nat.{le_trans, min-le_left}
use Rattle.std.proofs.lemmas.List.{take-take, length-take}
use Rattle.std.specs.Io.KnownBytes.{Keeps, Appends, WriteAppends}

-- what is kept is kept, and what is then added is added
pub Keeps-then : {E : Type 0} (a b c : Option (List ℕ)) (r : Result ℕ E) (buf : List ℕ) → Keeps a b → WriteAppends b c r buf → WriteAppends a c r buf
Keeps-then None b c (Ok n) buf kept wrote = tt
Keeps-then None b c (Err e) buf kept wrote = tt
Keeps-then (Some x) None c r buf kept wrote = absurd kept
Keeps-then (Some x) (Some y) None (Ok n) buf kept wrote = absurd wrote
Keeps-then (Some x) (Some y) None (Err e) buf kept wrote = absurd wrote
Keeps-then (Some x) (Some y) (Some z) (Ok n) buf kept wrote = rw (wrote, kept) refl
Keeps-then (Some x) (Some y) (Some z) (Err e) buf kept wrote = wrote ∙ kept

-- what is added of the front of some bytes is added of them
pub Appends-front : (a b : Option (List ℕ)) (n m : ℕ) (buf : List ℕ) → n ≤ length (take m buf) → Appends a b (take n (take m buf)) → Appends a b (take n buf)
Appends-front a b n m buf within added = subst (Appends a b) (take-take n m buf (le_trans within (rw (length-take m buf) (min-le_left m (length buf))))) added

pub Keeps-self : (a : Option (List ℕ)) → Keeps a a
Keeps-self None = tt
Keeps-self (Some x) = refl

-- what is kept twice is kept
pub Keeps-twice : (a b c : Option (List ℕ)) → Keeps a b → Keeps b c → Keeps a c
Keeps-twice None b c p q = tt
Keeps-twice (Some x) None c p q = absurd p
Keeps-twice (Some x) (Some y) None p q = absurd q
Keeps-twice (Some x) (Some y) (Some z) p q = q ∙ p

-- what is added twice is added once
Appends-more : (a b c : Option (List ℕ)) (xs ys : List ℕ) → Appends a b xs → Appends b c ys → Appends a c (xs ++ ys)
Appends-more None b c xs ys p q = tt
Appends-more (Some x) None c xs ys p q = absurd p
Appends-more (Some x) (Some y) None xs ys p q = absurd q
Appends-more (Some x) (Some y) (Some z) xs ys p q = rw (q, p) (append_assoc x xs ys)

-- the first bytes are added, and then the next ones of what is left
pub Appends-next : (a b c : Option (List ℕ)) (n m : ℕ) (buf : List ℕ)
    → m ≤ length (take (length buf - n) (drop n buf)) → Appends a b (take n buf) → Appends b c (take m (take (length buf - n) (drop n buf))) → Appends a c (take (n + m) buf)
Appends-next a b c n m buf within first next =
    let left = Appends-front b c m (length buf - n) (drop n buf) within next in
    subst (Appends a c) (sym (take-add n m buf)) (Appends-more a b c (take n buf) (take m (drop n buf)) first left)
