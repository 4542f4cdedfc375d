-- How the changes that reads and writes make follow one another: two of them are one.
use Rattle.std.proofs.Common.{ℕ, ◌+◌, List, ◌++◌, take, drop, Option, Some, None, append_assoc, sym}
use Rattle.std.proofs.Math.Seq.{take-add}
use Rattle.std.specs.Io.KnownBytes.{Appends, Consumes}

-- two growths are one
pub Appends_more : (old mid new : Option (List ℕ)) (xs ys : List ℕ) → Appends old mid xs → Appends mid new ys → Appends old new (xs ++ ys)
Appends_more None mid new xs ys p q = tt
Appends_more (Some a) None new xs ys p q = absurd p
Appends_more (Some a) (Some b) None xs ys p q = absurd q
Appends_more (Some a) (Some b) (Some c) xs ys p q = rw (q, p) (append_assoc a xs ys)

-- the first bytes of a list are written, and then the next ones
pub Appends_next : (old mid new : Option (List ℕ)) (all : List ℕ) (n m : ℕ) → Appends old mid (take n all) → Appends mid new (take m (drop n all)) → Appends old new (take (n + m) all)
Appends_next old mid new all n m p q = rw (take-add n m all) (Appends_more old mid new _ _ p q)

-- what is taken from a reader twice is taken from it once
pub Consumes_more : (old mid new : Option (List ℕ)) (xs ys : List ℕ) → Consumes old mid xs → Consumes mid new ys → Consumes old new (xs ++ ys)
Consumes_more None mid new xs ys p q = tt
Consumes_more (Some a) None new xs ys p q = absurd p
Consumes_more (Some a) (Some b) None xs ys p q = absurd q
Consumes_more (Some a) (Some b) (Some c) xs ys p q = rw (p, q) (sym (append_assoc xs ys c))

-- the first bytes of a list are taken, and then the next ones
pub Consumes_next : (old mid new : Option (List ℕ)) (all : List ℕ) (n m : ℕ) → Consumes old mid (take n all) → Consumes mid new (take m (drop n all)) → Consumes old new (take (n + m) all)
Consumes_next old mid new all n m p q = rw (take-add n m all) (Consumes_more old mid new _ _ p q)
