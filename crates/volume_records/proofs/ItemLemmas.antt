-- Items that come to stand in place of others, one after another.
use Rattle.std.proofs.Common.{◌≡◌, ℕ, zero, suc, ◌+◌, ◌<◌, List, [], ◌∷◌, ◌++◌, length, take, drop, get_or, sym, ap, ◌∙◌, arith}
use Rattle.std.specs.Prelude.{slice_set}

-- one new item more in front of the old ones that are left
pub set_next : {X : Type 0} (new old : List X) (k : ℕ) (x : X) → k < length new → k < length old → x ≡ get_or new k x → slice_set (take k new ++ drop k old) k x ≡ take (k + 1) new ++ drop (k + 1) old
set_next [] old k x h g is = absurd (omega arith)
set_next (n ∷ ns) [] k x h g is = absurd (omega arith)
set_next (n ∷ ns) (o ∷ os) zero x h g is = ap (λ y. y ∷ os) is
set_next (n ∷ ns) (o ∷ os) (suc k) x h g is =
    let next : suc k + 1 ≡ suc (k + 1) = omega arith in
    ap (λ l. n ∷ l) (set_next ns os k x (omega arith) (omega arith) is) ∙ ap (λ i. take i (n ∷ ns) ++ drop i (o ∷ os)) (sym next)
