-- A list of names that is filled one by one.
use Rattle.std.proofs.Common.{◌≡◌, ℕ, zero, suc, ◌+◌, List, [], ◌∷◌, ◌++◌, map, drop, Some, sym, ap, ◌∙◌, arith}
use Rattle.std.proofs.lemmas.List.{append_assoc}
use Rattle.std.specs.Prelude.{slice_get, unwrap_or}

-- what stands at k, and what stands behind it
item_at : {X : Type 0} (xs : List X) (k : ℕ) (x : X) → slice_get xs k ≡ Some x → drop k xs ≡ x ∷ drop (k + 1) xs
item_at [] k x e = absurd cc
item_at (y ∷ ys) zero x e = ap (λ z. z ∷ ys) (ap (λ o. unwrap_or o x) e)
item_at (y ∷ ys) (suc k) x e = let more : suc (k + 1) ≡ suc k + 1 = omega arith in item_at ys k x e ∙ ap (λ (n : ℕ). x ∷ drop n (y ∷ ys)) more

pub one_more : {X Y : Type 0} (f : X → Y) (us vs : List Y) (xs : List X) (zs : List Y) (k : ℕ) (x : X) → slice_get xs k ≡ Some x → vs ≡ us ++ f x ∷ []
    → us ++ map f (drop k xs) ≡ zs → vs ++ map f (drop (k + 1) xs) ≡ zs
one_more f us vs xs zs k x at pushed far =
    ap (λ ws. ws ++ map f (drop (k + 1) xs)) pushed ∙ append_assoc us (f x ∷ []) (map f (drop (k + 1) xs)) ∙ ap (λ ws. us ++ map f ws) (sym (item_at xs k x at)) ∙ far
