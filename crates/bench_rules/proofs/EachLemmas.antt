-- What each of some positions gives, one after another.
use Rattle.std.proofs.Common.{◌≡◌, ℕ, suc, ◌+◌, ◌-◌, ◌<◌, ◌≤◌, true, false, List, length, drop, get_or, [], ◌∷◌, ◌++◌, Option, Some, None, refl, sym, ap, ◌∙◌, arith}
use Rattle.std.proofs.Math.ListN.{drop_of_length-le}
use Rattle.std.proofs.lemmas.List.{append_assoc, append-nil, drop_more}
use Rattle.std.specs.Prelude.{option_map, option_and_then, is_some}
use Rattle.std.specs.List.{range_with_len}
use Rattle.bench_rules.specs.ManyTraces.{each_of}

-- where one gives nothing, there is nothing
pub each_stops : {A B : Type 0} (f : A → Option B) (x : A) (xs : List A) → f x ≡ None → each_of f (x ∷ xs) ≡ None
each_stops f x xs e = ap (λ y. option_and_then (λ z. option_map (λ ys. z ∷ ys) (each_of f xs)) y) e

put_behind : {B : Type 0} (us : List B) (y : B) (o : Option (List B)) → option_map (λ ys. us ++ ys) (option_map (λ ys. y ∷ ys) o) ≡ option_map (λ ys. (us ++ y ∷ []) ++ ys) o
put_behind us y None = refl
put_behind us y (Some ys) = ap (λ zs. Some zs) (sym (append_assoc us (y ∷ []) ys))

pub each_goes_on : {A B : Type 0} (f : A → Option B) (us : List B) (x : A) (xs : List A) (y : B) → f x ≡ Some y
    → option_map (λ ys. us ++ ys) (each_of f (x ∷ xs)) ≡ option_map (λ ys. (us ++ y ∷ []) ++ ys) (each_of f xs)
each_goes_on f us x xs y e =
    ap (λ o. option_map (λ ys. us ++ ys) (option_and_then (λ z. option_map (λ ys. z ∷ ys) (each_of f xs)) o)) e ∙ put_behind us y (each_of f xs)

-- nothing in front
pub in_front : {B : Type 0} (o : Option (List B)) → option_map (λ ys. [] ++ ys) o ≡ o
in_front None = refl
in_front (Some ys) = refl

-- positions that are counted from one on
pub next_position : (a k n : ℕ) → k < n → range_with_len (a + k) (n - k) ≡ (a + k) ∷ range_with_len (a + (k + 1)) (n - (k + 1))
next_position a k n below =
    let one : n - k ≡ suc (n - (k + 1)) = omega (arith, below) in
    let behind : a + k + 1 ≡ a + (k + 1) = omega arith in
    ap (λ (m : ℕ). range_with_len (a + k) m) one ∙ ap (λ (x : ℕ). (a + k) ∷ range_with_len x (n - (k + 1))) behind

-- ---- a list, item by item: us is there of the items in front of item i, behind what was there before

nothing_of : {B : Type 0} (us : List B) (o : Option (List B)) → option_map (λ ys. us ++ ys) o ≡ None → o ≡ None
nothing_of us None e = refl
nothing_of us (Some ys) e = absurd cc

something_of : {B : Type 0} (us vs : List B) (o : Option (List B)) → option_map (λ ys. us ++ ys) o ≡ Some vs → is_some o ≡ true
something_of us vs None e = absurd cc
something_of us vs (Some ys) e = refl

pub list_goes_on : {A B : Type 0} (f : A → Option B) (o : Option (List B)) (us : List B) (xs : List A) (i : ℕ) (d : A) (y : B) → i < length xs → f (get_or xs i d) ≡ Some y
    → o ≡ option_map (λ ys. us ++ ys) (each_of f (drop i xs)) → o ≡ option_map (λ ys. (us ++ y ∷ []) ++ ys) (each_of f (drop (i + 1) xs))
list_goes_on f o us xs i d y below e far =
    far ∙ ap (λ zs. option_map (λ ys. us ++ ys) (each_of f zs)) (drop_more xs i d below) ∙ each_goes_on f us (get_or xs i d) (drop (i + 1) xs) y e

pub list_stops : {A B : Type 0} (f : A → Option B) (o : Option (List B)) (vs us : List B) (xs : List A) (i : ℕ) (d : A) → i < length xs → f (get_or xs i d) ≡ None
    → option_map (λ ys. vs ++ ys) o ≡ option_map (λ ys. us ++ ys) (each_of f (drop i xs)) → o ≡ None
list_stops f o vs us xs i d below e far =
    nothing_of vs o (far ∙ ap (λ zs. option_map (λ ys. us ++ ys) zs) (ap (λ zs. each_of f zs) (drop_more xs i d below) ∙ each_stops f (get_or xs i d) (drop (i + 1) xs) e))

pub list_ends : {A B : Type 0} (f : A → Option B) (o : Option (List B)) (us : List B) (xs : List A) (i : ℕ) → length xs ≤ i
    → o ≡ option_map (λ ys. us ++ ys) (each_of f (drop i xs)) → o ≡ Some us
list_ends f o us xs i far e = e ∙ ap (λ zs. option_map (λ ys. us ++ ys) (each_of f zs)) (drop_of_length-le xs far) ∙ ap (λ ys. Some ys) (append-nil us)

pub something : {B : Type 0} (us vs : List B) (o : Option (List B)) → option_map (λ ys. us ++ ys) o ≡ Some vs → true ≡ is_some o
something us vs o e = sym (something_of us vs o e)

pub nothing : {B : Type 0} (o : Option (List B)) → o ≡ None → false ≡ is_some o
nothing o e = ap (λ p. is_some p) (sym e)

pub nothing_there : {B : Type 0} (o : Option B) → false ≡ is_some o → o ≡ None
nothing_there None e = refl
nothing_there (Some x) e = absurd cc

-- where one gives something, the others decide
pub left_decides : {A B : Type 0} (f : A → Option B) (x : A) (xs : List A) → is_some (f x) ≡ true → is_some (each_of f (x ∷ xs)) ≡ is_some (each_of f xs)
left_decides {B = B} f x xs e = by (f x) (each_of f xs) e
  where
    by : (y : Option B) (ys : Option (List B)) → is_some y ≡ true → is_some (option_and_then (λ z. option_map (λ zs. z ∷ zs) ys) y) ≡ is_some ys
    by None ys e = absurd cc
    by (Some y) None e = refl
    by (Some y) (Some ys) e = refl

-- two steps for each are the second step for what the first gives
through : {A B C : Type 0} (f : A → Option B) (g : B → Option C) (xs : List A) → each_of (λ x. option_and_then g (f x)) xs ≡ option_and_then (λ ys. each_of g ys) (each_of f xs)
through f g [] = refl
through {B = B} {C = C} f g (x ∷ xs) =
    ap (λ o. option_and_then (λ z. option_map (λ zs. z ∷ zs) o) (option_and_then g (f x))) (through f g xs) ∙ by (f x) (each_of f xs)
  where
    none : (o : Option C) → option_and_then {U = List C} (λ z. option_map (λ zs. z ∷ zs) None) o ≡ None
    none None = refl
    none (Some z) = refl

    by : (y : Option B) (us : Option (List B)) → option_and_then (λ z. option_map (λ zs. z ∷ zs) (option_and_then (λ ys. each_of g ys) us)) (option_and_then g y)
        ≡ option_and_then (λ ys. each_of g ys) (option_and_then (λ y. option_map (λ ys. y ∷ ys) us) y)
    by None us = refl
    by (Some y) None = none (g y)
    by (Some y) (Some ys) = refl

pub each_through : {A B C : Type 0} (f : A → Option B) (g : B → Option C) (xs : List A) (ys : List B) → each_of f xs ≡ Some ys → each_of (λ x. option_and_then g (f x)) xs ≡ each_of g ys
each_through f g xs ys e = through f g xs ∙ ap (λ o. option_and_then (λ ys. each_of g ys) o) e

-- where item i gives something, those behind it decide
pub list_left : {A B : Type 0} (f : A → Option B) (xs : List A) (i : ℕ) (d : A) → i < length xs → is_some (f (get_or xs i d)) ≡ true → is_some (each_of f (drop i xs)) ≡ is_some (each_of f (drop (i + 1) xs))
list_left f xs i d below e = ap (λ ys. is_some (each_of f ys)) (drop_more xs i d below) ∙ left_decides f (get_or xs i d) (drop (i + 1) xs) e
