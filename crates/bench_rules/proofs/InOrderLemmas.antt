-- There is one list that stands by an order in which those that tie stand as they stood.
use Rattle.std.proofs.Common.{true≢false, ◌≡◌, ℕ, suc, ◌<◌, ◌≤◌, Bool, true, false, not, ◌&&◌, cond, List, [], ◌∷◌, length, get_or, drop, refl, sym, ap, ◌∙◌, arith}
use Rattle.std.specs.Cmp.{IsStrictWeakOrder}
use Rattle.std.specs.List.{filter}
use Rattle.std.specs.List.Sorted.{IsSortedBy, IsStableBy, ties}
use Rattle.std.proofs.lemmas.List.Sorted.{sorted_far}

-- an item in its place among items that are in order
abbrev pub put : {X : Type 0} → (X → X → Bool) → X → List X → List X
put lt x [] = x ∷ []
put lt x (y ∷ ys) = cond (lt y x) (y ∷ put lt x ys) (x ∷ y ∷ ys)

-- the items in order
abbrev pub ordered : {X : Type 0} → (X → X → Bool) → List X → List X
ordered lt [] = []
ordered lt (x ∷ xs) = put lt x (ordered lt xs)

-- a test that passes, or fails
either : {P : Type 0} (b : Bool) → (b ≡ true → P) → (b ≡ false → P) → P
either true f g = f refl
either false f g = g refl

of_either : {A : Type 0} (P : A → Type 0) (b : Bool) (x y : A) → (b ≡ true → P x) → (b ≡ false → P y) → P (cond b x y)
of_either P true x y f g = f refl
of_either P false x y f g = g refl

neither : (p q : Bool) → (not p && not q) ≡ true → (p ≡ false) × (q ≡ false)
neither true q e = absurd cc
neither false true e = absurd cc
neither false false e = (refl, refl)

module _ {X : Type 0} where
  -- an item in front of both rests, or of none
  rest-same : (b : Bool) (y : X) (us vs : List X) → cond b (y ∷ us) us ≡ cond b (y ∷ vs) vs → us ≡ vs
  rest-same true y us vs e = ap (drop 1) e
  rest-same false y us vs e = e

  -- two items of which one at most is kept, the other way round
  other-way : (a b : Bool) (x y : X) (us more : List X) → (a ≡ true → b ≡ true → ⊥) → more ≡ cond a (x ∷ us) us → cond b (y ∷ more) more ≡ cond a (x ∷ cond b (y ∷ us) us) (cond b (y ∷ us) us)
  other-way true true x y us more apart e = absurd (apart refl refl)
  other-way true false x y us more apart e = e
  other-way false true x y us more apart e = ap (λ l. y ∷ l) e
  other-way false false x y us more apart e = e

module _ {X : Type 0} (lt : X → X → Bool) (weak : IsStrictWeakOrder lt) where
  -- no item is below x
  abbrev pub NoneBelow : X → List X → Type 0
  NoneBelow x [] = Unit {0}
  NoneBelow x (y ∷ ys) = (lt y x ≡ false) × NoneBelow x ys

  -- no item is below one before it
  abbrev pub Rises : List X → Type 0
  Rises [] = Unit {0}
  Rises (x ∷ xs) = NoneBelow x xs × Rises xs

  none-below : (x : X) (xs : List X) → ((k : ℕ) → k < length xs → lt (get_or xs k x) x ≡ false) → NoneBelow x xs
  none-below x [] h = tt
  none-below x (y ∷ ys) h = (h 0 (omega arith), none-below x ys (λ k less. h (suc k) (omega (arith, less))))

  rises : (xs : List X) → ((i j : ℕ) (d : X) → i ≤ j → j < length xs → lt (get_or xs j d) (get_or xs i d) ≡ false) → Rises xs
  rises [] h = tt
  rises (x ∷ xs) h = (none-below x xs (λ k less. h 0 (suc k) x (omega arith) (omega (arith, less))), rises xs (λ i j d le less. h (suc i) (suc j) d (omega (arith, le)) (omega (arith, less))))

  itself : (x : X) → lt x x ≡ false
  itself x = either (lt x x) (λ e. weak.one_way x x e) (λ e. e)

  tie : (x y : X) → lt x y ≡ false → lt y x ≡ false → ties lt x y ≡ true
  tie x y a b = rw (a, b) refl

  -- ---- one list

  -- an item that ties with one of the items is not below what none of them is below
  below-none : (x z q : X) (zs rest : List X) → NoneBelow z zs → filter (ties lt x) zs ≡ q ∷ rest → lt x z ≡ false
  below-none x z q [] rest none e = absurd cc
  below-none x z q (u ∷ us) rest none e =
      either (ties lt x u) (λ t. weak.chain x u z (neither (lt x u) (lt u x) t).0 none.0) (λ t. below-none x z q us rest none.1 (rw t at e))

  -- of two lists that stand by the order and have the same ties, the first items are one
  module _ (y z : X) (ys zs : List X) (up : Rises (y ∷ ys)) (up' : Rises (z ∷ zs)) (same : (x : X) → filter (ties lt x) (y ∷ ys) ≡ filter (ties lt x) (z ∷ zs)) where
    from-y : filter (ties lt y) (z ∷ zs) ≡ y ∷ filter (ties lt y) ys
    from-y = let own = tie y y (itself y) (itself y) in sym (same y) ∙ rw own refl

    from-z : filter (ties lt z) (y ∷ ys) ≡ z ∷ filter (ties lt z) zs
    from-z = let own = tie z z (itself z) (itself z) in same z ∙ rw own refl

    tied : ties lt y z ≡ true
    tied = tie y z (below-none y z y (z ∷ zs) _ (itself z, up'.0) from-y) (below-none z y z (y ∷ ys) _ (itself y, up.0) from-z)

    first-same : y ≡ z
    first-same =
        let heads : z ∷ filter (ties lt y) zs ≡ y ∷ filter (ties lt y) ys = rw tied at from-y in
        ap (λ l. get_or l 0 y) (sym heads)

  unique : (ys zs : List X) → Rises ys → Rises zs → ((x : X) → filter (ties lt x) ys ≡ filter (ties lt x) zs) → ys ≡ zs
  unique [] [] up up' same = refl
  unique [] (z ∷ zs) up up' same = let own = tie z z (itself z) (itself z) in let no : [] ≡ z ∷ filter (ties lt z) zs = rw own at (same z) in absurd cc
  unique (y ∷ ys) [] up up' same = let own = tie y y (itself y) (itself y) in let no : y ∷ filter (ties lt y) ys ≡ [] = rw own at (same y) in absurd cc
  unique (y ∷ ys) (z ∷ zs) up up' same =
      let e : y ≡ z = first-same y z ys zs up up' same in
      let rest : ys ≡ zs = unique ys zs up.1 up'.1 (λ x. rest-same (ties lt x y) y _ _ (same x ∙ ap (λ w. cond (ties lt x w) (w ∷ filter (ties lt x) zs) (filter (ties lt x) zs)) (sym e))) in
      ap (λ w. w ∷ ys) e ∙ ap (λ l. z ∷ l) rest

  -- ---- items put in order

  none-put : (w x : X) (ys : List X) → lt x w ≡ false → NoneBelow w ys → NoneBelow w (put lt x ys)
  none-put w x [] e none = (e, tt)
  none-put w x (y ∷ ys) e none = of_either (NoneBelow w) (lt y x) (y ∷ put lt x ys) (x ∷ y ∷ ys) (λ t. (none.0, none-put w x ys e none.1)) (λ t. (e, none))

  none-further : (x y : X) (ys : List X) → lt y x ≡ false → NoneBelow y ys → NoneBelow x ys
  none-further x y [] e none = tt
  none-further x y (u ∷ us) e none = (weak.chain u y x none.0 e, none-further x y us e none.1)

  put-rises : (x : X) (ys : List X) → Rises ys → Rises (put lt x ys)
  put-rises x [] up = (tt, tt)
  put-rises x (y ∷ ys) up =
      of_either Rises (lt y x) (y ∷ put lt x ys) (x ∷ y ∷ ys) (λ e. (none-put y x ys (weak.one_way y x e) up.0, put-rises x ys up.1)) (λ e. ((e, none-further x y ys e up.0), up))

  -- two items of which one is below the other do not both tie with a third one
  not-both : (z x y : X) → lt y x ≡ true → ties lt z x ≡ true → ties lt z y ≡ true → ⊥
  not-both z x y e a b = let no : lt y x ≡ false = weak.chain y z x (neither (lt z y) (lt y z) b).1 (neither (lt z x) (lt x z) a).0 in true≢false (sym e ∙ no)

  put-stable : (z x : X) (ys : List X) → filter (ties lt z) (put lt x ys) ≡ filter (ties lt z) (x ∷ ys)
  put-stable z x [] = refl
  put-stable z x (y ∷ ys) =
      of_either (λ l. filter (ties lt z) l ≡ filter (ties lt z) (x ∷ y ∷ ys)) (lt y x) (y ∷ put lt x ys) (x ∷ y ∷ ys)
      (λ e. other-way (ties lt z x) (ties lt z y) x y (filter (ties lt z) ys) (filter (ties lt z) (put lt x ys)) (not-both z x y e) (put-stable z x ys)) (λ e. refl)

  pub ordered-rises : (xs : List X) → Rises (ordered lt xs)
  ordered-rises [] = tt
  ordered-rises (x ∷ xs) = put-rises x (ordered lt xs) (ordered-rises xs)

  pub ordered-stable : (z : X) (xs : List X) → filter (ties lt z) (ordered lt xs) ≡ filter (ties lt z) xs
  ordered-stable z [] = refl
  ordered-stable z (x ∷ xs) = put-stable z x (ordered lt xs) ∙ ap (λ l. cond (ties lt z x) (x ∷ l) l) (ordered-stable z xs)

  -- what a stable sort leaves are the items in order
  pub sorted-ordered : (xs ys : List X) → IsSortedBy lt ys → IsStableBy lt xs ys → ys ≡ ordered lt xs
  sorted-ordered xs ys up stable = unique ys (ordered lt xs) (rises ys (sorted_far lt weak ys up)) (ordered-rises xs) (λ z. stable z ∙ sym (ordered-stable z xs))
