-- Keys that have a place each, in their order. They stand here and not in proofs, since the types of windows cite them.
use Rattle.std.specs.Prelude.{◌≡◌, ℕ, zero, suc, ℤ, pos, negsuc, ◌+◌, ◌-◌, ◌*◌, ◌/◌, ◌%◌, ◌<◌, ◌≤◌, ◌+ℤ◌, ◌-ℤ◌, ◌<ℤ◌, ◌≤ℤ◌, Bool, true, false, nat_lt, if◌then◌else◌, List, [], ◌∷◌, length, get_or, Option, Some, None, option_map, refl}
use Rattle.std.proofs.Common.{arith, sym, ap, ap₂, ◌∙◌, subst, inl, inr}
use Rattle.std.proofs.lemmas.Int.{ints}
use Rattle.std.proofs.lemmas.Nat.{div-mul-add, mod-mul-add, div-add-mod'}
use Rattle.std.proofs.Math.Nat.{mul-le-mul_right, mod-lt, div-lt_iff_lt-mul, add-mul, one-mul, mul-zero}
use Rattle.std.proofs.lemmas.Bool.{cases_lt, cases_eq, ltb-true}
use Rattle.std.specs.Ordering.{int_cmp, int_eq, is_eq, ordering_then}
use Rattle.std.specs.Cmp.{tied_itself, Equal-is, int_cmp_is, int_cmp_total}
use Rattle.std.proofs.lemmas.Map.Lookups.{exact_signed}
use Rattle.std.specs.declared.cmp.Ordering.{Ordering}
use Rattle.std.specs.declared.cmp.Ordering.TheVariants.{Less, Equal, Greater}
use Rattle.window_counts.specs.Window.{ArePlaced}
use Rattle.window_counts.specs.Places.{place_within, interval_place, interval_key, index_of, or_behind, row_place, row_key, AreRows, cell_cmp, place_at, cell_place, cell_key, triple_cmp, place_with, triple_place, triple_key}

less : (a b : ℤ) → a <ℤ b → int_cmp a b ≡ Less
less a b h = sym (int_cmp_is a b Less h)

same : (a b : ℤ) → a ≡ b → int_cmp a b ≡ Equal
same a b e = ap (int_cmp a) (sym e) ∙ tied_itself int_cmp_total a

-- ---- an interval

pub within_is : (n : ℕ) (z : ℤ) (p : ℕ) → place_within n z ≡ Some p → (z ≡ pos p) × (p < n)
within_is n (pos i) p e = by (nat_lt i n) refl e
  where
    by : (b : Bool) → nat_lt i n ≡ b → (if b then Some i else None) ≡ Some p → (pos i ≡ pos p) × (p < n)
    by true f e = let s : i ≡ p = cc in (ap pos s, subst (λ j. j < n) s (ltb-true i n f))
    by false f e = absurd cc
within_is n (negsuc i) p e = absurd cc

within_at : (n p : ℕ) → p < n → place_within n (pos p) ≡ Some p
within_at n p h = by (nat_lt p n) refl
  where
    by : (b : Bool) → nat_lt p n ≡ b → (if b then Some p else None) ≡ Some p
    by true f = refl
    by false f = absurd (grind arith)

interval_found : (low : ℤ) (n : ℕ) (k : ℤ) (p : ℕ) → p < n → k ≡ interval_key low p → interval_place low n k ≡ Some p
interval_found low n k p h e = ap (place_within n) (let z : k -ℤ low ≡ pos p = omega (arith, ints) in z) ∙ within_at n p h

interval_is : (low : ℤ) (n : ℕ) (k : ℤ) (p : ℕ) → interval_place low n k ≡ Some p → (k ≡ interval_key low p) × (p < n)
interval_is low n k p e = let h = within_is n (k -ℤ low) p e in let z = h.0 in (omega (arith, ints), h.1)

pub interval_placed : (low : ℤ) (n : ℕ) → ArePlaced int_cmp n (interval_place low n) (interval_key low)
interval_placed low n = record {
  within = λ k p e. let h = interval_is low n k p e in (h.1, same k (interval_key low p) h.0);
  found = λ k p h e. interval_found low n k p h (exact_signed k (interval_key low p) e);
  rising = λ p q h low'. less (interval_key low p) (interval_key low q) (omega (arith, ints));
}

-- ---- rows

nat_lt_true : (i n : ℕ) → i < n → nat_lt i n ≡ true
nat_lt_true i n h = by (nat_lt i n) refl
  where
    by : (b : Bool) → nat_lt i n ≡ b → b ≡ true
    by true f = refl
    by false f = absurd (grind arith)

nat_lt_false : (i n : ℕ) → n ≤ i → nat_lt i n ≡ false
nat_lt_false i n h = by (nat_lt i n) refl
  where
    by : (b : Bool) → nat_lt i n ≡ b → b ≡ false
    by true f = absurd (let s = ltb-true i n f in omega arith)
    by false f = refl

-- a whole number above an interval has no place in it
pub interval_above : (low : ℤ) (n : ℕ) (k : ℤ) → (low +ℤ pos n) ≤ℤ k → interval_place low n k ≡ None
interval_above low n k h = by (k -ℤ low) refl
  where
    by : (z : ℤ) → k -ℤ low ≡ z → place_within n z ≡ None
    by (pos i) e = ap (λ (b : Bool). if b then Some i else None) (nat_lt_false i n (omega (arith, ints)))
    by (negsuc i) e = refl

pub index_is : (xs : List ℤ) (k : ℤ) (i : ℕ) → index_of xs k ≡ Some i → (i < length xs) × (get_or xs i (pos 0) ≡ k)
index_is [] k i e = absurd cc
index_is (x ∷ xs) k i e = by (int_eq x k) refl (index_of xs k) refl (index_is xs k) e
  where
    by : (b : Bool) → int_eq x k ≡ b → (o : Option ℕ) → index_of xs k ≡ o → ((j : ℕ) → index_of xs k ≡ Some j → (j < length xs) × (get_or xs j (pos 0) ≡ k))
        → (if b then Some 0 else option_map suc o) ≡ Some i → (i < suc (length xs)) × (get_or (x ∷ xs) i (pos 0) ≡ k)
    by true f o g rest e =
        let z : 0 ≡ i = cc in
        subst (λ m. (m < suc (length xs)) × (get_or (x ∷ xs) m (pos 0) ≡ k)) z (omega arith, exact_signed x k ((Equal-is (int_cmp x k)).0 f))
    by false f None g rest e = absurd cc
    by false f (Some j) g rest e =
        let s : suc j ≡ i = cc in
        let r = rest j g in
        let short = r.0 in
        subst (λ m. (m < suc (length xs)) × (get_or (x ∷ xs) m (pos 0) ≡ k)) s (omega arith, r.1)

pub index_found : (xs : List ℤ) (k : ℤ) (i : ℕ) → i < length xs → get_or xs i (pos 0) ≡ k → ((j : ℕ) → j < i → get_or xs j (pos 0) <ℤ k) → index_of xs k ≡ Some i
index_found [] k i h e r = absurd (omega arith)
index_found (x ∷ xs) k zero h e r = ap (λ (b : Bool). if b then Some 0 else option_map suc (index_of xs k)) (ap is_eq (same x k e))
index_found (x ∷ xs) k (suc i) h e r =
    ap (λ (b : Bool). if b then Some 0 else option_map suc (index_of xs k)) (ap is_eq (less x k (r 0 (omega arith))))
    ∙ ap (option_map suc) (index_found xs k i (omega arith) e (λ j l. r (suc j) (omega arith)))

pub row_key_low : (low : ℤ) (n : ℕ) (more : List ℤ) (p : ℕ) → p < n → row_key low n more p ≡ interval_key low p
row_key_low low n more p h = ap (λ (b : Bool). if b then interval_key low p else get_or more (p - n) (pos 0)) (nat_lt_true p n h)

pub row_key_high : (low : ℤ) (n : ℕ) (more : List ℤ) (p : ℕ) → n ≤ p → row_key low n more p ≡ get_or more (p - n) (pos 0)
row_key_high low n more p h = ap (λ (b : Bool). if b then interval_key low p else get_or more (p - n) (pos 0)) (nat_lt_false p n h)

row_is : (low : ℤ) (n : ℕ) (more : List ℤ) (k : ℤ) (p : ℕ) → row_place low n more k ≡ Some p → (p < n + length more) × (k ≡ row_key low n more p)
row_is low n more k p e = by (interval_place low n k) refl (index_of more k) refl e
  where
    by : (o : Option ℕ) → interval_place low n k ≡ o → (b : Option ℕ) → index_of more k ≡ b → or_behind n o b ≡ Some p → (p < n + length more) × (k ≡ row_key low n more p)
    by (Some q) f b g e =
        let s : q ≡ p = cc in
        let h = interval_is low n k p (f ∙ ap Some s) in
        let low' = h.1 in
        (omega arith, h.0 ∙ sym (row_key_low low n more p low'))
    by None f None g e = absurd cc
    by None f (Some i) g e =
        let s : n + i ≡ p = cc in
        let h = index_is more k i g in
        let short = h.0 in
        let at : p - n ≡ i = omega arith in
        (omega arith, sym (row_key_high low n more p (omega arith) ∙ ap (λ m. get_or more m (pos 0)) at ∙ h.1))

row_found : (low : ℤ) (n : ℕ) (more : List ℤ) (k : ℤ) (p : ℕ) → AreRows low n more → p < n + length more → k ≡ row_key low n more p → row_place low n more k ≡ Some p
row_found low n more k p are h e = elim (cases_lt p n) [
  | inl low' ↦ ap (λ o. or_behind n o (index_of more k)) (interval_found low n k p low' (e ∙ row_key_low low n more p low'))
  | inr high ↦
      let at : get_or more (p - n) (pos 0) ≡ k = sym (e ∙ row_key_high low n more p high) in
      let above = are.above (p - n) (omega arith) in
      ap₂ (or_behind n) (interval_above low n k (subst (λ m. (low +ℤ pos n) ≤ℤ m) at above)) (index_found more k (p - n) (omega arith) at (λ j l. subst (λ m. get_or more j (pos 0) <ℤ m) at (are.rising j (p - n) l (omega arith))))
      ∙ ap Some (let whole : n + (p - n) ≡ p = omega arith in whole)
]

row_rising : (low : ℤ) (n : ℕ) (more : List ℤ) (p q : ℕ) → AreRows low n more → p < q → q < n + length more → row_key low n more p <ℤ row_key low n more q
row_rising low n more p q are h high = elim (cases_lt q n) [
  | inl both ↦
      let a = row_key_low low n more p (omega arith) in
      let b = row_key_low low n more q both in
      omega (arith, ints)
  | inr above ↦ elim (cases_lt p n) [
    | inl below ↦
        let a = row_key_low low n more p below in
        let b = row_key_high low n more q above in
        let over = are.above (q - n) (omega arith) in
        omega (arith, ints)
    | inr behind ↦
        let a = row_key_high low n more p behind in
        let b = row_key_high low n more q above in
        let over = are.rising (p - n) (q - n) (omega arith) (omega arith) in
        omega (arith, ints)
  ]
]

pub rows_placed : (low : ℤ) (n : ℕ) (more : List ℤ) → AreRows low n more → ArePlaced int_cmp (n + length more) (row_place low n more) (row_key low n more)
rows_placed low n more are = record {
  within = λ k p e. let h = row_is low n more k p e in (h.0, same k (row_key low n more p) h.1);
  found = λ k p h e. row_found low n more k p are h (exact_signed k (row_key low n more p) e);
  rising = λ p q h high. less (row_key low n more p) (row_key low n more q) (row_rising low n more p q are h high);
}

-- ---- a rectangle

both_equal : (a b : Ordering) → ordering_then a b ≡ Equal → (a ≡ Equal) × (b ≡ Equal)
both_equal Less b e = cc
both_equal Equal b e = (refl, e)
both_equal Greater b e = cc

same_both : (a b : Ordering) → a ≡ Equal → b ≡ Equal → ordering_then a b ≡ Equal
same_both Less b e f = cc
same_both Equal b e f = f
same_both Greater b e f = cc

first_less : (a b : Ordering) → a ≡ Less → ordering_then a b ≡ Less
first_less Less b e = refl
first_less Equal b e = cc
first_less Greater b e = cc

second_less : (a b : Ordering) → a ≡ Equal → b ≡ Less → ordering_then a b ≡ Less
second_less Less b e f = cc
second_less Equal b e f = f
second_less Greater b e f = cc

-- a place among so many rows of so many columns
pub below_area : (a b n w : ℕ) → a < n → b < w → a * w + b < n * w
below_area a b n w h k =
    let rows : (a + 1) * w ≤ n * w = mul-le-mul_right w (omega arith) in
    let row : (a + 1) * w ≡ a * w + w = add-mul a 1 w ∙ ap (λ m. a * w + m) (one-mul w) in
    omega arith

pub has_columns : (n w p : ℕ) → p < n * w → 0 < w
has_columns n zero p h = let z : n * 0 ≡ 0 = mul-zero n in absurd (omega arith)
has_columns n (suc w) p h = omega arith

module _ (n : ℕ) (row : ℤ → Option ℕ) (inline : ℕ → ℤ) (rows : ArePlaced int_cmp n row inline) (low : ℤ) (w : ℕ) where
  cell_within : (k : ℤ × ℤ) (p : ℕ) → cell_place row low w k ≡ Some p → (p < n * w) × (cell_cmp k (cell_key inline low w p) ≡ Equal)
  cell_within k p e = by (row k.0) (interval_place low w k.1) refl refl e
    where
      by : (r c : Option ℕ) → row k.0 ≡ r → interval_place low w k.1 ≡ c → place_at w r c ≡ Some p → (p < n * w) × (cell_cmp k (cell_key inline low w p) ≡ Equal)
      by None c f g e = absurd cc
      by (Some a) None f g e = absurd cc
      by (Some a) (Some b) f g e =
          let is : a * w + b ≡ p = cc in
          let at = rows.within k.0 a f in
          let column = interval_is low w k.1 b g in
          let a_is : p / w ≡ a = ap (λ m. m / w) (sym is) ∙ div-mul-add a w b column.1 in
          let b_is : p % w ≡ b = ap (λ m. m % w) (sym is) ∙ mod-mul-add a w b column.1 in (
            subst (λ m. m < n * w) is (below_area a b n w at.0 column.1),
            same_both _ _ (ap (λ m. int_cmp k.0 (inline m)) a_is ∙ at.1) (same k.1 (interval_key low (p % w)) (column.0 ∙ ap (interval_key low) (sym b_is))),
          )

  cell_found : (k : ℤ × ℤ) (p : ℕ) → p < n * w → cell_cmp k (cell_key inline low w p) ≡ Equal → cell_place row low w k ≡ Some p
  cell_found k p h e =
      let both = both_equal (int_cmp k.0 (inline (p / w))) (int_cmp k.1 (interval_key low (p % w))) e in
      let positive = has_columns n w p h in
      let at : row k.0 ≡ Some (p / w) = rows.found k.0 (p / w) ((div-lt_iff_lt-mul positive).1 h) both.0 in
      let column : interval_place low w k.1 ≡ Some (p % w) = interval_found low w k.1 (p % w) (mod-lt p positive) (exact_signed k.1 _ both.1) in
      ap₂ (place_at w) at column ∙ ap Some (div-add-mod' p w)

  cell_rising : (p q : ℕ) → p < q → q < n * w → cell_cmp (cell_key inline low w p) (cell_key inline low w q) ≡ Less
  cell_rising p q h high =
      let positive = has_columns n w q high in
      let whole = div-add-mod' p w in
      let whole' = div-add-mod' q w in
      let rest = mod-lt p positive in
      let rest' = mod-lt q positive in
      elim (cases_lt (p / w) (q / w)) [
        | inl lower ↦ first_less _ _ (rows.rising (p / w) (q / w) lower ((div-lt_iff_lt-mul positive).1 high))
        | inr upper ↦ elim (cases_eq (p / w) (q / w)) [
          | inl one ↦
              let parts = ap (λ a. a * w) one in
              second_less _ _ (same (inline (p / w)) (inline (q / w)) (ap inline one))
              (less (interval_key low (p % w)) (interval_key low (q % w)) (let columns : p % w < q % w = omega arith in omega (arith, ints)))
          | inr other ↦ absurd (
              let parts : (q / w + 1) * w ≤ p / w * w = mul-le-mul_right w (omega arith) in
              let part : (q / w + 1) * w ≡ q / w * w + w = add-mul (q / w) 1 w ∙ ap (λ m. q / w * w + m) (one-mul w) in
              omega arith)
        ]
      ]

  pub cell_placed : ArePlaced cell_cmp (n * w) (cell_place row low w) (cell_key inline low w)
  cell_placed = record { within = cell_within; found = cell_found; rising = cell_rising }

  -- ---- a rectangle, each cell at one offset

  module _ (offset : ℕ → ℤ) where
    triple_within : (k : ℤ × ℤ × ℤ) (p : ℕ) → triple_place row low w offset k ≡ Some p → (p < n * w) × (triple_cmp k (triple_key inline low w offset p) ≡ Equal)
    triple_within k p e = by (cell_place row low w (k.0, k.1)) refl e
      where
        at : (q : ℕ) (b : Bool) → cell_place row low w (k.0, k.1) ≡ Some q → int_eq k.2 (offset q) ≡ b → (if b then Some q else None) ≡ Some p → (p < n * w) × (triple_cmp k (triple_key inline low w offset p) ≡ Equal)
        at q true c f e =
            let is : q ≡ p = cc in
            let h = cell_within (k.0, k.1) p (c ∙ ap Some is) in
            (h.0, same_both _ _ h.1 ((Equal-is (int_cmp k.2 (offset p))).0 (ap (λ m. int_eq k.2 (offset m)) (sym is) ∙ f)))
        at q false c f e = absurd cc

        by : (o : Option ℕ) → cell_place row low w (k.0, k.1) ≡ o → place_with offset k.2 o ≡ Some p → (p < n * w) × (triple_cmp k (triple_key inline low w offset p) ≡ Equal)
        by None c e = absurd cc
        by (Some q) c e = at q (int_eq k.2 (offset q)) c refl e

    triple_found : (k : ℤ × ℤ × ℤ) (p : ℕ) → p < n * w → triple_cmp k (triple_key inline low w offset p) ≡ Equal → triple_place row low w offset k ≡ Some p
    triple_found k p h e =
        let both = both_equal (cell_cmp (k.0, k.1) (cell_key inline low w p)) (int_cmp k.2 (offset p)) e in
        ap (place_with offset k.2) (cell_found (k.0, k.1) p h both.0) ∙ ap (λ (b : Bool). if b then Some p else None) (ap is_eq both.1)

    pub triple_placed : ArePlaced triple_cmp (n * w) (triple_place row low w offset) (triple_key inline low w offset)
    triple_placed = record {
      within = triple_within;
      found = triple_found;
      rising = λ p q h high. first_less (cell_cmp (cell_key inline low w p) (cell_key inline low w q)) (int_cmp (offset p) (offset q)) (cell_rising p q h high);
    }
