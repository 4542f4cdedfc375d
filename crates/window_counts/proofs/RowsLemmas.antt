-- Where an inline stands among the rows that were added, and one row more.
use Rattle.std.specs.Prelude.{◌≡◌, ℕ, suc, ℤ, pos, ◌+◌, ◌-◌, ◌<◌, ◌≤◌, ◌^◌, ◌+ℤ◌, ◌<ℤ◌, ◌≤ℤ◌, Bool, true, false, if◌then◌else◌, List, [], ◌∷◌, ◌++◌, length, get_or, Vec, Option, Some, None, option_map, refl}
use Rattle.std.specs.Global.{Global}
use Rattle.std.specs.Vec.{vec_len, vec_capacity}
use Rattle.std.proofs.Common.{arith, sym, ap, ◌∙◌, subst, inl, inr}
use Rattle.std.proofs.lemmas.Int.{ints}
use Rattle.std.proofs.lemmas.Bool.{cases_lt, cases_eq}
use Rattle.std.proofs.lemmas.List.{get_or_default, get_or_push, get_or_append_left, length-append}
use Rattle.std.specs.Bool.{OnTrue}
use Rattle.std.specs.Int.Signed.{lt_z, lt_z_yes}
use lib.Dec.{T}
use Rattle.std.specs.List.{HoldsAt}
use Rattle.std.specs.List.Sorted.{IsNonDecreasingBy, IsPartitionPoint}
use Rattle.std.specs.Ordering.{int_cmp, int_eq, is_eq, ordering_index, MatchOrdering}
use Rattle.std.specs.Cmp.{int_ranks}
use Rattle.std.specs.declared.cmp.Ordering.{Ordering}
use Rattle.std.specs.declared.cmp.Ordering.TheVariants.{Less, Equal, Greater}
use Rattle.std.proofs.lemmas.Map.Lookups.{exact_signed}
use Rattle.window_counts.specs.Places.{index_of, row_key, AreRows, CanAdd, numbers_in}
use Rattle.window_counts.specs.PlaceLaws.{index_found, row_key_low, row_key_high}

pub none_are : (low : ℤ) (n : ℕ) → (low +ℤ pos n) ≤ℤ pos (2 ^ 31) → n ≤ 2 ^ 32 → AreRows low n []
none_are low n fit small = record {
  fit = fit;
  small = small;
  few = omega arith;
  above = λ i h. absurd (omega arith);
  rising = λ i j l h. absurd (omega arith);
}

-- rows can be counted
pub rows_fit : (low : ℤ) (n : ℕ) (more : List ℤ) → AreRows low n more → n + length more ≤ 2 ^ 33
rows_fit low n more are = let few = are.few in let small = are.small in omega arith

-- what is shown where a test holds
pub on_less : (a b : ℤ) (P : Type 0) → (a <ℤ b → P) → OnTrue (lt_z a b) P
on_less a b P h = by (lt_z a b) (λ t. h (lt_z_yes t))
  where
    by : (t : Bool) → (T t → P) → OnTrue t P
    by true g = g tt
    by false g = tt

pub on_true : (t : Bool) (P Q : Type 0) → OnTrue t P → (P → Q) → OnTrue t Q
on_true true P Q p h = h p
on_true false P Q p h = tt

-- ---- a search

pub found_at : (low : ℤ) (n : ℕ) (more : List ℤ) (k : ℤ) (i : ℕ) → AreRows low n more → i < length more → HoldsAt (λ y. int_cmp y k ≡ Equal) more i → index_of more k ≡ Some i
found_at low n more k i are short h =
    let e = exact_signed (get_or more i (pos 0)) k (h (pos 0)) in
    index_found more k i short e (λ j l. subst (λ m. get_or more j (pos 0) <ℤ m) e (are.rising j i l short))

rank_le : (a b k : ℤ) → a ≤ℤ b → ordering_index (int_cmp a k) ≤ ordering_index (int_cmp b k)
rank_le a b k le = by (int_cmp a k) (int_cmp b k) (int_ranks a k) (int_ranks b k)
  where
    by : (r s : Ordering) → MatchOrdering r (a <ℤ k) (a ≡ k) (k <ℤ a) → MatchOrdering s (b <ℤ k) (b ≡ k) (k <ℤ b) → ordering_index r ≤ ordering_index s
    by Less s f g = omega arith
    by Equal Less f g = absurd (let x : a ≡ k = f in let y : b <ℤ k = g in omega (arith, ints))
    by Equal Equal f g = omega arith
    by Equal Greater f g = omega arith
    by Greater Less f g = absurd (let x : k <ℤ a = f in let y : b <ℤ k = g in omega (arith, ints))
    by Greater Equal f g = absurd (let x : k <ℤ a = f in let y : b ≡ k = g in omega (arith, ints))
    by Greater Greater f g = omega arith

pub ranks_rise : (low : ℤ) (n : ℕ) (more : List ℤ) (k : ℤ) → AreRows low n more → IsNonDecreasingBy (λ y. ordering_index (int_cmp y k)) more
ranks_rise low n more k are i j d le short = elim (cases_eq i j) [
  | inl one ↦ omega (arith, ap (λ m. ordering_index (int_cmp (get_or more m d) k)) one)
  | inr other ↦
      let a = get_or_default more i d (pos 0) (omega arith) in
      let b = get_or_default more j d (pos 0) short in
      let rise = are.rising i j (omega arith) short in
      rank_le (get_or more i d) (get_or more j d) k (omega (arith, ints))
]

index_none : (xs : List ℤ) (k : ℤ) → ((i : ℕ) → i < length xs → int_eq (get_or xs i (pos 0)) k ≡ false) → index_of xs k ≡ None
index_none [] k h = refl
index_none (x ∷ xs) k h =
    ap (λ (b : Bool). if b then Some 0 else option_map suc (index_of xs k)) (h 0 (omega arith))
    ∙ ap (option_map suc) (index_none xs k (λ i l. h (suc i) (omega arith)))

pub not_found : (more : List ℤ) (k : ℤ) (i : ℕ) → IsPartitionPoint (λ y. int_cmp y k ≡ Less) (λ y. int_cmp y k ≡ Greater) more i → index_of more k ≡ None
not_found more k i p = index_none more k (λ j h. elim (cases_lt j i) [
  | inl below ↦ ap is_eq (p.0 j (pos 0) (omega arith) below)
  | inr above ↦ ap is_eq (p.1 j (pos 0) above h)
])

-- ---- one row more

pub CanAdd-last : (low : ℤ) (n : ℕ) (v : Vec ℤ Global) (last k : ℤ) → AreRows low n v.items → vec_len v < vec_capacity v → length v.items < n → 0 < length v.items → last ≡ get_or v.items (length v.items - 1) (pos 0) → last <ℤ k → CanAdd low n (Some v) k
CanAdd-last low n v last k are room few some is above = record {
  room = room;
  few = few;
  above = let a = are.above (length v.items - 1) (omega arith) in omega (arith, ints);
  over = λ i h. elim (cases_eq i (length v.items - 1)) [
    | inl one ↦ let e = ap (λ m. get_or v.items m (pos 0)) one in omega (arith, ints)
    | inr other ↦ let r = are.rising i (length v.items - 1) (omega arith) (omega arith) in omega (arith, ints)
  ];
}

pub CanAdd-first : (low : ℤ) (n : ℕ) (v : Vec ℤ Global) (k : ℤ) → vec_len v < vec_capacity v → length v.items < n → length v.items ≡ 0 → (low +ℤ pos n) ≤ℤ k → CanAdd low n (Some v) k
CanAdd-first low n v k room few none above = record { room = room; few = few; above = above; over = λ i h. absurd (omega arith) }

pub AreRows-more : (low : ℤ) (n : ℕ) (added : Option (Vec ℤ Global)) (k : ℤ) → AreRows low n (numbers_in added) → CanAdd low n added k → AreRows low n (numbers_in added ++ k ∷ [])
AreRows-more low n added k are can = let more = numbers_in added in record {
  fit = are.fit;
  small = are.small;
  few = let a = can.few in simp length-append (omega arith);
  above = λ i h. elim (cases_lt i (length more)) [
    | inl below ↦ let e = get_or_append_left more (k ∷ []) (pos 0) i below in let a = are.above i below in omega (arith, ints)
    | inr high ↦ let s : length more ≡ i = (let g = simp length-append at h in omega arith) in let e = get_or_push more k (pos 0) i s in let a = can.above in omega (arith, ints)
  ];
  rising = λ i j l h. elim (cases_lt j (length more)) [
    | inl below ↦
        let e = get_or_append_left more (k ∷ []) (pos 0) i (omega arith) in
        let f = get_or_append_left more (k ∷ []) (pos 0) j below in
        let a = are.rising i j l below in
        omega (arith, ints)
    | inr high ↦
        let s : length more ≡ j = (let g = simp length-append at h in omega arith) in
        let e = get_or_append_left more (k ∷ []) (pos 0) i (omega arith) in
        let f = get_or_push more k (pos 0) j s in
        let a = can.over i (omega arith) in
        omega (arith, ints)
  ];
}

-- the rows that there were keep their inlines
pub row_key-more : (low : ℤ) (n : ℕ) (more : List ℤ) (k : ℤ) (p : ℕ) → p < n + length more → row_key low n (more ++ k ∷ []) p ≡ row_key low n more p
row_key-more low n more k p h = elim (cases_lt p n) [
  | inl first ↦ row_key_low low n (more ++ k ∷ []) p first ∙ sym (row_key_low low n more p first)
  | inr behind ↦ row_key_high low n (more ++ k ∷ []) p behind ∙ get_or_append_left more (k ∷ []) (pos 0) (p - n) (omega arith) ∙ sym (row_key_high low n more p behind)
]
