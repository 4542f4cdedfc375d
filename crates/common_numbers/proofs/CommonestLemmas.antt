-- The number that is found stands most often, and there is one such number.
use Rattle.std.specs.Prelude.{◌≡◌, ℕ, ℤ, ◌<◌, ◌≤◌, ◌≤ℤ◌, ◌==◌, ◌&&◌, ◌⊎◌, Bool, true, false, cond, List, [], ◌∷◌, Option, Some, None, MatchOption, nat_lt, int_lt, length, refl, zero, suc}
use Rattle.std.specs.Int.{int_min}
use Rattle.std.specs.Option.{option_map_or}
use Rattle.std.proofs.Common.{arith, sym, ap, ◌∙◌, inl, inr, subst}
use Rattle.std.proofs.lemmas.Int.{ints}
use Rattle.std.proofs.lemmas.List.Sorted.{sum_by-IsPermutation, length_permutation, IsPermutation-refl}
use Rattle.std.specs.List.Sorted.{IsPermutation}
use Rattle.std.specs.List.{list_all}
use Rattle.std.specs.Ordering.{int_eq}
use Rattle.std.proofs.lemmas.Bool.Decides.{Decides-int_eq}
use Rattle.std.proofs.lemmas.Bool.{eqb-true, eqb-false, ltb-true, ltb-false}
use Rattle.common_numbers.specs.Commonest.{times, commoner, commonest_among, commonest, IsCommonest}
use Rattle.common_numbers.proofs.TimesLemmas.{one_if, times-cons, one_if-same, same_or_other}

-- n stands no more often than c, and where it stands as often it is no less
record Beats (ns : List ℤ) (c n : ℤ) : Type 0 where
  most : times n ns ≤ times c ns
  least : times n ns ≡ times c ns → c ≤ℤ n

Beats-refl : (ns : List ℤ) (c : ℤ) → Beats ns c c
Beats-refl ns c = record { most = omega arith; least = λ e. omega (arith, ints) }

Beats-trans : (ns : List ℤ) (a b c : ℤ) → Beats ns a b → Beats ns b c → Beats ns a c
Beats-trans ns a b c g h = record { most = omega (arith, g.most, h.most); least = λ e. le_le a b c (g.least (omega (arith, g.most, h.most))) (h.least (omega (arith, g.most, h.most))) }
  where
    le_le : (x y z : ℤ) → x ≤ℤ y → y ≤ℤ z → x ≤ℤ z
    le_le x y z p q = omega (arith, ints)

-- the commoner of two is one of them, and beats both
record Chosen (ns : List ℤ) (a b c : ℤ) : Type 0 where
  one : (c ≡ a) ⊎ (c ≡ b)
  first : Beats ns c a
  second : Beats ns c b

commoner_chosen : (ns : List ℤ) (a b : ℤ) → Chosen ns a b (commoner ns a b)
commoner_chosen ns a b = by (times a ns == times b ns) refl
  where
    of_min : times a ns ≡ times b ns → (r : Bool) → int_lt b a ≡ r → Chosen ns a b (cond r b a)
    of_min e true f = record { one = inr refl; first = record { most = omega arith; least = λ g. grind (arith, ints) }; second = Beats-refl ns b }
    of_min e false f = record { one = inl refl; first = Beats-refl ns a; second = record { most = omega arith; least = λ g. grind (arith, ints) } }

    of_times : (times a ns == times b ns) ≡ false → (r : Bool) → nat_lt (times a ns) (times b ns) ≡ r → Chosen ns a b (cond r b a)
    of_times e true f =
        let below : times a ns < times b ns = ltb-true _ _ f in
        record { one = inr refl; first = record { most = omega arith; least = λ g. absurd (omega arith) }; second = Beats-refl ns b }
    of_times e false f =
        let above : times b ns ≤ times a ns = ltb-false _ _ f in
        record { one = inl refl; first = Beats-refl ns a; second = record { most = above; least = λ g. absurd (eqb-false _ _ e (sym g)) } }

    by : (r : Bool) → (times a ns == times b ns) ≡ r → Chosen ns a b (cond r (int_min a b) (cond (nat_lt (times a ns) (times b ns)) b a))
    by true e = of_min (eqb-true _ _ e) (int_lt b a) refl
    by false e = of_times e (nat_lt (times a ns) (times b ns)) refl

stands_in_front : (m : ℤ) (ms : List ℤ) → 0 < times m (m ∷ ms)
stands_in_front m ms = omega (arith, times-cons m m ms, one_if-same m)

stands_behind : (n m : ℤ) (ms : List ℤ) → 0 < times n ms → 0 < times n (m ∷ ms)
stands_behind n m ms h = omega (arith, times-cons n m ms)

-- what stands in a list stands at its front or behind
front_or_behind : (n m : ℤ) (ms : List ℤ) → 0 < times n (m ∷ ms) → (m ≡ n) ⊎ (0 < times n ms)
front_or_behind n m ms h = elim (same_or_other m n) [ inl e ↦ inl e | inr e ↦ inr (omega (arith, times-cons n m ms)) ]

-- c stands among the numbers, and beats each of them
record BestOf (ns ms : List ℤ) (c : ℤ) : Type 0 where
  stands : 0 < times c ms
  best : (n : ℤ) → 0 < times n ms → Beats ns c n

among : (ns ms : List ℤ) → MatchOption (commonest_among ns ms) (ms ≡ []) (BestOf ns ms)
among ns [] = refl
among ns (m ∷ ms) = by (commonest_among ns ms) (among ns ms)
  where
    of_two : (c d : ℤ) → BestOf ns ms c → Chosen ns m c d → BestOf ns (m ∷ ms) d
    of_two c d h k = record {
      stands = elim k.one [ inl e ↦ subst (λ (x : ℤ). 0 < times x (m ∷ ms)) (sym e) (stands_in_front m ms) | inr e ↦ subst (λ (x : ℤ). 0 < times x (m ∷ ms)) (sym e) (stands_behind c m ms h.stands) ];
      best = λ n s. elim (front_or_behind n m ms s) [ inl e ↦ subst (λ (x : ℤ). Beats ns d x) e k.first | inr t ↦ Beats-trans ns d c n k.second (h.best n t) ];
    }

    alone : (e : ms ≡ []) → BestOf ns (m ∷ ms) m
    alone e = record {
      stands = stands_in_front m ms;
      best = λ n s. elim (front_or_behind n m ms s) [ inl f ↦ subst (λ (x : ℤ). Beats ns m x) f (Beats-refl ns m) | inr t ↦ absurd (none n (subst (λ (l : List ℤ). 0 < times n l) e t)) ];
    }
      where
        none : (n : ℤ) → 0 < times n [] → ⊥
        none n t = omega arith

    by : (o : Option ℤ) → MatchOption o (ms ≡ []) (BestOf ns ms) → BestOf ns (m ∷ ms) (option_map_or (commoner ns m) o m)
    by None e = alone e
    by (Some c) h = of_two c (commoner ns m c) h (commoner_chosen ns m c)

-- the best of all numbers of a list is the commonest
best_is_commonest : (ns : List ℤ) (c : ℤ) → BestOf ns ns c → IsCommonest ns c
best_is_commonest ns c h = record {
  stands = h.stands;
  most = λ n. by n (times n ns) refl;
  least = λ n e. (h.best n (subst (λ (t : ℕ). 0 < t) (sym e) h.stands)).least e;
}
  where
    by : (n : ℤ) (t : ℕ) → times n ns ≡ t → times n ns ≤ times c ns
    by n zero e = omega arith
    by n (suc t) e = (h.best n (omega arith)).most

pub commonest_found : (ns : List ℤ) → MatchOption (commonest ns) (ns ≡ []) (IsCommonest ns)
unfolding commonest
commonest_found ns = by (commonest_among ns ns) (among ns ns)
  where
    by : (o : Option ℤ) → MatchOption o (ns ≡ []) (BestOf ns ns) → MatchOption o (ns ≡ []) (IsCommonest ns)
    by None e = e
    by (Some c) h = best_is_commonest ns c h

-- there is one commonest number
one_commonest : (ns : List ℤ) (a b : ℤ) → IsCommonest ns a → IsCommonest ns b → a ≡ b
one_commonest ns a b g h =
    let same : times b ns ≡ times a ns = omega (arith, g.most b, h.most a) in
    equal (g.least b same) (h.least a (sym same))
  where
    equal : a ≤ℤ b → b ≤ℤ a → a ≡ b
    equal p q = omega (arith, ints)

-- what is commonest in a list is found
commonest-is : (ns : List ℤ) (c : ℤ) → IsCommonest ns c → Some c ≡ commonest ns
commonest-is ns c h = by (commonest ns) (commonest_found ns)
  where
    none_there : ns ≡ [] → ⊥
    none_there e = absurd (none (subst (λ (l : List ℤ). 0 < times c l) e h.stands))
      where
        none : 0 < times c [] → ⊥
        none t = omega arith

    by : (o : Option ℤ) → MatchOption o (ns ≡ []) (IsCommonest ns) → Some c ≡ o
    by None e = absurd (none_there e)
    by (Some d) g = ap Some (one_commonest ns c d h g)

-- .. also where the list is sorted first
pub commonest-sorted : (ns sorted : List ℤ) (c : ℤ) → IsPermutation ns sorted → IsCommonest sorted c → Some c ≡ commonest ns
commonest-sorted ns sorted c p h = commonest-is ns c (record {
  stands = omega (arith, same c, h.stands);
  most = λ n. omega (arith, same n, same c, h.most n);
  least = λ n e. h.least n (omega (arith, same n, same c));
})
  where
    same : (n : ℤ) → times n sorted ≡ times n ns
    same n = sum_by-IsPermutation (λ k. one_if k n) ns sorted p

-- of a list that is empty once it is sorted nothing is found
pub commonest-empty : (ns sorted : List ℤ) → IsPermutation ns sorted → length sorted ≡ 0 → None ≡ commonest ns
unfolding commonest
commonest-empty ns sorted p e = by ns (sym (length_permutation ns sorted p) ∙ e)
  where
    by : (l : List ℤ) → length l ≡ 0 → None ≡ commonest_among l l
    by [] f = refl
    by (n ∷ l) f = absurd (omega arith)

-- what stands in a list of one number is that number
all-one : (n : ℤ) (ms : List ℤ) → list_all (λ m. int_eq m n) ms ≡ true → (c : ℤ) → 0 < times c ms → c ≡ n
all-one n [] all c h = absurd (omega (arith, h))
all-one n (m ∷ ms) all c h = elim (front_or_behind c m ms h) [
  | inl here ↦ sym here ∙ (Decides-int_eq m n).0 (and_left (int_eq m n) all)
  | inr behind ↦ all-one n ms (and_right (int_eq m n) all) c behind
]
  where
    and_left : (b : Bool) → (b && list_all (λ m. int_eq m n) ms) ≡ true → b ≡ true
    and_left true e = refl
    and_left false e = e

    and_right : (b : Bool) → (b && list_all (λ m. int_eq m n) ms) ≡ true → list_all (λ m. int_eq m n) ms ≡ true
    and_right true e = e
    and_right false e = absurd cc

-- and it is the commonest
pub commonest-one : (n : ℤ) (ms : List ℤ) → list_all (λ m. int_eq m n) ms ≡ true → Some n ≡ commonest (n ∷ ms)
commonest-one n ms all = by (commonest (n ∷ ms)) (commonest_found (n ∷ ms))
  where
    by : (c : Option ℤ) → MatchOption c (n ∷ ms ≡ []) (IsCommonest (n ∷ ms)) → Some n ≡ c
    by None none = absurd cc
    by (Some c) found = elim (front_or_behind c n ms found.stands) [
      | inl here ↦ ap Some here
      | inr behind ↦ ap Some (sym (all-one n ms all c behind))
    ]

pub commonest-nothing : (ns : List ℤ) → length ns ≡ 0 → None ≡ commonest ns
commonest-nothing ns none = commonest-empty ns ns (IsPermutation-refl ns) none
