-- One more number of a rising list: the longest run of equal numbers so far, and the last run.
use Rattle.std.specs.Prelude.{◌≡◌, ◌≢◌, ℕ, ℤ, ◌+◌, ◌<◌, ◌≤◌, ◌≤ℤ◌, ◌⊎◌, List, [], ◌∷◌, ◌++◌, Bool, true, false, cond, pos, int_lt, length, take, refl, zero, suc}
use Rattle.std.proofs.Common.{arith, sym, ap, ◌∙◌, inl, inr, subst, get_or}
use Rattle.std.proofs.lemmas.Int.{ints}
use Rattle.std.proofs.lemmas.List.{take_more, get_or_default}
use Rattle.std.proofs.lemmas.Bool.{true≢false}
use native.Mathlib.Numerals.{unary_clauses}
use Rattle.std.specs.List.Sorted.{IsSorted}
use Rattle.std.specs.Ordering.{int_cmp, is_lt}
use Rattle.std.specs.declared.cmp.Ordering.TheVariants.{Less, Equal, Greater}
use Rattle.common_numbers.specs.Commonest.{times, IsCommonest}
use Rattle.common_numbers.proofs.TimesLemmas.{one_if, times-push, one_if-same, same_or_other}

-- of these numbers the commonest is known with how often it stands, and the greatest likewise
pub record Walked (ns : List ℤ) (commonest : ℤ) (most : ℕ) (last : ℤ) (run : ℕ) : Type 0 where
  pub best : IsCommonest ns commonest
  pub most_is : most ≡ times commonest ns
  pub run_is : run ≡ times last ns
  pub highest : (n : ℤ) → 0 < times n ns → n ≤ℤ last

le_le : (x y z : ℤ) → x ≤ℤ y → y ≤ℤ z → x ≤ℤ z
le_le x y z p q = omega (arith, ints)

pub walked_one : (n : ℤ) → Walked (n ∷ []) n 1 n 1
walked_one n = by (times-push n n [])
  where
    only : (m : ℤ) → 0 < times m (n ∷ []) → n ≡ m
    only m h = elim (same_or_other n m) [ inl e ↦ e | inr e ↦ absurd (omega (arith, times-push m n [])) ]

    fewer : (m : ℤ) → times m (n ∷ []) ≤ 1
    fewer m = elim (same_or_other n m) [ inl e ↦ subst (λ (x : ℤ). times x (n ∷ []) ≤ 1) e (omega (arith, times-push n n [], one_if-same n)) | inr e ↦ omega (arith, times-push m n []) ]

    by : times n (n ∷ []) ≡ times n [] + one_if n n → Walked (n ∷ []) n 1 n 1
    by e =
        let one : times n (n ∷ []) ≡ 1 = omega (arith, one_if-same n) in
        record {
          best = record { stands = omega arith; most = λ m. omega (arith, fewer m); least = λ m f. subst (λ (x : ℤ). n ≤ℤ x) (only m (omega arith)) (omega (arith, ints)) };
          most_is = sym one;
          run_is = sym one;
          highest = λ m h. subst (λ (x : ℤ). x ≤ℤ n) (only m h) (omega (arith, ints));
        }

module _ (ns : List ℤ) (c : ℤ) (most : ℕ) (last : ℤ) (run : ℕ) (w : Walked ns c most last run) where
  -- the next number stands as often as the last one, or not yet
  pub run_grows : (x : ℤ) → x ≡ last → run + 1 ≡ times x ns + 1
  run_grows x e = ap (λ t. t + 1) (w.run_is ∙ ap (λ y. times y ns) (sym e))

  pub run_begins : (x : ℤ) → x ≢ last → last ≤ℤ x → 1 ≡ times x ns + 1
  run_begins x ne up = by (times x ns) refl
    where
      by : (t : ℕ) → times x ns ≡ t → 1 ≡ t + 1
      by zero e = refl
      by (suc t) e = absurd (ne (equal (w.highest x (omega arith))))
        where
          equal : x ≤ℤ last → x ≡ last
          equal low = omega (arith, ints)

  module _ (x : ℤ) (up : last ≤ℤ x) (longer : ℕ) (e : longer ≡ times x ns + 1) where
    times_here : longer ≡ times x (ns ++ x ∷ [])
    times_here = omega (arith, times-push x x ns, one_if-same x)

    below_x : (n : ℤ) → 0 < times n (ns ++ x ∷ []) → n ≤ℤ x
    below_x n h = elim (same_or_other x n) [ inl f ↦ subst (λ (y : ℤ). y ≤ℤ x) f (omega (arith, ints)) | inr f ↦ le_le n last x (w.highest n (omega (arith, times-push n x ns))) up ]

    -- each other number stands as often as before
    same_others : (n : ℤ) → (x ≡ n) ⊎ (times n (ns ++ x ∷ []) ≡ times n ns)
    same_others n = elim (same_or_other x n) [ inl f ↦ inl f | inr f ↦ inr (omega (arith, times-push n x ns)) ]

    -- its run is longer than any
    pub takes : most < longer → Walked (ns ++ x ∷ []) x longer x longer
    takes h = record {
      best = record {
        stands = omega (arith, times_here);
        most = λ n. elim (same_others n) [ inl f ↦ subst (λ (y : ℤ). times y (ns ++ x ∷ []) ≤ times x (ns ++ x ∷ [])) f (omega arith) | inr f ↦ omega (arith, times_here, w.best.most n, w.most_is) ];
        least = λ n g. elim (same_others n) [ inl f ↦ subst (λ (y : ℤ). x ≤ℤ y) f (omega (arith, ints)) | inr f ↦ absurd (omega (arith, times_here, w.best.most n, w.most_is)) ];
      };
      most_is = times_here;
      run_is = times_here;
      highest = below_x;
    }

    -- another run is as long
    pub keeps : longer ≤ most → Walked (ns ++ x ∷ []) c most x longer
    keeps h = by (same_others c)
      where
        by : (x ≡ c) ⊎ (times c (ns ++ x ∷ []) ≡ times c ns) → Walked (ns ++ x ∷ []) c most x longer
        by (inl f) = let same : times x ns ≡ times c ns = ap (λ y. times y ns) f in absurd (omega (arith, w.most_is))
        by (inr f) = record {
          best = record {
            stands = omega (arith, w.best.stands);
            most = λ n. elim (same_others n) [ inl g ↦ subst (λ (y : ℤ). times y (ns ++ x ∷ []) ≤ times c (ns ++ x ∷ [])) g (omega (arith, times_here, w.most_is)) | inr g ↦ omega (arith, w.best.most n) ];
            least = λ n e. elim (same_others n) [ inl g ↦ subst (λ (y : ℤ). c ≤ℤ y) g (le_le c last x (w.highest c w.best.stands) up) | inr g ↦ w.best.least n (sym g ∙ (e ∙ f)) ];
          };
          most_is = w.most_is ∙ sym f;
          run_is = times_here;
          highest = below_x;
        }

-- the numbers of a rising list up to the one at i, and then one more
module _ (first : ℤ) (others : List ℤ) (rising : IsSorted int_cmp (first ∷ others)) (i : ℕ) (within : i < length others)
    (c : ℤ) (most : ℕ) (last : ℤ) (run : ℕ) (w : Walked (first ∷ take i others) c most last run) (here : (d : ℤ) → last ≡ get_or (first ∷ others) i d) where
  -- the number that comes
  abbrev pub coming : ℤ
  coming = get_or others i (pos 0)

  -- how the last run stands once it has come
  pub record Next (number : ℤ) (times_so_far : ℕ) : Type 0 where
    pub is : number ≡ coming
    pub counts : times_so_far ≡ times coming (first ∷ take i others) + 1

  not_below : last ≤ℤ coming
  not_below = of_test (int_lt coming last) refl
    where
      of_test : (b : Bool) → int_lt coming last ≡ b → last ≤ℤ coming
      of_test true e = absurd (true≢false (sym (ap is_lt (less e)) ∙ behind))
        where
          less : int_lt coming last ≡ true → int_cmp coming last ≡ Less
          less f = ap (λ b. cond b Less (cond (int_lt last coming) Greater Equal)) f

          behind : is_lt (int_cmp coming last) ≡ false
          behind = rw (here (pos 0)) (simp unary_clauses at (rising i (pos 0) (omega arith) (omega arith)))
      of_test false e = grind (arith, ints)

  more : first ∷ take (i + 1) others ≡ (first ∷ take i others) ++ coming ∷ []
  more = ap (λ l. first ∷ l) (take_more others i (pos 0) within)

  pub same_run : coming ≡ last → Next last (run + 1)
  same_run e = record { is = sym e; counts = run_grows (first ∷ take i others) c most last run w coming e }

  pub new_run : coming ≢ last → Next coming 1
  new_run ne = record { is = refl; counts = run_begins (first ∷ take i others) c most last run w coming ne not_below }

  module _ (number : ℤ) (longer : ℕ) (n : Next number longer) where
    pub run_takes : most < longer → Walked (first ∷ take (i + 1) others) number longer number longer
    run_takes h = rw (more, n.is) (takes (first ∷ take i others) c most last run w coming not_below longer n.counts h)

    pub run_keeps : longer ≤ most → Walked (first ∷ take (i + 1) others) c most number longer
    run_keeps h = rw (more, n.is) (keeps (first ∷ take i others) c most last run w coming not_below longer n.counts h)

    pub stands_there : (d : ℤ) → number ≡ get_or (first ∷ others) (i + 1) d
    stands_there d = n.is ∙ (get_or_default others i (pos 0) d within ∙ behind)
      where
        behind : get_or others i d ≡ get_or (first ∷ others) (i + 1) d
        behind = simp unary_clauses
