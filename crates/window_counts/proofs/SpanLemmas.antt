-- The least and the greatest of the keys in a window and of those outside it.
use Rattle.std.specs.Prelude.{◌≡◌, ℕ, ◌+◌, ◌<◌, Bool, true, false, cond, List, length, slice_index, Option, Some, None, refl}
use Rattle.std.proofs.Common.{arith, sym, ap, ◌∙◌, subst, inl, inr}
use Rattle.std.proofs.lemmas.Bool.{cases_lt, cases_eq}
use Rattle.std.specs.Ordering.{is_lt, is_gt, ord_min, ord_max, ordering_reverse}
use Rattle.std.specs.Cmp.{IsTotalOrder, tied_itself}
use Rattle.std.specs.declared.cmp.Ordering.{Ordering}
use Rattle.std.specs.declared.cmp.Ordering.TheVariants.{Less, Equal, Greater}
use Rattle.key_counts.specs.Ends.{IsLeast, IsGreatest}
use Rattle.window_counts.specs.Held.{IsFirstHeld, IsLastHeld, NoneHeld}
use Rattle.window_counts.specs.Window.{number_in, ArePlaced}

module _ {K : Type 0} (cmp : K → K → Ordering) (o : IsTotalOrder cmp) where
  turned : (a b : K) → cmp a b ≡ Less → cmp b a ≡ Greater
  turned a b e = o.antisymm b a ∙ ap ordering_reverse e

  -- a below b, which is not above c
  below : (a b c : K) → cmp a b ≡ Less → is_gt (cmp b c) ≡ false → is_gt (cmp a c) ≡ false
  below a b c e h = by (cmp b c) refl h
    where
      by : (r : Ordering) → cmp b c ≡ r → is_gt r ≡ false → is_gt (cmp a c) ≡ false
      by Less f h = ap is_gt (o.trans a b c e f)
      by Equal f h = ap is_gt (o.antisymm a c ∙ ap ordering_reverse (sym (o.congr b c a f) ∙ turned a b e))
      by Greater f h = cc

  not_above : (a b c : K) → is_lt (cmp b a) ≡ false → is_gt (cmp b c) ≡ false → is_gt (cmp a c) ≡ false
  not_above a b c e h = by (cmp b a) refl e
    where
      by : (r : Ordering) → cmp b a ≡ r → is_lt r ≡ false → is_gt (cmp a c) ≡ false
      by Less f e = cc
      by Equal f e = ap is_gt (sym (o.congr b a c f)) ∙ h
      by Greater f e = below a b c (o.antisymm a b ∙ ap ordering_reverse f) h

  -- a above b, which is not below c
  over : (a b c : K) → cmp b a ≡ Less → is_gt (cmp c b) ≡ false → is_gt (cmp c a) ≡ false
  over a b c e h = by (cmp c b) refl h
    where
      by : (r : Ordering) → cmp c b ≡ r → is_gt r ≡ false → is_gt (cmp c a) ≡ false
      by Less f h = ap is_gt (o.trans c b a f e)
      by Equal f h = ap is_gt (o.congr c b a f ∙ e)
      by Greater f h = cc

  not_below : (a b c : K) → is_lt (cmp a b) ≡ false → is_gt (cmp c b) ≡ false → is_gt (cmp c a) ≡ false
  not_below a b c e h = by (cmp a b) refl e
    where
      by : (r : Ordering) → cmp a b ≡ r → is_lt r ≡ false → is_gt (cmp c a) ≡ false
      by Less f e = cc
      by Equal f e = ap is_gt (o.antisymm c a ∙ ap ordering_reverse (o.congr a b c f) ∙ sym (o.antisymm c b)) ∙ h
      by Greater f e = over a b c (o.antisymm b a ∙ ap ordering_reverse f) h

  -- ---- of two counts together

  module _ (a b t : K → ℕ) (whole : (k : K) → t k ≡ a k + b k) where
    one_of : {G : Type 0} (k : K) → 0 < t k → (0 < a k → G) → (0 < b k → G) → G
    one_of k p f g = elim (cases_lt 0 (a k)) [ inl h ↦ f h | inr h ↦ g (let w = whole k in omega arith) ]

    pub least-first : (x : K) → IsLeast cmp a (Some x) → IsLeast cmp b None → IsLeast cmp t (Some x)
    least-first x h none = (
      let w = whole x in let p = h.0 in omega arith,
      λ k p. h.1 k (let w = whole k in let z = none k in omega arith),
    )

    pub least-second : (r : Option K) → IsLeast cmp a None → IsLeast cmp b r → IsLeast cmp t r
    least-second None none h = λ k. let w = whole k in let y = none k in let z = h k in omega arith
    least-second (Some x) none h = (
      let w = whole x in let p = h.0 in omega arith,
      λ k p. h.1 k (let w = whole k in let z = none k in omega arith),
    )

    pub least-both : (x y : K) → IsLeast cmp a (Some x) → IsLeast cmp b (Some y) → IsLeast cmp t (Some (ord_min cmp x y))
    least-both x y h i = by (is_lt (cmp y x)) refl
      where
        strictly : (r : Ordering) → is_lt r ≡ true → r ≡ Less
        strictly Less e = refl
        strictly Equal e = cc
        strictly Greater e = cc

        by : (c : Bool) → is_lt (cmp y x) ≡ c → IsLeast cmp t (Some (cond c y x))
        by true e = (
          let w = whole y in let p = i.0 in omega arith,
          λ k p. one_of k p (λ q. below y x k (strictly (cmp y x) e) (h.1 k q)) (λ q. i.1 k q),
        )
        by false e = (
          let w = whole x in let p = h.0 in omega arith,
          λ k p. one_of k p (λ q. h.1 k q) (λ q. not_above x y k e (i.1 k q)),
        )

    pub greatest-first : (x : K) → IsGreatest cmp a (Some x) → IsGreatest cmp b None → IsGreatest cmp t (Some x)
    greatest-first x h none = (
      let w = whole x in let p = h.0 in omega arith,
      λ k p. h.1 k (let w = whole k in let z = none k in omega arith),
    )

    pub greatest-second : (r : Option K) → IsGreatest cmp a None → IsGreatest cmp b r → IsGreatest cmp t r
    greatest-second None none h = λ k. let w = whole k in let y = none k in let z = h k in omega arith
    greatest-second (Some x) none h = (
      let w = whole x in let p = h.0 in omega arith,
      λ k p. h.1 k (let w = whole k in let z = none k in omega arith),
    )

    pub greatest-both : (x y : K) → IsGreatest cmp a (Some x) → IsGreatest cmp b (Some y) → IsGreatest cmp t (Some (ord_max cmp x y))
    greatest-both x y h i = by (is_lt (cmp y x)) refl
      where
        strictly : (r : Ordering) → is_lt r ≡ true → r ≡ Less
        strictly Less e = refl
        strictly Equal e = cc
        strictly Greater e = cc

        by : (c : Bool) → is_lt (cmp y x) ≡ c → IsGreatest cmp t (Some (cond c x y))
        by true e = (
          let w = whole x in let p = h.0 in omega arith,
          λ k p. one_of k p (λ q. h.1 k q) (λ q. over x y k (strictly (cmp y x) e) (i.1 k q)),
        )
        by false e = (
          let w = whole y in let p = i.0 in omega arith,
          λ k p. one_of k p (λ q. not_below y x k e (h.1 k q)) (λ q. i.1 k q),
        )

  -- ---- in a window

  module _ (size : ℕ) (place : K → Option ℕ) (key : ℕ → K) (placed : ArePlaced cmp size place key) (ns : List ℕ) (all : length ns ≡ size) where
    held_at : (k : K) → 0 < number_in ns (place k) → (p : ℕ) × (place k ≡ Some p) × (0 < slice_index ns p)
    held_at k h = by (place k) refl h
      where
        by : (r : Option ℕ) → place k ≡ r → 0 < number_in ns r → (p : ℕ) × (place k ≡ Some p) × (0 < slice_index ns p)
        by None e h = absurd (omega arith)
        by (Some p) e h = (p, e, h)

    own : (p : ℕ) → p < length ns → number_in ns (place (key p)) ≡ slice_index ns p
    own p short = ap (number_in ns) (placed.found (key p) p (subst (λ n. p < n) all short) (tied_itself o (key p)))

    pub none-held : NoneHeld ns → (k : K) → number_in ns (place k) ≡ 0
    none-held none k = by (place k)
      where
        by : (r : Option ℕ) → number_in ns r ≡ 0
        by None = refl
        by (Some p) = none p

    pub first-held : (p : ℕ) → IsFirstHeld ns p → IsLeast cmp (λ k. number_in ns (place k)) (Some (key p))
    first-held p f = (
      subst (λ n. 0 < n) (sym (own p f.within)) f.held,
      λ k h.
          let at = held_at k h in
          let w = placed.within k at.0 at.1 in
          elim (cases_lt at.0 p) [
            | inl low ↦ absurd (let z = f.before at.0 low in let q = at.2 in omega arith)
            | inr high ↦ elim (cases_eq at.0 p) [
              | inl same ↦ ap is_gt (o.antisymm (key p) k ∙ ap ordering_reverse (ap (λ j. cmp k (key j)) (sym same) ∙ w.1))
              | inr other ↦ below (key p) (key at.0) k (placed.rising p at.0 (omega arith) w.0) (ap is_gt (o.antisymm (key at.0) k ∙ ap ordering_reverse w.1))
            ]
          ],
    )

    pub last-held : (p : ℕ) → IsLastHeld ns p → IsGreatest cmp (λ k. number_in ns (place k)) (Some (key p))
    last-held p f = (
      subst (λ n. 0 < n) (sym (own p f.within)) f.held,
      λ k h.
          let at = held_at k h in
          let w = placed.within k at.0 at.1 in
          elim (cases_lt p at.0) [
            | inl high ↦ absurd (let z = f.behind at.0 high in let q = at.2 in omega arith)
            | inr low ↦ elim (cases_eq at.0 p) [
              | inl same ↦ ap is_gt (ap (λ j. cmp k (key j)) (sym same) ∙ w.1)
              | inr other ↦ over (key p) (key at.0) k (placed.rising at.0 p (omega arith) (subst (λ n. p < n) all f.within)) (ap is_gt w.1)
            ]
          ],
    )
