-- Lists without the items at some positions, gathered from the front.
use Rattle.std.proofs.Common.{◌≡◌, ◌≢◌, ℕ, zero, suc, ◌+◌, ◌-◌, ◌<◌, ◌≤◌, List, [], ◌∷◌, ◌++◌, length, get_or, set, take, drop, map, refl, sym, ap, ◌∙◌, subst, arith, add-zero, add-one, inl, inr}
use Rattle.std.proofs.lemmas.Bool.{cases_eq}
use Rattle.std.proofs.Math.Seq.{take-suc, take-suc-set}
use Rattle.std.proofs.lemmas.List.{append-nil, drop-drop, drop-set-lt, length-take-le, length-drop, length-set, get_or-drop}
use Rattle.trace_seq.specs.Order.{times}
use Rattle.trace_seq.specs.Without.{unless, without_from, AreRising}
use Rattle.trace_seq.proofs.TimeLemmas.{times-append, times-other, times-self}

module _ {T : Type 0} where
  unless-append : (n : ℕ) (x : T) (xs ys : List T) → unless n x (xs ++ ys) ≡ unless n x xs ++ ys
  unless-append zero x xs ys = refl
  unless-append (suc n) x xs ys = refl

  pub unless-some : (n : ℕ) (x : T) (xs : List T) → 0 < n → unless n x xs ≡ xs
  unless-some zero x xs some = absurd (omega arith)
  unless-some (suc n) x xs some = refl

  pub unless-none : (n : ℕ) (x : T) (xs : List T) → n ≡ 0 → unless n x xs ≡ x ∷ xs
  unless-none zero x xs none = refl
  unless-none (suc n) x xs none = absurd (omega arith)

  pub without-append : (at : ℕ) (xs ys : List T) (positions : List ℕ) → without_from at (xs ++ ys) positions ≡ without_from at xs positions ++ without_from (at + length xs) ys positions
  without-append at [] ys positions = ap (λ n. without_from n ys positions) (sym (add-zero at))
  without-append at (x ∷ xs) ys positions =
      let e : suc at + length xs ≡ at + length (x ∷ xs) = omega arith in
      ap (unless (times at positions) x) (without-append (suc at) xs ys positions)
      ∙ (unless-append (times at positions) x (without_from (suc at) xs positions) (without_from (suc at + length xs) ys positions)
      ∙ ap (λ n. unless (times at positions) x (without_from (suc at) xs positions) ++ without_from n ys positions) e)

  -- only the positions from the first item on matter
  pub without-same : (at : ℕ) (xs : List T) (a b : List ℕ) → ((p : ℕ) → at ≤ p → times p a ≡ times p b) → without_from at xs a ≡ without_from at xs b
  without-same at [] a b same = refl
  without-same at (x ∷ xs) a b same =
      ap (λ n. unless n x (without_from (suc at) xs a)) (same at (omega arith))
      ∙ ap (unless (times at b) x) (without-same (suc at) xs a b (λ p le. same p (omega arith)))

  -- one item more
  pub without-step : (at k : ℕ) (old : List T) (positions : List ℕ) (d : T) → k < length old → without_from at (take (k + 1) old) positions ≡ without_from at (take k old) positions ++ without_from (at + k) (get_or old k d ∷ []) positions
  without-step at k old positions d short =
      let e : at + length (take k old) ≡ at + k = omega (arith, length-take-le k old (omega arith)) in
      ap (λ n. without_from at (take n old) positions) (add-one k)
      ∙ (ap (λ l. without_from at l positions) (take-suc old k d short)
      ∙ (without-append at (take k old) (get_or old k d ∷ []) positions
      ∙ ap (λ n. without_from at (take k old) positions ++ without_from n (get_or old k d ∷ []) positions) e))

  pub drop-step : (xs : List T) (i : ℕ) (d : T) → i < length xs → drop i xs ≡ get_or xs i d ∷ drop (suc i) xs
  drop-step [] i d short = absurd (omega arith)
  drop-step (x ∷ xs) zero d short = refl
  drop-step (x ∷ xs) (suc i) d short = let e : i < length xs = omega arith in drop-step xs i d e

  pub drop-more : (k : ℕ) (xs ys : List T) → drop k xs ≡ drop k ys → drop (k + 1) xs ≡ drop (k + 1) ys
  drop-more k xs ys e = sym (drop-drop 1 k xs) ∙ (ap (drop 1) e ∙ drop-drop 1 k ys)

  drop-past : (i : ℕ) (xs : List T) → length xs ≤ i → drop i xs ≡ []
  drop-past zero [] h = refl
  drop-past (suc i) [] h = refl
  drop-past zero (x ∷ xs) h = absurd (omega arith)
  drop-past (suc i) (x ∷ xs) h = let e : length xs ≤ i = omega arith in drop-past i xs e

  pub get-same : (k : ℕ) (xs ys : List T) (d : T) → drop k xs ≡ drop k ys → get_or xs k d ≡ get_or ys k d
  get-same k xs ys d e =
      ap (λ n. get_or xs n d) (sym (add-zero k)) ∙ (sym (get_or-drop k xs 0 d) ∙ (ap (λ l. get_or l 0 d) e ∙ (get_or-drop k ys 0 d ∙ ap (λ n. get_or ys n d) (add-zero k))))

-- ---- the list with its items mapped, and how long it is

module _ {X Y : Type 0} where
  map-unless : (f : X → Y) (n : ℕ) (x : X) (xs : List X) → map f (unless n x xs) ≡ unless n (f x) (map f xs)
  map-unless f zero x xs = refl
  map-unless f (suc n) x xs = refl

  pub map-without : (f : X → Y) (at : ℕ) (xs : List X) (positions : List ℕ) → map f (without_from at xs positions) ≡ without_from at (map f xs) positions
  map-without f at [] positions = refl
  map-without f at (x ∷ xs) positions = map-unless f (times at positions) x (without_from (suc at) xs positions) ∙ ap (unless (times at positions) (f x)) (map-without f (suc at) xs positions)

long-unless : (n x : ℕ) (xs : List ℕ) → length (unless n x xs) ≡ length (unless n x []) + length xs
long-unless zero x xs = omega arith
long-unless (suc n) x xs = omega arith

few-unless : (n x : ℕ) → length (unless n x []) ≤ 1
few-unless zero x = omega arith
few-unless (suc n) x = omega arith

pub without-long : (at : ℕ) (xs positions : List ℕ) → length (without_from at xs positions) ≤ length xs
without-long at [] positions = omega arith
without-long at (x ∷ xs) positions = omega (arith, long-unless (times at positions) x (without_from (suc at) xs positions), few-unless (times at positions) x, without-long (suc at) xs positions)

times-unless : (k n x : ℕ) (xs : List ℕ) → times k (unless n x xs) ≡ times k (unless n x []) + times k xs
times-unless k zero x xs = omega arith
times-unless k (suc n) x xs = omega arith

one-at-most : (k n x : ℕ) → times k (unless n x []) ≤ times k (x ∷ [])
one-at-most k zero x = omega arith
one-at-most k (suc n) x = omega arith

-- an id that is not taken out is one of the old ones
pub times-without : (k at : ℕ) (xs positions : List ℕ) → times k (without_from at xs positions) ≤ times k xs
times-without k at [] positions = omega arith
times-without k at (x ∷ xs) positions = omega (arith, times-unless k (times at positions) x (without_from (suc at) xs positions), one-at-most k (times at positions) x, times-without k (suc at) xs positions)

-- ---- one place more

-- a place behind the list is none of its positions
pub without-past : (at p : ℕ) (xs positions : List ℕ) → at + length xs ≤ p → without_from at xs (positions ++ p ∷ []) ≡ without_from at xs positions
without-past at p [] positions past = refl
without-past at p (x ∷ xs) positions past =
    let other : times at (p ∷ []) ≡ 0 = times-other at p (λ e. omega (arith, e, past)) in
    let same : times at (positions ++ p ∷ []) ≡ times at positions = omega (arith, times-append at positions (p ∷ []), other) in
    ap (λ n. unless n x (without_from (suc at) xs (positions ++ p ∷ []))) same ∙ ap (unless (times at positions) x) (without-past (suc at) p xs positions (omega (arith, past)))

-- a place of the list takes out the item there
pub without-one : (k at p : ℕ) (xs positions : List ℕ) → at ≤ p → p < at + length xs → times p positions ≡ 0
    → (times k (without_from at xs (positions ++ p ∷ [])) + times k (get_or xs (p - at) 0 ∷ []) ≡ times k (without_from at xs positions))
    × (length (without_from at xs (positions ++ p ∷ [])) + 1 ≡ length (without_from at xs positions))
without-one k at p [] positions le lt absent = absurd (omega (arith, le, lt))
without-one k at p (x ∷ xs) positions le lt absent = elim (cases_eq p at) [
  | inl e ↦
      let here : times at positions ≡ 0 = ap (λ i. times i positions) (sym e) ∙ absent in
      let some : 0 < times at (positions ++ p ∷ []) = omega (arith, times-append at positions (p ∷ []), ap (λ i. times at (i ∷ [])) e, times-self at []) in
      let rest : without_from (suc at) xs (positions ++ p ∷ []) ≡ without_from (suc at) xs positions = without-same (suc at) xs (positions ++ p ∷ []) positions (λ q more. omega (arith, times-append q positions (p ∷ []), times-other q p (λ f. omega (arith, f, more, e)))) in
      let out : without_from at (x ∷ xs) (positions ++ p ∷ []) ≡ without_from (suc at) xs positions = unless-some (times at (positions ++ p ∷ [])) x (without_from (suc at) xs (positions ++ p ∷ [])) some ∙ rest in
      let kept : without_from at (x ∷ xs) positions ≡ x ∷ without_from (suc at) xs positions = unless-none (times at positions) x (without_from (suc at) xs positions) here in
      let first : get_or (x ∷ xs) (p - at) 0 ≡ x = let i : p - at ≡ 0 = omega (arith, e) in ap (λ i. get_or (x ∷ xs) i 0) i in
      (omega (arith, ap (times k) out, ap (times k) kept, ap (λ y. times k (y ∷ [])) first), omega (arith, ap (λ (l : List ℕ). length l) out, ap (λ (l : List ℕ). length l) kept))
  | inr ne ↦
      let above : suc at ≤ p = omega (arith, le, ne) in
      let other : times at (p ∷ []) ≡ 0 = times-other at p ne in
      let same : times at (positions ++ p ∷ []) ≡ times at positions = omega (arith, times-append at positions (p ∷ []), other) in
      let out : without_from at (x ∷ xs) (positions ++ p ∷ []) ≡ unless (times at positions) x (without_from (suc at) xs (positions ++ p ∷ [])) = ap (λ n. unless n x (without_from (suc at) xs (positions ++ p ∷ []))) same in
      let rest = without-one k (suc at) p xs positions above (omega (arith, lt)) absent in
      let next : get_or (x ∷ xs) (p - at) 0 ≡ get_or xs (p - suc at) 0 = let i : p - at ≡ suc (p - suc at) = omega (arith, above) in ap (λ i. get_or (x ∷ xs) i 0) i in (
        omega (arith, ap (times k) out, times-unless k (times at positions) x (without_from (suc at) xs (positions ++ p ∷ [])), times-unless k (times at positions) x (without_from (suc at) xs positions), ap (λ y. times k (y ∷ [])) next, rest.0),
        omega (arith, ap (λ (l : List ℕ). length l) out, long-unless (times at positions) x (without_from (suc at) xs (positions ++ p ∷ [])), long-unless (times at positions) x (without_from (suc at) xs positions), rest.1),
      )
]

-- the positions in front of one do not hold it
pub rising-ahead : (from j : ℕ) (ps : List ℕ) (d : ℕ) → AreRising from ps → j < length ps → (times (get_or ps j d) (take j ps) ≡ 0) × (from ≤ get_or ps j d)
rising-ahead from j [] d h short = absurd (omega arith)
rising-ahead from zero (q ∷ qs) d h short = (refl, h.0)
rising-ahead from (suc j) (q ∷ qs) d h short =
    let rest = rising-ahead (suc q) j qs d h.1 (omega arith) in
    let other : times (get_or qs j d) (q ∷ []) ≡ 0 = times-other (get_or qs j d) q (λ e. omega (arith, e, rest.1)) in
    (omega (arith, other, rest.0), omega (arith, rest.1, h.0))

pub rising-absent : (from p : ℕ) (ps : List ℕ) → AreRising from ps → p < from → times p ps ≡ 0
rising-absent from p [] h low = refl
rising-absent from p (q ∷ qs) h low =
    let other : times p (q ∷ []) ≡ 0 = times-other p q (λ e. omega (arith, e, h.0, low)) in
    omega (arith, other, rising-absent (suc q) p qs h.1 (omega (arith, h.0, low)))

-- the next place is not this one
pub rising-up : (from : ℕ) (ps : List ℕ) → AreRising from ps → (0 < length ps → get_or ps 0 0 ≢ from) → AreRising (suc from) ps
rising-up from [] h ne = tt
rising-up from (q ∷ qs) h ne = let up : suc from ≤ q = omega (arith, h.0, ne (omega arith)) in (up, h.1)

-- what is known of the positions after so many items, of which so many were taken out
pub record AreLeft (positions : List ℕ) (at taken : ℕ) : Type 0 where
  pub within : taken ≤ length positions
  pub rising : AreRising at (drop taken positions)
  pub same : (p : ℕ) → at ≤ p → times p (drop taken positions) ≡ times p positions

-- the next place is this one
pub left-taken : (positions : List ℕ) (at taken : ℕ) → AreLeft positions at taken → taken < length positions → get_or positions taken 0 ≡ at → (0 < times at positions) × AreLeft positions (at + 1) (taken + 1)
left-taken positions at taken h short is =
    let cut = drop-step positions taken 0 short in
    let rising : AreRising at (get_or positions taken 0 ∷ drop (suc taken) positions) = subst (AreRising at) cut h.rising in
    let here : times at (drop taken positions) ≡ times at (at ∷ drop (suc taken) positions) = ap (times at) cut ∙ ap (λ q. times at (q ∷ drop (suc taken) positions)) is in
    let next : drop (taken + 1) positions ≡ drop (suc taken) positions = ap (λ n. drop n positions) (add-one taken) in (
      omega (arith, h.same at (omega arith), here, times-self at (drop (suc taken) positions)),
      record {
        within = omega arith;
        rising = rw (add-one at, add-one taken) (subst (λ q. AreRising (suc q) (drop (suc taken) positions)) is rising.1);
        same = λ p le.
            let other : times p (at ∷ []) ≡ 0 = times-other p at (λ e. omega (arith, e, le)) in
            let all : times p (drop taken positions) ≡ times p (at ∷ drop (suc taken) positions) = ap (times p) cut ∙ ap (λ q. times p (q ∷ drop (suc taken) positions)) is in
            omega (arith, h.same p (omega (arith, le)), all, other, ap (times p) next);
      },
    )

-- the next place is not this one
pub left-kept : (positions : List ℕ) (at taken : ℕ) → AreLeft positions at taken → (taken < length positions → get_or positions taken 0 ≢ at) → (times at positions ≡ 0) × AreLeft positions (at + 1) taken
left-kept positions at taken h ne =
    let first : get_or (drop taken positions) 0 0 ≡ get_or positions taken 0 = get_or-drop taken positions 0 0 ∙ ap (λ n. get_or positions n 0) (add-zero taken) in
    let rising : AreRising (suc at) (drop taken positions) = rising-up at (drop taken positions) h.rising (λ some e. ne (omega (arith, some, length-drop taken positions)) (sym first ∙ e)) in (
      sym (h.same at (omega arith)) ∙ rising-absent (suc at) at (drop taken positions) rising (omega arith),
      record {
        within = h.within;
        rising = rw (add-one at) rising;
        same = λ p le. h.same p (omega (arith, le));
      },
    )

-- the items that stand at none of the positions are in front, in their order, and those that were not gone over stand where they stood
pub record AreGathered (old new positions : List ℕ) (first k taken : ℕ) : Type 0 where
  pub kept : take (k - taken) new ≡ without_from first (take k old) positions
  pub behind : drop k new ≡ drop k old
  pub long : length new ≡ length old
  pub few : taken ≤ k
  pub left : AreLeft positions (first + k) taken

pub gathered-taken : (old new positions : List ℕ) (first k taken : ℕ) → AreGathered old new positions first k taken → k < length old → taken < length positions → get_or positions taken 0 ≡ first + k → AreGathered old new positions first (k + 1) (taken + 1)
gathered-taken old new positions first k taken h short some is =
    let next = left-taken positions (first + k) taken h.left some is in
    let e : (k + 1) - (taken + 1) ≡ k - taken = omega arith in
    let f : (first + k) + 1 ≡ first + (k + 1) = omega arith in
    let none : without_from (first + k) (get_or old k 0 ∷ []) positions ≡ [] = unless-some (times (first + k) positions) (get_or old k 0) [] next.0 in
    record {
      kept = ap (λ n. take n new) e ∙ (h.kept ∙ (sym (append-nil _) ∙ (ap (λ l. without_from first (take k old) positions ++ l) (sym none) ∙ sym (without-step first k old positions 0 short))));
      behind = drop-more k new old h.behind;
      long = h.long;
      few = omega (arith, h.few);
      left = subst (λ n. AreLeft positions n (taken + 1)) f next.1;
    }

pub gathered-kept : (old new positions : List ℕ) (first k taken x : ℕ) → AreGathered old new positions first k taken → k < length old → (taken < length positions → get_or positions taken 0 ≢ first + k) → x ≡ get_or new k 0 → AreGathered old (set new (k - taken) x) positions first (k + 1) taken
gathered-kept old new positions first k taken x h short ne read =
    let next = left-kept positions (first + k) taken h.left ne in
    let e : (k + 1) - taken ≡ suc (k - taken) = omega (arith, h.few) in
    let f : (first + k) + 1 ≡ first + (k + 1) = omega arith in
    let one : without_from (first + k) (get_or old k 0 ∷ []) positions ≡ get_or old k 0 ∷ [] = unless-none (times (first + k) positions) (get_or old k 0) [] next.0 in
    let is : x ≡ get_or old k 0 = read ∙ get-same k new old 0 h.behind in
    let fits : k - taken < length new = omega (arith, h.long) in
    record {
      kept = ap (λ n. take n (set new (k - taken) x)) e ∙ (take-suc-set new (k - taken) x fits ∙ (ap (λ l. l ++ x ∷ []) h.kept ∙ (ap (λ y. without_from first (take k old) positions ++ y ∷ []) is ∙ (ap (λ l. without_from first (take k old) positions ++ l) (sym one) ∙ sym (without-step first k old positions 0 short)))));
      behind = drop-set-lt (k + 1) new (k - taken) x (omega arith) ∙ drop-more k new old h.behind;
      long = length-set new (k - taken) x ∙ h.long;
      few = omega (arith, h.few);
      left = subst (λ n. AreLeft positions n taken) f next.1;
    }

-- no positions, nothing taken out
pub without-nothing : (at : ℕ) (xs : List ℕ) → length (without_from at xs []) ≡ length xs
without-nothing at [] = refl
without-nothing at (x ∷ xs) = omega (arith, without-nothing (suc at) xs)
