-- Runs round one of them, and how many there are on a side of a place.
use Rattle.std.proofs.Common.{◌≡◌, ℕ, ◌+◌, ◌<◌, ◌≤◌, ◌⊎◌, inl, inr, Bool, true, false, List, [], ◌∷◌, ◌++◌, length, get_or, take, drop, refl, sym, ap, ◌∙◌, subst, arith}
use Rattle.std.specs.Prelude.{count_by, if◌then◌else◌}
use Rattle.std.proofs.lemmas.List.Sums.{sum_by-append}
use Rattle.std.proofs.lemmas.Bool.{lt-ltb, le-ltb}
use Rattle.std.proofs.lemmas.List.{drop_more, take_more, take-append-drop, length-drop}
use Rattle.trace_view.specs.declared.run.Run.{Run}
use Rattle.trace_view.specs.Runs.{FitFrom, Fit, end_of}
use Rattle.trace_view.specs.Puts.{IsGap, is_in_front, is_behind}
use Rattle.trace_view.proofs.WrittenLemmas.{FitFrom-le}

-- runs that fit, on both sides of one of them
pub fits_parts : (from len : ℕ) (xs : List Run) (r : Run) (zs : List Run) → FitFrom from (xs ++ r ∷ zs) len → FitFrom from xs r.at × ((0 < length r.bytes.items) × FitFrom (end_of r) zs len)
fits_parts from len [] r zs h = (h.0, h.1)
fits_parts from len (x ∷ xs) r zs h = let k = fits_parts (end_of x) len xs r zs h.1.1 in ((h.0, (h.1.0, k.0)), k.1)

pub fits_wider : (from m n : ℕ) (rs : List Run) → m ≤ n → FitFrom from rs m → FitFrom from rs n
fits_wider from m n [] le h = omega arith
fits_wider from m n (r ∷ rs) le h = (h.0, (h.1.0, fits_wider (end_of r) m n rs le h.1.1))

-- a run between runs that fit
pub fits_joined : (from m len : ℕ) (xs : List Run) (r : Run) (zs : List Run) → m ≤ r.at → 0 < length r.bytes.items → FitFrom from xs m → FitFrom (end_of r) zs len → FitFrom from (xs ++ r ∷ zs) len
fits_joined from m len [] r zs le some h k = (omega arith, (some, k))
fits_joined from m len (x ∷ xs) r zs le some h k = (h.0, (h.1.0, fits_joined (end_of x) m len xs r zs le some h.1.1 k))

-- what stands round the run at an index
pub record Round (rs : List Run) (len i : ℕ) (r : Run) : Type 0 where
  pub within : i < length rs
  pub before : FitFrom 0 (take i rs) r.at
  pub some : 0 < length r.bytes.items
  pub behind : FitFrom (end_of r) (drop (i + 1) rs) len
  pub inside : end_of r ≤ len
  pub rest : drop i rs ≡ (r ∷ drop (i + 1) rs)
  pub more : take (i + 1) rs ≡ take i rs ++ r ∷ []

pub round : (rs : List Run) (len i : ℕ) (r : Run) → i < length rs → r ≡ get_or rs i r → Fit rs len → Round rs len i r
round rs len i r lt is fit =
    let rest : drop i rs ≡ (r ∷ drop (i + 1) rs) = drop_more rs i r lt ∙ ap (λ (x : Run). x ∷ drop (i + 1) rs) (sym is) in
    let more : take (i + 1) rs ≡ take i rs ++ r ∷ [] = take_more rs i r lt ∙ ap (λ (x : Run). take i rs ++ x ∷ []) (sym is) in
    let split : rs ≡ take i rs ++ r ∷ drop (i + 1) rs = sym (take-append-drop i rs) ∙ ap (λ (xs : List Run). take i rs ++ xs) rest in
    let parts = fits_parts 0 len (take i rs) r (drop (i + 1) rs) (subst (λ (xs : List Run). FitFrom 0 xs len) split fit) in
    record { within = lt; before = parts.0; some = parts.1.0; behind = parts.1.1; inside = FitFrom-le (end_of r) len (drop (i + 1) rs) parts.1.1; rest = rest; more = more }

-- a gap in front of a run
pub gap_here : (rs : List Run) (len i j place : ℕ) (r : Run) → Round rs len i r → j ≡ i → FitFrom 0 (take i rs) place → place ≤ r.at → IsGap rs len j place
gap_here rs len i j place r here e before le =
    let gap : IsGap rs len i place = record {
      some = omega (arith, here.within);
      before = before;
      behind = subst (λ (xs : List Run). FitFrom place xs len) (sym here.rest) (le, (here.some, here.behind));
    } in
    subst (λ (n : ℕ). IsGap rs len n place) (sym e) gap

-- runs that end in front of a place, and of a run, end in front of the lower of the two
pub fits_lower : (rs : List Run) (len i at place : ℕ) (r : Run) → Round rs len i r → (place ≡ r.at) ⊎ (place ≡ at) → FitFrom 0 (take i rs) at → FitFrom 0 (take i rs) place
fits_lower rs len i at place r here (inl e) fit = subst (λ (n : ℕ). FitFrom 0 (take i rs) n) (sym e) here.before
fits_lower rs len i at place r here (inr e) fit = subst (λ (n : ℕ). FitFrom 0 (take i rs) n) (sym e) fit

-- ---- counts

count_by-append : (p : Run → Bool) (xs ys : List Run) → count_by p (xs ++ ys) ≡ count_by p xs + count_by p ys
count_by-append p xs ys = sum_by-append (λ (r : Run). if p r then 1 else 0) xs ys

count_by-split : (p : Run → Bool) (rs : List Run) (i : ℕ) → count_by p rs ≡ count_by p (take i rs) + count_by p (drop i rs)
count_by-split p rs i = ap (count_by p) (sym (take-append-drop i rs)) ∙ count_by-append p (take i rs) (drop i rs)

count_by-yes : (p : Run → Bool) (r : Run) (rs : List Run) → p r ≡ true → count_by p (r ∷ rs) ≡ count_by p rs + 1
count_by-yes p r rs e =
    let one : count_by p (r ∷ []) ≡ 1 = rw e refl in
    let all : count_by p (r ∷ rs) ≡ count_by p (r ∷ []) + count_by p rs = count_by-append p (r ∷ []) rs in
    omega arith

count_by-no : (p : Run → Bool) (r : Run) (rs : List Run) → p r ≡ false → count_by p (r ∷ rs) ≡ count_by p rs
count_by-no p r rs e =
    let none : count_by p (r ∷ []) ≡ 0 = rw e refl in
    let all : count_by p (r ∷ rs) ≡ count_by p (r ∷ []) + count_by p rs = count_by-append p (r ∷ []) rs in
    omega arith

-- runs from a place on do not end in front of it
none_in_front : (at from len : ℕ) (rs : List Run) → at ≤ from → FitFrom from rs len → count_by (is_in_front at) rs ≡ 0
none_in_front at from len [] le h = refl
none_in_front at from len (r ∷ rs) le h =
    let ends : at ≤ end_of r = omega (arith, h.0) in
    count_by-no (is_in_front at) r rs (le-ltb (end_of r) at ends) ∙ none_in_front at (end_of r) len rs ends h.1.1

-- runs from behind a place on begin behind it
all_behind : (end from len : ℕ) (rs : List Run) → end < from → FitFrom from rs len → count_by (is_behind end) rs ≡ length rs
all_behind end from len [] lt h = refl
all_behind end from len (r ∷ rs) lt h =
    let begins : end < r.at = omega (arith, h.0) in
    let next : end < end_of r = omega arith in
    let rest = all_behind end (end_of r) len rs next h.1.1 in
    count_by-yes (is_behind end) r rs (lt-ltb end r.at begins) ∙ omega (arith, rest)

-- the first run that does not end in front of a place
pub counted_in_front : (rs : List Run) (len i j at : ℕ) (r : Run) → Round rs len i r → j ≡ i → at ≤ end_of r → count_by (is_in_front at) (take i rs) ≡ i → j ≡ count_by (is_in_front at) rs
counted_in_front rs len i j at r here e le front =
    let this : count_by (is_in_front at) (r ∷ drop (i + 1) rs) ≡ 0 =
    count_by-no (is_in_front at) r (drop (i + 1) rs) (le-ltb (end_of r) at le) ∙ none_in_front at (end_of r) len (drop (i + 1) rs) le here.behind in
    let left : count_by (is_in_front at) (drop i rs) ≡ 0 = ap (count_by (is_in_front at)) here.rest ∙ this in
    omega (arith, count_by-split (is_in_front at) rs i)

pub one_more_in_front : (rs : List Run) (len i at : ℕ) (r : Run) → Round rs len i r → end_of r < at → count_by (is_in_front at) (take i rs) ≡ i → count_by (is_in_front at) (take (i + 1) rs) ≡ i + 1
one_more_in_front rs len i at r here lt front =
    let this : count_by (is_in_front at) (r ∷ []) ≡ 1 = count_by-yes (is_in_front at) r [] (lt-ltb (end_of r) at lt) in
    ap (count_by (is_in_front at)) here.more ∙ omega (arith, count_by-append (is_in_front at) (take i rs) (r ∷ []))

pub fits_one_more : (rs : List Run) (len i at : ℕ) (r : Run) → Round rs len i r → end_of r ≤ at → FitFrom 0 (take (i + 1) rs) at
fits_one_more rs len i at r here le =
    subst (λ (xs : List Run). FitFrom 0 xs at) (sym here.more) (fits_joined 0 r.at at (take i rs) r [] (omega arith) here.some here.before le)

-- the first run that begins behind a place
pub counted_behind : (rs : List Run) (len i j end : ℕ) (r : Run) → Round rs len i r → j ≡ i → end < r.at → count_by (is_behind end) (take i rs) ≡ 0 → j + count_by (is_behind end) rs ≡ length rs
counted_behind rs len i j end r here e lt none =
    let first : FitFrom r.at (drop i rs) len = subst (λ (xs : List Run). FitFrom r.at xs len) (sym here.rest) (omega arith, (here.some, here.behind)) in
    let left : count_by (is_behind end) (drop i rs) ≡ length (drop i rs) = all_behind end r.at len (drop i rs) lt first in
    omega (arith, count_by-split (is_behind end) rs i, length-drop i rs, here.within)

pub none_more_behind : (rs : List Run) (len i end : ℕ) (r : Run) → Round rs len i r → r.at ≤ end → count_by (is_behind end) (take i rs) ≡ 0 → count_by (is_behind end) (take (i + 1) rs) ≡ 0
none_more_behind rs len i end r here le none =
    let this : count_by (is_behind end) (r ∷ []) ≡ 0 = count_by-no (is_behind end) r [] (le-ltb end r.at le) in
    ap (count_by (is_behind end)) here.more ∙ omega (arith, count_by-append (is_behind end) (take i rs) (r ∷ []))

-- a place behind the runs so far does not lie over the next
pub place_le : (rs : List Run) (len i end place : ℕ) (r : Run) → Round rs len i r → end ≤ r.at → (place ≡ end) ⊎ FitFrom place (drop i rs) len → place ≤ r.at
place_le rs len i end place r here le (inl e) = omega arith
place_le rs len i end place r here le (inr fit) = let k : FitFrom place (r ∷ drop (i + 1) rs) len = subst (λ (xs : List Run). FitFrom place xs len) here.rest fit in k.0

-- the place behind one run more
pub place_more : (rs : List Run) (len i end place : ℕ) (r : Run) → Round rs len i r → end_of r ≤ place → (place ≡ end) ⊎ FitFrom place (drop i rs) len → (place ≡ end) ⊎ FitFrom place (drop (i + 1) rs) len
place_more rs len i end place r here le (inl e) = inl e
place_more rs len i end place r here le (inr fit) =
    let k : FitFrom place (r ∷ drop (i + 1) rs) len = subst (λ (xs : List Run). FitFrom place xs len) here.rest fit in
    absurd (omega (arith, k.0, here.some))
