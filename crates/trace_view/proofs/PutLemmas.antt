-- Bytes with one more run laid over them.
use Rattle.std.proofs.Common.{◌≡◌, ℕ, ◌+◌, ◌-◌, ◌<◌, ◌≤◌, ◌⊎◌, inl, inr, List, [], ◌∷◌, ◌++◌, length, take, drop, refl, sym, ap, ◌∙◌, subst, arith, append_assoc, length-append, take-add}
use Rattle.std.specs.Prelude.{slice_range}
use Rattle.std.proofs.lemmas.List.{drop-drop, drop-take, take-take, length-take, length-drop, drop-append-le, take-append-le, take-append-drop}
use Rattle.std.proofs.Math.Seq.{take-append-add, take-append_seam}
use Rattle.frame_cut.specs.Splice.{splice}
use Rattle.trace_view.specs.declared.run.Run.{Run}
use Rattle.trace_view.specs.Runs.{FitFrom, Fit, bytes_with_runs_from, bytes_with_runs, end_of}
use Rattle.trace_view.specs.Puts.{IsGap, Show, ShowPut, contents}
use Rattle.trace_view.proofs.WrittenLemmas.{FitFrom-le}
use Rattle.trace_view.proofs.StepLemmas.{drop-past}
use Rattle.trace_view.proofs.GapLemmas.{Round, fits_joined}

-- ---- lists of runs with the same contents

contents-first : (x y : Run) (xs ys : List Run) → contents (x ∷ xs) ≡ contents (y ∷ ys) → (x.at ≡ y.at) × ((x.bytes.items ≡ y.bytes.items) × (contents xs ≡ contents ys))
contents-first x y xs ys e =
    let head : Path (ℕ × List ℕ) (x.at, x.bytes.items) (y.at, y.bytes.items) = cc in
    let rest : contents xs ≡ contents ys = cc in
    (ap (λ (p : ℕ × List ℕ). p.0) head, (ap (λ (p : ℕ × List ℕ). p.1) head, rest))

ends_alike : (x y : Run) → x.at ≡ y.at → x.bytes.items ≡ y.bytes.items → end_of x ≡ end_of y
ends_alike x y e f = omega (arith, e, ap length f)

pub FitFrom-contents : (from len : ℕ) (xs ys : List Run) → contents xs ≡ contents ys → FitFrom from xs len → FitFrom from ys len
FitFrom-contents from len [] [] e h = h
FitFrom-contents from len [] (y ∷ ys) e h = cc
FitFrom-contents from len (x ∷ xs) [] e h = cc
FitFrom-contents from len (x ∷ xs) (y ∷ ys) e h =
    let k = contents-first x y xs ys e in
    let ends = ends_alike x y k.0 k.1.0 in
    (omega (arith, k.0, h.0), (omega (arith, ap length k.1.0, h.1.0), subst (λ (n : ℕ). FitFrom n ys len) ends (FitFrom-contents (end_of x) len xs ys k.1.1 h.1.1)))

pub written_from-contents : (from : ℕ) (base : List ℕ) (xs ys : List Run) → contents xs ≡ contents ys → bytes_with_runs_from from base xs ≡ bytes_with_runs_from from base ys
written_from-contents from base [] [] e = refl
written_from-contents from base [] (y ∷ ys) e = cc
written_from-contents from base (x ∷ xs) [] e = cc
written_from-contents from base (x ∷ xs) (y ∷ ys) e =
    let k = contents-first x y xs ys e in
    let ends = ends_alike x y k.0 k.1.0 in
    let rest = written_from-contents (end_of x) base xs ys k.1.1 in
    let gap : slice_range base from x.at ≡ slice_range base from y.at = ap (λ (n : ℕ). slice_range base from n) k.0 in
    let here : bytes_with_runs_from (end_of x) base ys ≡ bytes_with_runs_from (end_of y) base ys = ap (λ (n : ℕ). bytes_with_runs_from n base ys) ends in
    let bytes : x.bytes.items ≡ y.bytes.items = k.1.0 in
    cc

pub length-contents : (xs ys : List Run) → contents xs ≡ contents ys → length xs ≡ length ys
length-contents [] [] e = refl
length-contents [] (y ∷ ys) e = cc
length-contents (x ∷ xs) [] e = cc
length-contents (x ∷ xs) (y ∷ ys) e = let k = contents-first x y xs ys e in let rest = length-contents xs ys k.1.1 in omega arith

-- ---- the bytes in front of a place between runs, and behind it

-- runs that all begin behind the place
drop-written_later : (from m : ℕ) (base : List ℕ) (ys : List Run) → from ≤ m → FitFrom m ys (length base) → drop (m - from) (bytes_with_runs_from from base ys) ≡ bytes_with_runs_from m base ys
drop-written_later from m base [] le h = let e : from + (m - from) ≡ m = omega arith in drop-drop (m - from) from base ∙ ap (λ (n : ℕ). drop n base) e
drop-written_later from m base (y ∷ ys) le h =
    let inside : end_of y ≤ length base = FitFrom-le (end_of y) (length base) ys h.1.1 in
    let rest : List ℕ = y.bytes.items ++ bytes_with_runs_from (end_of y) base ys in
    let long : m - from ≤ length (slice_range base from y.at) = omega (arith, h.0, length-take (y.at - from) (drop from base), length-drop from base) in
    let split : y.at - from ≡ (m - from) + (y.at - m) = omega (arith, h.0) in
    let e : from + (m - from) ≡ m = omega arith in
    drop-append-le (m - from) (slice_range base from y.at) rest long
    ∙ ap (λ (xs : List ℕ). xs ++ rest)
    (ap (λ (n : ℕ). drop (m - from) (take n (drop from base))) split
    ∙ (drop-take (m - from) (y.at - m) (drop from base)
    ∙ ap (take (y.at - m)) (drop-drop (m - from) from base ∙ ap (λ (n : ℕ). drop n base) e)))

take-written_later : (from m : ℕ) (base : List ℕ) (ys : List Run) → from ≤ m → FitFrom m ys (length base) → take (m - from) (bytes_with_runs_from from base ys) ≡ slice_range base from m
take-written_later from m base [] le h = refl
take-written_later from m base (y ∷ ys) le h =
    let inside : end_of y ≤ length base = FitFrom-le (end_of y) (length base) ys h.1.1 in
    let rest : List ℕ = y.bytes.items ++ bytes_with_runs_from (end_of y) base ys in
    let long : m - from ≤ length (slice_range base from y.at) = omega (arith, h.0, length-take (y.at - from) (drop from base), length-drop from base) in
    let within : m - from ≤ y.at - from = omega (arith, h.0) in
    take-append-le (m - from) (slice_range base from y.at) rest long ∙ take-take (m - from) (y.at - from) (drop from base) within

-- how long the bytes up to the end of a run are
front-length : (from : ℕ) (base : List ℕ) (x : Run) → from ≤ x.at → end_of x ≤ length base → length (slice_range base from x.at ++ x.bytes.items) ≡ end_of x - from
front-length from base x le inside = omega (arith, length-append (slice_range base from x.at) x.bytes.items, length-take (x.at - from) (drop from base), length-drop from base)

drop-written : (from m : ℕ) (base : List ℕ) (xs ys : List Run) → from ≤ m → FitFrom from xs m → FitFrom m ys (length base) → drop (m - from) (bytes_with_runs_from from base (xs ++ ys)) ≡ bytes_with_runs_from m base ys
drop-written from m base [] ys le h k = drop-written_later from m base ys le k
drop-written from m base (x ∷ xs) ys le h k =
    let ends : end_of x ≤ m = FitFrom-le (end_of x) m xs h.1.1 in
    let whole : m ≤ length base = FitFrom-le m (length base) ys k in
    let inside : end_of x ≤ length base = omega arith in
    let front = front-length from base x h.0 inside in
    let past : length (slice_range base from x.at ++ x.bytes.items) ≤ m - from = omega (arith, h.0) in
    let left : m - from - length (slice_range base from x.at ++ x.bytes.items) ≡ m - end_of x = omega (arith, h.0) in
    let rest : List ℕ = bytes_with_runs_from (end_of x) base (xs ++ ys) in
    ap (drop (m - from)) (sym (append_assoc (slice_range base from x.at) x.bytes.items rest))
    ∙ (drop-past (slice_range base from x.at ++ x.bytes.items) rest (m - from) past
    ∙ (ap (λ (n : ℕ). drop n rest) left ∙ drop-written (end_of x) m base xs ys ends h.1.1 k))

-- with a run at the place, and others behind it
written-exchanged : (from : ℕ) (base : List ℕ) (xs ys zs : List Run) (r : Run) → from ≤ r.at → FitFrom from xs r.at → FitFrom r.at ys (length base)
    → bytes_with_runs_from from base (xs ++ r ∷ zs) ≡ take (r.at - from) (bytes_with_runs_from from base (xs ++ ys)) ++ (r.bytes.items ++ bytes_with_runs_from (end_of r) base zs)
written-exchanged from base [] ys zs r le h k =
    ap (λ (bs : List ℕ). bs ++ (r.bytes.items ++ bytes_with_runs_from (end_of r) base zs)) (sym (take-written_later from r.at base ys le k))
written-exchanged from base (x ∷ xs) ys zs r le h k =
    let ends : end_of x ≤ r.at = FitFrom-le (end_of x) r.at xs h.1.1 in
    let whole : r.at ≤ length base = FitFrom-le r.at (length base) ys k in
    let inside : end_of x ≤ length base = omega arith in
    let front = front-length from base x h.0 inside in
    let gap : List ℕ = slice_range base from x.at in
    let rest : List ℕ = bytes_with_runs_from (end_of x) base (xs ++ ys) in
    let new : List ℕ = r.bytes.items ++ bytes_with_runs_from (end_of r) base zs in
    let split : r.at - from ≡ length (gap ++ x.bytes.items) + (r.at - end_of x) = omega (arith, h.0) in
    let taken : take (r.at - from) (gap ++ (x.bytes.items ++ rest)) ≡ (gap ++ x.bytes.items) ++ take (r.at - end_of x) rest =
    ap (λ (n : ℕ). take n (gap ++ (x.bytes.items ++ rest))) split
    ∙ (ap (take (length (gap ++ x.bytes.items) + (r.at - end_of x))) (sym (append_assoc gap x.bytes.items rest))
    ∙ take-append-add (gap ++ x.bytes.items) rest (r.at - end_of x)) in
    let more = written-exchanged (end_of x) base xs ys zs r ends h.1.1 k in
    ap (λ (bs : List ℕ). gap ++ (x.bytes.items ++ bs)) more
    ∙ (sym (append_assoc gap x.bytes.items (take (r.at - end_of x) rest ++ new))
    ∙ (sym (append_assoc (gap ++ x.bytes.items) (take (r.at - end_of x) rest) new)
    ∙ ap (λ (bs : List ℕ). bs ++ new) (sym taken)))

-- ---- the put

-- a part is two parts
take-slice : (bytes : List ℕ) (a b : ℕ) → a ≤ b → take a bytes ++ slice_range bytes a b ≡ take b bytes
take-slice bytes a b le =
    let e : a + (b - a) ≡ b = omega arith in
    sym (take-add a (b - a) bytes) ∙ ap (λ (n : ℕ). take n bytes) e

slice-drop : (bytes : List ℕ) (a b : ℕ) → a ≤ b → slice_range bytes a b ++ drop b bytes ≡ drop a bytes
slice-drop bytes a b le =
    let e : a + (b - a) ≡ b = omega arith in
    ap (λ (bs : List ℕ). slice_range bytes a b ++ bs) (ap (λ (n : ℕ). drop n bytes) (sym e) ∙ sym (drop-drop (b - a) a bytes)) ∙ take-append-drop (b - a) (drop a bytes)

-- bytes in place of others, written with more of the old ones round them
splice-wider : (bytes new : List ℕ) (start at stop : ℕ) → start ≤ at → at + length new ≤ stop
    → take start bytes ++ ((slice_range bytes start at ++ (new ++ slice_range bytes (at + length new) stop)) ++ drop stop bytes) ≡ splice bytes at (length new) new
splice-wider bytes new start at stop le lt =
    let a = slice_range bytes start at in
    let b = slice_range bytes (at + length new) stop in
    let end : b ++ drop stop bytes ≡ drop (at + length new) bytes = slice-drop bytes (at + length new) stop lt in
    let front : take start bytes ++ a ≡ take at bytes = take-slice bytes start at le in
    simp append_assoc
    (sym (append_assoc (take start bytes) a (new ++ (b ++ drop stop bytes)))
    ∙ (ap (λ (bs : List ℕ). bs ++ (new ++ (b ++ drop stop bytes))) front ∙ ap (λ (bs : List ℕ). take at bytes ++ (new ++ bs)) end))

-- ---- what one of the runs shows

run-shown : (base : List ℕ) (rs : List Run) (i : ℕ) (r : Run) → Round rs (length base) i r → drop r.at (bytes_with_runs base rs) ≡ r.bytes.items ++ bytes_with_runs_from (end_of r) base (drop (i + 1) rs)
run-shown base rs i r here =
    let split : rs ≡ take i rs ++ r ∷ drop (i + 1) rs = sym (take-append-drop i rs) ∙ ap (λ (xs : List Run). take i rs ++ xs) here.rest in
    let start : r.at - 0 ≡ r.at = omega arith in
    let none : r.at - r.at ≡ 0 = omega arith in
    let rest : List ℕ = r.bytes.items ++ bytes_with_runs_from (end_of r) base (drop (i + 1) rs) in
    ap (λ (xs : List Run). drop r.at (bytes_with_runs base xs)) split
    ∙ (ap (λ (n : ℕ). drop n (bytes_with_runs base (take i rs ++ r ∷ drop (i + 1) rs))) (sym start)
    ∙ (drop-written 0 r.at base (take i rs) (r ∷ drop (i + 1) rs) (omega arith) here.before (omega arith, (here.some, here.behind))
    ∙ ap (λ (n : ℕ). take n (drop r.at base) ++ rest) none))

front-shown : (base : List ℕ) (rs : List Run) (i at : ℕ) (r : Run) → Round rs (length base) i r → at ≤ end_of r → slice_range (bytes_with_runs base rs) r.at at ≡ take (at - r.at) r.bytes.items
front-shown base rs i at r here le =
    let within : at - r.at ≤ length r.bytes.items = omega arith in
    ap (take (at - r.at)) (run-shown base rs i r here) ∙ take-append-le (at - r.at) r.bytes.items _ within

back-shown : (base : List ℕ) (rs : List Run) (i end : ℕ) (r : Run) → Round rs (length base) i r → r.at ≤ end → end ≤ end_of r → slice_range (bytes_with_runs base rs) end (end_of r) ≡ drop (end - r.at) r.bytes.items
back-shown base rs i end r here begins le =
    let within : end - r.at ≤ length r.bytes.items = omega arith in
    let place : r.at + (end - r.at) ≡ end = omega arith in
    let rest : List ℕ = bytes_with_runs_from (end_of r) base (drop (i + 1) rs) in
    let behind : drop end (bytes_with_runs base rs) ≡ drop (end - r.at) r.bytes.items ++ rest =
    ap (λ (n : ℕ). drop n (bytes_with_runs base rs)) (sym place) ∙ (sym (drop-drop (end - r.at) r.at (bytes_with_runs base rs))
    ∙ (ap (drop (end - r.at)) (run-shown base rs i r here) ∙ drop-append-le (end - r.at) r.bytes.items rest within)) in
    let count : end_of r - end ≡ length (drop (end - r.at) r.bytes.items) = omega (arith, length-drop (end - r.at) r.bytes.items) in
    ap (take (end_of r - end)) behind ∙ (ap (λ (n : ℕ). take n (drop (end - r.at) r.bytes.items ++ rest)) count ∙ take-append_seam (drop (end - r.at) r.bytes.items) rest)

-- nothing lies between a place and itself
pub show-none : (rs : List Run) (len at : ℕ) → Show rs len at at []
show-none rs len at =
    let none : at - at ≡ 0 = omega arith in
    record { size = omega arith; shown = λ base e. ap (λ (n : ℕ). take n (drop at (bytes_with_runs base rs))) none }

-- the front of a run, up to a place that it reaches, from the place on or from its start
pub show-front : (rs : List Run) (len i at : ℕ) (r : Run) → Round rs len i r → r.at ≤ at → at ≤ end_of r → Show rs len r.at at (take (at - r.at) r.bytes.items)
show-front rs len i at r here begins le = record {
  size = omega (arith, length-take (at - r.at) r.bytes.items);
  shown = λ base e. front-shown base rs i at r (subst (λ (n : ℕ). Round rs n i r) (sym e) here) le;
}

-- the same from the lower of its start and the place on
pub show-lower : (rs : List Run) (len i at place : ℕ) (r : Run) → Round rs len i r → (place ≡ r.at) ⊎ (place ≡ at) → place ≤ at → at ≤ end_of r → Show rs len place at (take (at - place) r.bytes.items)
show-lower rs len i at place r here (inl e) le reached =
    subst (λ (n : ℕ). Show rs len n at (take (at - n) r.bytes.items)) (sym e) (show-front rs len i at r here (omega arith) reached)
show-lower rs len i at place r here (inr e) le reached =
    let none : at - place ≡ 0 = omega arith in
    subst (λ (n : ℕ). Show rs len place at (take n r.bytes.items)) (sym none) (subst (λ (n : ℕ). Show rs len n at []) (sym e) (show-none rs len at))

-- the back of a run, from a place that it reaches on
pub show-back : (rs : List Run) (len i end : ℕ) (r : Run) → Round rs len i r → r.at ≤ end → end ≤ end_of r → Show rs len end (end_of r) (drop (end - r.at) r.bytes.items)
show-back rs len i end r here begins le = record {
  size = omega (arith, length-drop (end - r.at) r.bytes.items);
  shown = λ base e. back-shown base rs i end r (subst (λ (n : ℕ). Round rs n i r) (sym e) here) begins le;
}

-- ---- the new run in its place

put-shown : (base new : List ℕ) (runs : List Run) (first last start at stop : ℕ) (r : Run) → Fit runs (length base) → IsGap runs (length base) first start → IsGap runs (length base) last stop
    → start ≤ at → at + length new ≤ stop → r.at ≡ start → end_of r ≡ stop
    → r.bytes.items ≡ slice_range (bytes_with_runs base runs) start at ++ (new ++ slice_range (bytes_with_runs base runs) (at + length new) stop)
    → bytes_with_runs base (take first runs ++ r ∷ drop last runs) ≡ splice (bytes_with_runs base runs) at (length new) new
put-shown base new runs first last start at stop r fit front back le lt here ends is =
    let old : List ℕ = bytes_with_runs base runs in
    let before : FitFrom 0 (take first runs) r.at = subst (λ (n : ℕ). FitFrom 0 (take first runs) n) (sym here) front.before in
    let next : FitFrom r.at (drop first runs) (length base) = subst (λ (n : ℕ). FitFrom n (drop first runs) (length base)) (sym here) front.behind in
    let shown = written-exchanged 0 base (take first runs) (drop first runs) (drop last runs) r (omega arith) before next in
    let halves : bytes_with_runs_from 0 base (take first runs ++ drop first runs) ≡ old = ap (bytes_with_runs_from 0 base) (take-append-drop first runs) in
    let same_start : r.at - 0 ≡ start = omega arith in
    let same_stop : stop - 0 ≡ stop = omega arith in
    let front_bytes : take (r.at - 0) (bytes_with_runs_from 0 base (take first runs ++ drop first runs)) ≡ take start old =
    ap (λ (k : ℕ). take k (bytes_with_runs_from 0 base (take first runs ++ drop first runs))) same_start ∙ ap (take start) halves in
    let behind_stop : drop stop old ≡ bytes_with_runs_from stop base (drop last runs) =
    ap (λ (xs : List Run). drop stop (bytes_with_runs_from 0 base xs)) (sym (take-append-drop last runs))
    ∙ (ap (λ (k : ℕ). drop k (bytes_with_runs_from 0 base (take last runs ++ drop last runs))) (sym same_stop)
    ∙ drop-written 0 stop base (take last runs) (drop last runs) (omega arith) back.before back.behind) in
    let back_bytes : bytes_with_runs_from (end_of r) base (drop last runs) ≡ drop stop old =
    ap (λ (k : ℕ). bytes_with_runs_from k base (drop last runs)) ends ∙ sym behind_stop in
    shown ∙ ((cc) ∙ splice-wider old new start at stop le lt)

-- the runs with the new one between two gaps fit, and show the bytes with the new ones in their place
pub record IsPut (len : ℕ) (runs : List Run) (first last : ℕ) (r : Run) (at : ℕ) (new : List ℕ) : Type 0 where
  pub fit : Fit (take first runs ++ r ∷ drop last runs) len
  pub bytes : ShowPut len runs at new (take first runs ++ r ∷ drop last runs)

pub run-put : (len : ℕ) (new over_front over_back : List ℕ) (runs : List Run) (first last start at stop : ℕ) (r : Run) → Fit runs len → IsGap runs len first start → IsGap runs len last stop
    → Show runs len start at over_front → Show runs len (at + length new) stop over_back → 0 < length new → r.at ≡ start
    → r.bytes.items ≡ over_front ++ (new ++ over_back) → IsPut len runs first last r at new
run-put len new over_front over_back runs first last start at stop r fit front back before behind some here is =
    let ends : end_of r ≡ stop = omega (arith, ap length is, length-append over_front (new ++ over_back), length-append new over_back, before.size, behind.size) in
    let full : 0 < length r.bytes.items = omega (arith, ap length is, length-append over_front (new ++ over_back), length-append new over_back) in
    let in_front : FitFrom 0 (take first runs) r.at = subst (λ (n : ℕ). FitFrom 0 (take first runs) n) (sym here) front.before in
    let others : FitFrom (end_of r) (drop last runs) len = subst (λ (n : ℕ). FitFrom n (drop last runs) len) (sym ends) back.behind in
    record {
      fit = fits_joined 0 r.at len (take first runs) r (drop last runs) (omega arith) full in_front others;
      bytes = λ base e.
          let parts : r.bytes.items ≡ slice_range (bytes_with_runs base runs) start at ++ (new ++ slice_range (bytes_with_runs base runs) (at + length new) stop) =
          is ∙ (ap (λ (xs : List ℕ). xs ++ (new ++ over_back)) (sym (before.shown base e)) ∙ ap (λ (xs : List ℕ). slice_range (bytes_with_runs base runs) start at ++ (new ++ xs)) (sym (behind.shown base e))) in
          put-shown base new runs first last start at stop r
          (subst (λ (n : ℕ). Fit runs n) (sym e) fit) (subst (λ (n : ℕ). IsGap runs n first start) (sym e) front) (subst (λ (n : ℕ). IsGap runs n last stop) (sym e) back)
          (omega (arith, before.size)) (omega (arith, behind.size)) here ends parts;
    }

-- how many runs there are then
pub length-put : (runs list : List Run) (first last front behind : ℕ) (r : Run) → contents list ≡ contents (take first runs ++ r ∷ drop last runs) → first ≤ length runs → first ≡ front → last + behind ≡ length runs → length list ≡ front + 1 + behind
length-put runs list first last front behind r e le counted counted' =
    omega (arith, length-contents list (take first runs ++ r ∷ drop last runs) e, length-append (take first runs) (r ∷ drop last runs), length-take first runs, length-drop last runs)
