-- Bytes that no run touches.
use Rattle.std.proofs.Common.{◌≡◌, ℕ, ◌+◌, ◌-◌, ◌≤◌, Bool, true, false, ◌⊎◌, inl, inr, List, [], ◌∷◌, ◌++◌, length, take, drop, sym, ap, ◌∙◌, arith, length-append, refl, append_assoc}
use Rattle.std.specs.Prelude.{nat_le, ◌&&◌, ◌||◌, slice_range}
use Rattle.std.specs.List.{list_all}
use Rattle.std.proofs.lemmas.List.{drop-drop, drop-take, take-take, length-take, length-drop, drop-append-le, take-append-le}
use Rattle.std.proofs.lemmas.Bool.{leb-true}
use Rattle.std.proofs.Math.Seq.{drop-append-add}
use Rattle.trace_view.specs.declared.run.Run.{Run}
use Rattle.trace_view.specs.Runs.{FitFrom, Fit, bytes_with_runs_from, bytes_with_runs, end_of, is_apart}
use Rattle.trace_view.proofs.WrittenLemmas.{FitFrom-le}

-- both tests hold
pub both : (a b : Bool) → (a && b) ≡ true → (a ≡ true) × (b ≡ true)
both true b h = (refl, h)
both false b h = cc

-- a run that leaves them alone is behind them or before them
apart_sides : (from to : ℕ) (r : Run) → is_apart from to r ≡ true → (to ≤ r.at) ⊎ (end_of r ≤ from)
apart_sides from to r h = side (nat_le to r.at) refl h where
  side : (b : Bool) → nat_le to r.at ≡ b → (b || nat_le (end_of r) from) ≡ true → (to ≤ r.at) ⊎ (end_of r ≤ from)
  side true e g = inl (leb-true to r.at e)
  side false e g = inr (leb-true (end_of r) from g)

-- n bytes from place m of a list that begins with the first k of the others
part_of_front : (m n k : ℕ) (xs ys : List ℕ) → m + n ≤ k → k ≤ length xs → take n (drop m (take k xs ++ ys)) ≡ take n (drop m xs)
part_of_front m n k xs ys h inside =
    let long : m ≤ length (take k xs) = omega (arith, length-take k xs) in
    let rest : n ≤ length (drop m (take k xs)) = omega (arith, length-take k xs, length-drop m (take k xs)) in
    let split : k ≡ m + (k - m) = omega arith in
    let room : n ≤ k - m = omega arith in
    ap (take n) (drop-append-le m (take k xs) ys long)
    ∙ (take-append-le n (drop m (take k xs)) ys rest
    ∙ (ap (λ i. take n (drop m (take i xs))) split
    ∙ (ap (take n) (drop-take m (k - m) xs) ∙ take-take n (k - m) (drop m xs) room)))

-- past the front
past_front : (n : ℕ) (xs ys : List ℕ) → length xs ≤ n → drop n (xs ++ ys) ≡ drop (n - length xs) ys
past_front n xs ys h = let e : n ≡ length xs + (n - length xs) = omega arith in ap (λ m. drop m (xs ++ ys)) e ∙ drop-append-add xs ys (n - length xs)

plain_from : (p : ℕ) (base : List ℕ) (rs : List Run) (from to : ℕ) → FitFrom p rs (length base) → p ≤ from → from ≤ to → to ≤ length base → list_all (is_apart from to) rs ≡ true → take (to - from) (drop (from - p) (bytes_with_runs_from p base rs)) ≡ take (to - from) (drop from base)
plain_from p base [] from to fit start order inside tests' =
    let e : p + (from - p) ≡ from = omega arith in
    ap (take (to - from)) (drop-drop (from - p) p base ∙ ap (λ n. drop n base) e)
plain_from p base (r ∷ rs) from to fit start order inside tests' =
    let tests = both (is_apart from to r) (list_all (is_apart from to) rs) tests' in
    let within : end_of r ≤ length base = FitFrom-le (end_of r) (length base) rs fit.1.1 in
    sides (apart_sides from to r tests.0) within (λ h. plain_from (end_of r) base rs from to fit.1.1 h order inside tests.1)
  where
    rest : List ℕ
    rest = r.bytes.items ++ bytes_with_runs_from (end_of r) base rs

    sides : ((to ≤ r.at) ⊎ (end_of r ≤ from)) → end_of r ≤ length base → (end_of r ≤ from → take (to - from) (drop (from - end_of r) (bytes_with_runs_from (end_of r) base rs)) ≡ take (to - from) (drop from base))
        → take (to - from) (drop (from - p) (slice_range base p r.at ++ rest)) ≡ take (to - from) (drop from base)
    sides (inl before) within more =
        let gap : from - p + (to - from) ≤ r.at - p = omega arith in
        let long : r.at - p ≤ length (drop p base) = omega (arith, length-drop p base) in
        let e : p + (from - p) ≡ from = omega arith in
        part_of_front (from - p) (to - from) (r.at - p) (drop p base) rest gap long
        ∙ ap (take (to - from)) (drop-drop (from - p) p base ∙ ap (λ n. drop n base) e)
    sides (inr behind) within more =
        let front : length (slice_range base p r.at ++ r.bytes.items) ≡ end_of r - p = omega (arith, length-append (slice_range base p r.at) r.bytes.items, length-take (r.at - p) (drop p base), length-drop p base, fit.0) in
        let past : length (slice_range base p r.at ++ r.bytes.items) ≤ from - p = omega arith in
        let left : from - p - length (slice_range base p r.at ++ r.bytes.items) ≡ from - end_of r = omega arith in
        ap (λ xs. take (to - from) (drop (from - p) xs)) (sym (append_assoc (slice_range base p r.at) r.bytes.items (bytes_with_runs_from (end_of r) base rs)))
        ∙ (ap (take (to - from)) (past_front (from - p) (slice_range base p r.at ++ r.bytes.items) (bytes_with_runs_from (end_of r) base rs) past ∙ ap (λ n. drop n (bytes_with_runs_from (end_of r) base rs)) left)
        ∙ more behind)

-- bytes that no run touches are those of the base
pub slice_range-written : (base : List ℕ) (rs : List Run) (from to : ℕ) → Fit rs (length base) → from ≤ to → to ≤ length base → list_all (is_apart from to) rs ≡ true → slice_range (bytes_with_runs base rs) from to ≡ slice_range base from to
slice_range-written base rs from to fit order inside tests =
    let e : from ≡ from - 0 = omega arith in
    ap (λ n. take (to - from) (drop n (bytes_with_runs base rs))) e ∙ plain_from 0 base rs from to fit (omega arith) order inside tests
