-- How often differences were counted, once one more is.
use Rattle.std.specs.Prelude.{◌≡◌, ◌&&◌, ℕ, zero, suc, ◌+◌, ◌<◌, ◌≤◌, Bool, true, false, cond, List, length, replicate, Some, unwrap_or, refl}
use Rattle.std.proofs.Common.{arith, sym, ap, ap₂, ◌∙◌, get_or, set, eqb, int_eq, true≢false}
use Rattle.std.specs.Map.{lookup}
use Rattle.std.specs.BTreeMap.{is_at}
use Rattle.std.specs.Ordering.{is_eq}
use Rattle.std.specs.Cmp.{Equal-is}
use Rattle.std.proofs.lemmas.Cmp.{tied_itself}
use Rattle.std.proofs.lemmas.List.Sums.{sum_by-cons, sum_by-set, sum_by_more_le}
use Rattle.key_counts.specs.Counts.{count_of}
use Rattle.key_counts.specs.RatioOrder.{ratio_cmp, ratio_ties}
use Rattle.key_counts.proofs.KeyLemmas.{is_eq-pair}
use Rattle.position_differences.proofs.CommonestLemmas.{difference_total, exact_differences}
use Rattle.position_differences.specs.declared.difference.Difference.{Difference}
use Rattle.position_differences.specs.Differences.{difference_cmp}
use Rattle.survey_cells.specs.Lately.{counted_in}

-- how often a pair counts a difference
abbrev pub counts : Difference → Difference × ℕ → ℕ
counts q e = cond (is_eq (difference_cmp e.0 q)) e.1 0

nothing : (b : Bool) → ◌≡◌ {A = ℕ} (cond b 0 0) 0
nothing true = refl
nothing false = refl

-- places of none count nothing
pub none_counted : (n : ℕ) (d q : Difference) → counted_in (replicate n (d, 0)) q ≡ 0
none_counted zero d q = refl
none_counted (suc n) d q = omega (arith, sum_by-cons (counts q) (d, 0) (replicate n (d, 0)), nothing (is_eq (difference_cmp d q)), none_counted n d q)

-- one of them counts no more than all
pub one_within : (es : List (Difference × ℕ)) (i : ℕ) (e : Difference × ℕ) (q : Difference) → i < length es → e ≡ get_or es i e → counts q e ≤ counted_in es q
one_within es i e q inside is =
    let one : counts q e ≡ counts q (get_or es i e) = ap (counts q) is in
    omega (arith, sum_by_more_le (counts q) es i e inside)

-- a number is counted where it stands in the place of another one
pub replaced : (es : List (Difference × ℕ)) (i : ℕ) (e f : Difference × ℕ) (q : Difference) → i < length es → e ≡ get_or es i e → counted_in (set es i f) q + counts q e ≡ counted_in es q + counts q f
replaced es i e f q inside is =
    let one : counts q e ≡ counts q (get_or es i e) = ap (counts q) is in
    omega (arith, sum_by-set (counts q) es i f e inside)

one_more : (b : Bool) (n : ℕ) → ◌≡◌ {A = ℕ} (cond b (n + 1) 0) (cond b n 0 + cond b 1 0)
one_more true n = refl
one_more false n = refl

-- one more of what stands at a place
pub raised : (es : List (Difference × ℕ)) (i : ℕ) (d : Difference) (n : ℕ) (q : Difference) → i < length es → (d, n) ≡ get_or es i (d, n)
    → counted_in (set es i (d, n + 1)) q ≡ counted_in es q + cond (is_eq (difference_cmp d q)) 1 0
raised es i d n q inside is = omega (arith, replaced es i (d, n) (d, n + 1) q inside is, one_more (is_eq (difference_cmp d q)) n)

all_four : (a b c d : Bool) → ((a && b) && (c && d)) ≡ true → ((a && b) ≡ true) × ((c && d) ≡ true)
all_four true true c d h = (refl, h)
all_four true false c d h = absurd (true≢false (sym h))
all_four false b c d h = absurd (true≢false (sym h))

-- differences with the same parts are one
pub same_parts : (a b : Difference) → ((int_eq a.x.num b.x.num && eqb a.x.den b.x.den) && (int_eq a.y.num b.y.num && eqb a.y.den b.y.den)) ≡ true → a ≡ b
same_parts a b h =
    let parts = all_four (int_eq a.x.num b.x.num) (eqb a.x.den b.x.den) (int_eq a.y.num b.y.num) (eqb a.y.den b.y.den) h in
    let x : is_eq (ratio_cmp a.x b.x) ≡ true = sym (ratio_ties a.x b.x) ∙ parts.0 in
    let y : is_eq (ratio_cmp a.y b.y) ≡ true = sym (ratio_ties a.y b.y) ∙ parts.1 in
    let both : is_eq (difference_cmp a b) ≡ true = is_eq-pair (ratio_cmp a.x b.x) (ratio_cmp a.y b.y) ∙ ap₂ (λ s t. s && t) x y in
    exact_differences a b ((Equal-is (difference_cmp a b)).0 both)

-- a place counts its own difference
pub own : (d : Difference) (n : ℕ) → counts d (d, n) ≡ n
own d n = ap (λ o. cond (is_eq o) n 0) (tied_itself difference_total d)

-- a difference that is counted so often more
pub counted_more : (k q : Difference) (es fs : List (Difference × ℕ)) (v n : ℕ) → lookup (is_at (difference_cmp q)) fs ≡ cond (is_eq (difference_cmp k q)) (Some v) (lookup (is_at (difference_cmp q)) es)
    → v ≡ count_of difference_cmp es k + n → count_of difference_cmp fs q ≡ count_of difference_cmp es q + cond (is_eq (difference_cmp k q)) n 0
counted_more k q es fs v n looked number = ap (λ o. unwrap_or o 0) looked ∙ go (is_eq (difference_cmp k q)) refl
  where
    go : (b : Bool) → is_eq (difference_cmp k q) ≡ b → unwrap_or (cond b (Some v) (lookup (is_at (difference_cmp q)) es)) 0 ≡ count_of difference_cmp es q + cond b n 0
    go true e =
        let same : k ≡ q = exact_differences k q ((Equal-is (difference_cmp k q)).0 e) in
        number ∙ ap (λ (d : Difference). count_of difference_cmp es d + n) same
    go false e = omega arith
