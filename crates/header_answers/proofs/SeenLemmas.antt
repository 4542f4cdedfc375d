-- What is seen of numbers, one trace after another.
use Rattle.std.proofs.Common.{◌≡◌, ℕ, zero, suc, ◌+◌, ◌-◌, ◌<◌, ◌≤◌, ℤ, pos, Bool, true, false, ◌||◌, not, List, [], ◌∷◌, ◌++◌, length, take, drop, map, get_or, Option, Some, None, refl, sym, ap, ap₂, ◌∙◌, arith}
use Rattle.std.specs.Prelude.{filter_map, option_to_list, slice_set}
use Rattle.std.proofs.Math.ListN.{drop_of_length-le}
use Rattle.std.proofs.lemmas.List.{append_assoc, append-nil, drop_more, drop-set-lt, take_all, take_more, take_more_set}
use Rattle.std.proofs.lemmas.List.Elements.{filter_map-append}
use Rattle.std.proofs.lemmas.List.Folds.{list_any-append}
use Rattle.std.specs.Ordering.{int_eq}
use Rattle.std.specs.List.{range_with_len, cons_option}
use Rattle.field_map.specs.declared.place.Place.{Place}
use Rattle.field_map.specs.Pairs.{Pairs}
use Rattle.frame_cut.specs.declared.file_head.Head.{Head}
use Rattle.frame_cut.specs.Traces.{trace_at}
use Rattle.frame_cut.specs.Volume.{Volume}
use Rattle.trace_view.specs.Values.{value_of}
use Rattle.trace_record.proofs.StatisticsLemmas.{least_of-append, greatest_of-append}
use Rattle.bench_rules.specs.ChosenQueries.{extremes_of_each, numbers_of_each}
use Rattle.bench_rules.specs.Headers.{extremes_of, extremes_unless_zero, some_number, last_from, with_name, extremes_in}
use Rattle.header_answers.specs.declared.seen.Seen.{Seen}
use Rattle.header_answers.specs.Seen.{seen_of, seen_with, seen_each, shown, shown_of, extremes_with}

-- the numbers at the place of the first k traces from a on
abbrev pub numbers_so_far : Volume → ℕ → ℕ → Place → List ℤ
numbers_so_far v a k place = filter_map (λ p. value_of v.head (trace_at v p) place) (range_with_len a k)

-- ---- one number more

last_behind : (x : ℤ) (xs : List ℤ) (y : ℤ) → last_from x (xs ++ y ∷ []) ≡ y
last_behind x [] y = refl
last_behind x (z ∷ zs) y = last_behind z zs y

some_behind : (xs : List ℤ) (y : ℤ) → some_number (xs ++ y ∷ []) ≡ (some_number xs || not (int_eq y (pos 0)))
some_behind xs y = list_any-append (λ x. not (int_eq x (pos 0))) xs (y ∷ []) ∙ ap (λ b. some_number xs || b) (or_false (not (int_eq y (pos 0))))
  where
    or_false : (b : Bool) → (b || false) ≡ b
    or_false true = refl
    or_false false = refl

extremes_behind : (xs : List ℤ) (y : ℤ) → Some (extremes_with (extremes_of xs) y) ≡ extremes_of (xs ++ y ∷ [])
extremes_behind [] y = refl
extremes_behind (x ∷ xs) y = λ i. Some (record {
  least = sym (least_of-append x xs y []) i;
  greatest = sym (greatest_of-append x xs y []) i;
  first = x;
  last = sym (last_behind x xs y) i;
})

pub one_seen : (xs : List ℤ) (y : ℤ) → seen_with (seen_of xs) (Some y) ≡ seen_of (xs ++ y ∷ [])
one_seen xs y = λ i. record { extremes = extremes_behind xs y i; some = sym (some_behind xs y) i }

append_none : (xs : List ℤ) → xs ++ [] ≡ xs
append_none [] = refl
append_none (x ∷ xs) = ap (λ ys. x ∷ ys) (append_none xs)

any_seen : (xs : List ℤ) (o : Option ℤ) → seen_with (seen_of xs) o ≡ seen_of (xs ++ option_to_list o)
any_seen xs None = ap (λ ys. seen_of ys) (sym (append_none xs))
any_seen xs (Some y) = one_seen xs y

-- ---- one trace more

range_more : (a k : ℕ) → range_with_len a (k + 1) ≡ range_with_len a k ++ (a + k) ∷ []
range_more a zero = ap (λ (x : ℕ). x ∷ []) (let e : a ≡ a + 0 = omega arith in e)
range_more a (suc k) =
    let one : suc k + 1 ≡ suc (k + 1) = omega arith in
    let last : a + 1 + k ≡ a + suc k = omega arith in
    ap (λ (n : ℕ). range_with_len a n) one ∙ ap (λ ps. a ∷ ps) (range_more (a + 1) k) ∙ ap (λ (x : ℕ). a ∷ range_with_len (a + 1) k ++ x ∷ []) last

to_list : {X : Type 0} (o : Option X) → cons_option o [] ≡ option_to_list o
to_list None = refl
to_list (Some x) = refl

number_more : (v : Volume) (a k : ℕ) (place : Place) → numbers_so_far v a (k + 1) place ≡ numbers_so_far v a k place ++ option_to_list (value_of v.head (trace_at v (a + k)) place)
number_more v a k place =
    ap (λ ps. filter_map (λ p. value_of v.head (trace_at v p) place) ps) (range_more a k)
    ∙ filter_map-append (λ p. value_of v.head (trace_at v p) place) (range_with_len a k) ((a + k) ∷ [])
    ∙ ap (λ xs. numbers_so_far v a k place ++ xs) (to_list (value_of v.head (trace_at v (a + k)) place))

-- the numbers of each name with those of one trace more
names_seen : (h : Head) (t : List ℕ) (names : Pairs) (before after : Place → List ℤ) → ((place : Place) → after place ≡ before place ++ option_to_list (value_of h t place))
    → seen_each h t names (map (λ e. seen_of (before e.1)) names) ≡ map (λ e. seen_of (after e.1)) names
names_seen h t [] before after more = refl
names_seen h t (e ∷ es) before after more =
    ap₂ (λ s ss. s ∷ ss) (any_seen (before e.1) (value_of h t e.1) ∙ ap (λ xs. seen_of xs) (sym (more e.1))) (names_seen h t es before after more)

pub trace_seen : (v : Volume) (a k : ℕ) (names : Pairs)
    → seen_each v.head (trace_at v (a + k)) names (map (λ e. seen_of (numbers_so_far v a k e.1)) names) ≡ map (λ e. seen_of (numbers_so_far v a (k + 1) e.1)) names
trace_seen v a k names = names_seen v.head (trace_at v (a + k)) names (numbers_so_far v a k) (numbers_so_far v a (k + 1)) (number_more v a k)

-- of listed traces
listed_more : (v : Volume) (ps : List ℕ) (i d : ℕ) → i < length ps → (place : Place)
    → numbers_of_each v place (take (i + 1) ps) ≡ numbers_of_each v place (take i ps) ++ option_to_list (value_of v.head (trace_at v (get_or ps i d)) place)
listed_more v ps i d below place =
    let p : ℕ = get_or ps i d in
    ap (λ qs. numbers_of_each v place qs) (take_more ps i d below)
    ∙ filter_map-append (λ p. value_of v.head (trace_at v p) place) (take i ps) (p ∷ [])
    ∙ ap (λ xs. numbers_of_each v place (take i ps) ++ xs) (to_list (value_of v.head (trace_at v p) place))

pub listed_seen : (v : Volume) (ps : List ℕ) (i d : ℕ) (names : Pairs) → i < length ps
    → seen_each v.head (trace_at v (get_or ps i d)) names (map (λ e. seen_of (numbers_of_each v e.1 (take i ps))) names) ≡ map (λ e. seen_of (numbers_of_each v e.1 (take (i + 1) ps))) names
listed_seen v ps i d names below =
    names_seen v.head (trace_at v (get_or ps i d)) names (λ place. numbers_of_each v place (take i ps)) (λ place. numbers_of_each v place (take (i + 1) ps)) (listed_more v ps i d below)

-- ---- one name after another

pub name_seen : (h : Head) (t : List ℕ) (names : Pairs) (ss zs : List Seen) (i : ℕ) (d : List ℕ × Place) (c : Seen) (s : Seen) → i < length names → length ss ≡ length names
    → s ≡ seen_with (get_or ss i c) (value_of h t (get_or names i d).1)
    → take i ss ++ seen_each h t (drop i names) (drop i ss) ≡ zs
    → take (i + 1) (slice_set ss i s) ++ seen_each h t (drop (i + 1) names) (drop (i + 1) (slice_set ss i s)) ≡ zs
name_seen h t names ss zs i d c s below each is far =
    let inside : i < length ss = omega (arith, below, each) in
    ap₂ (λ us vs. us ++ seen_each h t (drop (i + 1) names) vs) (take_more_set ss i s inside) (drop-set-lt (i + 1) ss i s (omega arith))
    ∙ append_assoc (take i ss) (s ∷ []) (seen_each h t (drop (i + 1) names) (drop (i + 1) ss))
    ∙ ap (λ x. take i ss ++ (x ∷ seen_each h t (drop (i + 1) names) (drop (i + 1) ss))) is
    ∙ ap₂ (λ ns us. take i ss ++ seen_each h t ns us) (sym (drop_more names i d below)) (sym (drop_more ss i c inside))
    ∙ far

pub all_names_seen : (h : Head) (t : List ℕ) (names : Pairs) (ss zs : List Seen) (i : ℕ) → length names ≤ i → length ss ≡ length names
    → take i ss ++ seen_each h t (drop i names) (drop i ss) ≡ zs → ss ≡ zs
all_names_seen h t names ss zs i end each far =
    sym (take_all i ss (omega (arith, end, each)))
    ∙ sym (append-nil (take i ss))
    ∙ ap (λ ns. take i ss ++ seen_each h t ns (drop i ss)) (sym (drop_of_length-le names end))
    ∙ far

pub length_each : (h : Head) (t : List ℕ) (names : Pairs) (ss : List Seen) → length ss ≡ length names → length (seen_each h t names ss) ≡ length names
length_each h t [] ss e = refl
length_each h t (n ∷ ns) [] e = e
length_each h t (n ∷ ns) (s ∷ ss) e = let rest : length ss ≡ length ns = omega (arith, e) in let all = length_each h t ns ss rest in omega (arith, all)

-- ---- what is shown

shown_as : (xs : List ℤ) → shown (seen_of xs) ≡ extremes_unless_zero xs
shown_as xs = refl

pub shown_names : (v : Volume) (names : Pairs) (a b k : ℕ) → b + 1 - a ≡ k → shown_of names (map (λ e. seen_of (numbers_so_far v a k e.1)) names) ≡ extremes_in v names a b
shown_names v [] a b k end = refl
shown_names v (e ∷ es) a b k end =
    ap₂ (λ o xs. cons_option (with_name e.0 o) xs) (ap (λ (n : ℕ). extremes_unless_zero (numbers_so_far v a n e.1)) (sym end)) (shown_names v es a b k end)

-- what is shown of numbers of each name
names_shown : (names : Pairs) (numbers : Place → List ℤ) → shown_of names (map (λ e. seen_of (numbers e.1)) names) ≡ filter_map (λ e. with_name e.0 (extremes_unless_zero (numbers e.1))) names
names_shown [] numbers = refl
names_shown (e ∷ es) numbers = ap (λ xs. cons_option (with_name e.0 (extremes_unless_zero (numbers e.1))) xs) (names_shown es numbers)

pub listed_shown : (v : Volume) (names : Pairs) (ps : List ℕ) (i : ℕ) → length ps ≤ i → shown_of names (map (λ e. seen_of (numbers_of_each v e.1 (take i ps))) names) ≡ extremes_of_each v names ps
listed_shown v names ps i end =
    ap (λ qs. shown_of names (map (λ e. seen_of (numbers_of_each v e.1 qs)) names)) (take_all i ps end) ∙ names_shown names (λ place. numbers_of_each v place ps)

-- what is seen of each name, with one trace more
pub seen_of_each : (h : Head) (t : List ℕ) (es : Pairs) (ss : List Seen) → length ss ≡ length es → length (seen_each h t es ss) ≡ length es
seen_of_each h t [] ss e = refl
seen_of_each h t (x ∷ es) [] e = absurd (omega (arith, e))
seen_of_each h t (x ∷ es) (s ∷ ss) e = ap suc (seen_of_each h t es ss (omega (arith, e)))
