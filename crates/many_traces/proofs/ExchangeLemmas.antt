-- Items that come in the place of one another, two at a time.
use Rattle.std.proofs.Common.{All, ◌≡◌, ◌≢◌, ℕ, zero, suc, ◌+◌, ◌-◌, ◌<◌, ◌≤◌, ◌^◌, List, [], ◌∷◌, ◌++◌, length, map, get_or, set, inl, inr, refl, sym, ap, subst, ◌∙◌, arith}
use Rattle.std.specs.Prelude.{slice_index, slice_set}
use Rattle.std.specs.List.{swap, range_with_len}
use Rattle.std.proofs.lemmas.Bool.{cases_eq}
use Rattle.std.proofs.lemmas.List.{length-append, length-map, length-set, get_or-set_same, get_or-set_other, get_or_append_left, set-append_left, set-append_right, map-set}
use Rattle.std.proofs.lemmas.List.Edits.{swap_is, swapped_from_swap, length-swap}
use Rattle.std.proofs.lemmas.List.Elements.{All-nil, All-cons, All-get_or}
use Rattle.std.proofs.lemmas.List.Sorted.{IsPermutation-keeps, All-permutation}
use Rattle.std.specs.List.Sorted.{IsPermutation}
use Rattle.std.proofs.lemmas.List.FromFn.{length-range_with_len, get_or-range_with_len}
use Rattle.std.proofs.Math.ListN.{get_or-map}
use Rattle.std.proofs.Math.Seq.{get_or-append_right}
use Rattle.trace_store.specs.Swapped.{with_swapped, ArePlaces}
use Rattle.many_traces.specs.Arranged.{AreInStep, IsBrought}

-- one number more
pub range-more : (a n : ℕ) → range_with_len a n ++ (a + n) ∷ [] ≡ range_with_len a (n + 1)
range-more a zero = ap (λ x. x ∷ []) (omega arith)
range-more a (suc n) =
    let on : suc (n + 1) ≡ suc n + 1 = omega arith in
    let there : a + suc n ≡ a + 1 + n = omega arith in
    ap (λ l. a ∷ l) (ap (λ x. range_with_len (a + 1) n ++ x ∷ []) there ∙ range-more (a + 1) n) ∙ ap (λ m. range_with_len a m) on

pub counted-more : (n : ℕ) → range_with_len 0 n ++ n ∷ [] ≡ range_with_len 0 (n + 1)
counted-more n = ap (λ x. range_with_len 0 n ++ x ∷ []) (omega arith) ∙ range-more 0 n

-- one pair more
swapped-more : {T : Type 0} (xs : List T) (pairs : List (ℕ × ℕ)) (p : ℕ × ℕ) → with_swapped xs (pairs ++ p ∷ []) ≡ swap (with_swapped xs pairs) (p.0 - 1) (p.1 - 1)
swapped-more xs [] p = refl
swapped-more xs (q ∷ pairs) p = swapped-more (swap xs (q.0 - 1) (q.1 - 1)) pairs p

places-more : (n : ℕ) (pairs : List (ℕ × ℕ)) (p : ℕ × ℕ) → ArePlaces n pairs → 1 ≤ p.0 → p.0 ≤ n → 1 ≤ p.1 → p.1 ≤ n → ArePlaces n (pairs ++ p ∷ [])
places-more n [] p are a b c d = (a, b, c, d, tt)
places-more n (q ∷ pairs) p are a b c d = (are.0, are.1, are.2, are.3, places-more n pairs p are.4 a b c d)

-- two numbers of a middle part in the place of one another
module _ (first : ℕ) (front items behind : List ℕ) (k p : ℕ) (low : 1 ≤ first) (at : length front ≡ first - 1) (k_in : k < length items) (p_in : p < length items) where
  abbrev shifted : List ℕ → List ℕ
  shifted ns = map (λ n. first + n) ns

  abbrev whole : List ℕ → List ℕ
  whole ns = front ++ (shifted ns ++ behind)

  set-inside : (ns : List ℕ) (i x : ℕ) → i < length ns → set (whole ns) (first + i - 1) (first + x) ≡ whole (set ns i x)
  set-inside ns i x less =
      let back : first + i - 1 - (first - 1) ≡ i = omega (arith, low) in
      let inside : i < length (shifted ns) = omega (arith, length-map ns (λ n. first + n), less) in
      set-append_right front (shifted ns ++ behind) (first - 1) (first + i - 1) (first + x) at (omega (arith, low))
      ∙ ap (λ j. front ++ set (shifted ns ++ behind) j (first + x)) back
      ∙ ap (λ l. front ++ l) (set-append_left (shifted ns) behind i (first + x) inside)
      ∙ ap (λ l. front ++ (l ++ behind)) (sym (map-set (λ n. first + n) ns i x))

  read-inside : (i : ℕ) → i < length items → get_or (whole items) (first + i - 1) (first + 0) ≡ first + get_or items i 0
  read-inside i less =
      let back : first + i - 1 - length front ≡ i = omega (arith, low, at) in
      let inside : i < length (shifted items) = omega (arith, length-map items (λ n. first + n), less) in
      get_or-append_right front (shifted items ++ behind) (first + i - 1) (first + 0) (omega (arith, low, at))
      ∙ ap (λ j. get_or (shifted items ++ behind) j (first + 0)) back
      ∙ get_or_append_left (shifted items) behind (first + 0) i inside
      ∙ get_or-map (λ n. first + n) items i 0

  long : length (whole items) ≡ first - 1 + length items + length behind
  long = omega (arith, length-append front (shifted items ++ behind), length-append (shifted items) behind, length-map items (λ n. first + n), at)

  pub swap-inside : swap (whole items) (first + k - 1) (first + p - 1) ≡ whole (set (set items k (get_or items p 0)) p (get_or items k 0))
  swap-inside =
      sym (swap_is (whole items) (first + k - 1) (first + p - 1) (first + 0) (omega (arith, low, long, k_in)) (omega (arith, low, long, p_in)))
      ∙ ap (λ x. set (set (whole items) (first + k - 1) x) (first + p - 1) (get_or (whole items) (first + k - 1) (first + 0))) (read-inside p p_in)
      ∙ ap (λ x. set (set (whole items) (first + k - 1) (first + get_or items p 0)) (first + p - 1) x) (read-inside k k_in)
      ∙ ap (λ l. set l (first + p - 1) (first + get_or items k 0)) (set-inside items k (get_or items p 0) k_in)
      ∙ set-inside (set items k (get_or items p 0)) p (get_or items k 0) (omega (arith, length-set items k (get_or items p 0), p_in))

-- ---- items at their own places

pub own-map : (first n i : ℕ) → map (λ k. first + k) (range_with_len i n) ≡ range_with_len (first + i) n
own-map first zero i = refl
own-map first (suc n) i =
    let next : first + i + 1 ≡ first + (i + 1) = omega arith in
    ap (λ l. (first + i) ∷ l) (own-map first n (i + 1) ∙ ap (λ j. range_with_len j n) (sym next))

nothing : (i : ℕ) → 0 + i ≡ i
nothing i = omega arith

pub starts-in-step : (first n : ℕ) (items places : List ℕ) → 1 ≤ first → first + n ≤ 2 ^ 32 → items ≡ range_with_len 0 n → places ≡ range_with_len 0 n → AreInStep first items places []
starts-in-step first n items places low last e f =
    let many : length items ≡ n = ap (λ (l : List ℕ). length l) e ∙ length-range_with_len 0 n in
    let many' : length places ≡ n = ap (λ (l : List ℕ). length l) f ∙ length-range_with_len 0 n in
    let own : (i : ℕ) → i < n → slice_index items i ≡ i = λ i less. ap (λ l. get_or l i 0) e ∙ (get_or-range_with_len 0 n i 0 less ∙ nothing i) in
    let own' : (i : ℕ) → i < n → slice_index places i ≡ i = λ i less. ap (λ l. get_or l i 0) f ∙ (get_or-range_with_len 0 n i 0 less ∙ nothing i) in
    record {
      low = low;
      last = omega (arith, last, many);
      long = many' ∙ sym many;
      there = λ i less. (omega (arith, own' i (omega (arith, less, many)), less), ap (slice_index items) (own' i (omega (arith, less, many))) ∙ own i (omega (arith, less, many)));
      back = λ i less. (omega (arith, own i (omega (arith, less, many)), less), ap (slice_index places) (own i (omega (arith, less, many))) ∙ own' i (omega (arith, less, many)));
      by_pairs = record {
        places = λ m h. tt;
        arranged = λ front behind at.
            let here : first + 0 ≡ first = omega arith in
            ap (λ l. front ++ (l ++ behind)) (ap (λ j. range_with_len first j) many ∙ (ap (λ j. range_with_len j n) (sym here) ∙ (sym (own-map first n 0) ∙ ap (λ l. map (λ k. first + k) l) (sym e))));
      };
    }

-- ---- one item brought to its place

module _ (first place item : ℕ) (items places : List ℕ) (pairs : List (ℕ × ℕ)) (s : AreInStep first items places pairs) (place_in : place < length items) (item_in : item < length items) where
  pub from-inside : slice_index places item < length items
  from-inside = (s.there item item_in).0

  pub other-inside : slice_index items place < length items
  other-inside = (s.back place place_in).0

  abbrev new-items : List ℕ
  new-items = slice_set (slice_set items place item) (slice_index places item) (slice_index items place)

  abbrev new-places : List ℕ
  new-places = slice_set (slice_set places item place) (slice_index items place) (slice_index places item)

  -- it stands there already
  pub stays-brought : slice_index places item ≡ place → IsBrought items items place item
  stays-brought e = record {
    long = refl;
    there = ap (slice_index items) (sym e) ∙ (s.there item item_in).1;
    others = λ k ne at. refl;
  }

  module _ (moves : slice_index places item ≢ place) where
    many : length new-items ≡ length items
    many = omega (arith, length-set (slice_set items place item) (slice_index places item) (slice_index items place), length-set items place item)

    many' : length new-places ≡ length places
    many' = omega (arith, length-set (slice_set places item place) (slice_index items place) (slice_index places item), length-set places item place)

    at-place : slice_index new-items place ≡ item
    at-place =
        get_or-set_other (slice_set items place item) (slice_index places item) place (slice_index items place) 0 (λ e. moves (sym e))
        ∙ get_or-set_same items place item 0 place_in

    at-from : slice_index new-items (slice_index places item) ≡ slice_index items place
    at-from = get_or-set_same (slice_set items place item) (slice_index places item) (slice_index items place) 0 (omega (arith, length-set items place item, from-inside))

    elsewhere : (k : ℕ) → k ≢ place → k ≢ slice_index places item → slice_index new-items k ≡ slice_index items k
    elsewhere k ne ne' = get_or-set_other (slice_set items place item) (slice_index places item) k (slice_index items place) 0 ne' ∙ get_or-set_other items place k item 0 ne

    -- the item that stood there is another one
    differs : slice_index items place ≢ item
    differs e = moves (ap (slice_index places) (sym e) ∙ (s.back place place_in).1)

    of-item : slice_index new-places item ≡ place
    of-item =
        get_or-set_other (slice_set places item place) (slice_index items place) item (slice_index places item) 0 (λ e. differs (sym e))
        ∙ get_or-set_same places item place 0 (omega (arith, s.long, item_in))

    of-other : slice_index new-places (slice_index items place) ≡ slice_index places item
    of-other = get_or-set_same (slice_set places item place) (slice_index items place) (slice_index places item) 0 (omega (arith, length-set places item place, s.long, other-inside))

    of-rest : (w : ℕ) → w ≢ item → w ≢ slice_index items place → slice_index new-places w ≡ slice_index places w
    of-rest w ne ne' = get_or-set_other (slice_set places item place) (slice_index items place) w (slice_index places item) 0 ne' ∙ get_or-set_other places item w place 0 ne

    pub brought : IsBrought items new-items place item
    brought = record {
      long = many;
      there = at-place;
      others = λ k ne at. elsewhere k ne (λ e. at (ap (slice_index items) e ∙ (s.there item item_in).1));
    }

    there : (w : ℕ) → w < length items → (slice_index new-places w < length items) × (slice_index new-items (slice_index new-places w) ≡ w)
    there w less = elim (cases_eq w item) [
      | inl e ↦ let at : slice_index new-places w ≡ place = ap (slice_index new-places) e ∙ of-item in (omega (arith, at, place_in), ap (slice_index new-items) at ∙ at-place ∙ sym e)
      | inr ne ↦ elim (cases_eq w (slice_index items place)) [
        | inl e ↦ let at : slice_index new-places w ≡ slice_index places item = ap (slice_index new-places) e ∙ of-other in (omega (arith, at, from-inside), ap (slice_index new-items) at ∙ at-from ∙ sym e)
        | inr ne' ↦
            let at : slice_index new-places w ≡ slice_index places w = of-rest w ne ne' in
            let was = s.there w less in
            let off : slice_index places w ≢ place = λ e. ne' (sym was.1 ∙ ap (slice_index items) e) in
            let off' : slice_index places w ≢ slice_index places item = λ e. ne (sym was.1 ∙ (ap (slice_index items) e ∙ (s.there item item_in).1)) in
            (omega (arith, at, was.0), ap (slice_index new-items) at ∙ (elsewhere (slice_index places w) off off' ∙ was.1))
      ]
    ]

    back : (k : ℕ) → k < length items → (slice_index new-items k < length items) × (slice_index new-places (slice_index new-items k) ≡ k)
    back k less = elim (cases_eq k place) [
      | inl e ↦ let at : slice_index new-items k ≡ item = ap (slice_index new-items) e ∙ at-place in (omega (arith, at, item_in), ap (slice_index new-places) at ∙ of-item ∙ sym e)
      | inr ne ↦ elim (cases_eq k (slice_index places item)) [
        | inl e ↦ let at : slice_index new-items k ≡ slice_index items place = ap (slice_index new-items) e ∙ at-from in (omega (arith, at, other-inside), ap (slice_index new-places) at ∙ of-other ∙ sym e)
        | inr ne' ↦
            let at : slice_index new-items k ≡ slice_index items k = elsewhere k ne ne' in
            let was = s.back k less in
            let off : slice_index items k ≢ item = λ e. ne' (sym was.1 ∙ ap (slice_index places) e) in
            let off' : slice_index items k ≢ slice_index items place = λ e. ne (sym was.1 ∙ (ap (slice_index places) e ∙ (s.back place place_in).1)) in
            (omega (arith, at, was.0), ap (slice_index new-places) at ∙ (of-rest (slice_index items k) off off' ∙ was.1))
      ]
    ]

    swapped : (front behind : List ℕ) → length front ≡ first - 1 → with_swapped (front ++ (range_with_len first (length new-items) ++ behind)) (pairs ++ (first + place, first + slice_index places item) ∷ []) ≡ front ++ (map (λ k. first + k) new-items ++ behind)
    swapped front behind at =
        let was = s.there item item_in in
        ap (λ n. with_swapped (front ++ (range_with_len first n ++ behind)) (pairs ++ (first + place, first + slice_index places item) ∷ [])) many
        ∙ swapped-more (front ++ (range_with_len first (length items) ++ behind)) pairs (first + place, first + slice_index places item)
        ∙ ap (λ l. swap l (first + place - 1) (first + slice_index places item - 1)) (s.by_pairs.arranged front behind at)
        ∙ swap-inside first front items behind place (slice_index places item) s.low at place_in from-inside
        ∙ ap (λ x. front ++ (map (λ k. first + k) (slice_set (slice_set items place x) (slice_index places item) (slice_index items place)) ++ behind)) was.1

    pub stays-in-step : AreInStep first new-items new-places (pairs ++ (first + place, first + slice_index places item) ∷ [])
    stays-in-step = record {
      low = s.low;
      last = omega (arith, s.last, many);
      long = many' ∙ (s.long ∙ sym many);
      there = λ w less. let h = there w (omega (arith, less, many)) in (omega (arith, h.0, many), h.1);
      back = λ k less. let h = back k (omega (arith, less, many)) in (omega (arith, h.0, many), h.1);
      by_pairs = record {
        places = λ n h. places-more n pairs _ (s.by_pairs.places n (omega (arith, h, many))) (omega (arith, s.low)) (omega (arith, h, many, place_in, s.low)) (omega (arith, s.low)) (omega (arith, h, many, from-inside, s.low));
        arranged = swapped;
      };
    }

-- ---- an order

-- different places have different numbers
abbrev pub Differ : List ℕ → Type 0
Differ xs = (i j : ℕ) → i < length xs → j < length xs → slice_index xs i ≡ slice_index xs j → i ≡ j

differ-range : (n : ℕ) → Differ (range_with_len 0 n)
differ-range n i j a b e =
    let many = length-range_with_len 0 n in
    sym (get_or-range_with_len 0 n i 0 (omega (arith, a, many)) ∙ nothing i) ∙ (e ∙ (get_or-range_with_len 0 n j 0 (omega (arith, b, many)) ∙ nothing j))

-- where a number stood before two of them came in the place of one another
record Origin (l : List ℕ) (i j m : ℕ) : Type 0 where
  at : ℕ
  inside : at < length l
  is : slice_index (swap l i j) m ≡ slice_index l at
  first : at ≡ i → m ≡ j
  second : at ≡ j → m ≡ i
  other : at ≢ i → at ≢ j → m ≡ at

origin : (l : List ℕ) (i j m : ℕ) → i < length l → j < length l → m < length l → Origin l i j m
origin l i j m p q less =
    let s = swapped_from_swap l (swap l i j) i j 0 p q refl in
    elim (cases_eq m i) [
      | inl e ↦ record { at = j; inside = q; is = ap (slice_index (swap l i j)) e ∙ s.0; first = λ f. e ∙ sym f; second = λ f. e; other = λ n n'. absurd (n' refl) }
      | inr ne ↦ elim (cases_eq m j) [
        | inl e ↦ record { at = i; inside = p; is = ap (slice_index (swap l i j)) e ∙ s.1; first = λ f. e; second = λ f. e ∙ sym f; other = λ n n'. absurd (n refl) }
        | inr ne' ↦ record { at = m; inside = less; is = s.2 m ne ne'; first = λ f. absurd (ne f); second = λ f. absurd (ne' f); other = λ n n'. refl }
      ]
    ]

differ-swap : (l : List ℕ) (i j : ℕ) → i < length l → j < length l → Differ l → Differ (swap l i j)
differ-swap l i j p q h m n a b e =
    let o = origin l i j m p q (omega (arith, a, length-swap l i j)) in
    let u = origin l i j n p q (omega (arith, b, length-swap l i j)) in
    let same : o.at ≡ u.at = h o.at u.at o.inside u.inside (sym o.is ∙ (e ∙ u.is)) in
    elim (cases_eq o.at i) [
      | inl f ↦ o.first f ∙ sym (u.first (sym same ∙ f))
      | inr ne ↦ elim (cases_eq o.at j) [
        | inl f ↦ o.second f ∙ sym (u.second (sym same ∙ f))
        | inr ne' ↦ o.other ne ne' ∙ (same ∙ sym (u.other (λ f. ne (same ∙ f)) (λ f. ne' (same ∙ f))))
      ]
    ]

pub differ-order : (n : ℕ) (order : List ℕ) → IsPermutation (range_with_len 0 n) order → Differ order
differ-order n order h = IsPermutation-keeps (range_with_len 0 n) Differ (differ-range n) differ-swap order h

range-below : (a n : ℕ) → All (λ x. x < a + n) (range_with_len a n)
range-below a zero = All-nil (λ x. x < a + zero)
range-below a (suc n) = All-cons (λ x. x < a + suc n) a (range_with_len (a + 1) n) (omega arith) (subst (λ m. All (λ x. x < m) (range_with_len (a + 1) n)) (omega arith) (range-below (a + 1) n))

pub order-below : (n : ℕ) (order : List ℕ) (k : ℕ) → IsPermutation (range_with_len 0 n) order → k < length order → slice_index order k < n
order-below n order k h less =
    let below = All-permutation (λ x. x < 0 + n) (range_with_len 0 n) order h (range-below 0 n) in
    omega (arith, All-get_or (λ x. x < 0 + n) order k 0 less below)
