-- What cells tell that are held with their positions is what they tell by the positions of their first traces.
use Rattle.std.specs.Prelude.{◌≡◌, ℕ, ℤ, ◌+◌, ◌+ℤ◌, ◌-ℤ◌, ◌&&◌, not, Bool, true, false, cond, pos, List, [], ◌∷◌, length, map, find, filter, filter_map, Option, Some, None, IfSome, option_map, option_and_then, refl}
use Rattle.std.specs.List.{AllByRecursion, cons_option}
use Rattle.std.specs.Option.{option_map_or}
use Rattle.std.specs.Ordering.{int_eq}
use Rattle.std.proofs.Common.{sym, ap, ap₂, ◌∙◌}
use Rattle.std.proofs.lemmas.List.{length-map}
use Rattle.std.proofs.lemmas.List.Elements.{recursion_from_All}
use Rattle.std.proofs.lemmas.List.Sums.{sum_by-cons}
use Rattle.key_counts.specs.Packed.{ratio_in}
use Rattle.line_problems.specs.declared.spans.LineSpan.{LineSpan}
use Rattle.position_differences.specs.declared.difference.Position.{Position}
use Rattle.position_differences.specs.declared.difference.Difference.{Difference}
use Rattle.position_differences.specs.Differences.{is_jump}
use Rattle.position_differences.specs.Commonest.{commonest}
use Rattle.cell_positions.specs.declared.cell.Cell.{Cell}
use Rattle.cell_positions.specs.declared.pairs.Pair.{Pair}
use Rattle.cell_positions.specs.declared.shared.PlacedCell.{PlacedCell}
use Rattle.cell_positions.specs.declared.trace_pair.TracePair.{TracePair}
use Rattle.cell_positions.specs.Placed.{position_at}
use Rattle.cell_positions.specs.Pairs.{cell_at, difference_between, pair_from, pairs_of, usual_of, difference_from}
use Rattle.cell_positions.specs.Jumps.{traces_of, jumps_beside, jumps_along}
use Rattle.cell_positions.specs.Shared.{placed_cells}
use Rattle.cell_positions.specs.Survey.{is_within, cells_within, usual_along}
use Rattle.survey_cells.specs.declared.cells.SurveyCell.{SurveyCell}
use Rattle.survey_cells.specs.declared.pairs.Neighbours.{Neighbours}
use Rattle.survey_cells.specs.Held.{cell_in, place_in, StandWhere}
use Rattle.survey_cells.specs.Neighbours.{held_at, held_beyond, held_before, difference_in, difference_beyond, differences, neighbours_from, pair_in, difference_ahead}
use Rattle.survey_cells.specs.Along.{jumps_among, jump_traces, held_along}
use Rattle.survey_cells.specs.Standing.{is_standing, standing_in}
use Rattle.survey_cells.specs.Grid.{usual_held, held_within}

abbrev made : Cell → Cell → Difference → Pair
made c d v = record { first = c; second = d; difference = v }

abbrev neighbours : SurveyCell → SurveyCell → Difference → Neighbours
neighbours c d v = record { first = c; second = d; difference = v }

abbrev told_pairs : ℕ → List TracePair → ℕ × List TracePair
told_pairs n l = (n, l)

abbrev placed_with : ℕ → Position → PlacedCell
placed_with n p = record { x = p.x; y = p.y; trace = n }

find_held : (i c : ℤ) (cs : List SurveyCell) → cell_at (map cell_in cs) i c ≡ option_map cell_in (held_at cs i c)
find_held i c [] = refl
find_held i c (x ∷ cs) =
    elim (int_eq x.inline i && int_eq x.crossline c) as (λ b. cond b (Some (cell_in x)) (cell_at (map cell_in cs) i c) ≡ option_map cell_in (cond b (Some x) (held_at cs i c))) [
      | true ↦ refl
      | false ↦ find_held i c cs
    ]

-- what is found has what all have
found_has : {X : Type 0} (P : X → Type 0) (test : X → Bool) (xs : List X) → AllByRecursion P xs → IfSome (find test xs) P
found_has P test [] all = tt
found_has P test (x ∷ xs) all = elim (test x) as (λ b. IfSome (cond b (Some x) (find test xs)) P) [ true ↦ all.0 | false ↦ found_has P test xs all.1 ]

all_kept : {X Y : Type 0} (P : X → Type 0) (Q : Y → Type 0) (h : X → Option Y) → ((x : X) → P x → IfSome (h x) Q) → (xs : List X) → AllByRecursion P xs → AllByRecursion Q (filter_map h xs)
all_kept P Q h each [] all = tt
all_kept {X} {Y} P Q h each (x ∷ xs) all = by (h x) (each x all.0) (all_kept P Q h each xs all.1)
  where
    by : (o : Option Y) → IfSome o Q → AllByRecursion Q (filter_map h xs) → AllByRecursion Q (cons_option o (filter_map h xs))
    by None one more = more
    by (Some y) one more = (one, more)

-- the difference of two neighbours is that which stands beyond the first
told_difference : (cs : List SurveyCell) (apart : ℤ × ℤ) (c : SurveyCell) → option_map (λ (p : Pair). p.difference) (option_map pair_in (neighbours_from cs apart c)) ≡ difference_beyond cs apart c
told_difference cs apart c = go (held_beyond cs apart c)
  where
    with_difference : (d : SurveyCell) (o : Option Difference) → option_map (λ (p : Pair). p.difference) (option_map pair_in (option_map (neighbours c d) o)) ≡ o
    with_difference d None = refl
    with_difference d (Some v) = refl

    go : (o : Option SurveyCell) → option_map (λ (p : Pair). p.difference) (option_map pair_in (option_and_then (λ d. option_map (neighbours c d) (difference_in c d)) o)) ≡ option_and_then (difference_in c) o
    go None = refl
    go (Some d) = with_difference d (difference_in c d)

pub differences_are : (cs : List SurveyCell) (apart : ℤ × ℤ) (xs : List SurveyCell) → map (λ (n : Neighbours). n.difference) (filter_map (neighbours_from cs apart) xs) ≡ filter_map (difference_beyond cs apart) xs
differences_are cs apart [] = refl
differences_are cs apart (x ∷ xs) = by (neighbours_from cs apart x) (told_difference cs apart x) (differences_are cs apart xs)
  where
    by : (o : Option Neighbours) → option_map (λ (p : Pair). p.difference) (option_map pair_in o) ≡ difference_beyond cs apart x → map (λ (n : Neighbours). n.difference) (filter_map (neighbours_from cs apart) xs) ≡ filter_map (difference_beyond cs apart) xs
        → map (λ (n : Neighbours). n.difference) (cons_option o (filter_map (neighbours_from cs apart) xs)) ≡ cons_option (difference_beyond cs apart x) (filter_map (difference_beyond cs apart) xs)
    by None e more = more ∙ ap (λ d. cons_option d (filter_map (difference_beyond cs apart) xs)) e
    by (Some n) e more = ap (λ l. n.difference ∷ l) more ∙ ap (λ d. cons_option d (filter_map (difference_beyond cs apart) xs)) e

differences_in : (ns : List Neighbours) → map (λ (p : Pair). p.difference) (map pair_in ns) ≡ map (λ (n : Neighbours). n.difference) ns
differences_in [] = refl
differences_in (n ∷ ns) = ap (λ l. n.difference ∷ l) (differences_in ns)

module _ (ps : List (Option Position)) where
  abbrev Stands : SurveyCell → Type 0
  Stands c = place_in c ≡ position_at ps c.trace

  abbrev BothStand : Neighbours → Type 0
  BothStand n = Stands n.first × Stands n.second

  difference_same : (c d : SurveyCell) → Stands c → Stands d → difference_between ps (cell_in c) (cell_in d) ≡ difference_in c d
  difference_same c d one other = sym (ap₂ (λ u v. option_and_then (λ p. option_map (Rattle.position_differences.specs.Differences.difference_of p) v) u) one other)

  module _ (cs : List SurveyCell) (apart : ℤ × ℤ) (stand : AllByRecursion Stands cs) where
    abbrev beyond_is : SurveyCell → Option SurveyCell
    beyond_is c = held_beyond cs apart c

    pair_same : (c : SurveyCell) → Stands c → pair_from ps (map cell_in cs) apart (cell_in c) ≡ option_map pair_in (neighbours_from cs apart c)
    pair_same c here =
        ap (λ o. option_and_then (λ d. option_map (made (cell_in c) d) (difference_between ps (cell_in c) d)) o) (find_held (c.inline +ℤ apart.0) (c.crossline +ℤ apart.1) cs)
        ∙ go (held_beyond cs apart c) (found_has Stands _ cs stand)
      where
        fused : (d : SurveyCell) (o : Option Difference) → option_map (made (cell_in c) (cell_in d)) o ≡ option_map pair_in (option_map (neighbours c d) o)
        fused d None = refl
        fused d (Some v) = refl

        go : (o : Option SurveyCell) → IfSome o Stands → option_and_then (λ d. option_map (made (cell_in c) d) (difference_between ps (cell_in c) d)) (option_map cell_in o)
            ≡ option_map pair_in (option_and_then (λ d. option_map (neighbours c d) (difference_in c d)) o)
        go None there = refl
        go (Some d) there = ap (λ o. option_map (made (cell_in c) (cell_in d)) o) (difference_same c d here there) ∙ fused d (difference_in c d)

    pairs_same : (xs : List SurveyCell) → AllByRecursion Stands xs → filter_map (pair_from ps (map cell_in cs) apart) (map cell_in xs) ≡ map pair_in (filter_map (neighbours_from cs apart) xs)
    pairs_same [] all = refl
    pairs_same (x ∷ xs) all = ap₂ cons_option (pair_same x all.0) (pairs_same xs all.1) ∙ behind (neighbours_from cs apart x)
      where
        behind : (o : Option Neighbours) → cons_option (option_map pair_in o) (map pair_in (filter_map (neighbours_from cs apart) xs)) ≡ map pair_in (cons_option o (filter_map (neighbours_from cs apart) xs))
        behind None = refl
        behind (Some n) = refl

    both_stand : (c : SurveyCell) → Stands c → IfSome (neighbours_from cs apart c) BothStand
    both_stand c here = go (held_beyond cs apart c) (found_has Stands _ cs stand)
      where
        with_difference : (d : SurveyCell) → Stands d → (o : Option Difference) → IfSome (option_map (neighbours c d) o) BothStand
        with_difference d there None = tt
        with_difference d there (Some v) = (here, there)

        go : (o : Option SurveyCell) → IfSome o Stands → IfSome (option_and_then (λ d. option_map (neighbours c d) (difference_in c d)) o) BothStand
        go None there = tt
        go (Some d) there = with_difference d there (difference_in c d)

    all_both_stand : AllByRecursion BothStand (filter_map (neighbours_from cs apart) cs)
    all_both_stand = all_kept Stands BothStand (neighbours_from cs apart) both_stand cs stand

    from_same : (c : SurveyCell) → Stands c → difference_from ps (map cell_in cs) apart (cell_in c) ≡ difference_beyond cs apart c
    from_same c here = ap (λ o. option_map (λ (p : Pair). p.difference) o) (pair_same c here) ∙ told_difference cs apart c

    ahead_same : (n : Neighbours) → option_and_then (difference_from ps (map cell_in cs) apart) (cell_at (map cell_in cs) (n.first.inline -ℤ apart.0) (n.first.crossline -ℤ apart.1)) ≡ difference_ahead cs apart n
    ahead_same n =
        ap (λ o. option_and_then (difference_from ps (map cell_in cs) apart) o) (find_held (n.first.inline -ℤ apart.0) (n.first.crossline -ℤ apart.1) cs)
        ∙ go (held_before cs apart n.first) (found_has Stands _ cs stand)
      where
        go : (o : Option SurveyCell) → IfSome o Stands → option_and_then (difference_from ps (map cell_in cs) apart) (option_map cell_in o) ≡ option_and_then (difference_beyond cs apart) o
        go None there = refl
        go (Some d) there = from_same d there

    jumps_same : (u : Difference) (n : Neighbours) → BothStand n → jumps_beside ps (map cell_in cs) apart u (pair_in n) ≡ jumps_among cs apart u n
    jumps_same u n both = ap₂ (λ before behind. is_jump u before n.difference behind) (ahead_same n) (from_same n.second both.1)

    kept_same : (u : Difference) (ns : List Neighbours) → AllByRecursion BothStand ns
        → map traces_of (filter (jumps_beside ps (map cell_in cs) apart u) (map pair_in ns)) ≡ map (λ n. traces_of (pair_in n)) (filter (jumps_among cs apart u) ns)
    kept_same u [] all = refl
    kept_same u (n ∷ ns) all = by _ _ (jumps_same u n all.0) (kept_same u ns all.1)
      where
        by : (a b : Bool) → a ≡ b → map traces_of (filter (jumps_beside ps (map cell_in cs) apart u) (map pair_in ns)) ≡ map (λ m. traces_of (pair_in m)) (filter (jumps_among cs apart u) ns)
            → map traces_of (cond a (pair_in n ∷ filter (jumps_beside ps (map cell_in cs) apart u) (map pair_in ns)) (filter (jumps_beside ps (map cell_in cs) apart u) (map pair_in ns)))
            ≡ map (λ m. traces_of (pair_in m)) (cond b (n ∷ filter (jumps_among cs apart u) ns) (filter (jumps_among cs apart u) ns))
        by true true e rest = ap (λ l. traces_of (pair_in n) ∷ l) rest
        by false false e rest = rest
        by true false e rest = absurd (Rattle.std.proofs.Common.true≢false e)
        by false true e rest = absurd (Rattle.std.proofs.Common.true≢false (sym e))

  module _ (cs : List SurveyCell) (stand : AllByRecursion Stands cs) where
    usual_same : (apart : ℤ × ℤ) → usual_of (pairs_of ps (map cell_in cs) apart) ≡ commonest (differences cs apart)
    usual_same apart =
        ap commonest
        (ap (λ l. map (λ (p : Pair). p.difference) l) (pairs_same cs apart stand cs stand)
        ∙ differences_in (filter_map (neighbours_from cs apart) cs)
        ∙ differences_are cs apart cs)

    count_same : (apart : ℤ × ℤ) → length (pairs_of ps (map cell_in cs) apart) ≡ length (differences cs apart)
    count_same apart =
        ap length (pairs_same cs apart stand cs stand)
        ∙ length-map (filter_map (neighbours_from cs apart) cs) pair_in
        ∙ sym (length-map (filter_map (neighbours_from cs apart) cs) (λ (n : Neighbours). n.difference))
        ∙ ap length (differences_are cs apart cs)

    jumps_at_same : (apart : ℤ × ℤ) (u : Difference) → map traces_of (filter (jumps_beside ps (map cell_in cs) apart u) (pairs_of ps (map cell_in cs) apart)) ≡ jump_traces cs apart u
    jumps_at_same apart u =
        ap (λ l. map traces_of (filter (jumps_beside ps (map cell_in cs) apart u) l)) (pairs_same cs apart stand cs stand)
        ∙ kept_same cs apart stand u (filter_map (neighbours_from cs apart) cs) (all_both_stand cs apart stand)

    -- the pairs at a step and those that jump
    along_same : (step : Option (ℤ × ℤ)) → jumps_along ps (map cell_in cs) step ≡ held_along cs step
    along_same None = refl
    along_same (Some apart) =
        ap (λ o. option_map_or (λ u. told_pairs (length (pairs_of ps (map cell_in cs) apart)) (map traces_of (filter (jumps_beside ps (map cell_in cs) apart u) (pairs_of ps (map cell_in cs) apart)))) o (told_pairs 0 [])) (usual_same apart)
        ∙ go (commonest (differences cs apart))
      where
        go : (o : Option Difference) → option_map_or (λ u. told_pairs (length (pairs_of ps (map cell_in cs) apart)) (map traces_of (filter (jumps_beside ps (map cell_in cs) apart u) (pairs_of ps (map cell_in cs) apart)))) o (told_pairs 0 [])
            ≡ option_map_or (λ u. told_pairs (length (differences cs apart)) (jump_traces cs apart u)) o (told_pairs 0 [])
        go None = refl
        go (Some u) = ap₂ told_pairs (count_same apart) (jumps_at_same apart u)

    -- the usual difference at a step
    usual_along_same : (step : Option (ℤ × ℤ)) → usual_along ps (map cell_in cs) step ≡ usual_held cs step
    usual_along_same None = refl
    usual_along_same (Some apart) = usual_same apart

  placed_same : (cs : List SurveyCell) → AllByRecursion Stands cs → placed_cells ps (map cell_in cs) ≡ map standing_in (filter is_standing cs)
  placed_same [] all = refl
  placed_same (c ∷ cs) all =
      ap₂ cons_option (sym (ap (λ o. option_map (placed_with c.trace) o) all.0)) (placed_same cs all.1)
      ∙ by (int_eq (ratio_in c.x).num (pos 0) && int_eq (ratio_in c.y).num (pos 0))
    where
      by : (b : Bool) → cons_option (option_map (placed_with c.trace) (cond b None (Some (record { x = ratio_in c.x; y = ratio_in c.y })))) (map standing_in (filter is_standing cs))
          ≡ map standing_in (cond (not b) (c ∷ filter is_standing cs) (filter is_standing cs))
      by true = refl
      by false = refl

pub within_same : (i c : LineSpan) (cs : List SurveyCell) → cells_within i c (map cell_in cs) ≡ held_within i c cs
within_same i c [] = refl
within_same i c (x ∷ cs) =
    sum_by-cons (λ (d : Cell). cond (is_within i d.inline && is_within c d.crossline) 1 0) (cell_in x) (map cell_in cs)
    ∙ ap (λ n. cond (is_within i x.inline && is_within c x.crossline) 1 0 + n) (within_same i c cs)
    ∙ sym (sum_by-cons (λ (d : SurveyCell). cond (is_within i d.inline && is_within c d.crossline) 1 0) x cs)

pub along_is : (ps : List (Option Position)) (cs : List SurveyCell) → StandWhere ps cs → (step : Option (ℤ × ℤ)) → jumps_along ps (map cell_in cs) step ≡ held_along cs step
along_is ps cs stand step = along_same ps cs (recursion_from_All _ cs stand) step

pub usual_is : (ps : List (Option Position)) (cs : List SurveyCell) → StandWhere ps cs → (step : Option (ℤ × ℤ)) → usual_along ps (map cell_in cs) step ≡ usual_held cs step
usual_is ps cs stand step = usual_along_same ps cs (recursion_from_All _ cs stand) step

pub placed_are : (ps : List (Option Position)) (cs : List SurveyCell) → StandWhere ps cs → placed_cells ps (map cell_in cs) ≡ map standing_in (filter is_standing cs)
placed_are ps cs stand = placed_same ps cs (recursion_from_All _ cs stand)
