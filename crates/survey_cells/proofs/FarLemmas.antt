-- Where no difference that was counted is far from the usual one, no pair jumps.
use Rattle.std.specs.Prelude.{◌≡◌, ℕ, ℤ, ◌+◌, ◌<◌, ◌||◌, Bool, true, false, cond, List, [], ◌∷◌, map, filter, filter_map, refl}
use Rattle.std.proofs.Common.{arith, sym, ap, ◌∙◌, subst, true≢false}
use Rattle.std.specs.Cmp.{Equal-is}
use Rattle.std.specs.List.{AllByRecursion, list_any}
use Rattle.std.specs.Ordering.{is_eq}
use Rattle.key_counts.specs.Counts.{count_of}
use Rattle.key_counts.specs.Rising.{times_in}
use Rattle.position_differences.specs.declared.difference.Difference.{Difference}
use Rattle.position_differences.specs.Differences.{difference_cmp, is_far}
use Rattle.position_differences.specs.Commonest.{AreCounted}
use Rattle.position_differences.proofs.CommonestLemmas.{difference_total, exact_differences}
use Rattle.survey_cells.specs.declared.cells.SurveyCell.{SurveyCell}
use Rattle.survey_cells.specs.declared.pairs.Neighbours.{Neighbours}
use Rattle.survey_cells.specs.Neighbours.{neighbours_from, differences}
use Rattle.survey_cells.specs.Along.{jumps_among, jump_traces}
use Rattle.survey_cells.proofs.HeldLemmas.{differences_are}
use Rattle.survey_cells.proofs.OrderLemmas.{stands, times-cons}
use Rattle.survey_cells.proofs.ToldLemmas.{near_does_not_jump}

module _ (u : Difference) where
  abbrev IsNear : Difference → Type 0
  IsNear d = is_far d u ≡ false

  -- what was counted is among the keys
  counted_near : (es : List (Difference × ℕ)) (d : Difference) → 0 < count_of difference_cmp es d → list_any (λ e. is_far e.0 u) es ≡ false → IsNear d
  counted_near [] d some none = absurd (omega arith)
  counted_near (e ∷ es) d some none = by _ refl (is_far e.0 u) refl none (counted_near es d)
    where
      by : (t : Bool) → is_eq (difference_cmp d e.0) ≡ t → (f : Bool) → is_far e.0 u ≡ f → (f || list_any (λ g. is_far g.0 u) es) ≡ false
          → (0 < count_of difference_cmp es d → list_any (λ g. is_far g.0 u) es ≡ false → IsNear d) → IsNear d
      by true same true far nothing more = absurd (true≢false nothing)
      by true same false near nothing more = subst (λ (q : Difference). IsNear q) (sym (exact_differences d e.0 ((Equal-is (difference_cmp d e.0)).0 same))) near
      by false other true far nothing more = absurd (true≢false nothing)
      by false other false near nothing more =
          let same : count_of difference_cmp (e ∷ es) d ≡ count_of difference_cmp es d = ap (λ b. Rattle.std.specs.Option.unwrap_or (cond b (Rattle.std.specs.Prelude.Some e.1) (Rattle.std.specs.Map.lookup (λ k. is_eq (difference_cmp d k)) es)) 0) other in
          more (subst (λ (n : ℕ). 0 < n) same some) nothing

  occurs_behind : (e d : Difference) (ds : List Difference) → 0 < times_in difference_cmp ds d → 0 < times_in difference_cmp (e ∷ ds) d
  occurs_behind e d ds some = omega (arith, times-cons difference_cmp difference_total d e ds)

  -- what occurs has what all have that occur
  all_of_those : (P : Difference → Type 0) (ds : List Difference) → ((d : Difference) → 0 < times_in difference_cmp ds d → P d) → AllByRecursion P ds
  all_of_those P [] each = tt
  all_of_those P (d ∷ ds) each = (each d (stands difference_cmp difference_total d ds), all_of_those P ds (λ q some. each q (occurs_behind d q ds some)))

  none_of_these : (cs : List SurveyCell) (apart : ℤ × ℤ) (ns : List Neighbours) → AllByRecursion IsNear (map (λ (n : Neighbours). n.difference) ns) → filter (jumps_among cs apart u) ns ≡ []
  none_of_these cs apart [] all = refl
  none_of_these cs apart (n ∷ ns) all = ap (λ b. cond b (n ∷ filter (jumps_among cs apart u) ns) (filter (jumps_among cs apart u) ns)) (near_does_not_jump u n.difference _ _ all.0) ∙ none_of_these cs apart ns all.1

  pub none_jump : (es : List (Difference × ℕ)) (cs : List SurveyCell) (apart : ℤ × ℤ) → AreCounted es (differences cs apart) → list_any (λ e. is_far e.0 u) es ≡ false → jump_traces cs apart u ≡ []
  none_jump es cs apart counted none =
      let near : AllByRecursion IsNear (differences cs apart) = all_of_those IsNear (differences cs apart) (λ d some. counted_near es d (subst (λ (n : ℕ). 0 < n) (sym (counted d)) some) none) in
      ap (λ l. map (λ (n : Neighbours). Rattle.cell_positions.specs.Jumps.traces_of (Rattle.survey_cells.specs.Neighbours.pair_in n)) l)
      (none_of_these cs apart (filter_map (neighbours_from cs apart) cs) (subst (λ (l : List Difference). AllByRecursion IsNear l) (sym (differences_are cs apart cs)) near))
