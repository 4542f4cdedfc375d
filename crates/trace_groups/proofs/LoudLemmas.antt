-- No trace is loud where none of the amounts is.
use Rattle.std.specs.Prelude.{◌≡◌, ℕ, ℤ, ◌+◌, pos, ◌||◌, Bool, true, false, List, [], ◌∷◌, ◌++◌, filter_map, Option, Some, None, option_and_then, if◌then◌else◌, refl}
use Rattle.std.specs.Option.{option_map_or}
use Rattle.std.specs.List.{cons_option, list_any}
use Rattle.std.specs.List.Sorted.{IsPermutation}
use Rattle.std.proofs.Common.{ap, ◌∙◌}
use Rattle.std.proofs.lemmas.List.Folds.{list_any-append}
use Rattle.std.proofs.lemmas.List.Sorted.{list_any-IsPermutation}
use Rattle.trace_record.specs.Facts.{Facts}
use Rattle.trace_groups.specs.Groups.{marks_at, marks_from, marks_of}
use Rattle.trace_groups.specs.Loud.{amount_of, is_loud, loud_beside, loud_facts, loud_marks}
use Rattle.trace_groups.specs.Medians.{lower_median}

module _ (q : ℕ → Bool) where
  -- what is said of an amount that passes
  abbrev said : Option ℕ → Option (ℤ × ℤ)
  said o = option_and_then (λ a. if q a then Some (pos a, pos 0) else None) o

  one : (a : ℕ) (b : Bool) (p : ℕ) (others : Bool) → (b || others) ≡ false → (marks_at p (if b then Some (pos a, pos 0) else None) ≡ []) × (others ≡ false)
  one a true p others h = absurd cc
  one a false p others h = (refl, h)

  -- an amount in front of others, none of which passes
  first : (o : Option ℕ) (p : ℕ) (ns : List ℕ) → list_any q (cons_option o ns) ≡ false → (marks_at p (said o) ≡ []) × (list_any q ns ≡ false)
  first None p ns h = (refl, h)
  first (Some a) p ns h = one a (q a) p (list_any q ns) h

module _ (floats : Bool) (median : ℕ) where
  pub no_loud : (fs : List Facts) (p : ℕ) → list_any (is_loud floats median) (filter_map (amount_of floats) fs) ≡ false → marks_from (loud_facts floats median) p fs ≡ []
  no_loud [] p h = refl
  no_loud (f ∷ fs) p h =
      let here = first (is_loud floats median) (amount_of floats f) p (filter_map (amount_of floats) fs) h in
      ap (λ ms. ms ++ marks_from (loud_facts floats median) (p + 1) fs) here.0 ∙ no_loud fs (p + 1) here.1

  -- an amount that lies between others is loud, or one of them, where one of all is
  pub parted : (front : List ℕ) (m : ℕ) (back ns : List ℕ) → IsPermutation ns (front ++ m ∷ back)
      → list_any (is_loud floats median) ns ≡ (list_any (is_loud floats median) front || (is_loud floats median m || list_any (is_loud floats median) back))
  parted front m back ns same =
      list_any-IsPermutation (is_loud floats median) ns (front ++ m ∷ back) same ∙ list_any-append (is_loud floats median) front (m ∷ back)

  -- what is told of amounts whose median this is
  pub beside : (ns : List ℕ) (b : Bool) → lower_median ns ≡ Some median → list_any (is_loud floats median) ns ≡ b → loud_beside floats ns ≡ (if b then Some median else None)
  beside ns b is any = ap (option_and_then (λ m. if list_any (is_loud floats m) ns then Some m else None)) is ∙ ap (λ c. if c then Some median else None) any

-- none is loud where there is no median beside which one is
pub none_loud : (floats : Bool) (fs : List Facts) → loud_beside floats (filter_map (amount_of floats) fs) ≡ None → loud_marks floats fs ≡ []
none_loud floats fs h = by (lower_median (filter_map (amount_of floats) fs)) h
  where
    each : (m : ℕ) (b : Bool) → list_any (is_loud floats m) (filter_map (amount_of floats) fs) ≡ b → (if b then Some m else None) ≡ None → marks_of (loud_facts floats m) fs ≡ []
    each m true e g = absurd cc
    each m false e g = no_loud floats m fs 1 e

    by : (o : Option ℕ) → option_and_then (λ m. if list_any (is_loud floats m) (filter_map (amount_of floats) fs) then Some m else None) o ≡ None
        → option_map_or (λ m. marks_of (loud_facts floats m) fs) o [] ≡ []
    by None g = refl
    by (Some m) g = each m (list_any (is_loud floats m) (filter_map (amount_of floats) fs)) refl g
