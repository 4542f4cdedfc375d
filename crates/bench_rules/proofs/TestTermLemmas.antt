-- A condition on two terms.
use Rattle.std.proofs.Common.{◌≡◌, ℕ, ℤ, Bool, List, Option, Some, None, refl, sym, ap, ◌∙◌}
use Rattle.std.specs.Prelude.{option_map, option_and_then}
use Rattle.std.specs.Ordering.{int_cmp}
use Rattle.frame_cut.specs.declared.file_head.Head.{Head}
use Rattle.trace_record.specs.declared.amplitudes.Amplitudes.{Amplitudes}
use Rattle.bench_rules.specs.declared.comparison.Comparison.{Comparison}
use Rattle.bench_rules.specs.declared.side_value.SideValue.{SideValue}
use Rattle.bench_rules.specs.declared.side_value.SideValue.TheVariants.{Whole}
use Rattle.bench_rules.specs.declared.term.Term.{Term}
use Rattle.bench_rules.specs.declared.test_side.TestSide.{TestSide}
use Rattle.bench_rules.specs.declared.test_side.TestSide.TheVariants as sides
use Rattle.bench_rules.specs.Computed.{term_in}
use Rattle.bench_rules.specs.Conditions.{side_by}
use Rattle.bench_rules.specs.SideValues.{admits, compares}

-- two numbers that may be lacking, as numbers and as what sides say
as_values : (comparison : Comparison) (x y : Option ℤ)
    → option_and_then (λ a. option_map (λ b. admits comparison (int_cmp a b)) y) x
    ≡ option_and_then (λ a. option_map (λ b. compares comparison a b) (option_map Whole y)) (option_map Whole x)
as_values comparison None y = refl
as_values comparison (Some a) None = refl
as_values comparison (Some a) (Some b) = refl

module _ (h : Head) (t : List ℕ) (all : Option Amplitudes) (comparison : Comparison) where
  -- what a condition on these sides says
  abbrev said_by : TestSide → TestSide → Option Bool
  said_by left right = option_and_then (λ x. option_map (λ y. compares comparison x y) (side_by h t all right)) (side_by h t all left)

  -- where both are terms, their numbers say it
  pub by_their_numbers : (left right : TestSide) (a b : Term) → left ≡ sides.Term a → right ≡ sides.Term b
      → option_and_then (λ x. option_map (λ y. admits comparison (int_cmp x y)) (term_in h t b)) (term_in h t a)
      ≡ option_and_then (λ x. option_map (λ y. compares comparison x y) (side_by h t all right)) (side_by h t all left)
  by_their_numbers left right a b one other =
      as_values comparison (term_in h t a) (term_in h t b)
      ∙ ap (λ (s : TestSide). said_by s (sides.Term b)) (sym one)
      ∙ ap (λ (s : TestSide). said_by left s) (sym other)
