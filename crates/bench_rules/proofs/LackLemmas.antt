-- Whether a trace lacks a place of conditions, whatever its samples are.
use Rattle.std.proofs.Common.{◌≡◌, ℕ, Bool, ◌&&◌, List, [], ◌∷◌, Option, Some, None, is_some, refl, sym, ap₂, ◌∙◌}
use Rattle.std.specs.Prelude.{option_map, option_and_then}
use Rattle.std.specs.List.{list_all}
use Rattle.frame_cut.specs.declared.file_head.Head.{Head}
use Rattle.trace_record.specs.declared.amplitudes.Amplitudes.{Amplitudes}
use Rattle.bench_rules.specs.declared.test.Test.{Test}
use Rattle.bench_rules.specs.declared.test_side.TestSide.{TestSide}
use Rattle.bench_rules.specs.declared.test_side.TestSide.TheVariants.{Term, Decimal, Fact}
use Rattle.bench_rules.specs.Conditions.{meets_by, side_by, test_by}
use Rattle.bench_rules.specs.ManyTraces.{each_of}

both-there : {X Y Z : Type 0} (g : X → Y → Z) (l : Option X) (r : Option Y) → is_some (option_and_then (λ x. option_map (g x) r) l) ≡ (is_some l && is_some r)
both-there g None r = refl
both-there g (Some x) None = refl
both-there g (Some x) (Some y) = refl

module _ (h : Head) (t : List ℕ) (a b : Option Amplitudes) where
  same-side : (side : TestSide) → is_some (side_by h t a side) ≡ is_some (side_by h t b side)
  same-side (Term term) = refl
  same-side (Decimal amount) = refl
  same-side (Fact fact) = refl

  same-test : (test : Test) → is_some (test_by h t a test) ≡ is_some (test_by h t b test)
  same-test test =
      both-there _ (side_by h t a test.left) (side_by h t a test.right)
      ∙ ap₂ (λ (x y : Bool). x && y) (same-side test.left) (same-side test.right)
      ∙ sym (both-there _ (side_by h t b test.left) (side_by h t b test.right))

  same-each : (tests : List Test) → is_some (each_of (test_by h t a) tests) ≡ is_some (each_of (test_by h t b) tests)
  same-each [] = refl
  same-each (test ∷ tests) =
      both-there _ (test_by h t a test) (each_of (test_by h t a) tests)
      ∙ ap₂ (λ (x y : Bool). x && y) (same-test test) (same-each tests)
      ∙ sym (both-there _ (test_by h t b test) (each_of (test_by h t b) tests))

  -- a trace that lacks a place does so whatever its samples are
  pub lacks_whatever : (tests : List Test) → meets_by h t a tests ≡ None → meets_by h t b tests ≡ None
  lacks_whatever tests = by (each_of (test_by h t a) tests) (each_of (test_by h t b) tests) (same-each tests)
    where
      by : (x y : Option (List Bool)) → is_some x ≡ is_some y → option_map (λ bs. list_all (λ b. b) bs) x ≡ None → option_map (λ bs. list_all (λ b. b) bs) y ≡ None
      by None None same e = refl
      by None (Some bs) same e = absurd cc
      by (Some bs) y same e = absurd cc
