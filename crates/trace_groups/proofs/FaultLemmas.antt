-- The traces that faults are of, one fault more.
use Rattle.std.specs.Prelude.{◌≡◌, ℕ, ℤ, List, [], ◌∷◌, ◌++◌, Option}
use Rattle.std.proofs.Common.{sym, ap, ◌∙◌, subst}
use Rattle.std.proofs.lemmas.List.{append-nil}
use Rattle.std.proofs.lemmas.Grind.{flat_map-append}
use Rattle.fault_live.specs.declared.fault.Fault.{Fault}
use Rattle.trace_groups.specs.declared.mark.Mark.{Mark}
use Rattle.trace_groups.specs.declared.run_tally.RunTally.{RunTally}
use Rattle.trace_groups.specs.FaultGroups.{position_of, fault_marks}
use Rattle.trace_groups.specs.Groups.{marks_at}
use Rattle.trace_groups.specs.OfTally.{IsTallyOf}

module _ (facts : Fault → Option (ℤ × ℤ)) (fs : List Fault) (f : Fault) where
  fault_marks-push : fault_marks facts (fs ++ f ∷ []) ≡ fault_marks facts fs ++ marks_at (position_of f) (facts f)
  fault_marks-push =
      flat_map-append (λ x. marks_at (position_of x) (facts x)) fs (f ∷ [])
      ∙ ap (λ l. fault_marks facts fs ++ l) (append-nil (marks_at (position_of f) (facts f)))

  pub fault_behind : (p : ℕ) → p ≡ position_of f → (o : Option (ℤ × ℤ)) → o ≡ facts f → (t u : RunTally)
      → ((marks : List Mark) → IsTallyOf marks t → IsTallyOf (marks ++ marks_at p o) u)
      → IsTallyOf (fault_marks facts fs) t → IsTallyOf (fault_marks facts (fs ++ f ∷ [])) u
  fault_behind p at o same t u push h =
      let marks = ap (λ q. fault_marks facts fs ++ marks_at q o) at ∙ ap (λ q. fault_marks facts fs ++ marks_at (position_of f) q) same ∙ sym fault_marks-push in
      subst (λ l. IsTallyOf l u) marks (push (fault_marks facts fs) h)
