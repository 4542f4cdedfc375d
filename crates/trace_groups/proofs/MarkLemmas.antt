-- The marks of traces, one trace more.
use Rattle.std.specs.Prelude.{◌≡◌, ℕ, ℤ, ◌+◌, ◌<◌, List, [], ◌∷◌, ◌++◌, length, map, Option, option_map}
use Rattle.std.proofs.Common.{arith, sym, ap, ◌∙◌, append_assoc, length-append, subst, take, get_or}
use Rattle.std.proofs.lemmas.List.{append-nil, length-map, map-append, take_more, length-take-le}
use Rattle.std.proofs.lemmas.Result.{IfOk-weaker}
use Rattle.std.specs.Result.{IfOk}
use Rattle.std.specs.declared.result.Result.{Result}
use Rattle.room.specs.declared.out_of_memory.OutOfMemory.{OutOfMemory}
use Rattle.trace_record.specs.Facts.{Facts, facts_of}
use Rattle.trace_record.specs.declared.record.Record.{Record}
use Rattle.trace_groups.specs.declared.group.TraceGroup.{TraceGroup}
use Rattle.trace_groups.specs.declared.mark.Mark.{Mark}
use Rattle.trace_groups.specs.declared.problem.TraceProblem.{TraceProblem}
use Rattle.trace_groups.specs.declared.run_tally.RunTally.{RunTally}
use Rattle.trace_groups.specs.OfTally.{IsTallyOf}
use Rattle.trace_groups.specs.Groups.{group_in, group_of, marks_at, marks_from, marks_of}

module _ {A : Type 0} (facts : A → Option (ℤ × ℤ)) where
  marks_from-push : (p : ℕ) (xs : List A) (x : A) → marks_from facts p (xs ++ x ∷ []) ≡ marks_from facts p xs ++ marks_at (p + length xs) (facts x)
  marks_from-push p [] x =
      let same : p ≡ p + 0 = omega arith in
      append-nil (marks_at p (facts x)) ∙ ap (λ q. marks_at q (facts x)) same
  marks_from-push p (y ∷ xs) x =
      let same : p + 1 + length xs ≡ p + length (y ∷ xs) = omega arith in
      ap (λ l. marks_at p (facts y) ++ l) (marks_from-push (p + 1) xs x ∙ ap (λ q. marks_from facts (p + 1) xs ++ marks_at q (facts x)) same)
      ∙ sym (append_assoc (marks_at p (facts y)) (marks_from facts (p + 1) xs) (marks_at (p + length (y ∷ xs)) (facts x)))

  -- the marks of the traces and those of one more behind them
  pub marks_of-push : (xs : List A) (x : A) (p : ℕ) → p ≡ length xs + 1 → marks_of facts (xs ++ x ∷ []) ≡ marks_of facts xs ++ marks_at p (facts x)
  marks_of-push xs x p at =
      let same : 1 + length xs ≡ p = omega arith in
      marks_from-push 1 xs x ∙ ap (λ q. marks_of facts xs ++ marks_at q (facts x)) same

  -- what a push is said to do
  abbrev Pushes : ℕ → Option (ℤ × ℤ) → RunTally → RunTally → Type 0
  Pushes p o t u = (marks : List Mark) → IsTallyOf marks t → IsTallyOf (marks ++ marks_at p o) u

  -- a tally of traces, with one of them more behind the others
  pub tally_behind : (ys : List A) (x : A) (p : ℕ) → p ≡ length ys + 1 → (o : Option (ℤ × ℤ)) → o ≡ facts x → (t u : RunTally) → Pushes p o t u
      → IsTallyOf (marks_of facts ys) t → IsTallyOf (marks_of facts (ys ++ x ∷ [])) u
  tally_behind ys x p at o same t u push h =
      subst (λ marks. IsTallyOf marks u) (ap (λ q. marks_of facts ys ++ marks_at p q) same ∙ sym (marks_of-push ys x p at)) (push (marks_of facts ys) h)

  -- the same along a list
  pub tally_along : (xs : List A) (i : ℕ) (d : A) → i < length xs → (p : ℕ) → p ≡ i + 1 → (o : Option (ℤ × ℤ)) → o ≡ facts (get_or xs i d) → (t u : RunTally) → Pushes p o t u
      → IsTallyOf (marks_of facts (take i xs)) t → IsTallyOf (marks_of facts (take (i + 1) xs)) u
  tally_along xs i d inside p at o same t u push h =
      let count = length-take-le i xs (omega arith) in
      subst (λ l. IsTallyOf (marks_of facts l) u) (sym (take_more xs i d inside)) (tally_behind (take i xs) (get_or xs i d) p (omega arith) o same t u push h)

-- a tally of records that were passed over, with one of them more behind the others
pub record_behind : (facts : Facts → Option (ℤ × ℤ)) (ys : List Record) (x : Record) (position : ℕ) → position ≡ length ys
    → (o : Option (ℤ × ℤ)) → o ≡ facts (facts_of x) → (t u : RunTally) → ((marks : List Mark) → IsTallyOf marks t → IsTallyOf (marks ++ marks_at (position + 1) o) u)
    → IsTallyOf (marks_of facts (map facts_of ys)) t → IsTallyOf (marks_of facts (map facts_of (ys ++ x ∷ []))) u
record_behind facts ys x position at o same t u push h =
    let here : position + 1 ≡ length (map facts_of ys) + 1 = ap (λ n. n + 1) (at ∙ sym (length-map ys facts_of)) in
    subst (λ l. IsTallyOf (marks_of facts l) u) (sym (map-append facts_of ys (x ∷ []))) (tally_behind facts (map facts_of ys) (facts_of x) (position + 1) here o same t u push h)

-- the group that a tally of these marks gives
pub grouped : (r : Result (Option TraceGroup) OutOfMemory) (problem : TraceProblem) (t : RunTally) (ms : List Mark) → IsTallyOf ms t
    → IfOk r (λ group. (marks : List Mark) → IsTallyOf marks t → option_map group_in group ≡ group_of problem marks) → IfOk r (λ group. option_map group_in group ≡ group_of problem ms)
grouped r problem t ms told h = IfOk-weaker r _ _ (λ group each. each ms told) h

-- a place for one more
pub one_more : {A : Type 0} (ys : List A) (x : A) (zs xs : List A) → ys ++ x ∷ zs ≡ xs → length ys < length xs
one_more ys x zs xs parts =
    let whole = length-append ys (x ∷ zs) in
    let same = ap length parts in
    omega arith
