-- Lists that are read word by word.
use Rattle.std.proofs.Common.{◌≡◌, ◌∙◌, ◌%◌, ◌<◌, ◌⊎◌, arith, sym, ap, refl, inl, inr, ℕ, length, List, [], ◌∷◌, ◌++◌, true, false, Bool, Option, Some, None, Result, Ok, Err, is_some, ok_or, option_map, option_and_then, append_assoc, append-nil, if◌then◌else◌}
use Rattle.std.specs.Prelude.{min}
use Rattle.std.specs.Result.{IsErrAnd}
use Rattle.std.proofs.lemmas.Bool.Decides.{nat_tests}
use Rattle.bench_rules.specs.declared.field.Field.{Field}
use Rattle.bench_rules.specs.declared.operand.Operand.{Operand}
use Rattle.bench_rules.specs.declared.operand.Operand.TheVariants as operands
use Rattle.bench_rules.specs.declared.operator.Operator.{Operator}
use Rattle.bench_rules.specs.declared.edit.Edit.TheVariants as edits
use Rattle.script_words.specs.declared.command.Command.{Command}
use Rattle.script_words.specs.declared.command.Command.TheVariants.{Apply}
use Rattle.script_words.specs.declared.line_fault.LineFault.{LineFault}
use Rattle.script_words.specs.declared.line_fault.LineFault.TheVariants.{Number, OutOfMemory}
use Rattle.script_words.specs.Numbers.{trace_of}
use Rattle.script_words.specs.Readers.{field_of, operand_of, operator_of, fields_of, steps_of}
use Rattle.script_words.specs.HeaderCommands.{is_step_count, read_compute}
use Rattle.script_words.specs.Commands.{IsFieldRead, IsOperandRead, IsListRead, IsRead}

-- ---- a list

module _ {X : Type 0} where
  -- one of the words is none
  pub no_list : (o : Option (List X)) → is_some o ≡ false → IsListRead o (Err Number)
  no_list None e = refl
  no_list (Some xs) e = absurd cc

  pub no_list_err : (o : Option (List X)) (r : Result (List X) LineFault) → o ≡ None → IsErrAnd r (λ e. e ≡ Number) → IsListRead o r
  no_list_err o (Ok xs) n is = absurd is
  no_list_err o (Err e) n is = rw (n, is) refl

  -- each word is one, and memory was wanted
  pub want_memory : (o : Option (List X)) → is_some o ≡ true → IsListRead o (Err OutOfMemory)
  want_memory None e = absurd cc
  want_memory (Some xs) e = inr refl

  pub all_read : (o : Option (List X)) (xs : List X) → o ≡ Some (xs ++ []) → IsListRead o (Ok xs)
  all_read o xs e = rw (e, append-nil xs) (inl refl)

  pub one_more : (o : Option (List X)) (xs : List X) (x : X) → option_map (λ ys. xs ++ ys) (option_map (λ ys. x ∷ ys) o) ≡ option_map (λ ys. (xs ++ x ∷ []) ++ ys) o
  one_more None xs x = refl
  one_more (Some ys) xs x = ap (λ (zs : List X). let r : Option (List X) = Some zs in r) (sym (append_assoc xs (x ∷ []) ys))

-- a field that was not read
pub field_fault : (o : Option Field) (rest : Field → Option (List Field)) (xs : List Field) (all : Option (List Field)) (fault : LineFault) (r : Result (List Field) LineFault)
    → all ≡ option_map (λ ys. xs ++ ys) (option_and_then rest o) → is_some all ≡ true → IsFieldRead o (Err fault) → IsErrAnd r (λ e. e ≡ fault) → IsListRead all r
field_fault o rest xs all fault (Ok ys) is some h e = absurd e
field_fault None rest xs all fault (Err x) is some h e = let same : x ≡ Number = cc in rw (is, same) refl
field_fault (Some f) rest xs all fault (Err x) is some (inl h) e = absurd cc
field_fault (Some f) rest xs all fault (Err x) is some (inr h) e = let same : x ≡ OutOfMemory = cc in rw same (want_memory all some)

-- one field more
pub fields_step : (all : Option (List Field)) (ws rest : List (List ℕ)) (v : List ℕ) (x : Field) (xs : List Field)
    → all ≡ option_map (λ ys. xs ++ ys) (fields_of ws) → ws ≡ v ∷ rest → IsFieldRead (field_of v) (Ok x) → all ≡ option_map (λ ys. (xs ++ x ∷ []) ++ ys) (fields_of rest)
fields_step all ws rest v x xs is words h =
    let first : fields_of ws ≡ option_map (λ ys. x ∷ ys) (fields_of rest) = rw (words, read (field_of v) h) refl in
    is ∙ ap (λ (o : Option (List Field)). option_map (λ ys. xs ++ ys) o) first ∙ one_more (fields_of rest) xs x
  where
    read : (o : Option Field) → IsFieldRead o (Ok x) → o ≡ Some x
    read None e = absurd cc
    read (Some y) (inl e) = cc
    read (Some y) (inr e) = absurd cc

-- an operand that was not read
pub operand_fault : (o : Option Operand) (rest : Operand → Option (List (Operator × Operand))) (xs : List (Operator × Operand)) (all : Option (List (Operator × Operand))) (fault : LineFault) (r : Result (List (Operator × Operand)) LineFault)
    → all ≡ option_map (λ ys. xs ++ ys) (option_and_then rest o) → is_some all ≡ true → IsOperandRead o (Err fault) → IsErrAnd r (λ e. e ≡ fault) → IsListRead all r
operand_fault o rest xs all fault (Ok ys) is some h e = absurd e
operand_fault None rest xs all fault (Err x) is some h e = let same : x ≡ Number = cc in rw (is, same) refl
operand_fault (Some f) rest xs all fault (Err x) is some (inl h) e = absurd cc
operand_fault (Some f) rest xs all fault (Err x) is some (inr h) e = let same : x ≡ OutOfMemory = cc in rw same (want_memory all some)

-- ---- operations

abbrev pub Steps : Type 0
Steps = List (Operator × Operand)

are_both : (o : Option Operator) (p : Option Operand) (q : Option Steps) → is_some o ≡ true → is_some p ≡ true
    → is_some (option_and_then (λ x. option_and_then (λ y. option_map (λ ss. (x, y) ∷ ss) q) p) o) ≡ is_some q
are_both None p q e f = absurd cc
are_both (Some x) None q e f = absurd cc
are_both (Some x) (Some y) None e f = refl
are_both (Some x) (Some y) (Some ss) e f = refl

is_not_both : (o : Option Operator) (p : Option Operand) (q : Option Steps) → (is_some o ≡ false) ⊎ (is_some p ≡ false)
    → is_some (option_and_then (λ x. option_and_then (λ y. option_map (λ ss. (x, y) ∷ ss) q) p) o) ≡ false
is_not_both None p q e = refl
is_not_both (Some x) None q e = refl
is_not_both (Some x) (Some y) q (inl e) = absurd cc
is_not_both (Some x) (Some y) q (inr e) = absurd cc

module _ (ws us rest : List (List ℕ)) (v w : List ℕ) (first : ws ≡ v ∷ us) (second : us ≡ w ∷ rest) where
  two_words : ws ≡ v ∷ w ∷ rest
  two_words = first ∙ ap (λ (xs : List (List ℕ)). v ∷ xs) second

  pub are_more : (all : Bool) → is_some (operator_of v) ≡ true → is_some (operand_of w) ≡ true → is_some (steps_of ws) ≡ all → is_some (steps_of rest) ≡ all
  are_more all e f h = sym (are_both (operator_of v) (operand_of w) (steps_of rest) e f) ∙ ap (λ (xs : List (List ℕ)). is_some (steps_of xs)) (sym two_words) ∙ h

  pub are_none : (all : Bool) → (is_some (operator_of v) ≡ false) ⊎ (is_some (operand_of w) ≡ false) → is_some (steps_of ws) ≡ all → false ≡ all
  are_none all e h = sym (is_not_both (operator_of v) (operand_of w) (steps_of rest) e) ∙ ap (λ (xs : List (List ℕ)). is_some (steps_of xs)) (sym two_words) ∙ h

  pub steps_from : (x : Operator) → operator_of v ≡ Some x → steps_of ws ≡ option_and_then (λ y. option_map (λ ss. (x, y) ∷ ss) (steps_of rest)) (operand_of w)
  steps_from x e = rw (two_words, e) refl

  -- one operation more
  pub steps_step : (all : Option Steps) (x : Operator) (y : Operand) (xs : Steps) → all ≡ option_map (λ ys. xs ++ ys) (steps_of ws) → operator_of v ≡ Some x → IsOperandRead (operand_of w) (Ok y)
      → all ≡ option_map (λ ys. (xs ++ (x, y) ∷ []) ++ ys) (steps_of rest)
  steps_step all x y xs is e h =
      let one : steps_of ws ≡ option_map (λ ss. (x, y) ∷ ss) (steps_of rest) = steps_from x e ∙ rw (read (operand_of w) h) refl in
      is ∙ ap (λ (o : Option Steps). option_map (λ ys. xs ++ ys) o) one ∙ one_more (steps_of rest) xs (x, y)
    where
      read : (o : Option Operand) → IsOperandRead o (Ok y) → o ≡ Some y
      read None e = absurd cc
      read (Some z) (inl e) = cc
      read (Some z) (inr e) = absurd cc

-- ---- the computed field

-- what a computation gives, from what its words are
abbrev pub computed : ℕ → ℕ → Option Field → Option Operand → Option Steps → Result Command LineFault
computed a b field source steps =
    ok_or (option_and_then (λ k. option_and_then (λ l. option_map (λ ss. Apply (edits.Compute a b k l ss)) steps) source) field) Number

-- so many words may follow
pub step_count : (n count : ℕ) → count ≡ min 17 n → count < 17 → count % 2 ≡ 0 → is_step_count n ≡ true
step_count n count is few even =
    let same : count ≡ n = omega (arith, is, few) in
    let half : n % 2 ≡ 0 = rw same at even in
    let within : n < 17 = omega (arith, same, few) in
    grind (arith, nat_tests)

-- the words of a computation
pub read_is : (traces : ℕ) (ws : List (List ℕ)) (t u v w : List ℕ) (rest : List (List ℕ)) (a b : ℕ) → ws ≡ t ∷ u ∷ v ∷ w ∷ rest → is_step_count (length rest) ≡ true
    → trace_of traces t ≡ Some a → trace_of traces u ≡ Some b → read_compute traces ws ≡ computed a b (field_of v) (operand_of w) (steps_of rest)
read_is traces ws t u v w rest a b words fits from to = rw (words, fits, from, to) refl

module _ (a b : ℕ) where
  pub no_field : (o : Option Field) (p : Option Operand) (q : Option Steps) → is_some o ≡ false → IsRead (computed a b o p q) (Err Number)
  no_field None p q e = inl refl
  no_field (Some f) p q e = absurd cc

  pub no_source : (o : Option Field) (p : Option Operand) (q : Option Steps) → is_some p ≡ false → IsRead (computed a b o p q) (Err Number)
  no_source None p q e = inl refl
  no_source (Some f) None q e = inl refl
  no_source (Some f) (Some x) q e = absurd cc

  -- all words are read but for memory
  lacks : (o : Option Field) (p : Option Operand) (q : Option Steps) → is_some o ≡ true → is_some p ≡ true → is_some q ≡ true → IsRead (computed a b o p q) (Err OutOfMemory)
  lacks None p q e f g = absurd cc
  lacks (Some k) None q e f g = absurd cc
  lacks (Some k) (Some l) None e f g = absurd cc
  lacks (Some k) (Some l) (Some ss) e f g = inr (refl, tt)

  pub steps_err : (o : Option Field) (p : Option Operand) (q : Option Steps) (fault : LineFault) (r : Result Command LineFault)
      → is_some o ≡ true → is_some p ≡ true → IsListRead q (Err fault) → IsErrAnd r (λ e. e ≡ fault) → IsRead (computed a b o p q) r
  steps_err o p q fault (Ok c) e f h is = absurd is
  steps_err None p q fault (Err x) e f h is = absurd cc
  steps_err (Some k) None q fault (Err x) e f h is = absurd cc
  steps_err (Some k) (Some l) None fault (Err x) e f h is = let same : x ≡ Number = cc in rw same (inl refl)
  steps_err (Some k) (Some l) (Some ss) fault (Err x) e f (inl h) is = absurd cc
  steps_err (Some k) (Some l) (Some ss) fault (Err x) e f (inr h) is = let same : x ≡ OutOfMemory = cc in rw same (inr (refl, tt))

  some_list : {X : Type 0} (q : Option (List X)) (xs : List X) → IsListRead q (Ok xs) → q ≡ Some xs
  some_list None xs h = absurd cc
  some_list (Some ys) xs (inl h) = cc
  some_list (Some ys) xs (inr h) = absurd cc

  pub field_err : (o : Option Field) (p : Option Operand) (q : Option Steps) (fault : LineFault) (ss : Steps) (r : Result Command LineFault)
      → is_some o ≡ true → is_some p ≡ true → IsListRead q (Ok ss) → IsFieldRead o (Err fault) → IsErrAnd r (λ e. e ≡ fault) → IsRead (computed a b o p q) r
  field_err o p q fault ss (Ok c) e f g h is = absurd is
  field_err None p q fault ss (Err x) e f g h is = absurd cc
  field_err (Some k) p q fault ss (Err x) e f g (inl h) is = absurd cc
  field_err (Some k) p q fault ss (Err x) e f g (inr h) is =
      let same : x ≡ OutOfMemory = cc in rw same (lacks (Some k) p q e f (ap is_some (some_list q ss g)))

  pub source_err : (o : Option Field) (p : Option Operand) (q : Option Steps) (fault : LineFault) (ss : Steps) (r : Result Command LineFault)
      → is_some o ≡ true → is_some p ≡ true → IsListRead q (Ok ss) → IsOperandRead p (Err fault) → IsErrAnd r (λ e. e ≡ fault) → IsRead (computed a b o p q) r
  source_err o p q fault ss (Ok c) e f g h is = absurd is
  source_err o None q fault ss (Err x) e f g h is = absurd cc
  source_err o (Some l) q fault ss (Err x) e f g (inl h) is = absurd cc
  source_err o (Some l) q fault ss (Err x) e f g (inr h) is =
      let same : x ≡ OutOfMemory = cc in rw same (lacks o (Some l) q e f (ap is_some (some_list q ss g)))

  pub compute_ok : (o : Option Field) (p : Option Operand) (q : Option Steps) (k : Field) (l : Operand) (ss : Steps)
      → IsFieldRead o (Ok k) → IsOperandRead p (Ok l) → IsListRead q (Ok ss) → IsRead (computed a b o p q) (Ok (Apply (edits.Compute a b k l ss)))
  compute_ok None p q k l ss e f g = absurd cc
  compute_ok (Some x) p q k l ss (inr e) f g = absurd cc
  compute_ok (Some x) None q k l ss (inl e) f g = absurd cc
  compute_ok (Some x) (Some y) q k l ss (inl e) (inr f) g = absurd cc
  compute_ok (Some x) (Some y) q k l ss (inl e) (inl f) g =
      let field : x ≡ k = cc in
      let source : y ≡ l = cc in
      rw (field, source, some_list q ss g) (inl refl)

-- ---- an operand

pub field_operand_err : (b : Bool) (numbers : Option Operand) (o : Option Field) (fault : LineFault) (r : Result Operand LineFault) → b ≡ false → IsFieldRead o (Err fault) → IsErrAnd r (λ e. e ≡ fault)
    → IsOperandRead (if b then numbers else option_map operands.Field o) r
field_operand_err true numbers o fault r other read is = absurd cc
field_operand_err false numbers None fault (Ok x) other read is = absurd is
field_operand_err false numbers None fault (Err e) other read is = cc
field_operand_err false numbers (Some f) fault (Ok x) other read is = absurd is
field_operand_err false numbers (Some f) fault (Err e) other read is = by read
  where
    by : IsFieldRead (Some f) (Err fault) → IsOperandRead (Some (operands.Field f)) (Err e)
    by (inl found) = absurd cc
    by (inr (want, name)) =
        let same : e ≡ OutOfMemory = cc in
        inr (ap (λ (k : LineFault). let r : Result Operand LineFault = Err k in r) same, name)
