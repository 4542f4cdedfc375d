-- Conditions, from what was read of their words.
use Rattle.std.proofs.Common.{◌≡◌, ◌∙◌, ap, refl, inl, inr, ℕ, Bool, true, false, List, [], ◌∷◌, ◌++◌, Option, Some, None, Result, Ok, Err, is_some, option_map, option_and_then, ok_or, if◌then◌else◌}
use Rattle.std.specs.Result.{IsErrAnd}
use Rattle.bench_rules.specs.declared.comparison.Comparison.{Comparison}
use Rattle.bench_rules.specs.declared.condition.Condition.{Condition}
use Rattle.bench_rules.specs.declared.operand.Operand.{Operand}
use Rattle.bench_rules.specs.declared.side.Side.{Side}
use Rattle.bench_rules.specs.declared.side.Side.TheVariants as sides
use Rattle.exact_amounts.specs.declared.amount.Amount.{Amount}
use Rattle.float_codes.specs.declared.float_format.FloatFormat.{FloatFormat}
use Rattle.script_words.specs.declared.line_fault.LineFault.{LineFault}
use Rattle.script_words.specs.declared.line_fault.LineFault.TheVariants.{Number, OutOfMemory}
use Rattle.script_words.specs.Conditions.{condition_of, conditions_of}
use Rattle.script_words.specs.Commands.{IsOperandRead, IsSideRead, IsConditionRead, IsListRead}
use Rattle.script_words.proofs.ListLemmas.{want_memory, one_more}

-- ---- one side

-- the side of a word, from whether it is read as a decimal, and what it is as a decimal and as an operand
abbrev pub side_by : Bool → Option Amount → Option Operand → Option Side
side_by decimal d o = if decimal then option_map sides.Decimal d else option_map sides.Operand o

pub by_operand : (decimal : Bool) (d : Option Amount) (o : Option Operand) → decimal ≡ false → is_some (side_by decimal d o) ≡ is_some o
by_operand true d o e = absurd cc
by_operand false d None e = refl
by_operand false d (Some x) e = refl

-- memory was wanted for an operand, or it is none
pub operand_err : (decimal : Bool) (d : Option Amount) (o : Option Operand) (fault : LineFault) (r : Result Side LineFault)
    → decimal ≡ false → IsOperandRead o (Err fault) → IsErrAnd r (λ e. e ≡ fault) → IsSideRead (side_by decimal d o) r
operand_err true d o fault r e h is = absurd cc
operand_err false d o fault (Ok x) e h is = absurd is
operand_err false d None fault (Err x) e h is = let same : x ≡ Number = cc in rw same refl
operand_err false d (Some y) fault (Err x) e (inl h) is = absurd cc
operand_err false d (Some y) fault (Err x) e (inr h) is = let same : x ≡ OutOfMemory = cc in rw same (inr (refl, h.1))

pub operand_read : (decimal : Bool) (d : Option Amount) (o : Option Operand) (x : Operand)
    → decimal ≡ false → IsOperandRead o (Ok x) → IsSideRead (side_by decimal d o) (Ok (sides.Operand x))
operand_read true d o x e h = absurd cc
operand_read false d None x e h = absurd cc
operand_read false d (Some y) x e (inl h) = let same : y ≡ x = cc in rw same (inl refl)
operand_read false d (Some y) x e (inr h) = absurd cc

-- ---- one condition

-- what three words give, from what each of them gives
abbrev pub built : Option Side → Option Comparison → Option Side → Option Condition
built o k p = option_and_then (λ l. option_and_then (λ c. option_map (λ r. record { left = l; comparison = c; right = r }) p) k) o

pub no_left : (o : Option Side) (k : Option Comparison) (p : Option Side) → is_some o ≡ false → is_some (built o k p) ≡ false
no_left None k p e = refl
no_left (Some l) k p e = absurd cc

pub no_sign : (o : Option Side) (k : Option Comparison) (p : Option Side) → is_some k ≡ false → is_some (built o k p) ≡ false
no_sign None k p e = refl
no_sign (Some l) None p e = refl
no_sign (Some l) (Some c) p e = absurd cc

pub as_right : (o : Option Side) (k : Option Comparison) (p : Option Side) → is_some o ≡ true → is_some k ≡ true → is_some (built o k p) ≡ is_some p
as_right None k p e f = absurd cc
as_right (Some l) None p e f = absurd cc
as_right (Some l) (Some c) None e f = refl
as_right (Some l) (Some c) (Some r) e f = refl

pub no_right : (o : Option Side) (k : Option Comparison) (p : Option Side) → is_some p ≡ false → IsConditionRead (built o k p) (Err Number)
no_right None k p e = refl
no_right (Some l) None p e = refl
no_right (Some l) (Some c) None e = refl
no_right (Some l) (Some c) (Some r) e = absurd cc

-- a word was no sign
pub sign_err : (o : Option Side) (found k : Option Comparison) (p : Option Side) (fault : LineFault) (r : Result Condition LineFault)
    → found ≡ k → false ≡ is_some found → Err fault ≡ ok_or found Number → IsErrAnd r (λ e. e ≡ fault) → IsConditionRead (built o k p) r
sign_err o (Some c) k p fault r same none value is = absurd cc
sign_err o None k p fault (Ok x) same none value is = absurd is
sign_err None None k p fault (Err x) same none value is = let number : x ≡ Number = cc in rw number refl
sign_err (Some l) None k p fault (Err x) same none value is = let number : x ≡ Number = cc in rw (← same, number) refl

-- memory was wanted for a side
pub left_err : (o : Option Side) (k : Option Comparison) (c : Comparison) (p : Option Side) (fault : LineFault) (r : Result Condition LineFault)
    → k ≡ Some c → is_some p ≡ true → IsSideRead o (Err fault) → IsErrAnd r (λ e. e ≡ fault) → IsConditionRead (built o k p) r
left_err o k c p fault (Ok x) e f h is = absurd is
left_err o k c None fault (Err x) e f h is = absurd cc
left_err None k c (Some r) fault (Err x) e f h is = let same : x ≡ Number = cc in rw same refl
left_err (Some l) k c (Some r) fault (Err x) e f (inl h) is = absurd cc
left_err (Some l) k c (Some r) fault (Err x) e f (inr h) is = let same : x ≡ OutOfMemory = cc in rw (e, same) (inr refl)

pub right_err : (o : Option Side) (k : Option Comparison) (c : Comparison) (p : Option Side) (left : Side) (fault : LineFault) (r : Result Condition LineFault)
    → k ≡ Some c → is_some p ≡ true → IsSideRead o (Ok left) → IsSideRead p (Err fault) → IsErrAnd r (λ e. e ≡ fault) → IsConditionRead (built o k p) r
right_err o k c p left fault (Ok x) e f g h is = absurd is
right_err None k c p left fault (Err x) e f g h is = absurd cc
right_err (Some l) k c None left fault (Err x) e f g h is = absurd cc
right_err (Some l) k c (Some r) left fault (Err x) e f g (inl h) is = absurd cc
right_err (Some l) k c (Some r) left fault (Err x) e f g (inr h) is = let same : x ≡ OutOfMemory = cc in rw (e, same) (inr refl)

pub both_read : (o : Option Side) (k : Option Comparison) (c : Comparison) (p : Option Side) (left right : Side)
    → k ≡ Some c → IsSideRead o (Ok left) → IsSideRead p (Ok right) → IsConditionRead (built o k p) (Ok (record { left = left; comparison = c; right = right }))
both_read None k c p left right e g h = absurd cc
both_read (Some l) k c p left right e (inr g) h = absurd cc
both_read (Some l) k c None left right e (inl g) h = absurd cc
both_read (Some l) k c (Some r) left right e (inl g) (inr h) = absurd cc
both_read (Some l) k c (Some r) left right e (inl g) (inl h) =
    let first : l ≡ left = cc in
    let second : r ≡ right = cc in
    rw (e, first, second) (inl refl)

-- ---- conditions

module _ (floats : Option FloatFormat) where
  -- with a condition in front, what the words behind it give
  abbrev behind : List (List ℕ) → Condition → Option (List Condition)
  behind [] c = Some (c ∷ [])
  behind (word ∷ words) c = option_map (λ cs. c ∷ cs) (conditions_of floats words)

  one_alone : (o : Option Condition) → option_map (λ c. c ∷ []) o ≡ option_and_then (λ c. let r : Option (List Condition) = Some (c ∷ []) in r) o
  one_alone None = refl
  one_alone (Some c) = refl

  in_parts : (a sign b : List ℕ) (us : List (List ℕ)) → conditions_of floats (a ∷ sign ∷ b ∷ us) ≡ option_and_then (behind us) (condition_of floats a sign b)
  in_parts a sign b [] = one_alone (condition_of floats a sign b)
  in_parts a sign b (word ∷ words) = refl

  some_with : (o : Option Condition) (words : List (List ℕ)) → is_some o ≡ true → is_some (option_and_then (λ c. option_map (λ cs. c ∷ cs) (conditions_of floats words)) o) ≡ is_some (conditions_of floats words)
  some_with None words e = absurd cc
  some_with (Some c) words e = by (conditions_of floats words)
    where
      by : (all : Option (List Condition)) → is_some (option_map (λ cs. c ∷ cs) all) ≡ is_some all
      by None = refl
      by (Some cs) = refl

  none_with : (o : Option Condition) (f : Condition → Option (List Condition)) → is_some o ≡ false → is_some (option_and_then f o) ≡ false
  none_with None f e = refl
  none_with (Some c) f e = absurd cc

  some_alone : (o : Option Condition) → is_some o ≡ true → is_some (option_map (λ c. c ∷ []) o) ≡ true
  some_alone None e = absurd cc
  some_alone (Some c) e = refl

  module _ (ws us : List (List ℕ)) (a sign b : List ℕ) (first : ws ≡ a ∷ sign ∷ b ∷ us) where
    pub is_none_here : is_some (condition_of floats a sign b) ≡ false → is_some (conditions_of floats ws) ≡ false
    is_none_here e = ap (λ x. is_some (conditions_of floats x)) first ∙ ap is_some (in_parts a sign b us) ∙ none_with (condition_of floats a sign b) (behind us) e

    pub is_last : us ≡ [] → is_some (condition_of floats a sign b) ≡ true → is_some (conditions_of floats ws) ≡ true
    is_last e f = ap (λ x. is_some (conditions_of floats x)) (first ∙ ap (λ x. a ∷ sign ∷ b ∷ x) e) ∙ some_alone (condition_of floats a sign b) f

    pub is_one_more : (word : List ℕ) (rest : List (List ℕ)) → us ≡ word ∷ rest → is_some (condition_of floats a sign b) ≡ true → is_some (conditions_of floats ws) ≡ is_some (conditions_of floats rest)
    is_one_more word rest e f = ap (λ x. is_some (conditions_of floats x)) (first ∙ ap (λ x. a ∷ sign ∷ b ∷ x) e) ∙ some_with (condition_of floats a sign b) rest f

    module _ (all : Option (List Condition)) (xs : List Condition) (so_far : all ≡ option_map (λ ys. xs ++ ys) (conditions_of floats ws)) where
      condition_fault : (o : Option Condition) (rest : Condition → Option (List Condition)) (fault : LineFault) (r : Result (List Condition) LineFault)
          → all ≡ option_map (λ ys. xs ++ ys) (option_and_then rest o) → is_some all ≡ true → IsConditionRead o (Err fault) → IsErrAnd r (λ e. e ≡ fault) → IsListRead all r
      condition_fault o rest fault (Ok ys) is some h e = absurd e
      condition_fault None rest fault (Err x) is some h e = let same : x ≡ Number = cc in rw (is, same) refl
      condition_fault (Some c) rest fault (Err x) is some (inl h) e = absurd cc
      condition_fault (Some c) rest fault (Err x) is some (inr h) e = let same : x ≡ OutOfMemory = cc in rw same (want_memory all some)

      -- a condition was not read
      pub condition_err : (fault : LineFault) (r : Result (List Condition) LineFault) → is_some all ≡ true → IsConditionRead (condition_of floats a sign b) (Err fault) → IsErrAnd r (λ e. e ≡ fault) → IsListRead all r
      condition_err fault r some h e =
          condition_fault (condition_of floats a sign b) (behind us) fault r
          (so_far ∙ ap (λ (o : Option (List Condition)). option_map (λ ys. xs ++ ys) o) (ap (λ x. conditions_of floats x) first ∙ in_parts a sign b us)) some h e

      condition_is : (o : Option Condition) (c : Condition) → IsConditionRead o (Ok c) → o ≡ Some c
      condition_is None c e = absurd cc
      condition_is (Some d) c (inl e) = cc
      condition_is (Some d) c (inr e) = absurd cc

      -- the last one was
      pub last_read : (c : Condition) → us ≡ [] → IsConditionRead (condition_of floats a sign b) (Ok c) → IsListRead all (Ok (xs ++ c ∷ []))
      last_read c e h =
          let one : conditions_of floats ws ≡ Some (c ∷ []) =
          ap (λ x. conditions_of floats x) (first ∙ ap (λ x. a ∷ sign ∷ b ∷ x) e) ∙ ap (λ (o : Option Condition). option_map (λ d. d ∷ []) o) (condition_is (condition_of floats a sign b) c h) in
          rw (so_far, one) (inl refl)

      -- and one more
      pub more_read : (c : Condition) (word : List ℕ) (rest : List (List ℕ)) → us ≡ word ∷ rest → IsConditionRead (condition_of floats a sign b) (Ok c)
          → all ≡ option_map (λ ys. (xs ++ c ∷ []) ++ ys) (conditions_of floats rest)
      more_read c word rest e h =
          let one : conditions_of floats ws ≡ option_map (λ cs. c ∷ cs) (conditions_of floats rest) =
          ap (λ x. conditions_of floats x) (first ∙ ap (λ x. a ∷ sign ∷ b ∷ x) e)
          ∙ ap (λ (o : Option Condition). option_and_then (λ d. option_map (λ cs. d ∷ cs) (conditions_of floats rest)) o) (condition_is (condition_of floats a sign b) c h) in
          so_far ∙ ap (λ (o : Option (List Condition)). option_map (λ ys. xs ++ ys) o) one ∙ one_more (conditions_of floats rest) xs c
