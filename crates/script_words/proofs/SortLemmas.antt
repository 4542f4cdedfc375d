-- The words of a sort.
use Rattle.std.proofs.Common.{◌≡◌, ◌∙◌, ◌&&◌, ℕ, length, List, [], ◌∷◌, ◌++◌, Bool, true, false, eqb, Option, Some, None, Result, Ok, Err, refl, is_some, map, option_map, sym, ap, arith, inl, inr, append_assoc}
use Rattle.std.specs.Prelude.{nat_lt}
use Rattle.std.specs.Result.{IsErrAnd}
use Rattle.std.specs.Str.{IsUtf8, IsCharBoundary}
use Rattle.std.proofs.lemmas.Bool.{eqb-true}
use Rattle.std.proofs.lemmas.Str.{IsCharBoundary-after_ascii}
use Rattle.bench_rules.specs.declared.field.Field.{Field}
use Rattle.script_words.specs.Readers.{field_of}
use Rattle.script_words.specs.HeaderCommands.{is_falling, without_sign, sorted_fields_of}
use Rattle.script_words.specs.declared.line_fault.LineFault.{LineFault}
use Rattle.script_words.specs.Commands.{IsFieldRead, IsListRead}
use Rattle.script_words.proofs.ListLemmas.{one_more, field_fault}

both : (p q : Bool) → (p && q) ≡ true → (p ≡ true) × (q ≡ true)
both true q e = (refl, e)
both false q e = absurd cc

-- the byte behind a `-` in front begins a character
pub behind_sign : (word : List ℕ) → IsUtf8 word → is_falling word ≡ true → IsCharBoundary word 1
behind_sign [] u e = absurd cc
behind_sign (c ∷ cs) u e =
    let dash : 45 ≡ c = eqb-true 45 c (both (eqb 45 c) true (both (nat_lt 1 (length (c ∷ cs))) (eqb 45 c && true) e).1).0 in
    IsCharBoundary-after_ascii (c ∷ cs) 0 u (omega arith) (omega (arith, dash))

-- one field more
pub sorted_step : (all : Option (List Field)) (ws rest : List (List ℕ)) (v : List ℕ) (x : Field) (xs : List Field)
    → all ≡ option_map (λ ys. xs ++ ys) (sorted_fields_of ws) → ws ≡ v ∷ rest → IsFieldRead (field_of (without_sign v)) (Ok x) → all ≡ option_map (λ ys. (xs ++ x ∷ []) ++ ys) (sorted_fields_of rest)
sorted_step all ws rest v x xs is words h =
    let first : sorted_fields_of ws ≡ option_map (λ ys. x ∷ ys) (sorted_fields_of rest) = rw (words, read (field_of (without_sign v)) h) refl in
    is ∙ ap (λ (o : Option (List Field)). option_map (λ ys. xs ++ ys) o) first ∙ one_more (sorted_fields_of rest) xs x
  where
    read : (o : Option Field) → IsFieldRead o (Ok x) → o ≡ Some x
    read None e = absurd cc
    read (Some y) (inl e) = cc
    read (Some y) (inr e) = absurd cc

-- one word more
pub falling_step : (all : List Bool) (ws rest : List (List ℕ)) (v : List ℕ) (xs : List Bool) (x : Bool) → all ≡ xs ++ map is_falling ws → ws ≡ v ∷ rest → x ≡ is_falling v → all ≡ (xs ++ x ∷ []) ++ map is_falling rest
falling_step all ws rest v xs x is words e =
    is ∙ (ap (λ us. xs ++ map is_falling us) words ∙ (ap (λ b. xs ++ b ∷ map is_falling rest) (sym e) ∙ sym (append_assoc xs (x ∷ []) (map is_falling rest))))

-- a field that was not read
pub sorted_fault : (all : Option (List Field)) (ws rest : List (List ℕ)) (v : List ℕ) (xs : List Field) (fault : LineFault) (r : Result (List Field) LineFault)
    → all ≡ option_map (λ ys. xs ++ ys) (sorted_fields_of ws) → ws ≡ v ∷ rest → is_some all ≡ true → IsFieldRead (field_of (without_sign v)) (Err fault) → IsErrAnd r (λ e. e ≡ fault) → IsListRead all r
sorted_fault all ws rest v xs fault r is words some h e =
    field_fault (field_of (without_sign v)) (λ y. option_map (λ ys. y ∷ ys) (sorted_fields_of rest)) xs all fault r (is ∙ ap (λ us. option_map (λ ys. xs ++ ys) (sorted_fields_of us)) words) some h e
