-- A command of two traces and two fields, from what was read of its words.
use Rattle.std.proofs.Common.{◌≡◌, inl, inr, refl, true, false, is_some, ℕ, List, [], ◌∷◌, Option, Some, None, Result, Ok, Err, ok_or, option_map, option_and_then}
use Rattle.std.specs.Result.{IsErrAnd}
use Rattle.bench_rules.specs.declared.chosen_edit.ChosenEdit.TheVariants as chosen_edits
use Rattle.bench_rules.specs.declared.edit.Edit.TheVariants as edits
use Rattle.bench_rules.specs.declared.field.Field.{Field}
use Rattle.script_words.specs.declared.command.Command.{Command}
use Rattle.script_words.specs.declared.command.Command.TheVariants.{Apply}
use Rattle.script_words.specs.declared.line_fault.LineFault.{LineFault}
use Rattle.script_words.specs.declared.line_fault.LineFault.TheVariants.{Number, OutOfMemory}
use Rattle.script_words.specs.Readers.{field_of}
use Rattle.script_words.specs.Commands.{IsFieldRead, IsRead}
use Rattle.script_words.specs.Numbers.{trace_of}
use Rattle.script_words.specs.RangeCommands.{read_swap}

module _ (a b : ℕ) where
  -- the command of two traces and two fields
  abbrev pub command : Field → Field → Command
  command first second = Apply (edits.OfChosen (record { traces = Some (a, b); conditions = [] }) (chosen_edits.Swap first second))

  -- it, where both words are fields
  abbrev pub swap_of : Option Field → Option Field → Result Command LineFault
  swap_of o p = ok_or (option_and_then (λ second. option_map (λ first. command first second) o) p) Number

  pub no_first : (o p : Option Field) → is_some o ≡ false → IsRead (swap_of o p) (Err Number)
  no_first None None e = inl refl
  no_first None (Some g) e = inl refl
  no_first (Some f) p e = absurd cc

  pub no_second : (o p : Option Field) → is_some p ≡ false → IsRead (swap_of o p) (Err Number)
  no_second o None e = inl refl
  no_second o (Some g) e = absurd cc

  -- both are, but for memory
  lacks : (o p : Option Field) → is_some o ≡ true → is_some p ≡ true → IsRead (swap_of o p) (Err OutOfMemory)
  lacks None p e f = absurd cc
  lacks (Some k) None e f = absurd cc
  lacks (Some k) (Some l) e f = inr (refl, tt)

  pub first_err : (o p : Option Field) (fault : LineFault) (r : Result Command LineFault) → is_some o ≡ true → is_some p ≡ true → IsFieldRead o (Err fault) → IsErrAnd r (λ e. e ≡ fault) → IsRead (swap_of o p) r
  first_err o p fault (Ok c) e f h is = absurd is
  first_err None p fault (Err x) e f h is = absurd cc
  first_err (Some k) p fault (Err x) e f (inl h) is = absurd cc
  first_err (Some k) p fault (Err x) e f (inr h) is = let same : x ≡ OutOfMemory = cc in rw same (lacks (Some k) p e f)

  pub second_err : (o p : Option Field) (fault : LineFault) (r : Result Command LineFault) → is_some o ≡ true → is_some p ≡ true → IsFieldRead p (Err fault) → IsErrAnd r (λ e. e ≡ fault) → IsRead (swap_of o p) r
  second_err o p fault (Ok c) e f h is = absurd is
  second_err o None fault (Err x) e f h is = absurd cc
  second_err o (Some l) fault (Err x) e f (inl h) is = absurd cc
  second_err o (Some l) fault (Err x) e f (inr h) is = let same : x ≡ OutOfMemory = cc in rw same (lacks o (Some l) e f)

  pub swap_ok : (o p : Option Field) (f g : Field) → IsFieldRead o (Ok f) → IsFieldRead p (Ok g) → IsRead (swap_of o p) (Ok (command f g))
  swap_ok None p f g h k = absurd cc
  swap_ok (Some x) p f g (inr h) k = absurd cc
  swap_ok (Some x) None f g (inl h) k = absurd cc
  swap_ok (Some x) (Some y) f g (inl h) (inr k) = absurd cc
  swap_ok (Some x) (Some y) f g (inl h) (inl k) =
      let first : x ≡ f = cc in
      let second : y ≡ g = cc in
      rw (first, second) (inl refl)

-- the words of the command
pub swap_is : (traces : ℕ) (ws : List (List ℕ)) (t u v w : List ℕ) (a b : ℕ) → ws ≡ t ∷ u ∷ v ∷ w ∷ [] → trace_of traces t ≡ Some a → trace_of traces u ≡ Some b
    → read_swap traces ws ≡ swap_of a b (field_of v) (field_of w)
swap_is traces ws t u v w a b words from to = rw (words, from, to) refl
