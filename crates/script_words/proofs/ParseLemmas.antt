-- Commands with a field or a text, from what was read of their words.
use Rattle.std.proofs.Common.{◌≡◌, ◌∙◌, sym, ap, subst, refl, inl, inr, ℕ, ℤ, List, [], ◌∷◌, Option, Some, None, Result, Ok, Err, ok_or, option_map, option_and_then}
use Rattle.std.specs.Result.{IsErrAnd}
use Rattle.bench_rules.specs.declared.field.Field.{Field}
use Rattle.bench_rules.specs.declared.edit.Edit.TheVariants as edits
use Rattle.bench_rules.specs.declared.query.Query.TheVariants as queries
use Rattle.script_words.specs.declared.command.Command.{Command}
use Rattle.script_words.specs.declared.command.Command.TheVariants.{Apply, Ask}
use Rattle.script_words.specs.declared.line_fault.LineFault.{LineFault}
use Rattle.script_words.specs.declared.line_fault.LineFault.TheVariants.{Number, OutOfMemory}
use Rattle.script_words.specs.Readers.{field_of, target_of, four, five}
use Rattle.script_words.specs.Commands.{read_get, read_bin, read_getbin, IsFieldRead, IsName, HoldsMemory, CommandTakesMemory, IsRead}
use Rattle.script_words.specs.MapCommands.{read_map_name}
use Rattle.script_words.specs.Numbers.{trace_of, number_of}
use Rattle.script_words.specs.RangeCommands.{read_set_one}

-- a command of a field: S03 where the word is none
module _ (expected : Option Field → Result Command LineFault) (make : Field → Command) (none : expected None ≡ Err Number) (some : (f : Field) → expected (Some f) ≡ Ok (make f)) where
  -- the field was read
  pub field_ok : (o : Option Field) (f : Field) → IsFieldRead o (Ok f) → IsRead (expected o) (Ok (make f))
  field_ok None f h = absurd cc
  field_ok (Some g) f (inl e) = let same : f ≡ g = cc in inl (ap (λ (k : Field). let r : Result Command LineFault = Ok (make k) in r) same ∙ sym (some g))
  field_ok (Some g) f (inr e) = absurd cc

  -- or it was not
  pub field_err : ((f : Field) → IsName f → HoldsMemory (make f)) → (o : Option Field) (fault : LineFault) (r : Result Command LineFault) → IsErrAnd r (λ e. e ≡ fault) → IsFieldRead o (Err fault) → IsRead (expected o) r
  field_err holds o fault (Ok command) is h = absurd is
  field_err holds None fault (Err e) is h = let same : e ≡ Number = cc in inl (ap (λ (k : LineFault). let r : Result Command LineFault = Err k in r) same ∙ sym none)
  field_err holds (Some g) fault (Err e) is (inl f) = absurd cc
  field_err holds (Some g) fault (Err e) is (inr f) =
      let same : e ≡ OutOfMemory = cc in
      inr (ap (λ (k : LineFault). let r : Result Command LineFault = Err k in r) same, subst CommandTakesMemory (sym (some g)) (holds g f.1))

-- ---- each command

-- what is read as a command
abbrev pub Read : Type 0
Read = Result Command LineFault

-- a command that holds a text or a list, and was to be read, where no memory held it
lost : (expected : Read) (command : Command) (r : Read) → IsErrAnd r (λ e. e ≡ OutOfMemory) → HoldsMemory command → IsRead expected (Ok command) → IsRead expected r
lost expected command (Ok c) is holds h = absurd is
lost expected command (Err e) is holds (inl same) = inr (ap (λ (k : LineFault). let r : Read = Err k in r) is, subst CommandTakesMemory same holds)
lost expected command (Err e) is holds (inr h) = absurd cc

module _ (ws : List (List ℕ)) (v at : List ℕ) (words : ws ≡ v ∷ at ∷ []) where
  abbrev map_expected : Option Field → Read
  map_expected o = ok_or (option_map (λ f. Apply (edits.Map v f)) o) Number

  pub map_ok : (f : Field) → IsFieldRead (target_of at) (Ok f) → IsRead (read_map_name ws) (Ok (Apply (edits.Map v f)))
  map_ok f h = rw words (field_ok map_expected (λ f. Apply (edits.Map v f)) refl (λ f. refl) (target_of at) f h)

  pub map_err : (fault : LineFault) (r : Read) → IsErrAnd r (λ e. e ≡ fault) → IsFieldRead (target_of at) (Err fault) → IsRead (read_map_name ws) r
  map_err fault r is h = rw words (field_err map_expected (λ f. Apply (edits.Map v f)) refl (λ f. refl) (λ f n. record {}) (target_of at) fault r is h)

  -- the name found no memory
  pub map_lost : (f : Field) (r : Read) → IsErrAnd r (λ e. e ≡ OutOfMemory) → IsFieldRead (target_of at) (Ok f) → IsRead (read_map_name ws) r
  map_lost f r is h = lost (read_map_name ws) (Apply (edits.Map v f)) r is (record {}) (map_ok f h)

module _ (traces : ℕ) (ws : List (List ℕ)) (v at : List ℕ) (p : ℕ) (words : ws ≡ v ∷ at ∷ []) (position : trace_of traces v ≡ Some p) where
  pub get_ok : (f : Field) → IsFieldRead (field_of at) (Ok f) → IsRead (read_get traces ws) (Ok (Ask (queries.Get p f)))
  get_ok f h = rw (words, position) (field_ok (λ o. ok_or (option_map (λ f. Ask (queries.Get p f)) o) Number) (λ f. Ask (queries.Get p f)) refl (λ f. refl) (field_of at) f h)

  pub get_err : (fault : LineFault) (r : Read) → IsErrAnd r (λ e. e ≡ fault) → IsFieldRead (field_of at) (Err fault) → IsRead (read_get traces ws) r
  get_err fault r is h = rw (words, position) (field_err (λ o. ok_or (option_map (λ f. Ask (queries.Get p f)) o) Number) (λ f. Ask (queries.Get p f)) refl (λ f. refl) (λ f n. n) (field_of at) fault r is h)

module _ (traces : ℕ) (ws : List (List ℕ)) (v at w : List ℕ) (p : ℕ) (x : ℤ) (words : ws ≡ v ∷ at ∷ w ∷ []) (position : trace_of traces v ≡ Some p) (number : number_of w ≡ Some x) where
  abbrev set_expected : Option Field → Read
  set_expected o = ok_or (option_and_then (λ f. Some (Apply (edits.Set p f x))) o) Number

  pub set_ok : (f : Field) → IsFieldRead (field_of at) (Ok f) → IsRead (read_set_one traces ws) (Ok (Apply (edits.Set p f x)))
  set_ok f h = rw (words, position, number) (field_ok set_expected (λ f. Apply (edits.Set p f x)) refl (λ f. refl) (field_of at) f h)

  pub set_err : (fault : LineFault) (r : Read) → IsErrAnd r (λ e. e ≡ fault) → IsFieldRead (field_of at) (Err fault) → IsRead (read_set_one traces ws) r
  set_err fault r is h = rw (words, position, number) (field_err set_expected (λ f. Apply (edits.Set p f x)) refl (λ f. refl) (λ f n. n) (field_of at) fault r is h)

-- the number of a `set` is none, whatever its field is
pub set_no_number : (traces : ℕ) (ws : List (List ℕ)) (v at w : List ℕ) (p : ℕ) → ws ≡ v ∷ at ∷ w ∷ [] → trace_of traces v ≡ Some p → number_of w ≡ None → (r : Read) → IsErrAnd r (λ e. e ≡ Number)
    → IsRead (read_set_one traces ws) r
set_no_number traces ws v at w p words position none r is = rw (words, position, none) (by (field_of at) r is)
  where
    by : (o : Option Field) (r : Read) → IsErrAnd r (λ e. e ≡ Number) → IsRead (ok_or (option_and_then (λ (f : Field). None) o) Number) r
    by o (Ok command) is = absurd is
    by None (Err e) is = inl (ap (λ (k : LineFault). let r : Read = Err k in r) is)
    by (Some f) (Err e) is = inl (ap (λ (k : LineFault). let r : Read = Err k in r) is)

module _ (ws : List (List ℕ)) (at w : List ℕ) (x : ℤ) (words : ws ≡ at ∷ w ∷ []) (number : number_of w ≡ Some x) where
  abbrev bin_expected : Option Field → Read
  bin_expected o = ok_or (option_and_then (λ f. Some (Apply (edits.SetBin f x))) o) Number

  pub bin_ok : (f : Field) → IsFieldRead (field_of at) (Ok f) → IsRead (read_bin ws) (Ok (Apply (edits.SetBin f x)))
  bin_ok f h = rw (words, number) (field_ok bin_expected (λ f. Apply (edits.SetBin f x)) refl (λ f. refl) (field_of at) f h)

  pub bin_err : (fault : LineFault) (r : Read) → IsErrAnd r (λ e. e ≡ fault) → IsFieldRead (field_of at) (Err fault) → IsRead (read_bin ws) r
  bin_err fault r is h = rw (words, number) (field_err bin_expected (λ f. Apply (edits.SetBin f x)) refl (λ f. refl) (λ f n. n) (field_of at) fault r is h)

module _ (ws : List (List ℕ)) (at : List ℕ) (words : ws ≡ at ∷ []) where
  pub getbin_ok : (f : Field) → IsFieldRead (field_of at) (Ok f) → IsRead (read_getbin ws) (Ok (Ask (queries.GetBin f)))
  getbin_ok f h = rw words (field_ok (λ o. ok_or (option_map (λ f. Ask (queries.GetBin f)) o) Number) (λ f. Ask (queries.GetBin f)) refl (λ f. refl) (field_of at) f h)

  pub getbin_err : (fault : LineFault) (r : Read) → IsErrAnd r (λ e. e ≡ fault) → IsFieldRead (field_of at) (Err fault) → IsRead (read_getbin ws) r
  getbin_err fault r is h = rw words (field_err (λ o. ok_or (option_map (λ f. Ask (queries.GetBin f)) o) Number) (λ f. Ask (queries.GetBin f)) refl (λ f. refl) (λ f n. n) (field_of at) fault r is h)

-- a command of two positions, a field and two numbers
module _ (make : ℕ → ℕ → Field → ℤ → ℤ → Command) (traces : ℕ) (ws : List (List ℕ)) (s t at v w : List ℕ) (a b : ℕ) (x y : ℤ) (words : ws ≡ s ∷ t ∷ at ∷ v ∷ w ∷ []) (from : trace_of traces s ≡ Some a) (to : trace_of traces t ≡ Some b)
    (first : number_of v ≡ Some x) (second : number_of w ≡ Some y) where
  abbrev five_expected : Option Field → Read
  five_expected o = ok_or (option_map (λ f. make a b f x y) o) Number

  pub five_ok : (f : Field) → IsFieldRead (field_of at) (Ok f) → IsRead (five (trace_of traces) (trace_of traces) field_of number_of number_of make ws) (Ok (make a b f x y))
  five_ok f h = rw (words, from, to, first, second) (field_ok five_expected (λ f. make a b f x y) refl (λ f. refl) (field_of at) f h)

  pub five_err : ((f : Field) → IsName f → HoldsMemory (make a b f x y)) → (fault : LineFault) (r : Read) → IsErrAnd r (λ e. e ≡ fault) → IsFieldRead (field_of at) (Err fault)
      → IsRead (five (trace_of traces) (trace_of traces) field_of number_of number_of make ws) r
  five_err holds fault r is h = rw (words, from, to, first, second) (field_err five_expected (λ f. make a b f x y) refl (λ f. refl) holds (field_of at) fault r is h)

-- a command of two traces, a field and a number
module _ (make : ℕ → ℕ → Field → ℤ → Command) (traces : ℕ) (ws : List (List ℕ)) (s t at v : List ℕ) (a b : ℕ) (x : ℤ) (words : ws ≡ s ∷ t ∷ at ∷ v ∷ []) (from : trace_of traces s ≡ Some a) (to : trace_of traces t ≡ Some b)
    (first : number_of v ≡ Some x) where
  abbrev four_expected : Option Field → Read
  four_expected o = ok_or (option_map (λ f. make a b f x) o) Number

  pub four_ok : (f : Field) → IsFieldRead (field_of at) (Ok f) → IsRead (four (trace_of traces) (trace_of traces) field_of number_of make ws) (Ok (make a b f x))
  four_ok f h = rw (words, from, to, first) (field_ok four_expected (λ f. make a b f x) refl (λ f. refl) (field_of at) f h)

  pub four_err : ((f : Field) → IsName f → HoldsMemory (make a b f x)) → (fault : LineFault) (r : Read) → IsErrAnd r (λ e. e ≡ fault) → IsFieldRead (field_of at) (Err fault)
      → IsRead (four (trace_of traces) (trace_of traces) field_of number_of make ws) r
  four_err holds fault r is h = rw (words, from, to, first) (field_err four_expected (λ f. make a b f x) refl (λ f. refl) holds (field_of at) fault r is h)

-- ---- a text that found no memory
