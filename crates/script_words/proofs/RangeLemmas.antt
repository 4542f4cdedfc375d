-- Commands on a range of traces, from what was read of their words.
use Rattle.std.proofs.Common.{◌≡◌, ◌⊎◌, sym, ap, subst, refl, inl, inr, ℕ, ◌==◌, length, List, [], ◌∷◌, Bool, true, false, cond, is_some, Option, Some, None, Result, Ok, Err, ok_or, option_map, option_and_then}
use Rattle.std.specs.Option.{option_map_or}
use Rattle.std.specs.Result.{IsErrAnd}
use Rattle.bench_rules.specs.declared.chosen_edit.ChosenEdit.{ChosenEdit}
use Rattle.bench_rules.specs.declared.chosen_query.ChosenQuery.{ChosenQuery}
use Rattle.bench_rules.specs.declared.condition.Condition.{Condition}
use Rattle.bench_rules.specs.declared.edit.Edit.{Edit}
use Rattle.bench_rules.specs.declared.edit.Edit.TheVariants as edits
use Rattle.bench_rules.specs.declared.query.Query.{Query}
use Rattle.bench_rules.specs.declared.query.Query.TheVariants as queries
use Rattle.float_codes.specs.declared.float_format.FloatFormat.{FloatFormat}
use Rattle.script_words.specs.declared.command.Command.{Command}
use Rattle.script_words.specs.declared.command.Command.TheVariants.{Apply, Ask}
use Rattle.script_words.specs.declared.line_fault.LineFault.{LineFault}
use Rattle.script_words.specs.declared.line_fault.LineFault.TheVariants.{Words, Number, OutOfMemory}
use Rattle.script_words.specs.declared.range_command.RangeCommand.{RangeCommand}
use Rattle.script_words.specs.declared.range_command.RangeCommand.TheVariants.{Table, Find, Extremes, Set, Renumber, Compute, Delete, Count, Stats, Swap, Samples, Fill}
use Rattle.script_words.specs.Conditions.{has_conditions, conditions_of}
use Rattle.script_words.specs.HeaderCommands.{is_field_count, is_step_count}
use Rattle.script_words.specs.Numbers.{number_of, position_of, sample_number, step_of, trace_of}
use Rattle.script_words.specs.RangeCommands.{read_each}
use Rattle.script_words.specs.Ranges.{is_of_none, spelled, of_range, of_conditions, by_conditions, under, read_under, has_range, edit_parts, query_parts, chosen_of}
use Rattle.script_words.specs.Readers.{two, four, five, two_and_list, four_and_list, field_of, operand_of, fields_of, steps_of}
use Rattle.script_words.specs.Commands.{HoldsMemory, EditHoldsMemory, QueryHoldsMemory, CommandTakesMemory, IsListRead, IsRead}

abbrev pub Read : Type 0
Read = Result Command LineFault

-- ---- what is read of a range

-- a command on a range, or a fault of its words
abbrev pub IsOfRange : Read → Type 0
IsOfRange (Ok command) = has_range command ≡ true
IsOfRange (Err fault) = (fault ≡ Words) ⊎ (fault ≡ Number)

and_then : {A : Type 0} (f : A → Option Command) (o : Option A) → ((x : A) → IsOfRange (ok_or (f x) Number)) → IsOfRange (ok_or (option_and_then f o) Number)
and_then f None h = inr refl
and_then f (Some x) h = h x

mapped : {A : Type 0} (f : A → Command) (o : Option A) → ((x : A) → has_range (f x) ≡ true) → IsOfRange (ok_or (option_map f o) Number)
mapped f None h = inr refl
mapped f (Some x) h = h x

fits_or_not : (fits : Bool) (r : Read) → IsOfRange r → IsOfRange (cond fits r (Err Words))
fits_or_not true r h = h
fits_or_not false r h = inl refl

step_or_none : (five : Bool) (r s : Read) → IsOfRange r → IsOfRange s → IsOfRange (cond five r s)
step_or_none true r s h g = h
step_or_none false r s h g = g

module _ {A B C D E : Type 0} (a : List ℕ → Option A) (b : List ℕ → Option B) (c : List ℕ → Option C) (d : List ℕ → Option D) (e : List ℕ → Option E) where
  two_of_range : (make : A → B → Command) → ((x : A) (y : B) → has_range (make x y) ≡ true) → (ws : List (List ℕ)) → IsOfRange (two a b make ws)
  two_of_range make all (v ∷ w ∷ []) = and_then _ (a v) (λ x. mapped (make x) (b w) (all x))
  two_of_range make all (u ∷ v ∷ w ∷ ws) = inl refl
  two_of_range make all (v ∷ []) = inl refl
  two_of_range make all [] = inl refl

  four_of_range : (make : A → B → C → D → Command) → ((i : A) (j : B) (k : C) (l : D) → has_range (make i j k l) ≡ true) → (ws : List (List ℕ)) → IsOfRange (four a b c d make ws)
  four_of_range make all (t ∷ u ∷ v ∷ w ∷ []) = and_then _ (a t) (λ i. and_then _ (b u) (λ j. and_then _ (d w) (λ l. mapped (λ k. make i j k l) (c v) (λ k. all i j k l))))
  four_of_range make all (s ∷ t ∷ u ∷ v ∷ w ∷ ws) = inl refl
  four_of_range make all (u ∷ v ∷ w ∷ []) = inl refl
  four_of_range make all (v ∷ w ∷ []) = inl refl
  four_of_range make all (w ∷ []) = inl refl
  four_of_range make all [] = inl refl

  five_of_range : (make : A → B → C → D → E → Command) → ((i : A) (j : B) (k : C) (l : D) (m : E) → has_range (make i j k l m) ≡ true) → (ws : List (List ℕ)) → IsOfRange (five a b c d e make ws)
  five_of_range make all (s ∷ t ∷ u ∷ v ∷ w ∷ []) =
      and_then _ (a s) (λ i. and_then _ (b t) (λ j. and_then _ (d v) (λ l. and_then _ (e w) (λ m. mapped (λ k. make i j k l m) (c u) (λ k. all i j k l m)))))
  five_of_range make all (r ∷ s ∷ t ∷ u ∷ v ∷ w ∷ ws) = inl refl
  five_of_range make all (t ∷ u ∷ v ∷ w ∷ []) = inl refl
  five_of_range make all (u ∷ v ∷ w ∷ []) = inl refl
  five_of_range make all (v ∷ w ∷ []) = inl refl
  five_of_range make all (w ∷ []) = inl refl
  five_of_range make all [] = inl refl

  two_and_list_of_range : {L : Type 0} (fits : ℕ → Bool) (list : List (List ℕ) → Option L) (make : A → B → L → Command) → ((x : A) (y : B) (l : L) → has_range (make x y l) ≡ true) → (ws : List (List ℕ))
      → IsOfRange (two_and_list a b fits list make ws)
  two_and_list_of_range fits list make all (v ∷ w ∷ ws) = fits_or_not _ _ (and_then _ (a v) (λ x. and_then _ (b w) (λ y. mapped (make x y) (list ws) (all x y))))
  two_and_list_of_range fits list make all (w ∷ []) = inl refl
  two_and_list_of_range fits list make all [] = inl refl

  four_and_list_of_range : {L : Type 0} (fits : ℕ → Bool) (list : List (List ℕ) → Option L) (make : A → B → C → D → L → Command) → ((i : A) (j : B) (k : C) (l : D) (m : L) → has_range (make i j k l m) ≡ true) → (ws : List (List ℕ))
      → IsOfRange (four_and_list a b c d fits list make ws)
  four_and_list_of_range fits list make all (t ∷ u ∷ v ∷ w ∷ ws) =
      fits_or_not _ _ (and_then _ (a t) (λ i. and_then _ (b u) (λ j. and_then _ (c v) (λ k. and_then _ (d w) (λ l. mapped (make i j k l) (list ws) (all i j k l))))))
  four_and_list_of_range fits list make all (u ∷ v ∷ w ∷ []) = inl refl
  four_and_list_of_range fits list make all (v ∷ w ∷ []) = inl refl
  four_and_list_of_range fits list make all (w ∷ []) = inl refl
  four_and_list_of_range fits list make all [] = inl refl

pub each_of_range : (traces : ℕ) (which : RangeCommand) (ws : List (List ℕ)) → IsOfRange (read_each traces which ws)
each_of_range traces Table ws = two_and_list_of_range (trace_of traces) (trace_of traces) (trace_of traces) (trace_of traces) (trace_of traces) is_field_count fields_of _ (λ a b k. refl) ws
each_of_range traces Find ws = five_of_range (trace_of traces) (trace_of traces) field_of number_of number_of _ (λ a b k l m. refl) ws
each_of_range traces Extremes ws = two_of_range (trace_of traces) (trace_of traces) (trace_of traces) (trace_of traces) (trace_of traces) _ (λ a b. refl) ws
each_of_range traces Set ws = four_of_range (trace_of traces) (trace_of traces) field_of number_of number_of _ (λ a b k l. refl) ws
each_of_range traces Renumber ws = five_of_range (trace_of traces) (trace_of traces) field_of number_of number_of _ (λ a b k l m. refl) ws
each_of_range traces Compute ws = four_and_list_of_range (trace_of traces) (trace_of traces) field_of operand_of number_of is_step_count steps_of _ (λ a b k l m. refl) ws
each_of_range traces Delete ws = two_of_range (trace_of traces) (trace_of traces) (trace_of traces) (trace_of traces) (trace_of traces) _ (λ a b. refl) ws
each_of_range traces Count ws = two_of_range (trace_of traces) (trace_of traces) (trace_of traces) (trace_of traces) (trace_of traces) _ (λ a b. refl) ws
each_of_range traces Stats ws = two_of_range (trace_of traces) (trace_of traces) (trace_of traces) (trace_of traces) (trace_of traces) _ (λ a b. refl) ws
each_of_range traces Swap ws = four_of_range (trace_of traces) (trace_of traces) field_of field_of field_of _ (λ a b k l. refl) ws
each_of_range traces Samples ws =
    step_or_none (length ws == 5) _ _ (five_of_range (trace_of traces) (trace_of traces) position_of position_of step_of _ (λ a b k l m. refl) ws)
    (four_of_range (trace_of traces) (trace_of traces) position_of position_of position_of _ (λ a b k l. refl) ws)
each_of_range traces (Fill floats) ws = five_of_range (trace_of traces) (trace_of traces) position_of position_of (sample_number floats) _ (λ a b k l m. refl) ws

-- ---- memory of commands on chosen traces

module _ (none : Bool) (conditions : List Condition) where
  abbrev of_edit : Edit → Option (Option (ℕ × ℕ) × ChosenEdit) → Command
  of_edit edit parts = option_map_or (λ p. Apply (edits.OfChosen (chosen_of none conditions p.0) p.1)) parts (Apply edit)

  abbrev of_query : Query → Option (Option (ℕ × ℕ) × ChosenQuery) → Command
  of_query query parts = option_map_or (λ p. Ask (queries.OfChosen (chosen_of none conditions p.0) p.1)) parts (Ask query)

  edit_holds : (edit : Edit) (parts : Option (Option (ℕ × ℕ) × ChosenEdit)) → EditHoldsMemory edit → HoldsMemory (of_edit edit parts)
  edit_holds edit None h = h
  edit_holds edit (Some p) h = tt

  query_holds : (query : Query) (parts : Option (Option (ℕ × ℕ) × ChosenQuery)) → QueryHoldsMemory query → HoldsMemory (of_query query parts)
  query_holds query None h = h
  query_holds query (Some p) h = tt

  -- it holds memory where the command does
  still_holds : (command : Command) → HoldsMemory command → HoldsMemory (under none conditions command)
  still_holds (Apply edit) h = edit_holds edit (edit_parts edit) h
  still_holds (Ask query) h = query_holds query (query_parts query) h

  ranged_edit_holds : (edit : Edit) (parts : Option (Option (ℕ × ℕ) × ChosenEdit)) → is_some parts ≡ true → HoldsMemory (of_edit edit parts)
  ranged_edit_holds edit None h = absurd cc
  ranged_edit_holds edit (Some p) h = tt

  ranged_query_holds : (query : Query) (parts : Option (Option (ℕ × ℕ) × ChosenQuery)) → is_some parts ≡ true → HoldsMemory (of_query query parts)
  ranged_query_holds query None h = absurd cc
  ranged_query_holds query (Some p) h = tt

  -- and where it has a range
  holds_list : (command : Command) → has_range command ≡ true → HoldsMemory (under none conditions command)
  holds_list (Apply edit) h = ranged_edit_holds edit (edit_parts edit) h
  holds_list (Ask query) h = ranged_query_holds query (query_parts query) h

  takes_under : (expected : Read) → CommandTakesMemory expected → CommandTakesMemory (read_under none conditions expected)
  takes_under (Ok command) h = still_holds command h
  takes_under (Err fault) h = absurd h

  pub under_ok : (expected : Read) (command : Command) → IsRead expected (Ok command) → IsRead (read_under none conditions expected) (Ok (under none conditions command))
  under_ok expected command (inl h) = inl (ap (read_under none conditions) h)
  under_ok expected command (inr h) = absurd cc

  pub under_err : (expected : Read) (fault : LineFault) → IsRead expected (Err fault) → IsRead (read_under none conditions expected) (Err fault)
  under_err expected fault (inl h) = inl (ap (read_under none conditions) h)
  under_err expected fault (inr h) = inr (h.0, takes_under expected h.1)

-- the same where the fault is passed on
pub passed_on : (expected r : Read) (fault : LineFault) → IsRead expected (Err fault) → IsErrAnd r (λ e. e ≡ fault) → IsRead expected r
passed_on expected (Ok command) fault h is = absurd is
passed_on expected (Err e) fault h is = subst (λ (x : LineFault). IsRead expected (Err x)) (sym is) h

-- ---- commands of a range

module _ (traces : ℕ) (each : List (List ℕ) → Read) (words : List (List ℕ)) where
  pub range_ok : (none : Bool) (command result : Command) → none ≡ is_of_none traces words → IsRead (each (spelled words)) (Ok command)
      → result ≡ cond none (under true [] command) command → IsRead (of_range traces each words) (Ok result)
  range_ok none command result e h is =
      elim none as (λ b. b ≡ is_of_none traces words → result ≡ cond b (under true [] command) command → IsRead (of_range traces each words) (Ok result)) [
        | true ↦ λ f g. rw (← f, g) (under_ok true [] (each (spelled words)) command h)
        | false ↦ λ f g. rw (← f, g) h
      ] e is

  pub range_err : (fault : LineFault) (r : Read) → IsRead (each (spelled words)) (Err fault) → IsErrAnd r (λ e. e ≡ fault) → IsRead (of_range traces each words) r
  range_err fault r h is =
      passed_on (of_range traces each words) r fault
      (elim (is_of_none traces words) as (λ b. IsRead (cond b (read_under true [] (each (spelled words))) (each (spelled words))) (Err fault))
      [ true ↦ under_err true [] (each (spelled words)) fault h | false ↦ h ])
      is

-- ---- commands with conditions

module _ (floats : Option FloatFormat) (none : Bool) (words : List (List ℕ)) where
  -- the conditions, where they are read
  abbrev of_read : Read → Option (List Condition) → Read
  of_read (Ok command) all = ok_or (option_map (λ conditions. under none conditions command) all) Number
  of_read (Err fault) all = Err fault

  same_read : (e : Read) → by_conditions floats none words e ≡ of_read e (conditions_of floats words)
  same_read (Ok command) = refl
  same_read (Err fault) = refl

  ok_by : (command : Command) (conditions : List Condition) (all : Option (List Condition)) → IsListRead all (Ok conditions) → IsRead (of_read (Ok command) all) (Ok (under none conditions command))
  ok_by command conditions None h = absurd cc
  ok_by command conditions (Some cs) (inl h) = let same : cs ≡ conditions = cc in inl (ap (λ (l : List Condition). let r : Read = Ok (under none l command) in r) (sym same))
  ok_by command conditions (Some cs) (inr h) = absurd cc

  pub by_ok : (e : Read) (command : Command) (conditions : List Condition) → IsRead e (Ok command) → IsListRead (conditions_of floats words) (Ok conditions)
      → IsRead (by_conditions floats none words e) (Ok (under none conditions command))
  by_ok e command conditions (inl h) g = rw (← h) (ok_by command conditions (conditions_of floats words) g)
  by_ok e command conditions (inr h) g = absurd cc

  err_by : (command : Command) (fault : LineFault) (all : Option (List Condition)) → has_range command ≡ true → IsListRead all (Err fault) → IsRead (of_read (Ok command) all) (Err fault)
  err_by command fault None range h = let same : fault ≡ Number = cc in rw same (inl refl)
  err_by command fault (Some cs) range (inl h) = absurd cc
  err_by command fault (Some cs) range (inr h) = let same : fault ≡ OutOfMemory = cc in rw same (inr (refl, holds_list none cs command range))

  -- the conditions were not read
  pub by_err : (e : Read) (command : Command) (fault : LineFault) → IsOfRange e → IsRead e (Ok command) → IsListRead (conditions_of floats words) (Err fault)
      → IsRead (by_conditions floats none words e) (Err fault)
  by_err e command fault range (inl h) g =
      let has : has_range command ≡ true = subst (λ (r : Read). IsOfRange r) (sym h) range in rw (← h) (err_by command fault (conditions_of floats words) has g)
  by_err e command fault range (inr h) g = absurd cc

  -- the words in front of them were not
  pub front_err : (e : Read) (fault : LineFault) → IsRead e (Err fault) → (fault ≡ OutOfMemory → ⊥) → IsRead (by_conditions floats none words e) (Err fault)
  front_err e fault (inl h) other = rw (← h) (inl refl)
  front_err e fault (inr h) other = absurd (other cc)

  want_by : (command : Command) (all : Option (List Condition)) → HoldsMemory command → IsRead (of_read (Ok command) all) (Err (cond (is_some all) OutOfMemory Number))
  want_by command None h = inl refl
  want_by command (Some cs) h = inr (refl, still_holds none cs command h)

  -- or memory was wanted for them
  pub front_want : (e : Read) → IsOfRange e → IsRead e (Err OutOfMemory) → IsRead (by_conditions floats none words e) (Err (cond (is_some (conditions_of floats words)) OutOfMemory Number))
  front_want (Ok command) range (inl h) = absurd cc
  front_want (Ok command) range (inr h) = want_by command (conditions_of floats words) h.1
  front_want (Err fault) (inl f) (inl h) = absurd cc
  front_want (Err fault) (inr f) (inl h) = absurd cc
  front_want (Err fault) range (inr h) = absurd h.1

module _ (floats : Option FloatFormat) (traces : ℕ) (which : RangeCommand) (front behind : List (List ℕ)) (has : has_conditions behind ≡ true) where
  abbrev expected : Read
  expected = of_conditions floats traces (read_each traces which) front behind

  opened : expected ≡ by_conditions floats (is_of_none traces front) behind (read_each traces which (spelled front))
  opened = rw has refl

  pub chosen_ok : (none : Bool) (command result : Command) (conditions : List Condition) → none ≡ is_of_none traces front → IsRead (read_each traces which (spelled front)) (Ok command)
      → IsListRead (conditions_of floats behind) (Ok conditions) → result ≡ under none conditions command → IsRead expected (Ok result)
  chosen_ok none command result conditions e h g is = rw (opened, is, e) (by_ok floats (is_of_none traces front) behind (read_each traces which (spelled front)) command conditions h g)

  pub chosen_err : (command : Command) (fault : LineFault) (r : Read) → IsRead (read_each traces which (spelled front)) (Ok command) → IsListRead (conditions_of floats behind) (Err fault)
      → IsErrAnd r (λ e. e ≡ fault) → IsRead expected r
  chosen_err command fault r h g is =
      passed_on expected r fault
      (rw opened (by_err floats (is_of_none traces front) behind (read_each traces which (spelled front)) command fault (each_of_range traces which (spelled front)) h g))
      is

  pub chosen_want : (fault : LineFault) → IsRead (read_each traces which (spelled front)) (Err OutOfMemory) → fault ≡ cond (is_some (conditions_of floats behind)) OutOfMemory Number → IsRead expected (Err fault)
  chosen_want fault h is = rw (opened, is) (front_want floats (is_of_none traces front) behind (read_each traces which (spelled front)) (each_of_range traces which (spelled front)) h)
