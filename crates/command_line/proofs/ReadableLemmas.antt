-- What a parse by our command has found can be read: the file is there, and each number lies in its range.
use Rattle.std.proofs.Common.{◌≡◌, ◌∙◌, ◌+◌, ◌<◌, ◌≤◌, ◌==◌, ◌&&◌, ◌||◌, not, zero, suc, ℕ, Bool, true, false, List, [], ◌∷◌, Option, Some, None, length, map, is_some, inl, inr, refl, ap, sym, subst, codes, arith, true≢false}
use Rattle.std.specs.Prelude.{IfSome, option_and_then, option_map, slice_get}
use Rattle.std.specs.Borrow.{Bor}
use Rattle.std.specs.List.{All, list_all, slice_index_or}
use Rattle.std.specs.Str.{bytes_eq}
use Rattle.std.proofs.lemmas.Bool.{eqb-true}
use Rattle.std.proofs.lemmas.List.{length-map}
use Rattle.std.proofs.lemmas.List.Elements.{All-get_or}
use Rattle.std.proofs.lemmas.Slice.Eq.{bytes_eq-Decides}
use Rattle.clap.specs.Built.{IsAuto, IsParsedFrom, IsPlain, IsPlainArg}
use Rattle.clap.specs.Facts.{Entry, EntryPasses, HasReading, PassesArg, args_of, groups_of, parser_of, parser_of_value, unwrap_or_range}
use Rattle.clap.specs.Matches.{first_value, found_of, matched_of, one_text}
use Rattle.clap.specs.Values.{Accepts, read_as, reading_of}
use Rattle.clap.specs.Walk.{Rule, is_empty, is_free_arg, is_simple_arg, rule_of}
use Rattle.clap.specs.Simple.{App, app_of}
use Rattle.clap.specs.declared.builder.arg.Arg.{Arg}
use Rattle.clap.specs.declared.builder.action.ArgAction.TheVariants.{Set}
use Rattle.clap.specs.declared.builder.command.Command.{Command}
use Rattle.clap.specs.declared.builder.command.Command.TheViews.{out-Command}
use Rattle.clap.specs.declared.builder.value_parser.ValueParser.{ValueParser}
use Rattle.clap.specs.declared.builder.value_parser.ValueParser.TheVariants as vp
use Rattle.clap.specs.declared.builder.value_parser.Reading.{Reading}
use Rattle.clap.specs.declared.builder.value_parser.Reading.TheVariants as reading
use Rattle.clap.specs.declared.parser.matches.ArgMatches.{ArgMatches}
use Rattle.clap.specs.declared.parser.matches.Found.{Found}
use Rattle.clap.specs.declared.parser.matches.MatchedArg.{MatchedArg}
use Rattle.clap.proofs.CallerLemmas.{entry_by_id, required_has_value, same_rules_by_id}
use Rattle.clap.proofs.SimpleLemmas.{is_false, is_nil}
use Rattle.clap.proofs.TakesLemmas.{each_rule}
use Rattle.clap.proofs.WalkLemmas.{both}
use Rattle.command_line.specs.CommandLine.{IsNumberIn, IsReadable, segywb}

-- ---- one argument of our command

-- the rule of the argument at k
rule_at : (xs : List Arg) (k : ℕ) (d : Arg) (e : Rule) → k < length xs → rule_of (slice_index_or xs k d) ≡ slice_index_or (map rule_of xs) k e
rule_at [] k d e lt = absurd (omega arith)
rule_at (x ∷ xs) zero d e lt = refl
rule_at (x ∷ xs) (suc k) d e lt = rule_at xs k d e (omega arith)

-- no other rule from i on than that at k has this id
abbrev only_at : List ℕ → ℕ → ℕ → List Rule → Bool
only_at id k i [] = true
only_at id k i (r ∷ rs) = (not (bytes_eq r.id id) || (i == k)) && only_at id k (suc i) rs

same_place : (b c : Bool) → (not b || c) ≡ true → b ≡ true → c ≡ true
same_place true c h is = h
same_place false c h is = absurd (true≢false (sym is))

only_there : (id : List ℕ) (k i : ℕ) (xs : List Arg) → only_at id k i (map rule_of xs) ≡ true → (j : ℕ) (e : Arg) → j < length xs
    → bytes_eq (slice_index_or xs j e).id.now id ≡ true → j + i ≡ k
only_there id k i [] h j e lt same = absurd (omega arith)
only_there id k i (x ∷ xs) h zero e lt same =
    let here = both (not (bytes_eq x.id.now id) || (i == k)) (only_at id k (suc i) (map rule_of xs)) h in
    let is : i ≡ k = eqb-true i k (same_place (bytes_eq x.id.now id) (i == k) here.0 same) in
    omega arith
only_there id k i (x ∷ xs) h (suc j) e lt same =
    let here = both (not (bytes_eq x.id.now id) || (i == k)) (only_at id k (suc i) (map rule_of xs)) h in
    let rest : j + suc i ≡ k = only_there id k (suc i) xs here.1 j e (omega arith) same in
    omega arith

differ : (s t : List ℕ) → bytes_eq s t ≡ false → s ≡ t → ⊥
differ s t other same = true≢false (sym ((bytes_eq-Decides s t).1 same) ∙ other)

no_option : {X : Type 0} (o : Option X) → not (is_some o) ≡ true → o ≡ None
no_option None h = refl
no_option (Some x) h = absurd (true≢false (sym h))

plain_arg : (a : Arg) → is_simple_arg a ≡ true → is_free_arg a ≡ true → IsPlainArg a
plain_arg a simple free =
    let p = both _ _ simple in
    let q = both _ _ p.1 in
    let r = both _ _ q.1 in
    let g = both _ _ free in
    let h = both _ _ g.1 in
    (is_false _ g.0, is_nil _ h.0, is_nil _ p.0, is_nil _ r.0)

undivided_arg : (a : Arg) → is_simple_arg a ≡ true → a.val_delim ≡ None
undivided_arg a simple =
    let p = both (is_empty a.overrides.items) _ simple in
    let q = both (is_empty a.default_vals_ifs.items) _ p.1 in
    let r = both (is_empty a.groups.items) _ q.1 in
    let s = both (not (is_some a.val_delim)) (not (is_some a.terminator) && (not a.allow_hyphen_values && (not a.allow_negative_numbers
    && (not a.require_equals && (not a.last && not a.global))))) r.1 in
    no_option a.val_delim s.0

-- ---- what is read of an entry

first_reads : (P : Bor (List ℕ) → Type 0) (Q : List ℕ → Type 0) (how : Reading) (vs : List (Bor (List ℕ))) → All P vs
    → ((v : Bor (List ℕ)) → P v → Q (read_as how v.now)) → IfSome (option_map (λ s. read_as how s.now) (slice_get vs 0)) Q
first_reads P Q how [] all reads = tt
first_reads P Q how (v ∷ vs) all reads = reads v (All-get_or P (v ∷ vs) 0 v (omega arith) all)

module _ (c : Command) (f : Found) (id : List ℕ) (Q : List ℕ → Type 0) (how : Reading) (no_groups : groups_of c ≡ []) (named : id ≡ [] → ⊥)
    (reads : (r : Reading) → HasReading c id r → r ≡ how) (passed : (v : List ℕ) → PassesArg c id v → Q (read_as how v)) where
  reads_entry : (x : MatchedArg) (e : Entry) → e.1 ≡ x → e.0.now ≡ id → EntryPasses c e
      → IfSome (option_map (λ s. read_as x.reading s.now) (slice_get x.vals.items 0)) Q
  reads_entry x e same_x key pass =
      let no_group : e.1.is_group ≡ true → ⊥ = λ g. elim (pass.3 g) [
        | inl empty ↦ named (sym key ∙ empty)
        | inr lots ↦
            let bad : 0 < 0 = rw no_groups at lots in
            absurd (omega arith)
      ] in
      let all : All (λ v. PassesArg c id v.now) x.vals.items = elim pass.0 [
        | inl g ↦ absurd (no_group g)
        | inr vals ↦ subst (λ (w : List ℕ). All (λ v. PassesArg c w v.now) x.vals.items) key (rw same_x at vals)
      ] in
      let is : e.1.reading ≡ how = elim pass.4 [
        | inl g ↦ absurd (no_group g)
        | inr h ↦ reads e.1.reading (subst (λ (w : List ℕ). HasReading c w e.1.reading) key h)
      ] in
      let x_is : how ≡ x.reading = sym is ∙ ap (λ (y : MatchedArg). y.reading) same_x in
      subst (λ (r : Reading). IfSome (option_map (λ s. read_as r s.now) (slice_get x.vals.items 0)) Q) x_is
      (first_reads (λ v. PassesArg c id v.now) Q how x.vals.items all (λ v h. passed v.now h))

  -- the text that is read of the id, where it has an entry with one
  reads_text : All (EntryPasses c) f.entries.items → IfSome (one_text f id) Q
  reads_text values = go (matched_of f id) refl
    where
      go : (o : Option MatchedArg) → matched_of f id ≡ o → IfSome (option_and_then (λ a. option_map (λ s. read_as a.reading s.now) (slice_get a.vals.items 0)) (matched_of f id)) Q
      go None e = rw e tt
      go (Some x) e =
          let got = entry_by_id (EntryPasses c) f.entries.items id x values e in
          rw e (reads_entry x got.0 got.1 ((bytes_eq-Decides got.0.0.now id).0 got.2) got.3)

-- ---- a parse by our command

module _ (old : Command) (m : ArgMatches) (same : app_of old ≡ segywb) (p : IsParsedFrom old m) where
  rules_are : map rule_of (args_of old) ≡ segywb.top.rules
  rules_are = ap (λ (a : App). a.top.rules) same

  length_is : length (args_of old) ≡ 20
  unfolding segywb
  length_is = sym (length-map (args_of old) rule_of) ∙ ap length rules_are

  fields_are : (app_of old).top.is_plain ≡ true
  unfolding segywb
  fields_are = ap (λ (a : App). a.top.is_plain) same

  no_globals : (out-Command old).has_globals ≡ false
  no_globals = is_false _ (both _ _ (both _ _ (both _ _ fields_are).1).1).0

  no_negation : (out-Command old).subcommand_negates_reqs ≡ false
  unfolding segywb
  no_negation = ap (λ (a : App). a.top.subcommand_negates_reqs) same

  each_simple : All (λ a. is_simple_arg a ≡ true) (args_of old)
  unfolding segywb
  each_simple = each_rule (λ a. a.is_simple) (args_of old) (ap (list_all (λ (a : Rule). a.is_simple)) rules_are)

  each_free : All (λ a. is_free_arg a ≡ true) (args_of old)
  unfolding segywb
  each_free = each_rule (λ a. a.is_free) (args_of old) (ap (list_all (λ (a : Rule). a.is_free)) rules_are)

  all_plain : IsPlain old
  all_plain = (
    (λ k d lt. plain_arg (slice_index_or (args_of old) k d) (each_simple k d lt) (each_free k d lt)),
    is_nil _ (both _ _ fields_are).0,
  )

  -- the argument at k has this rule
  at_rule : (k : ℕ) (d : Arg) (r : Rule) → k < 20 → slice_index_or segywb.top.rules k (rule_of d) ≡ r → rule_of (slice_index_or (args_of old) k d) ≡ r
  at_rule k d r lt is =
      rule_at (args_of old) k d (rule_of d) (omega (arith, length_is)) ∙ ap (λ (rs : List Rule). slice_index_or rs k (rule_of d)) rules_are ∙ is

  module _ (k : ℕ) (d : Arg) (r : Rule) (lt : k < 20) (is : rule_of (slice_index_or (args_of old) k d) ≡ r) (one : only_at r.id k 0 segywb.top.rules ≡ true)
      (no_help : bytes_eq r.id (codes "help") ≡ false) (no_version : bytes_eq r.id (codes "version") ≡ false) (no_empty : bytes_eq r.id [] ≡ false) where
    id_is : (slice_index_or (args_of old) k d).id.now ≡ r.id
    id_is = ap (λ (x : Rule). x.id) is

    in_range : k < length (args_of old)
    in_range = omega (arith, length_is, lt)

    unique : (j : ℕ) (e : Arg) → j < length (args_of old) → bytes_eq (slice_index_or (args_of old) j e).id.now (slice_index_or (args_of old) k d).id.now ≡ true → j ≡ k
    unique j e low eq =
        let there : j + 0 ≡ k = only_there r.id k 0 (args_of old) (ap (only_at r.id k 0) rules_are ∙ one) j e low
        (subst (λ (w : List ℕ). bytes_eq (slice_index_or (args_of old) j e).id.now w ≡ true) id_is eq) in
        omega arith

    named : (slice_index_or (args_of old) k d).id.now ≡ [] → ⊥
    named empty = differ r.id [] no_empty (sym id_is ∙ empty)

    own : IsAuto (slice_index_or (args_of old) k d) → ⊥
    own (inl help) = differ r.id (codes "help") no_help (sym id_is ∙ help)
    own (inr version) = differ r.id (codes "version") no_version (sym id_is ∙ version)

    -- a required argument has a value
    given : r.required ≡ true → r.action ≡ Some Set → r.range ≡ None → is_some (first_value (found_of m) r.id) ≡ true
    given required action range =
        let a = slice_index_or (args_of old) k d in
        let least : 1 ≤ (unwrap_or_range a.num_vals).start_inclusive =
        rw (ap (λ (x : Rule). x.range) is ∙ range) (omega arith) in
        subst (λ (w : List ℕ). is_some (first_value (found_of m) w) ≡ true) id_is
        (required_has_value old m p all_plain no_globals no_negation k d in_range (ap (λ (x : Rule). x.required) is ∙ required)
        (ap (λ (x : Rule). x.action) is ∙ action) (undivided_arg a (each_simple k d in_range)) least unique named own)

    -- a number lies in its range
    number_in : (low high : ℕ) → r.parser ≡ Some (vp.Unsigned low high) → IsNumberIn low high (one_text (found_of m) r.id)
    number_in low high parser =
        let a = slice_index_or (args_of old) k d in
        let parsed = p.parsed (p.from.globals ∙ no_globals) in
        let q = vp.Unsigned low high in
        let parser_is : a.value_parser ≡ Some q = ap (λ (x : Rule). x.parser) is ∙ parser in
        let rules : (y : Arg) (j : ℕ) → j < length (args_of p.built) → slice_index_or (args_of p.built) j y ≡ y → bytes_eq y.id.now r.id ≡ true → parser_of y ≡ q =
        λ y j below at eq. ap parser_of_value ((same_rules_by_id old m p k d in_range unique own j y below at
        (subst (λ (w : List ℕ). bytes_eq y.id.now w ≡ true) (sym id_is) eq)).parser q parser_is) in
        reads_text p.built (found_of m) r.id (λ t. Accepts false q t) reading.AsWritten (p.from.plain all_plain).1 (differ r.id [] no_empty)
        (λ how any. sym any.4.1 ∙ ap reading_of (rules any.1 any.0 any.2 any.3 any.4.0))
        (λ v any. subst (λ (w : ValueParser). Accepts any.1.ignore_case w v) (rules any.1 any.0 any.2 any.3 any.4.0) any.4.1)
        parsed.values

  -- what was found can be read, where the command has an argument
  found_at : (d : Arg) → IsReadable (found_of m)
  unfolding segywb
  found_at d = record {
    file = given 0 d _ (omega arith) (at_rule 0 d _ (omega arith) refl) refl refl refl refl refl refl refl;
    limit = number_in 13 d _ (omega arith) (at_rule 13 d _ (omega arith) refl) refl refl refl refl 1 1099511627776 refl;
    samples = number_in 6 d _ (omega arith) (at_rule 6 d _ (omega arith) refl) refl refl refl refl 0 4294967295 refl;
    format = number_in 7 d _ (omega arith) (at_rule 7 d _ (omega arith) refl) refl refl refl refl 0 65535 refl;
    texts = number_in 8 d _ (omega arith) (at_rule 8 d _ (omega arith) refl) refl refl refl refl 0 32767 refl;
  }

  pub found_readable : IsReadable (found_of m)
  found_readable = go (args_of old) refl
    where
      go : (xs : List Arg) → args_of old ≡ xs → IsReadable (found_of m)
      go [] e =
          let none : length (args_of old) ≡ 0 = ap length e in
          let all : length (args_of old) ≡ 20 = length_is in
          absurd (omega (arith, none, all))
      go (x ∷ xs) e = found_at x
