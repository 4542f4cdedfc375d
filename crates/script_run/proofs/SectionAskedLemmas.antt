-- The traces of a section that is answered are there.
use Rattle.std.proofs.Common.{◌≡◌, ◌∙◌, ℕ, Bool, true, false, List, length, Option, Some, None, Ok, Err, refl, sym, ap, subst, inl, inr}
use Rattle.std.specs.Prelude.{is_none, not, ◌&&◌, nat_le, IsErrAnd, if◌then◌else◌}
use Rattle.std.specs.Option.{option_or}
use Rattle.sample_codes.specs.Formats.{values}
use Rattle.frame_cut.specs.Traces.{count_of, is_trace}
use Rattle.bench_rules.specs.declared.answer.Answer.TheVariants as answers
use Rattle.bench_rules.specs.declared.ask_fault.AskFault.TheVariants.{NoTrace, NoValues}
use Rattle.bench_rules.specs.declared.chosen.Chosen.{Chosen}
use Rattle.bench_rules.specs.declared.chosen_query.ChosenQuery.{ChosenQuery}
use Rattle.bench_rules.specs.declared.chosen_query.ChosenQuery.TheVariants as about
use Rattle.bench_rules.specs.declared.refusal.Refusal.TheVariants as refusals
use Rattle.bench_rules.specs.declared.query.Query.{Query}
use Rattle.bench_rules.specs.declared.query.Query.TheVariants as queries
use Rattle.bench_rules.specs.declared.sample_range.SampleRange.{SampleRange}
use Rattle.bench_rules.specs.declared.section.Section.{Section}
use Rattle.bench_rules.specs.declared.test.Test.{Test}
use Rattle.bench_rules.specs.Answer.{answer, FailsToRead, IsReply}
use Rattle.bench_rules.specs.ChosenQueries.{answer_of_chosen, answer_under, of_range}
use Rattle.bench_rules.specs.Conditions.{chosen, chosen_among, lacks_values, range_of, tests_of, AreRising}
use Rattle.bench_rules.specs.Looks.{looks_at_chosen}
use Rattle.bench_rules.specs.RangeRefusals.{range_refusal}
use Rattle.bench_rules.specs.Replies.{Reply}
use Rattle.bench_rules.specs.State.{State}
use Rattle.bench_rules.proofs.ChosenLemmas.{chosen_rising}
use Rattle.script_text.specs.Replies.{Printed}
use Rattle.script_run.specs.Causes.{Causes}
use Rattle.script_run.specs.LineLooks.{row_looks}
use Rattle.script_run.specs.Runs.{asks_for_section, section_in, IsPrintedBy, IsPrintedIn}

-- ---- the query that is answered by a section

-- which query it is
pub record IsOfSection (query : Query) : Type 0 where
  pub c : Chosen
  pub range : SampleRange
  pub is : query ≡ queries.OfChosen c (about.Samples range)

of_chosen : (c : Chosen) (query : ChosenQuery) → asks_for_section (queries.OfChosen c query) ≡ true → IsOfSection (queries.OfChosen c query)
of_chosen c about.Count e = absurd cc
of_chosen c (about.Table fields) e = absurd cc
of_chosen c (about.Find field low high) e = absurd cc
of_chosen c about.Extremes e = absurd cc
of_chosen c about.Stats e = absurd cc
of_chosen c (about.Samples range) e = record { c = c; range = range; is = refl }

pub section_query : (query : Query) → asks_for_section query ≡ true → IsOfSection query
section_query queries.Count e = absurd cc
section_query queries.Info e = absurd cc
section_query (queries.Get p field) e = absurd cc
section_query (queries.GetBin field) e = absurd cc
section_query (queries.Line b q) e = absurd cc
section_query (queries.Lines b) e = absurd cc
section_query (queries.Code b) e = absurd cc
section_query queries.Stanzas e = absurd cc
section_query queries.Fields e = absurd cc
section_query (queries.Sample p k) e = absurd cc
section_query (queries.Geometry p) e = absurd cc
section_query (queries.Stat p) e = absurd cc
section_query (queries.Fold i c) e = absurd cc
section_query queries.Grid e = absurd cc
section_query queries.Inlines e = absurd cc
section_query queries.Crosslines e = absurd cc
section_query queries.Histogram e = absurd cc
section_query (queries.Range quantity) e = absurd cc
section_query queries.Totals e = absurd cc
section_query (queries.Slice k) e = absurd cc
section_query queries.Faults e = absurd cc
section_query queries.Problems e = absurd cc
section_query queries.Survey e = absurd cc
section_query (queries.Table a b fields) e = absurd cc
section_query (queries.Find a b field low high) e = absurd cc
section_query (queries.Header p) e = absurd cc
section_query (queries.Extremes a b) e = absurd cc
section_query (queries.OfChosen c query) e = of_chosen c query e

-- ---- its traces

module _ (s : State) (c : Chosen) (range : SampleRange) (section : Section) where
  told : Reply
  told = Ok (answers.Section section)

  -- the traces of the range are there
  in_range : (o : Option (ℕ × ℕ)) (reply : Reply) → Ok (answers.Section section) ≡ of_range s.volume o reply → (range_refusal s.volume o ≡ None) × (Ok (answers.Section section) ≡ reply)
  in_range None reply e = (refl, e)
  in_range (Some r) reply e = by (is_trace s.volume r.0) (nat_le r.0 r.1 && nat_le r.1 (count_of s.volume)) e
    where
      by : (there whole : Bool)
          → Ok (answers.Section section) ≡ (if not there then Err (NoTrace r.0 (count_of s.volume)) else if whole then reply else Err (NoTrace r.1 (count_of s.volume)))
          → (option_or (if there then None else Some (refusals.NoTrace r.0 (count_of s.volume))) (if whole then None else Some (refusals.NoTrace r.1 (count_of s.volume))) ≡ None)
          × (Ok (answers.Section section) ≡ reply)
      by true true f = (refl, f)
      by true false f = absurd cc
      by false whole f = absurd cc

  -- and traces are chosen among them
  some_chosen : (o : Option (List Test)) → tests_of s.fields c.conditions ≡ o → Ok (answers.Section section) ≡ answer_under s.volume s.fields c.traces (about.Samples range) o
      → chosen s.volume s.fields c ≡ Some section.traces
  some_chosen None is e = absurd cc
  some_chosen (Some tests) is e = by (lacks_values s.volume.head.format tests) refl (chosen_among s.volume tests (range_of c.traces)) refl (is_none (values s.volume.head.format)) refl e
    where
      by : (lacks : Bool) → lacks_values s.volume.head.format tests ≡ lacks → (o : Option (List ℕ)) → chosen_among s.volume tests (range_of c.traces) ≡ o
          → (none : Bool) → is_none (values s.volume.head.format) ≡ none
          → Ok (answers.Section section) ≡ (if lacks then Err NoValues else answer_of_chosen s.volume s.fields (about.Samples range) o)
          → chosen s.volume s.fields c ≡ Some section.traces
      by true a o d none b f = absurd cc
      by false a None d none b f = absurd cc
      by false a (Some ps) d true b f = let g : Ok (answers.Section section) ≡ Err NoValues = rw b at f in absurd cc
      by false a (Some ps) d false b f =
          let same : section.traces ≡ ps = let g : Ok (answers.Section section) ≡ Ok (answers.Section (record { traces = ps; samples = range })) = rw b at f in cc in
          rw (is, a, d, same) refl

  answered_chosen : Ok (answers.Section section) ≡ answer s (queries.OfChosen c (about.Samples range)) → (range_refusal s.volume c.traces ≡ None) × (chosen s.volume s.fields c ≡ Some section.traces)
  answered_chosen e =
      let there = in_range c.traces (answer_under s.volume s.fields c.traces (about.Samples range) (tests_of s.fields c.conditions)) e in
      (there.0, some_chosen (tests_of s.fields c.conditions) refl there.1)

-- so those of a section that is replied are the traces that its query chooses
pub record IsChosen (s : State) (query : Query) (section : Section) : Type 0 where
  pub c : Chosen
  pub range : SampleRange
  pub is : query ≡ queries.OfChosen c (about.Samples range)
  pub there : range_refusal s.volume c.traces ≡ None
  pub are : chosen s.volume s.fields c ≡ Some section.traces

replied_chosen : (s : State) (query : Query) (reply : Reply) → asks_for_section query ≡ true → IsReply s query reply → (section : Section) → reply ≡ Ok (answers.Section section) → IsChosen s query section
replied_chosen s query reply asked (inl is) section same =
    let of = section_query query asked in
    let chose = answered_chosen s of.c of.range section (sym same ∙ is ∙ ap (answer s) of.is) in
    record { c = of.c; range = of.range; is = of.is; there = chose.0; are = chose.1 }
replied_chosen s query reply asked (inr (inl (is, may))) section same = absurd cc
replied_chosen s query reply asked (inr (inr fails)) section same = absurd (subst (λ (r : Reply). IsErrAnd r (FailsToRead s query)) same fails)

-- which are there
pub replied_rising : (s : State) (query : Query) (reply : Reply) → asks_for_section query ≡ true → IsReply s query reply → (section : Section) → reply ≡ Ok (answers.Section section)
    → AreRising 1 (count_of s.volume) section.traces
replied_rising s query reply asked is section same =
    let chose = replied_chosen s query reply asked is section same in
    chosen_rising s chose.c section.traces chose.there chose.are

-- and which are looked at, once each
pub replied_rows : (s : State) (query : Query) (reply : Reply) → asks_for_section query ≡ true → IsReply s query reply → (section : Section) → reply ≡ Ok (answers.Section section)
    → row_looks s query ≡ length section.traces
replied_rows s query reply asked is section same =
    let chose = replied_chosen s query reply asked is section same in
    ap (row_looks s) chose.is ∙ ap (looks_at_chosen (λ n. n)) chose.are

-- what is printed for a section is what is printed for its query
pub printed_section : (why : Causes) (s : State) (query : Query) (reply : Reply) (printed : Printed) → asks_for_section query ≡ true → IsPrintedBy why s (section_in reply) None reply printed → IsPrintedIn why s query reply printed
printed_section why s query reply printed asked is =
    let of = section_query query asked in
    subst (λ (q : Query). IsPrintedIn why s q reply printed) (sym of.is) is
