-- How often the lines of a run look at traces.
use Rattle.std.proofs.Common.{◌≡◌, ◌∙◌, ℕ, ◌+◌, ◌≤◌, Bool, true, false, if◌then◌else◌, List, [], ◌∷◌, ◌++◌, length, take, Option, Some, None, Result, Ok, Err, refl, sym, ap, subst, arith, append_assoc, inl, inr}
use Rattle.std.specs.Io.KnownBytes.{Appends}
use Rattle.std.proofs.lemmas.List.{take_at}
use Rattle.frame_cut.specs.Traces.{count_of}
use Rattle.sample_codes.specs.declared.value_format.ValueFormat.{ValueFormat}
use Rattle.sample_codes.specs.Formats.{values}
use Rattle.edit_overlay.specs.CountedVolume.{RisesAtMost}
use Rattle.bench_rules.specs.declared.query.Query.{Query}
use Rattle.bench_rules.specs.declared.query.Query.TheVariants as queries
use Rattle.bench_rules.specs.FloatStatistics.{float_format}
use Rattle.bench_rules.specs.Kept.{is_kept}
use Rattle.bench_rules.specs.Looks.{query_looks, value_looks}
use Rattle.bench_rules.specs.State.{State}
use Rattle.script_words.specs.declared.command.Command.{Command}
use Rattle.script_words.specs.declared.command.Command.TheVariants.{Apply, Ask}
use Rattle.script_words.specs.declared.line_fault.LineFault.{LineFault}
use Rattle.script_words.specs.Commands.{line_result}
use Rattle.line_texts.specs.Devices.{Device, Takes, TakesPart}
use Rattle.script_text.specs.Replies.{Printed}
use Rattle.script_run.specs.Causes.{Causes, any_cause}
use Rattle.script_run.specs.LineLooks.{line_looks, read_looks, after_looks, LookedState, LookingStep, LooksOfLines, TakesUpToLast}
use Rattle.script_run.specs.Runs.{LineStep, StepsBy, printed_text}
use Rattle.line_texts.proofs.OutLemmas.{takes_more, takes_part_more}
use Rattle.script_run.proofs.CauseLemmas.{all_follow, line_in}
use Rattle.script_run.proofs.RunLemmas.{steps_more, steps-length, text_more}

-- ---- a slice that is kept takes no look

slice_less : (format : Option ValueFormat) (kept : Bool) (n : ℕ) → value_looks format (if kept then 0 else n) ≤ value_looks format n
slice_less None kept n = omega arith
slice_less (Some format) true n = omega arith
slice_less (Some format) false n = omega arith

query_less : (s : State) (kept : List ℕ) (query : Query) → query_looks s kept query ≤ query_looks s [] query
query_less s kept queries.Count = omega arith
query_less s kept queries.Info = omega arith
query_less s kept (queries.Get p field) = omega arith
query_less s kept (queries.GetBin field) = omega arith
query_less s kept (queries.Line b q) = omega arith
query_less s kept (queries.Lines b) = omega arith
query_less s kept (queries.Code b) = omega arith
query_less s kept queries.Stanzas = omega arith
query_less s kept queries.Fields = omega arith
query_less s kept (queries.Sample p k) = omega arith
query_less s kept (queries.Geometry p) = omega arith
query_less s kept (queries.Stat p) = omega arith
query_less s kept (queries.Fold i c) = omega arith
query_less s kept queries.Grid = omega arith
query_less s kept queries.Inlines = omega arith
query_less s kept queries.Crosslines = omega arith
query_less s kept queries.Histogram = omega arith
query_less s kept (queries.Range quantity) = omega arith
query_less s kept queries.Totals = omega arith
query_less s kept (queries.Slice k) = slice_less (values s.volume.head.format) (is_kept k kept) (count_of s.volume)
query_less s kept queries.Faults = omega arith
query_less s kept queries.Problems = omega arith
query_less s kept queries.Survey = omega arith
query_less s kept (queries.Table a b fields) = omega arith
query_less s kept (queries.Find a b field low high) = omega arith
query_less s kept (queries.Header p) = omega arith
query_less s kept (queries.Extremes a b) = omega arith
query_less s kept (queries.OfChosen c query) = omega arith

read_less : (s : State) (kept : List ℕ) (read : Result (Option Command) LineFault) → read_looks s kept read ≤ read_looks s [] read
read_less s kept (Ok None) = omega arith
read_less s kept (Ok (Some (Apply edit))) = omega arith
read_less s kept (Ok (Some (Ask query))) = omega (arith, query_less s kept query)
read_less s kept (Err fault) = omega arith

line_less : (s : State) (kept line : List ℕ) → line_looks s kept line ≤ line_looks s [] line
line_less s kept line = read_less s kept (line_result (float_format s.volume.head.format) (count_of s.volume) line)

-- ---- where a run stands

-- the lines before these are run, each with the looks that it may take, and what they print is written
pub record LookedSoFar (before after : Device) (start : LookedState) (all rest : List (List ℕ)) (now : LookedState) : Type 0 where
  pub done : List (List ℕ)
  pub printed : List Printed
  pub lines : all ≡ done ++ rest
  pub steps : StepsBy LookingStep start done printed now
  pub taken : Takes before after (printed_text printed)

pub none_looked : (before : Device) (start : LookedState) (all : List (List ℕ)) → Appends before.bytes before.bytes [] → LookedSoFar before before start all all start
none_looked before start all same = record { done = []; printed = []; lines = refl; steps = refl; taken = record { bytes = same; failures = refl } }

-- the first lines of a run led here, and the writer took what they print, or a part of it
first_lines : (before after : Device) (start : LookedState) (all done rest : List (List ℕ)) (printed : List Printed) (now : LookedState) → all ≡ done ++ rest → StepsBy LookingStep start done printed now
    → TakesUpToLast before after printed → LooksOfLines before after start all now
first_lines before after start all done rest printed now lines steps taken =
    let first : take (length printed) all ≡ done = ap (take (length printed)) lines ∙ take_at done rest (length printed) (steps-length LookingStep start now done printed steps) in
    record { printed = printed; steps = subst (λ (ls : List (List ℕ)). StepsBy LookingStep start ls printed now) (sym first) steps; taken = taken }

pub looked_so : (before after : Device) (start now : LookedState) (all rest : List (List ℕ)) → LookedSoFar before after start all rest now → LooksOfLines before after start all now
looked_so before after start now all rest so_far =
    first_lines before after start all so_far.done rest so_far.printed now so_far.lines so_far.steps (inl so_far.taken)

-- one line more
module _ (before mid : Device) (start now : LookedState) (all rest : List (List ℕ)) (line : List ℕ) (next : State) (looks : ℕ) (kept : List ℕ) (why : Causes) (p : Printed)
    (so_far : LookedSoFar before mid start all (line ∷ rest) now) (step : LineStep why now.state line p next) (rose : RisesAtMost now.looks looks (line_looks now.state kept line)) where
  lines_more : all ≡ (so_far.done ++ line ∷ []) ++ rest
  lines_more = so_far.lines ∙ sym (append_assoc so_far.done (line ∷ []) rest)

  looking_more : StepsBy LookingStep start (so_far.done ++ line ∷ []) (so_far.printed ++ p ∷ []) (after_looks next looks)
  looking_more =
      steps_more LookingStep start now (after_looks next looks) so_far.done line so_far.printed p so_far.steps
      (line_in why any_cause (all_follow why) now.state line p next step, (rose.0, omega (arith, rose.1, line_less now.state kept line)))

  -- whose reply is written
  pub looked_more : (after : Device) → Takes mid after p.text → LookedSoFar before after start all rest (after_looks next looks)
  looked_more after taken = record {
    done = so_far.done ++ line ∷ [];
    printed = so_far.printed ++ p ∷ [];
    lines = lines_more;
    steps = looking_more;
    taken = rw (text_more so_far.printed p) (takes_more before mid after (printed_text so_far.printed) p.text so_far.taken taken);
  }

  -- whose reply is not written whole
  pub looked_broken : (after : Device) (k : ℕ) → TakesPart mid after p.text k → LooksOfLines before after start all (after_looks next looks)
  looked_broken after k part =
      first_lines before after start all (so_far.done ++ line ∷ []) rest (so_far.printed ++ p ∷ []) (after_looks next looks) lines_more looking_more
      (inr (so_far.printed, p, length (printed_text so_far.printed) + k, refl, omega arith, rw (text_more so_far.printed p) (takes_part_more before mid after (printed_text so_far.printed) p.text k so_far.taken part)))
