-- How a session goes on by one line.
use Rattle.std.proofs.Common.{◌≡◌, ℕ, ◌+◌, List, [], ◌∷◌, ◌++◌, length, take, Bool, not, Option, Some, None, cond, true, false, ◌≤◌, refl, ap, ap₂, sym, ◌∙◌, arith, append-nil, length-append, ◌-◌, ◌^◌, inl, inr}
use Rattle.std.specs.Prelude.{IsTrue}
use Rattle.std.specs.Io.KnownBytes.{Appends, IsAtEnd}
use Rattle.std.proofs.lemmas.List.{take_at}
use Rattle.refusal_texts.specs.declared.script_fault.ScriptFault.{ScriptFault}
use Rattle.script_run.specs.declared.session_lines.SessionLines.TheVariants.{Script}
use Rattle.script_text.specs.Replies.{Printed}
use Rattle.line_texts.specs.Devices.{Device, Takes, TakesPart, count_in_64_bits}
use Rattle.line_texts.proofs.OutLemmas.{takes_more, takes_part_more}
use Rattle.script_run.specs.Causes.{Failures, failed_between}
use Rattle.script_run.specs.Runs.{printed_text, refusals}
use Rattle.script_run.specs.Input.{SessionLine, line_of, session_lines, any_cut_off, TakesLine, TakesLines, IsEndless, HasTooMany}
use Rattle.script_run.specs.Sessions.{Standing, SessionStep, SessionSteps, FirstLines, AllLines, IsBroken}
use Rattle.script_run.specs.SessionLineRuns.{Answered, AnswersTo}
use Rattle.script_run.proofs.RunLemmas.{steps_more, steps-length, text_more, refusals_more}
use Rattle.script_run.proofs.InputLemmas.{line_more}
use Rattle.script_run.proofs.LineEndLemmas.{cut_off_more}
use Rattle.script_run.proofs.CauseLemmas.{between_in}
use Rattle.script_run.proofs.SessionCauseLemmas.{session_line_in, session_in}

-- ---- the lines that were taken are those of the reader

first_lines : (old left : Option (List ℕ)) (lines : List SessionLine) → TakesLines old left lines → FirstLines old lines
first_lines None left lines t = tt
first_lines (Some xs) None lines t = absurd t
first_lines (Some xs) (Some ys) lines t = ap (take (length lines)) t ∙ take_at lines (session_lines ys) (length lines) refl

all_lines : (old left : Option (List ℕ)) (lines : List SessionLine) → TakesLines old left lines → IsAtEnd left → AllLines old lines
all_lines None left lines t end = tt
all_lines (Some xs) None lines t end = absurd t
all_lines (Some xs) (Some ys) lines t end = t ∙ ap (λ s. lines ++ session_lines s) end ∙ append-nil lines

-- one refusal more, or none
pub one_refused : (b : Bool) (r m : ℕ) → b ≡ true → m ≡ r + 1 → m ≡ r + cond b 1 0
one_refused true r m e f = f
one_refused false r m e f = cc

pub none_refused : (b : Bool) (r m : ℕ) → b ≡ false → m ≡ r → m ≡ r + cond b 1 0
none_refused true r m e f = cc
none_refused false r m e f = omega (arith, f)

pub not_both : (b : Bool) → IsTrue b → b ≡ false → ⊥
not_both b t f = cc

-- ---- where a session stands

-- the lines before what is left are answered
pub record SessionSoFar (first count : Failures) (start : Standing) (old left : Option (List ℕ)) (stop : Bool) (number refused written : ℕ) (before after : Device) (now : Standing) : Type 0 where
  pub lines : List SessionLine
  pub printed : List Printed
  pub given : TakesLines old left lines
  pub ended : any_cut_off lines ≡ false
  pub steps : SessionSteps (failed_between first count) start lines printed now
  pub not_before : first.growths ≤ count.growths
  pub reads_not_before : first.reads ≤ count.reads
  pub number_is : number ≡ length printed
  pub refused_is : refused ≡ refusals printed
  pub written_is : written ≡ count_in_64_bits (length (printed_text printed))
  pub goes_on : IsTrue stop → refused ≡ 0
  pub taken : Takes before after (printed_text printed)

pub none_yet : (first : Failures) (start : Standing) (old left : Option (List ℕ)) (stop : Bool) (before : Device) → TakesLines old left [] → Appends before.bytes before.bytes [] → SessionSoFar first first start old left stop 0 0 0 before before start
none_yet first start old left stop before given same = record {
  lines = [];
  printed = [];
  given = given;
  ended = refl;
  steps = refl;
  not_before = omega arith;
  reads_not_before = omega arith;
  number_is = refl;
  refused_is = refl;
  written_is = refl;
  goes_on = λ _. refl;
  taken = record { bytes = same; failures = refl };
}

module _ (first count last : Failures) (start : Standing) (script : Device) (left : Option (List ℕ)) (stop : Bool) (number refused written : ℕ) (before mid : Device) (now : Standing)
    (so_far : SessionSoFar first count start script.bytes left stop number refused written before mid now) (never_falls : count.growths ≤ last.growths) (reads_never_fall : count.reads ≤ last.reads) where
  abbrev answered : Answered (failed_between first last) start now script so_far.printed
  answered = record {
    lines = so_far.lines;
    given = first_lines script.bytes left so_far.lines so_far.given;
    steps = session_in (failed_between first count) (failed_between first last) (between_in first last first count (omega arith) never_falls (omega arith) reads_never_fall) start so_far.lines so_far.printed now so_far.steps;
  }

  -- no line is left
  pub whole : (script_now : Device) → IsAtEnd left → script_now.failures ≡ script.failures
      → (printed : List Printed) × (done : Answered (failed_between first last) start now script printed) × AllLines script.bytes done.lines × (false ≡ any_cut_off done.lines)
      × (script_now.failures ≡ script.failures) × (refused ≡ refusals printed) × (IsTrue stop → refused ≡ 0) × Takes before mid (printed_text printed)
  whole script_now end same = (
    so_far.printed,
    answered,
    all_lines script.bytes left so_far.lines so_far.given end,
    sym so_far.ended,
    same,
    so_far.refused_is,
    so_far.goes_on,
    so_far.taken,
  )

  -- no more lines are read
  pub broken : (fault : ScriptFault) (script_now : Device) → IsBroken fault script script_now so_far.lines → AnswersTo (failed_between first last) start now stop script script_now before mid (Script fault written)
  broken fault script_now reason = (
    so_far.printed,
    answered,
    reason,
    λ s. sym so_far.refused_is ∙ so_far.goes_on s,
    so_far.written_is,
    so_far.taken,
  )

  -- more is left than can be counted
  pub endless : IsEndless left → HasTooMany script.bytes so_far.lines
  endless end = inr (left, so_far.given, end)

  -- more lines were answered than can be counted
  pub too_many : 2 ^ 64 - 1 ≤ number → HasTooMany script.bytes so_far.lines
  too_many h = inl (omega (arith, h, so_far.number_is, steps-length (SessionStep (failed_between first count)) start now so_far.lines so_far.printed so_far.steps))

module _ (first count last : Failures) (start : Standing) (script : Device) (left rest : Option (List ℕ)) (text : List ℕ) (has_end : Bool) (stop : Bool) (number refused written : ℕ) (before mid : Device) (now next : Standing) (p : Printed)
    (so_far : SessionSoFar first count start script.bytes left stop number refused written before mid now) (given : TakesLine left rest (line_of text has_end))
    (never_falls : count.growths ≤ last.growths) (reads_never_fall : count.reads ≤ last.reads) (step : SessionStep (failed_between count last) now (line_of text has_end) p next) where
  abbrev line : SessionLine
  line = line_of text has_end

  through : SessionSteps (failed_between first last) start (so_far.lines ++ line ∷ []) (so_far.printed ++ p ∷ []) next
  through =
      steps_more (SessionStep (failed_between first last)) start now next so_far.lines line so_far.printed p
      (session_in (failed_between first count) (failed_between first last) (between_in first last first count (omega arith) never_falls (omega arith) reads_never_fall) start so_far.lines so_far.printed now so_far.steps)
      (session_line_in (failed_between count last) (failed_between first last) (between_in first last count last so_far.not_before (omega arith) so_far.reads_not_before (omega arith)) now line p next step)

  lines_given : TakesLines script.bytes rest (so_far.lines ++ line ∷ [])
  lines_given = line_more script.bytes left rest so_far.lines line so_far.given given

  answered_more : Answered (failed_between first last) start next script (so_far.printed ++ p ∷ [])
  answered_more = record { lines = so_far.lines ++ line ∷ []; given = first_lines script.bytes rest (so_far.lines ++ line ∷ []) lines_given; steps = through }

  -- a line whose answer is written
  pub one_more : (after : Device) (more told : ℕ) → Takes mid after p.text → more ≡ refused + cond p.is_refusal 1 0 → told ≡ count_in_64_bits (written + length p.text) → (IsTrue stop → p.is_refusal ≡ false) → has_end ≡ true
      → SessionSoFar first last start script.bytes rest stop (number + 1) more told before after next
  one_more after more told taken more_is told_is not_refused is_whole = record {
    lines = so_far.lines ++ line ∷ [];
    printed = so_far.printed ++ p ∷ [];
    given = lines_given;
    ended = cut_off_more so_far.lines text has_end so_far.ended ∙ ap not is_whole;
    steps = through;
    not_before = omega (arith, so_far.not_before, never_falls);
    reads_not_before = omega (arith, so_far.reads_not_before, reads_never_fall);
    number_is = omega (arith, so_far.number_is, length-append so_far.printed (p ∷ []));
    refused_is = more_is ∙ ap (λ n. n + cond p.is_refusal 1 0) so_far.refused_is ∙ sym (refusals_more so_far.printed p);
    written_is = omega (arith, told_is, so_far.written_is, ap length (text_more so_far.printed p), length-append (printed_text so_far.printed) p.text);
    goes_on = λ s. let none : refused ≡ 0 = so_far.goes_on s in more_is ∙ ap₂ (λ n b. n + cond b 1 0) none (not_refused s);
    taken = rw (text_more so_far.printed p) (takes_more before mid after (printed_text so_far.printed) p.text so_far.taken taken);
  }

  -- the last line, which is cut off, and whose answer is written
  pub cut_short : (script_now after : Device) (more : ℕ) → Takes mid after p.text → more ≡ refused + cond p.is_refusal 1 0 → (IsTrue stop → p.is_refusal ≡ false) → has_end ≡ false
      → IsAtEnd rest → script_now.failures ≡ script.failures
      → (printed : List Printed) × (done : Answered (failed_between first last) start next script printed) × AllLines script.bytes done.lines × (true ≡ any_cut_off done.lines)
      × (script_now.failures ≡ script.failures) × (more ≡ refusals printed) × (IsTrue stop → more ≡ 0) × Takes before after (printed_text printed)
  unfolding answered_more
  cut_short script_now after more taken more_is not_refused is_cut end same = (
    so_far.printed ++ p ∷ [],
    answered_more,
    all_lines script.bytes rest (so_far.lines ++ line ∷ []) lines_given end,
    sym (cut_off_more so_far.lines text has_end so_far.ended ∙ ap not is_cut),
    same,
    more_is ∙ ap (λ n. n + cond p.is_refusal 1 0) so_far.refused_is ∙ sym (refusals_more so_far.printed p),
    λ s. let none : refused ≡ 0 = so_far.goes_on s in more_is ∙ ap₂ (λ n b. n + cond b 1 0) none (not_refused s),
    rw (text_more so_far.printed p) (takes_more before mid after (printed_text so_far.printed) p.text so_far.taken taken),
  )

  -- a line whose answer is not written whole
  pub breaks_off : (after : Device) (k told : ℕ) → TakesPart mid after p.text k → told ≡ count_in_64_bits (written + k)
      → (front : List Printed) × (end : Printed) × (taken : ℕ) × Answered (failed_between first last) start next script (front ++ end ∷ [])
      × (told ≡ count_in_64_bits taken) × (IsTrue stop → refusals front ≡ 0) × (length (printed_text front) ≤ taken)
      × TakesPart before after (printed_text (front ++ end ∷ [])) taken
  breaks_off after k told part told_is = (
    so_far.printed,
    p,
    length (printed_text so_far.printed) + k,
    answered_more,
    omega (arith, told_is, so_far.written_is),
    λ s. sym so_far.refused_is ∙ so_far.goes_on s,
    omega arith,
    rw (text_more so_far.printed p) (takes_part_more before mid after (printed_text so_far.printed) p.text k so_far.taken part),
  )

  -- a refused line at which the session stops
  pub stops : (after : Device) → Takes mid after p.text → IsTrue p.is_refusal → IsTrue stop
      → (front : List Printed) × (end : Printed) × Answered (failed_between first last) start next script (front ++ end ∷ [])
      × (number + 1 ≡ length front + 1) × (refusals front ≡ 0) × IsTrue end.is_refusal × IsTrue stop
      × Takes before after (printed_text (front ++ end ∷ []))
  stops after taken refused_is stop_is = (
    so_far.printed,
    p,
    answered_more,
    omega (arith, so_far.number_is),
    sym so_far.refused_is ∙ so_far.goes_on stop_is,
    refused_is,
    stop_is,
    rw (text_more so_far.printed p) (takes_more before mid after (printed_text so_far.printed) p.text so_far.taken taken),
  )
