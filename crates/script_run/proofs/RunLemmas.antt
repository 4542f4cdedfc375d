-- How a run goes on by one line.
use Rattle.std.proofs.Common.{◌≡◌, ℕ, suc, ◌+◌, ◌≤◌, List, [], ◌∷◌, ◌++◌, length, take, Bool, true, false, cond, refl, ap, ap₂, sym, subst, ◌∙◌, arith, append_assoc, append-nil, length-append}
use Rattle.std.specs.Prelude.{IsTrue}
use Rattle.std.specs.List.{onto_first}
use Rattle.std.specs.Io.KnownBytes.{Appends}
use Rattle.std.proofs.lemmas.List.{take_at, length-map}
use Rattle.std.proofs.lemmas.List.Sums.{sum_by_push}
use Rattle.std.proofs.lemmas.List.Concat.{flat_map-append}
use Rattle.bench_rules.specs.State.{State}
use Rattle.script_words.specs.Words.{is_line_feed, parts_by_line_feed, script_lines, without_return}
use Rattle.script_text.specs.Replies.{Printed}
use Rattle.line_texts.specs.Devices.{Device, Takes, TakesPart, count_in_64_bits}
use Rattle.script_run.specs.Causes.{Failures, failed_between}
use Rattle.script_run.specs.Runs.{LineStep, LineSteps, StepsBy, printed_text, refusals, StopsAt, BreaksOff}
use Rattle.line_texts.proofs.OutLemmas.{takes_more, takes_part_more}
use Rattle.script_run.proofs.CauseLemmas.{between_in, line_in, lines_in}

-- ---- a script has no more lines than bytes

onto_first-le : (b : ℕ) (ps : List (List ℕ)) → length (onto_first b ps) ≤ suc (length ps)
onto_first-le b [] = omega arith
onto_first-le b (p ∷ ps) = omega arith

parts-le : (script : List ℕ) → length (parts_by_line_feed script) ≤ length script
parts-le [] = omega arith
parts-le (b ∷ bs) =
    let rest = parts-le bs in
    elim (is_line_feed b) as (λ v. length (cond v ([] ∷ parts_by_line_feed bs) (onto_first b (parts_by_line_feed bs))) ≤ suc (length bs))
    [ true ↦ omega arith | false ↦ let one = onto_first-le b (parts_by_line_feed bs) in omega arith ]

pub lines-le : (script : List ℕ) → length (script_lines script) ≤ length script
lines-le script = let parts = parts-le script in omega (arith, length-map (parts_by_line_feed script) without_return)

-- ---- one line more

module _ {S L : Type 0} (Step : S → L → Printed → S → Type 0) where
  pub steps_more : (old mid new : S) (lines : List L) (line : L) (ps : List Printed) (p : Printed)
      → StepsBy Step old lines ps mid → Step mid line p new → StepsBy Step old (lines ++ line ∷ []) (ps ++ p ∷ []) new
  steps_more old mid new [] line [] p h step = (new, subst (λ s. Step s line p new) h step, refl)
  steps_more old mid new [] line (q ∷ qs) p h step = absurd h
  steps_more old mid new (l ∷ ls) line [] p h step = absurd h
  steps_more old mid new (l ∷ ls) line (q ∷ qs) p (s, first, rest) step = (s, first, steps_more s mid new ls line qs p rest step)

  pub steps-length : (old new : S) (lines : List L) (ps : List Printed) → StepsBy Step old lines ps new → length lines ≡ length ps
  steps-length old new [] [] h = refl
  steps-length old new [] (p ∷ ps) h = absurd h
  steps-length old new (l ∷ ls) [] h = absurd h
  steps-length old new (l ∷ ls) (p ∷ ps) (s, first, rest) = ap suc (steps-length s new ls ps rest)

pub text_more : (ps : List Printed) (p : Printed) → printed_text (ps ++ p ∷ []) ≡ printed_text ps ++ p.text
text_more ps p = flat_map-append (λ q. q.text) ps (p ∷ []) ∙ ap (λ t. printed_text ps ++ t) (append-nil p.text)

pub refusals_more : (ps : List Printed) (p : Printed) → refusals (ps ++ p ∷ []) ≡ refusals ps + cond p.is_refusal 1 0
refusals_more ps p = sum_by_push (λ q. cond q.is_refusal 1 0) ps p

-- ---- where a run stands

-- the lines before these are run, with what they printed, E11 only where a growth was refused, E14 only where a read failed, and no E15
pub record SoFar (first count : Failures) (start : State) (all rest : List (List ℕ)) (stop : Bool) (number refused written : ℕ) (before after : Device) (now : State) : Type 0 where
  pub done : List (List ℕ)
  pub printed : List Printed
  pub lines : all ≡ done ++ rest
  pub steps : LineSteps (failed_between first count) start done printed now
  pub not_before : first.growths ≤ count.growths
  pub reads_not_before : first.reads ≤ count.reads
  pub number_is : number ≡ length printed
  pub refused_is : refused ≡ refusals printed
  pub written_is : written ≡ count_in_64_bits (length (printed_text printed))
  pub goes_on : IsTrue stop → refused ≡ 0
  pub taken : Takes before after (printed_text printed)

pub none_yet : (first : Failures) (start : State) (all : List (List ℕ)) (stop : Bool) (before : Device) → Appends before.bytes before.bytes [] → SoFar first first start all all stop 0 0 0 before before start
none_yet first start all stop before same = record {
  done = [];
  printed = [];
  lines = refl;
  steps = refl;
  not_before = omega arith;
  reads_not_before = omega arith;
  number_is = refl;
  refused_is = refl;
  written_is = refl;
  goes_on = λ _. refl;
  taken = record { bytes = same; failures = refl };
}

module _ (first count last : Failures) (start : State) (all rest : List (List ℕ)) (line : List ℕ) (stop : Bool) (number refused written : ℕ) (before mid : Device) (now next : State) (p : Printed)
    (so_far : SoFar first count start all (line ∷ rest) stop number refused written before mid now)
    (never_falls : count.growths ≤ last.growths) (reads_never_fall : count.reads ≤ last.reads) (step : LineStep (failed_between count last) now line p next) where
  through : LineSteps (failed_between first last) start (so_far.done ++ line ∷ []) (so_far.printed ++ p ∷ []) next
  through =
      steps_more (LineStep (failed_between first last)) start now next so_far.done line so_far.printed p
      (lines_in (failed_between first count) (failed_between first last) (between_in first last first count (omega arith) never_falls (omega arith) reads_never_fall) start so_far.done so_far.printed now so_far.steps)
      (line_in (failed_between count last) (failed_between first last) (between_in first last count last so_far.not_before (omega arith) so_far.reads_not_before (omega arith)) now line p next step)

  whole_is : all ≡ (so_far.done ++ line ∷ []) ++ rest
  whole_is = so_far.lines ∙ sym (append_assoc so_far.done (line ∷ []) rest)

  first_are : (n : ℕ) → n ≡ length so_far.printed + 1 → take n all ≡ so_far.done ++ line ∷ []
  first_are n n_is =
      let long : length (so_far.done ++ line ∷ []) ≡ n =
      omega (arith, length-append so_far.done (line ∷ []), steps-length (LineStep (failed_between first count)) start now so_far.done so_far.printed so_far.steps) in
      ap (take n) whole_is ∙ take_at (so_far.done ++ line ∷ []) rest n long

  -- a line whose reply is written
  pub one_more : (after : Device) (more told : ℕ) → Takes mid after p.text → more ≡ refused + cond p.is_refusal 1 0 → told ≡ count_in_64_bits (written + length p.text) → (IsTrue stop → p.is_refusal ≡ false)
      → SoFar first last start all rest stop (number + 1) more told before after next
  one_more after more told taken more_is told_is not_refused = record {
    done = so_far.done ++ line ∷ [];
    printed = so_far.printed ++ p ∷ [];
    lines = whole_is;
    steps = through;
    not_before = omega (arith, so_far.not_before, never_falls);
    reads_not_before = omega (arith, so_far.reads_not_before, reads_never_fall);
    number_is = omega (arith, so_far.number_is, length-append so_far.printed (p ∷ []));
    refused_is = more_is ∙ ap (λ n. n + cond p.is_refusal 1 0) so_far.refused_is ∙ sym (refusals_more so_far.printed p);
    written_is = omega (arith, told_is, so_far.written_is, ap length (text_more so_far.printed p), length-append (printed_text so_far.printed) p.text);
    goes_on = λ s. let none : refused ≡ 0 = so_far.goes_on s in more_is ∙ ap₂ (λ n b. n + cond b 1 0) none (not_refused s);
    taken = rw (text_more so_far.printed p) (takes_more before mid after (printed_text so_far.printed) p.text so_far.taken taken);
  }

  -- a line whose reply is not written whole
  pub breaks_off : (script : List ℕ) (after : Device) (k told : ℕ) → all ≡ script_lines script → TakesPart mid after p.text k → told ≡ count_in_64_bits (written + k)
      → (text : List ℕ) × (taken : ℕ) × (told ≡ count_in_64_bits taken) × BreaksOff (failed_between first last) start script stop taken text next × TakesPart before after text taken
  breaks_off script after k told all_is part told_is =
      let text : List ℕ = printed_text (so_far.printed ++ p ∷ []) in
      let taken : ℕ = length (printed_text so_far.printed) + k in
      let text_is : text ≡ printed_text so_far.printed ++ p.text = text_more so_far.printed p in
      let long : length text ≡ length (printed_text so_far.printed) + length p.text =
      ap length text_is ∙ length-append (printed_text so_far.printed) p.text in (
        text,
        taken,
        omega (arith, told_is, so_far.written_is),
        record {
          before = so_far.printed;
          last = p;
          steps = rw (← all_is, first_are (length so_far.printed + 1) refl) through;
          text_is = refl;
          goes_on = λ s. sym so_far.refused_is ∙ so_far.goes_on s;
          taken_before = omega arith;
          not_taken = omega (arith, long, part.short);
        },
        rw text_is (takes_part_more before mid after (printed_text so_far.printed) p.text k so_far.taken part),
      )

  -- a refused line at which the run stops
  pub stops : (script : List ℕ) (after : Device) → all ≡ script_lines script → Takes mid after p.text → IsTrue p.is_refusal → IsTrue stop
      → (text : List ℕ) × StopsAt (failed_between first last) start script (number + 1) text next × Takes before after text × IsTrue stop
  stops script after all_is taken refused_is stop_is = (
    printed_text (so_far.printed ++ p ∷ []),
    record {
      before = so_far.printed;
      last = p;
      steps = rw (← all_is, first_are (number + 1) (omega (arith, so_far.number_is))) through;
      line_is = omega (arith, so_far.number_is);
      text_is = refl;
      none_before = sym so_far.refused_is ∙ so_far.goes_on stop_is;
      refused_last = refused_is;
    },
    rw (text_more so_far.printed p) (takes_more before mid after (printed_text so_far.printed) p.text so_far.taken taken),
    stop_is,
  )
