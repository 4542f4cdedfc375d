-- The ends of a session, from those of its lines.
use Rattle.std.proofs.Common.{◌≡◌, ◌⊎◌, ℕ, ◌+◌, Bool, true, false, ◌&&◌, not, List, [], ◌∷◌, ◌++◌, length, Option, Some, None, ap, sym, subst, inl, inr, arith, refl, ◌∙◌}
use Rattle.std.specs.Io.KnownBytes.{Appends}
use Rattle.safe_save.specs.Places.{IsEmpty, Holds as StandsWhere}
use Rattle.frame_cut.specs.declared.load_fault.LoadFault.{LoadFault}
use Rattle.bench_rules.specs.State.{State}
use Rattle.bench_laws.specs.EditLaws.{StepsStayCut}
use Rattle.refusal_texts.specs.declared.script_fault.ScriptFault.{ScriptFault}
use Rattle.line_texts.specs.Devices.{Device, Takes, TakesPart, count_in_64_bits}
use Rattle.refusal_texts.specs.RefusalTexts.{load_refusal_line, script_refusal_line}
use Rattle.script_text.specs.Replies.{Printed}
use Rattle.line_texts.proofs.OutLemmas.{takes_more, takes_part_more}
use Rattle.script_run.specs.declared.options.Options.{Options}
use Rattle.script_text.specs.declared.run_end.RunEnd.{RunEnd}
use Rattle.script_text.specs.declared.run_end.RunEnd.TheVariants as ends
use Rattle.script_run.specs.declared.session_lines.SessionLines.TheVariants as line_ends
use Rattle.script_run.specs.Loading.{Loads}
use Rattle.script_run.specs.Causes.{any_cause, causes_in}
use Rattle.script_run.specs.Runs.{printed_text}
use Rattle.script_run.proofs.SessionCauseLemmas.{session_whatever_cause}
use Rattle.script_run.specs.Ends.{IsTold}
use Rattle.script_run.proofs.ScratchLemmas.{scratch, stays_cut, session_keeps, volume_steps}
use Rattle.script_run.proofs.FullAnswerLemmas.{session_full, plain_at_load}
use Rattle.script_run.specs.Places.{Place, Follows}
use Rattle.frame_cut.specs.Volume.{bytes_of}
use Rattle.script_run.specs.Sessions.{Standing, standing, SessionSteps, SessionDevices, RefusesSession, VolumeStep, AnswersLines, SessionThrough, SessionStops, SessionLosesAnswer, Session}
use Rattle.script_run.specs.SessionLineRuns.{Answered, AnswersTo}

-- what is said of a session over a volume in memory
pub session_in_memory : (options : Options) (old new : SessionDevices) (result : RunEnd) (start : State) → start.on_disk ≡ false → Session start.on_disk options old new result → Session false options old new result
session_in_memory options old new result start memory session = subst (λ (d : Bool). Session d options old new result) memory session

-- and over one on disk
pub session_on_disk : (options : Options) (old new : SessionDevices) (result : RunEnd) (start : State) → start.on_disk ≡ true → Session start.on_disk options old new result → Session true options old new result
session_on_disk options old new result start disk session = subst (λ (d : Bool). Session d options old new result) disk session

-- ---- saves

written_is : (begun written : Option (List ℕ)) (bytes : List ℕ) → begun ≡ Some [] → Appends begun written bytes → written ≡ Some bytes
written_is None written bytes e a = cc
written_is (Some xs) None bytes e a = absurd a
written_is (Some xs) (Some ys) bytes e a = let none : xs ≡ [] = cc in ap Some (a ∙ ap (λ (l : List ℕ). l ++ bytes) none)

-- what a place holds behind a writer that had no bytes, and then all of these
pub stands_where : (old begun written new : Option (List ℕ)) (bytes : List ℕ) → IsEmpty old begun → Appends begun written bytes → StandsWhere old written new → StandsWhere old (Some bytes) new
stands_where None begun written new bytes empty all holds = tt
stands_where (Some x) begun written new bytes empty all holds = holds ∙ written_is begun written bytes empty all

-- it is a place for the volume that was loaded
pub follows_loaded : (place : Place) (loaded bytes : List ℕ) → loaded ≡ bytes → Follows place loaded → Follows place bytes
follows_loaded place loaded bytes same f = subst (λ (l : List ℕ). Follows place l) same f

-- a save is asked for at the end, and the last line is whole
pub asked_at_end : (save is_cut_off : Bool) → (save && not is_cut_off) ≡ true → (save ≡ true) × (is_cut_off ≡ false)
asked_at_end true false e = (refl, refl)
asked_at_end true true e = cc
asked_at_end false is_cut_off e = cc

pub load_end : (on_disk : Bool) (options : Options) (old new : SessionDevices) (fault : LoadFault) (result : RunEnd) → RefusesSession options old new fault
    → IsTold old.answers new.answers (load_refusal_line fault) (ends.Load fault) result → Session on_disk options old new result
load_end on_disk options old new fault result refuses (inl told) = subst (λ r. Session on_disk options old new r) (sym told.0) (refuses, told.1)
load_end on_disk options old new fault result refuses (inr (written, is, part)) = subst (λ r. Session on_disk options old new r) (sym is) (inl (fault, refuses, part))

module _ (stay : StepsStayCut) (on_disk : Bool) (options : Options) (old new : SessionDevices) (start : State) (end : Standing)
    (loaded : Loads old.reader new.reader options.reading options.limits on_disk start) (follows : Follows old.out (bytes_of start.volume)) where
  as_lines : (printed : List Printed) (done : Answered (causes_in on_disk old.failures new.failures) (standing start old.out) end old.script printed)
      → SessionSteps any_cause (standing start old.out) done.lines printed end
  as_lines printed done = session_whatever_cause (causes_in on_disk old.failures new.failures) (standing start old.out) done.lines printed end done.steps

  lines_of : (printed : List Printed) (done : Answered (causes_in on_disk old.failures new.failures) (standing start old.out) end old.script printed) → AnswersLines on_disk options old new done.lines printed end
  lines_of printed done = record {
    start = start;
    loaded = loaded;
    follows = follows;
    given = done.given;
    steps = done.steps;
    from_scratch = scratch VolumeStep (session_keeps stay) options.reading options.limits on_disk start end.state done.lines printed loaded.cut loaded.reading_is loaded.limits_are loaded.place_is (volume_steps (standing start old.out) end done.lines printed (as_lines printed done));
    cut = stays_cut VolumeStep (session_keeps stay) options.reading options.limits on_disk start end.state done.lines printed loaded.cut loaded.reading_is loaded.limits_are (volume_steps (standing start old.out) end done.lines printed (as_lines printed done));
    full = session_full (standing start old.out) end done.lines printed (plain_at_load start loaded.fields) (as_lines printed done);
  }

  -- no more lines are read, and the line of the refusal is written behind the answers, or a part of it
  pub loses_script : (middle : Device) (fault : ScriptFault) (written : ℕ) (result : RunEnd) → new.out ≡ end.out → AnswersTo (causes_in on_disk old.failures new.failures) (standing start old.out) end options.stop old.script new.script old.answers middle (line_ends.Script fault written)
      → ((result ≡ ends.Script fault) × Takes middle new.answers (script_refusal_line fault))
      ⊎ ((more : ℕ) × (told : ℕ) × (result ≡ ends.Answers told) × (told ≡ count_in_64_bits (written + more)) × TakesPart middle new.answers (script_refusal_line fault) more)
      → Session on_disk options old new result
  loses_script middle fault written result unsaved (printed, done, reason, goes_on, written_is, taken) (inl (is, told)) =
      subst (λ r. Session on_disk options old new r) (sym is) (
        printed,
        record { lines = done.lines; end = end; answers = lines_of printed done; goes_on = goes_on; reason = reason; out_is = unsaved },
        takes_more old.answers middle new.answers (printed_text printed) (script_refusal_line fault) taken told,
      )
  loses_script middle fault written result unsaved (printed, done, reason, goes_on, written_is, taken) (inr (more, told, is, told_is, part)) =
      subst (λ r. Session on_disk options old new r) (sym is) (inr (inl (
        fault,
        printed,
        length (printed_text printed) + more,
        omega (arith, told_is, written_is),
        record { lines = done.lines; end = end; answers = lines_of printed done; goes_on = goes_on; reason = reason; out_is = unsaved },
        takes_part_more old.answers middle new.answers (printed_text printed) (script_refusal_line fault) more taken part,
      )))

  -- the line of the refusal was written whole
  pub tells_script : (middle : Device) (fault : ScriptFault) (written : ℕ) (told : RunEnd) → new.out ≡ end.out → AnswersTo (causes_in on_disk old.failures new.failures) (standing start old.out) end options.stop old.script new.script old.answers middle (line_ends.Script fault written)
      → IsTold middle new.answers (script_refusal_line fault) (ends.Script fault) told → ((more : ℕ) → told ≡ ends.Answers more → ⊥) → Session on_disk options old new told
  tells_script middle fault written told unsaved lines (inl whole) none = loses_script middle fault written told unsaved lines (inl whole)
  tells_script middle fault written told unsaved lines (inr (more, is, part)) none = absurd (none more is)

  -- .. or a part of it
  pub tells_part : (middle : Device) (fault : ScriptFault) (written more sum : ℕ) (told : RunEnd) → new.out ≡ end.out → AnswersTo (causes_in on_disk old.failures new.failures) (standing start old.out) end options.stop old.script new.script old.answers middle (line_ends.Script fault written)
      → IsTold middle new.answers (script_refusal_line fault) (ends.Script fault) told → told ≡ ends.Answers more → sum ≡ count_in_64_bits (written + more) → Session on_disk options old new (ends.Answers sum)
  tells_part middle fault written more sum told unsaved lines (inl whole) is sum_is = absurd (neither fault more (sym whole.0 ∙ is))
    where
      neither : (fault : ScriptFault) (more : ℕ) → ends.Script fault ≡ ends.Answers more → ⊥
      neither fault more e = cc
  tells_part middle fault written more sum told unsaved lines (inr (some, told_is, part)) is sum_is =
      let same : some ≡ more = one (sym told_is ∙ is) in
      loses_script middle fault written (ends.Answers sum) unsaved lines (inr (more, sum, refl, sum_is, subst (λ (k : ℕ). TakesPart middle new.answers (script_refusal_line fault) k) same part))
    where
      one : {a b : ℕ} → ends.Answers a ≡ ends.Answers b → a ≡ b
      one e = cc

  pub goes_through : (refused : ℕ) (is_cut_off : Bool) → AnswersTo (causes_in on_disk old.failures new.failures) (standing start old.out) end options.stop old.script new.script old.answers new.answers (line_ends.Whole refused is_cut_off) → SessionThrough on_disk options old new refused is_cut_off end
  goes_through refused is_cut_off (printed, done, all, is_cut, same, refused_is, goes_on, taken) = record {
    lines = done.lines;
    printed = printed;
    answers = lines_of printed done;
    all = all;
    is_cut = is_cut;
    failures = same;
    refused_is = refused_is;
    goes_on = goes_on;
    taken = taken;
  }

  pub stops : (line : ℕ) → new.out ≡ end.out → AnswersTo (causes_in on_disk old.failures new.failures) (standing start old.out) end options.stop old.script new.script old.answers new.answers (line_ends.Stopped line) → SessionStops on_disk options old new line
  stops line unsaved (before, last, done, line_is, none_before, refused_last, asked, taken) = record {
    lines = done.lines;
    before = before;
    last = last;
    end = end;
    answers = lines_of (before ++ last ∷ []) done;
    asked = asked;
    line_is = line_is;
    none_before = none_before;
    refused_last = refused_last;
    taken = taken;
    out_is = unsaved;
  }

  pub loses_answer : (written : ℕ) → new.out ≡ end.out → AnswersTo (causes_in on_disk old.failures new.failures) (standing start old.out) end options.stop old.script new.script old.answers new.answers (line_ends.Answers written)
      → (taken : ℕ) × (written ≡ count_in_64_bits taken) × SessionLosesAnswer on_disk options old new taken
  loses_answer written unsaved (before, last, taken, done, told, goes_on, taken_before, part) = (
    taken,
    told,
    record {
      lines = done.lines;
      before = before;
      last = last;
      end = end;
      answers = lines_of (before ++ last ∷ []) done;
      goes_on = goes_on;
      taken_before = taken_before;
      part = part;
      out_is = unsaved;
    },
  )
