-- The ends of a run, from those of its steps.
use Rattle.std.proofs.Common.{◌≡◌, ◌∙◌, refl, ℕ, ◌+◌, Bool, true, false, List, [], ◌∷◌, ◌++◌, length, take, append-nil, sym, subst, inl, inr}
use Rattle.std.specs.Prelude.{IsTrue}
use Rattle.frame_cut.specs.declared.limits.Limits.{Limits}
use Rattle.frame_cut.specs.declared.load_fault.LoadFault.{LoadFault}
use Rattle.frame_cut.specs.declared.reading.Reading.{Reading}
use Rattle.bench_rules.specs.State.{State}
use Rattle.field_map.specs.Binding.{geometry_at_load}
use Rattle.frame_cut.specs.Cuts.{IsCut}
use Rattle.frame_cut.specs.Volume.{bytes_of}
use Rattle.script_run.specs.OnDisk.{unread, read_whole}
use Rattle.bench_laws.specs.EditLaws.{StepsStayCut}
use Rattle.script_run.specs.declared.options.Options.{Options}
use Rattle.script_text.specs.declared.run_end.RunEnd.{RunEnd}
use Rattle.script_text.specs.declared.run_end.RunEnd.TheVariants as ends
use Rattle.refusal_texts.specs.declared.script_fault.ScriptFault.{ScriptFault}
use Rattle.refusal_texts.specs.RefusalTexts.{load_refusal_line, script_refusal_line}
use Rattle.line_texts.specs.Devices.{Device, Takes, TakesPart, count_in_64_bits}
use Rattle.script_run.specs.Loading.{Loads, ReadsScript}
use Rattle.script_text.specs.Replies.{Printed}
use Rattle.script_words.specs.Words.{script_lines}
use Rattle.script_run.specs.FromScratch.{ScratchSteps, saved}
use Rattle.script_run.specs.Causes.{any_cause, causes_in}
use Rattle.script_run.specs.Runs.{LineStep, LineSteps, RunsWhole, StopsAt, BreaksOff}
use Rattle.script_run.proofs.CauseLemmas.{whatever_cause}
use Rattle.script_run.proofs.ScratchLemmas.{scratch, stays_cut, line_keeps}
use Rattle.script_run.specs.Ends.{Devices, RefusesLoad, RefusesScript, RunsThrough, Stops, LosesAnswer, IsTold, Runs}

-- a load into memory is one of a volume that stands where it stands
pub loads_in_memory : (old new : Device) (reading : Reading) (limits : Limits) (start : State) → start.on_disk ≡ false → Loads old new reading limits false start
    → Loads old new reading limits start.on_disk start
loads_in_memory old new reading limits start memory loads = subst (λ (d : Bool). Loads old new reading limits d start) (sym memory) loads

-- what is said of a run over a volume in memory
pub runs_in_memory : (options : Options) (old new : Devices) (result : RunEnd) (start : State) → start.on_disk ≡ false → Runs start.on_disk options old new result → Runs false options old new result
runs_in_memory options old new result start memory runs = subst (λ (d : Bool). Runs d options old new result) memory runs

-- a file whose bytes are known is loaded by a reader that has them all to give
pub loads_whole : (start : State) (bytes : List ℕ) (reading : Reading) (limits : Limits) → bytes ≡ bytes_of start.volume → IsCut (bytes_of start.volume) reading limits start.volume
    → start.fields ≡ geometry_at_load → start.reading ≡ reading → start.limits ≡ limits → Loads (unread bytes) read_whole reading limits start.on_disk start
loads_whole start bytes reading limits is cut fields how within = record {
  bytes = is ∙ sym (append-nil (bytes_of start.volume));
  end = refl;
  cut = cut;
  fields = fields;
  reading_is = how;
  limits_are = within;
  place_is = refl;
  failures = refl;
}

-- what is said of a run over a volume on disk
pub runs_on_disk : (options : Options) (old new : Devices) (result : RunEnd) (start : State) → start.on_disk ≡ true → Runs start.on_disk options old new result → Runs true options old new result
runs_on_disk options old new result start disk runs = subst (λ (d : Bool). Runs d options old new result) disk runs

pub load_end : (on_disk : Bool) (options : Options) (old new : Devices) (fault : LoadFault) (result : RunEnd) → RefusesLoad options old new fault
    → IsTold old.answers new.answers (load_refusal_line fault) (ends.Load fault) result → Runs on_disk options old new result
load_end on_disk options old new fault result refuses (inl told) = subst (λ r. Runs on_disk options old new r) (sym told.0) (refuses, told.1)
load_end on_disk options old new fault result refuses (inr (written, is, part)) = subst (λ r. Runs on_disk options old new r) (sym is) (inl (fault, refuses, part))

pub script_end : (on_disk : Bool) (options : Options) (old new : Devices) (fault : ScriptFault) (result : RunEnd) → RefusesScript on_disk options old new fault
    → IsTold old.answers new.answers (script_refusal_line fault) (ends.Script fault) result → Runs on_disk options old new result
script_end on_disk options old new fault result refuses (inl told) = subst (λ r. Runs on_disk options old new r) (sym told.0) (refuses, told.1)
script_end on_disk options old new fault result refuses (inr (written, is, part)) = subst (λ r. Runs on_disk options old new r) (sym is) (inr (inl (fault, refuses, part)))

module _ (stay : StepsStayCut) (on_disk : Bool) (options : Options) (old new : Devices) (start end : State) (script : List ℕ)
    (loaded : Loads old.reader new.reader options.reading options.limits on_disk start) (read : ReadsScript old.script new.script script) where
  -- each line is answered as by what reading the file from scratch gives
  pub as_from_scratch : (lines : List (List ℕ)) (printed : List Printed) → LineSteps (causes_in on_disk old.failures new.failures) start lines printed end
      → ScratchSteps (LineStep any_cause) options.reading options.limits on_disk (saved start) lines printed (saved end)
  as_from_scratch lines printed steps = scratch (LineStep any_cause) (line_keeps stay) options.reading options.limits on_disk start end lines printed loaded.cut loaded.reading_is loaded.limits_are loaded.place_is (whatever_cause (causes_in on_disk old.failures new.failures) start lines printed end steps)

  unfoldable pub runs_through : (refused : ℕ) → (text : List ℕ) × RunsWhole (causes_in on_disk old.failures new.failures) start script options.stop text refused end × Takes old.answers new.answers text
      → RunsThrough on_disk options old new refused end
  runs_through refused (text, lines, printed) =
      record {
        start = start;
        script = script;
        text = text;
        begins = record { loaded = loaded; read = read };
        lines = lines;
        from_scratch = as_from_scratch (script_lines script) lines.printed lines.steps;
        cut = stays_cut (LineStep any_cause) (line_keeps stay) options.reading options.limits on_disk start end (script_lines script) lines.printed loaded.cut loaded.reading_is loaded.limits_are (whatever_cause (causes_in on_disk old.failures new.failures) start (script_lines script) lines.printed end lines.steps);
        printed = printed;
      }

  pub stops : (line : ℕ) → new.out ≡ old.out
      → (text : List ℕ) × StopsAt (causes_in on_disk old.failures new.failures) start script line text end × Takes old.answers new.answers text × IsTrue options.stop → Stops on_disk options old new line
  stops line unsaved (text, lines, printed, asked) = record {
    start = start;
    end = end;
    script = script;
    text = text;
    begins = record { loaded = loaded; read = read };
    asked = asked;
    lines = lines;
    from_scratch = as_from_scratch (take line (script_lines script)) (lines.before ++ lines.last ∷ []) lines.steps;
    printed = printed;
    unsaved = unsaved;
  }

  pub loses_answer : (written : ℕ) → new.out ≡ old.out
      → (text : List ℕ) × (taken : ℕ) × (written ≡ count_in_64_bits taken) × BreaksOff (causes_in on_disk old.failures new.failures) start script options.stop taken text end × TakesPart old.answers new.answers text taken
      → (taken : ℕ) × (written ≡ count_in_64_bits taken) × LosesAnswer on_disk options old new taken
  loses_answer written unsaved (text, taken, told, lines, printed) = (
    taken,
    told,
    record {
      start = start;
      end = end;
      script = script;
      text = text;
      begins = record { loaded = loaded; read = read };
      lines = lines;
      from_scratch = as_from_scratch (take (length lines.before + 1) (script_lines script)) (lines.before ++ lines.last ∷ []) lines.steps;
      printed = printed;
      unsaved = unsaved;
    },
  )
