-- What is printed for samples of many traces.
use Rattle.std.specs.Prelude.{ℕ, ◌≡◌, ◌⊎◌, ◌<◌, true, false, List, ◌∷◌, ◌++◌, length, map, take, Option, Some, None, Result, Ok, Err}
use Rattle.device_io.specs.declared.write_fault.WriteFault.{WriteFault}
use Rattle.float_codes.specs.declared.float_format.FloatFormat.{FloatFormat}
use Rattle.frame_cut.specs.Traces.{count_of, is_trace}
use Rattle.bench_rules.specs.declared.ask_fault.AskFault.{AskFault}
use Rattle.bench_rules.specs.declared.ask_fault.AskFault.TheVariants.{NoTrace}
use Rattle.bench_rules.specs.declared.sample_range.SampleRange.{SampleRange}
use Rattle.bench_rules.specs.declared.section.Section.{Section}
use Rattle.bench_rules.specs.FloatStatistics.{float_format}
use Rattle.bench_rules.specs.ReadFaults.{IsReadFault}
use Rattle.bench_rules.specs.Sections.{rows_of, samples_asked}
use Rattle.bench_rules.specs.State.{State}
use Rattle.line_texts.specs.Devices.{Device}
use Rattle.line_texts.specs.Printing.{BreaksOut, GoesOut, Outgoing}
use Rattle.refusal_texts.specs.RefusalTexts.{ask_fault_text, refused_line}
use Rattle.script_text.specs.Replies.{Printed}
use Rattle.script_text.specs.SectionTexts.{section_head, AreRowTexts, IsRowText}
use Rattle.script_run.specs.Causes.{Causes, QueryComesOf}

-- the line with their number, and then the lines of all rows, none of which is refused
pub record IsWhole (s : State) (section : Section) (printed : Printed) : Type 0 where
  pub lines : List ℕ
  pub rows : AreRowTexts (float_format s.volume.head.format) (rows_of s.volume section) lines
  pub text : printed.text ≡ section_head (length section.traces) ++ lines
  pub accepted : printed.is_refusal ≡ false

-- on disk: the same lines, up to a row whose trace was not read, for these causes alone, and the refusal in its place
pub record IsCutShort (why : Causes) (s : State) (section : Section) (printed : Printed) : Type 0 where
  pub before : ℕ
  pub some_left : before < length section.traces
  pub lines : List ℕ
  pub rows : AreRowTexts (float_format s.volume.head.format) (take before (rows_of s.volume section)) lines
  pub fault : AskFault
  pub unread : IsReadFault s.on_disk fault
  pub comes_of : QueryComesOf why (Err fault)
  pub text : printed.text ≡ section_head (length section.traces) ++ lines ++ refused_line (ask_fault_text fault)
  pub refused : printed.is_refusal ≡ true

-- what is printed for samples of many traces
abbrev pub IsSectionPrinted : Causes → State → Section → Printed → Type 0
IsSectionPrinted why s section printed = IsWhole s section printed ⊎ IsCutShort why s section printed

-- ---- how the rows go out

-- why the trace at p has no line: it was not read, for these causes alone, or it is not there
abbrev pub IsUntold : Causes → State → (p : ℕ) → AskFault → Type 0
IsUntold why s p fault = (IsReadFault s.on_disk fault × QueryComesOf why (Err fault)) ⊎ ((fault ≡ NoTrace p (count_of s.volume)) × (is_trace s.volume p ≡ false))

-- the text is the line of trace p
abbrev pub IsLineOf : State → Option FloatFormat → SampleRange → (p : ℕ) → List ℕ → Type 0
IsLineOf s floats range p text = IsRowText floats (p, samples_asked s.volume range p) text

-- the line of trace p goes out, or the trace has none and nothing is pushed, or the writer fails in it
abbrev pub IsRowOut : Causes → State → Option FloatFormat → SampleRange → (p : ℕ) → (old new : Device) → (from to : Outgoing) → Result (Option AskFault) WriteFault → Type 0
IsRowOut why s floats range p old new from to (Ok None) = (text : List ℕ) × IsLineOf s floats range p text × GoesOut old new from to text
IsRowOut why s floats range p old new from to (Ok (Some fault)) = IsUntold why s p fault × (new ≡ old) × (to ≡ from)
IsRowOut why s floats range p old new from to (Err fault) = (text : List ℕ) × IsLineOf s floats range p text × BreaksOut old new from text fault.written

-- the text is the lines of these traces
abbrev pub AreLinesOf : State → SampleRange → (ps : List ℕ) → List ℕ → Type 0
AreLinesOf s range ps text = AreRowTexts (float_format s.volume.head.format) (map (λ p. (p, samples_asked s.volume range p)) ps) text

-- the lines of the first traces go out, and the next one has none
pub record StopsOut (why : Causes) (s : State) (section : Section) (old new : Device) (from to : Outgoing) (fault : AskFault) : Type 0 where
  pub before : List ℕ
  pub p : ℕ
  pub behind : List ℕ
  pub all : section.traces ≡ before ++ p ∷ behind
  pub lines : List ℕ
  pub rows : AreLinesOf s section.samples before lines
  pub out : GoesOut old new from to lines
  pub untold : IsUntold why s p fault

-- the lines of all traces go out, or those of the first ones, or the writer fails in them
abbrev pub AreRowsOut : Causes → State → Section → (old new : Device) → (from to : Outgoing) → Result (Option AskFault) WriteFault → Type 0
AreRowsOut why s section old new from to (Ok None) = (lines : List ℕ) × AreLinesOf s section.samples section.traces lines × GoesOut old new from to lines
AreRowsOut why s section old new from to (Ok (Some fault)) = StopsOut why s section old new from to fault
AreRowsOut why s section old new from to (Err fault) = (lines : List ℕ) × AreLinesOf s section.samples section.traces lines × BreaksOut old new from lines fault.written
