-- What is printed for a refusal of a file, of a script and of a line.
use Rattle.std.specs.Prelude.{ℕ, List, [], ◌∷◌, ◌++◌, decimal, codes}
use Rattle.std.specs.Fmt.{signed_decimal}
use Rattle.frame_cut.specs.declared.load_fault.LoadFault.{LoadFault}
use Rattle.frame_cut.specs.declared.load_fault.LoadFault.TheVariants as load_faults
use Rattle.field_map.specs.declared.map_fault.MapFault.{MapFault}
use Rattle.field_map.specs.declared.map_fault.MapFault.TheVariants as map_faults
use Rattle.text_block.specs.declared.text_fault.TextFault.{TextFault}
use Rattle.text_block.specs.declared.text_fault.TextFault.TheVariants as text_faults
use Rattle.bench_rules.specs.declared.refusal.Refusal.{Refusal}
use Rattle.bench_rules.specs.declared.refusal.Refusal.TheVariants as refusals
use Rattle.bench_rules.specs.declared.ask_fault.AskFault.{AskFault}
use Rattle.bench_rules.specs.declared.ask_fault.AskFault.TheVariants as ask_faults
use Rattle.refusal_texts.specs.declared.script_fault.ScriptFault.{ScriptFault}
use Rattle.refusal_texts.specs.declared.script_fault.ScriptFault.TheVariants as script_faults
use Rattle.script_words.specs.declared.line_fault.LineFault.{LineFault}
use Rattle.script_words.specs.declared.line_fault.LineFault.TheVariants as line_faults
use Rattle.refusal_texts.specs.declared.session_fault.SessionFault.{SessionFault}
use Rattle.refusal_texts.specs.declared.session_fault.SessionFault.TheVariants as session_faults
use Rattle.line_texts.specs.Lines.{with_line_end, with_blanks}

-- what is printed for a refused file, behind `load refused`
abbrev pub load_fault_text : LoadFault → List ℕ
load_fault_text load_faults.ReadFailed = codes "L01 read failed"
load_fault_text load_faults.TooLarge = codes "L02 too large"
load_fault_text (load_faults.Short length) = codes "L03 short " ++ decimal length
load_fault_text load_faults.PairSwapped = codes "L04 pair swapped"
load_fault_text (load_faults.Revision major minor) = codes "L05 revision " ++ decimal major ++ codes "." ++ decimal minor
load_fault_text (load_faults.FloatFormat code) = codes "L06 float format " ++ decimal code
load_fault_text load_faults.GainFormat = codes "L07 gain format"
load_fault_text (load_faults.UnknownFormat code) = codes "L08 unknown format " ++ decimal code
load_fault_text (load_faults.TextCount number) = codes "L09 text count " ++ signed_decimal number
load_fault_text (load_faults.Extensions number) = codes "L10 extensions " ++ signed_decimal number
load_fault_text (load_faults.Trailer number) = codes "L11 trailer " ++ signed_decimal number
load_fault_text (load_faults.FirstTrace place) = codes "L12 first trace " ++ decimal place
load_fault_text (load_faults.ExtensionCount trace) = codes "L13 extension count trace " ++ decimal trace
load_fault_text (load_faults.Truncated trace) = codes "L14 truncated trace " ++ decimal trace
load_fault_text load_faults.TooManyTraces = codes "L15 too many traces"
load_fault_text load_faults.OutOfMemory = codes "L16 out of memory"
load_fault_text load_faults.OtherOrder = codes "L17 other byte order"

-- what is printed for a refused script, behind `script refused`
abbrev pub script_fault_text : ScriptFault → List ℕ
script_fault_text script_faults.ReadFailed = codes "P01 read failed"
script_fault_text script_faults.TooLarge = codes "P02 too large"
script_fault_text script_faults.OutOfMemory = codes "P03 out of memory"

-- what is printed for a line that is no command, behind `refused`
abbrev pub line_fault_text : LineFault → List ℕ
line_fault_text line_faults.Unknown = codes "S01 unknown word"
line_fault_text line_faults.Words = codes "S02 words"
line_fault_text line_faults.Number = codes "S03 number"
line_fault_text line_faults.NotText = codes "S04 not text"
line_fault_text line_faults.TooLarge = codes "S05 too large"
line_fault_text line_faults.OutOfMemory = codes "E11 out of memory"

-- what is printed for what a session does not do, behind `refused`
abbrev pub session_fault_text : SessionFault → List ℕ
session_fault_text session_faults.CutOff = codes "S06 cut off"
session_fault_text session_faults.NoOut = codes "S07 no out"
session_fault_text (session_faults.SaveFailed written) = with_blanks (codes "S08 save failed after" ∷ decimal written ∷ codes "bytes" ∷ [])

-- p is no trace of so many
abbrev pub no_trace : ℕ → ℕ → List ℕ
no_trace p count = with_blanks (codes "E01 no trace" ∷ decimal p ∷ codes "of" ∷ decimal count ∷ [])

-- k is no sample of so many
abbrev pub no_sample : ℕ → ℕ → List ℕ
no_sample k number = with_blanks (codes "E05 no sample" ∷ decimal k ∷ codes "of" ∷ decimal number ∷ [])

-- why a text is no line
abbrev pub text_fault_text : TextFault → List ℕ
text_fault_text text_faults.TooLong = codes "E07 T01 too long"
text_fault_text (text_faults.NoCode column) = codes "E07 T02 no code for column " ++ decimal column

-- why a name is not bound or not unbound; want of memory is the line's own
abbrev pub map_fault_text : MapFault → List ℕ
map_fault_text map_faults.BadName = codes "E08 M01 bad name"
map_fault_text map_faults.OutsideHeader = codes "E08 M02 outside header"
map_fault_text map_faults.BadKind = codes "E08 M03 bad kind"
map_fault_text map_faults.Full = codes "E08 M04 full"
map_fault_text map_faults.Geometry = codes "E08 M05 geometry"
map_fault_text map_faults.Unknown = codes "E08 M06 unknown"
map_fault_text map_faults.Standard = codes "E08 M07 standard"
map_fault_text map_faults.OutOfMemory = codes "E11 out of memory"

-- what is printed for a refused edit
abbrev pub refusal_text : Refusal → List ℕ
refusal_text (refusals.NoTrace p count) = no_trace p count
refusal_text refusals.NoField = codes "E02 no field"
refusal_text refusals.NoPlace = codes "E03 no place"
refusal_text refusals.DoesNotFit = codes "E04 does not fit"
refusal_text (refusals.NoSample k number) = no_sample k number
refusal_text refusals.Frame = codes "E06 frame"
refusal_text (refusals.Text fault) = text_fault_text fault
refusal_text (refusals.Map fault) = map_fault_text fault
refusal_text refusals.TooLarge = codes "E09 too large"
refusal_text refusals.TooManyTraces = codes "E10 too many traces"
refusal_text refusals.OutOfMemory = codes "E11 out of memory"
refusal_text refusals.NoValues = codes "E12 samples have no value"
refusal_text (refusals.ZeroDivisor p) = with_blanks (codes "E13 zero divisor trace" ∷ decimal p ∷ [])
refusal_text refusals.ReadFailed = codes "E14 read failed"
refusal_text refusals.FileChanged = codes "E15 file changed"

-- what is printed for a refused query
abbrev pub ask_fault_text : AskFault → List ℕ
ask_fault_text (ask_faults.NoTrace p count) = no_trace p count
ask_fault_text ask_faults.NoField = codes "E02 no field"
ask_fault_text ask_faults.NoPlace = codes "E03 no place"
ask_fault_text (ask_faults.NoSample k number) = no_sample k number
ask_fault_text ask_faults.OutOfMemory = codes "E11 out of memory"
ask_fault_text ask_faults.NoValues = codes "E12 samples have no value"
ask_fault_text ask_faults.ReadFailed = codes "E14 read failed"
ask_fault_text ask_faults.FileChanged = codes "E15 file changed"

-- the line printed for an accepted edit
abbrev pub accepted_line : List ℕ
accepted_line = codes "ok\n"

-- the line printed for a refused file
abbrev pub load_refusal_line : LoadFault → List ℕ
load_refusal_line fault = with_line_end (codes "load refused " ++ load_fault_text fault)

-- the line printed for a refused script
abbrev pub script_refusal_line : ScriptFault → List ℕ
script_refusal_line fault = with_line_end (codes "script refused " ++ script_fault_text fault)

-- the line printed for a line that is refused
abbrev pub refused_line : List ℕ → List ℕ
refused_line text = with_line_end (codes "refused " ++ text)
