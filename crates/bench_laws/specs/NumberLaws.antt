-- What holds of another number of samples of a trace, and of a field of many traces counted up or computed.
use Rattle.std.specs.Prelude.{◌≡◌, ℕ, nat_abs, ◌-◌, ◌*◌, min, ℤ, pos, List, [], ◌++◌, map, take, replicate, Option, Some, None, Result, Ok}
use Rattle.sample_codes.specs.declared.value_format.ValueFormat.{ValueFormat}
use Rattle.sample_codes.specs.Formats.{width, values}
use Rattle.frame_cut.specs.Cuts.{IsCut}
use Rattle.frame_cut.specs.Frames.{sample_count}
use Rattle.frame_cut.specs.Traces.{trace_at}
use Rattle.frame_cut.specs.Volume.{Volume, bytes_of}
use Rattle.trace_view.specs.Values.{sample_bytes, samples_of}
use Rattle.bench_rules.specs.declared.edit.Edit.{Edit}
use Rattle.bench_rules.specs.declared.edit.Edit.TheVariants.{Set, Resize, Renumber, Compute}
use Rattle.bench_rules.specs.declared.field.Field.{Field}
use Rattle.bench_rules.specs.declared.operand.Operand.{Operand}
use Rattle.bench_rules.specs.declared.operand.Operand.TheVariants.{Number}
use Rattle.bench_rules.specs.declared.operator.Operator.{Operator}
use Rattle.bench_rules.specs.declared.refusal.Refusal.{Refusal}
use Rattle.bench_laws.specs.EditLaws.{LeavesOthers}
use Rattle.bench_rules.specs.After.{bytes_after}
use Rattle.bench_rules.specs.Computed.{Formula, formula_of, computed_numbers}
use Rattle.bench_rules.specs.Refused.{first_refusal}
use Rattle.bench_rules.specs.State.{State}
use Rattle.bench_rules.specs.Steps.{IsAfter, Steps}
use Rattle.bench_rules.specs.TraceEdits.{numbers}

-- ---- another number of samples

-- the first m of these samples, and zeros behind them up to m
abbrev pub samples_up_to : ℕ → ℕ → List ℤ → List ℤ
samples_up_to n m xs = take m xs ++ replicate (m - n) (pos 0)

-- the bytes of the first m of n samples of so many bytes each, and zero bytes behind them up to m
abbrev pub bytes_up_to : ℕ → ℕ → ℕ → List ℕ → List ℕ
bytes_up_to width n m bytes = take (width * min n m) bytes ++ replicate (width * (m - n)) 0

-- after an edit that gives trace p m samples it has them, whatever their format is: the bytes of its first ones as they were, and zero bytes behind them
abbrev pub ResizeKeepsBytes : Type 0
ResizeKeepsBytes = (s : State) (p : ℕ) (m : ℤ) (v : Volume)
    → IsCut (bytes_of s.volume) s.reading s.limits s.volume → first_refusal s (Resize p m) ≡ None → IsCut (bytes_after s (Resize p m)) s.reading s.limits v
    → sample_bytes v.head (trace_at v p) ≡ bytes_up_to (width s.volume.head.format) (sample_count s.volume.head (trace_at s.volume p)) (nat_abs m) (sample_bytes s.volume.head (trace_at s.volume p))

-- and where samples have values, the values of its first ones are as they were, and zeros behind them
abbrev pub ResizeKeepsSamples : Type 0
ResizeKeepsSamples = (s : State) (p : ℕ) (m : ℤ) (v : Volume) (f : ValueFormat)
    → values s.volume.head.format ≡ Some f
    → IsCut (bytes_of s.volume) s.reading s.limits s.volume → first_refusal s (Resize p m) ≡ None → IsCut (bytes_after s (Resize p m)) s.reading s.limits v
    → samples_of v.head (trace_at v p) ≡ samples_up_to (sample_count s.volume.head (trace_at s.volume p)) (nat_abs m) (samples_of s.volume.head (trace_at s.volume p))

-- after such an edit all but trace p is as it was
abbrev pub ResizeLeavesTheRest : Type 0
ResizeLeavesTheRest = (s : State) (p : ℕ) (m : ℤ) (v : Volume)
    → IsCut (bytes_of s.volume) s.reading s.limits s.volume → first_refusal s (Resize p m) ≡ None → IsCut (bytes_after s (Resize p m)) s.reading s.limits v
    → LeavesOthers s.volume v p

-- ---- a field of many traces

-- each trace's value as a set of the field
abbrev pub sets_of : Field → List (ℕ × ℤ) → List Edit
sets_of field ns = map (λ n. Set n.0 field n.1) ns

-- one reply for each of these, that it was done
abbrev pub all_done : List (ℕ × ℤ) → List (Result (Option ℕ) Refusal)
all_done ns = map (λ n. Ok None) ns

-- a field counted up is what its sets make, one after another, each of them done
abbrev pub RenumberIsItsSets : Type 0
RenumberIsItsSets = (s : State) (a b : ℕ) (field : Field) (first step : ℤ)
    → IsCut (bytes_of s.volume) s.reading s.limits s.volume → first_refusal s (Renumber a b field first step) ≡ None
    → (new : State) × Steps s (sets_of field (numbers a b first step)) (all_done (numbers a b first step)) new × IsAfter s (Renumber a b field first step) new

-- the numbers that a computation makes of traces a to b, each with its trace
abbrev pub numbers_of : Volume → Option Formula → ℕ → ℕ → List (ℕ × ℤ)
numbers_of v None a b = []
numbers_of v (Some f) a b = computed_numbers v f a b

-- a computed field is what the sets of its numbers make, all of the file as it was, one after another, each of them done
abbrev pub ComputeIsItsSets : Type 0
ComputeIsItsSets = (s : State) (a b : ℕ) (field : Field) (source : Operand) (steps : List (Operator × Operand))
    → IsCut (bytes_of s.volume) s.reading s.limits s.volume → first_refusal s (Compute a b field source steps) ≡ None
    → (new : State) × Steps s (sets_of field (numbers_of s.volume (formula_of s.fields field source steps) a b)) (all_done (numbers_of s.volume (formula_of s.fields field source steps) a b)) new
    × IsAfter s (Compute a b field source steps) new

-- a field computed from a number alone is counted up by 0 from it: the same first refusal, and the same bytes
abbrev pub ComputeOfANumberIsRenumber : Type 0
ComputeOfANumberIsRenumber = (s : State) (a b : ℕ) (field : Field) (x : ℤ)
    → (first_refusal s (Compute a b field (Number x) []) ≡ first_refusal s (Renumber a b field x (pos 0)))
    × (first_refusal s (Compute a b field (Number x) []) ≡ None → bytes_after s (Compute a b field (Number x) []) ≡ bytes_after s (Renumber a b field x (pos 0)))
