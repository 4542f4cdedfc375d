-- A reply to a query, and what stands in its place. Traces are counted from 1.
use Rattle.std.specs.Prelude.{ℕ, ◌&&◌, nat_le, not, Option, Some, None, is_none, Result, Ok, Err, if◌then◌else◌}
use Rattle.sample_codes.specs.Formats.{values}
use Rattle.frame_cut.specs.declared.file_head.Head.{Head}
use Rattle.frame_cut.specs.Traces.{count_of, is_trace}
use Rattle.frame_cut.specs.Volume.{Volume}
use Rattle.bench_rules.specs.declared.answer.Answer.{Answer}
use Rattle.bench_rules.specs.declared.ask_fault.AskFault.{AskFault}
use Rattle.bench_rules.specs.declared.ask_fault.AskFault.TheVariants.{NoTrace, NoValues}

-- an answer, or the reason that there is none
abbrev pub Reply : Type 0
Reply = Result Answer AskFault

-- the answer where the value is there, else the fault
abbrev pub or_fault : {X : Type 0} → Option X → AskFault → (X → Answer) → Reply
or_fault None fault f = Err fault
or_fault (Some x) fault f = Ok (f x)

-- the reply to what needs the values of samples, where samples have any
abbrev pub of_values : Head → Reply → Reply
of_values h reply = if is_none (values h.format) then Err NoValues else reply

-- the answer of traces a to b, where all of them are there
abbrev pub of_traces : Volume → ℕ → ℕ → Reply → Reply
of_traces v a b reply =
    if not (is_trace v a) then Err (NoTrace a (count_of v)) else
    if nat_le a b && nat_le b (count_of v) then reply else Err (NoTrace b (count_of v))
