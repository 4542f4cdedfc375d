-- What reads tell of a refusal: of a look, of calls one after another, and of rules, which no read refuses.
use Rattle.std.proofs.Common.{◌≡◌, ◌∙◌, ◌<◌, ◌≤◌, ℕ, Bool, true, false, not, arith, subst, sym, Result, Ok, Err, IfErr}
use Rattle.std.specs.Prelude.{◌&&◌, nat_le, if◌then◌else◌}
use Rattle.base_file.specs.declared.read_fault.ReadFault.{ReadFault}
use Rattle.base_file.specs.declared.read_fault.ReadFault.TheVariants as reads
use Rattle.frame_cut.specs.Traces.{count_of, is_trace}
use Rattle.frame_cut.specs.Volume.{Volume}
use Rattle.edit_overlay.specs.Reads.{Reads, Follow, IsFaultOfLook}
use Rattle.bench_rules.specs.declared.ask_fault.AskFault.{AskFault}
use Rattle.bench_rules.specs.declared.ask_fault.AskFault.TheVariants as asks
use Rattle.bench_rules.specs.declared.refusal.Refusal.{Refusal}
use Rattle.bench_rules.specs.declared.refusal.Refusal.TheVariants as edits
use Rattle.bench_rules.specs.Answer.{of_traces, Reply}
use Rattle.bench_rules.specs.RangeFaults.{refusal_for}
use Rattle.bench_rules.specs.ReadFaults.{ask_fault_of, refusal_of, IsFaultOfReads, IsRefusalOfNoRead, IsFaultOfNoRead, IsRefusalOfReads}

-- ---- a look that was refused

pub ask_tells : (old new : Reads) (read : ReadFault) → IsFaultOfLook old new read → IsFaultOfReads old new (ask_fault_of read)
ask_tells old new reads.ReadFailed told = told
ask_tells old new reads.Changed told = told
ask_tells old new reads.TooLarge told = absurd told

pub edit_tells : (old new : Reads) (read : ReadFault) → IsFaultOfLook old new read → IsRefusalOfReads old new (refusal_of read)
edit_tells old new reads.ReadFailed told = told
edit_tells old new reads.Changed told = told
edit_tells old new reads.TooLarge told = absurd told

-- ---- reads before those that tell

pub look_before : (old mid new : Reads) (read : ReadFault) → Follow old mid → IsFaultOfLook mid new read → IsFaultOfLook old new read
look_before old mid new reads.ReadFailed on told = omega (arith, on.failures, told)
look_before old mid new reads.Changed on told = told
look_before old mid new reads.TooLarge on told = told

pub ask_before : (old mid new : Reads) (fault : AskFault) → Follow old mid → IsFaultOfReads mid new fault → IsFaultOfReads old new fault
ask_before old mid new (asks.NoTrace p n) on told = tt
ask_before old mid new asks.NoField on told = tt
ask_before old mid new asks.NoPlace on told = tt
ask_before old mid new (asks.NoSample k n) on told = tt
ask_before old mid new asks.OutOfMemory on told = tt
ask_before old mid new asks.NoValues on told = tt
ask_before old mid new asks.ReadFailed on told = omega (arith, on.failures, told)
ask_before old mid new asks.FileChanged on told = told

-- ---- a refusal of no read, and reads before those that tell of an edit

pub no_read_tells : (old new : Reads) (refusal : Refusal) → IsRefusalOfNoRead refusal → IsRefusalOfReads old new refusal
no_read_tells old new (edits.NoTrace p n) is = tt
no_read_tells old new edits.NoField is = tt
no_read_tells old new edits.NoPlace is = tt
no_read_tells old new edits.DoesNotFit is = tt
no_read_tells old new (edits.NoSample k n) is = tt
no_read_tells old new edits.Frame is = tt
no_read_tells old new (edits.Text fault) is = tt
no_read_tells old new (edits.Map fault) is = tt
no_read_tells old new edits.TooLarge is = tt
no_read_tells old new edits.TooManyTraces is = tt
no_read_tells old new edits.NoValues is = tt
no_read_tells old new (edits.ZeroDivisor p) is = tt
no_read_tells old new edits.OutOfMemory is = tt
no_read_tells old new edits.ReadFailed is = absurd is
no_read_tells old new edits.FileChanged is = absurd is

pub edit_before : (old mid new : Reads) (refusal : Refusal) → Follow old mid → IsRefusalOfReads mid new refusal → IsRefusalOfReads old new refusal
edit_before old mid new (edits.NoTrace p n) on told = tt
edit_before old mid new edits.NoField on told = tt
edit_before old mid new edits.NoPlace on told = tt
edit_before old mid new edits.DoesNotFit on told = tt
edit_before old mid new (edits.NoSample k n) on told = tt
edit_before old mid new edits.Frame on told = tt
edit_before old mid new (edits.Text fault) on told = tt
edit_before old mid new (edits.Map fault) on told = tt
edit_before old mid new edits.TooLarge on told = tt
edit_before old mid new edits.TooManyTraces on told = tt
edit_before old mid new edits.NoValues on told = tt
edit_before old mid new (edits.ZeroDivisor p) on told = tt
edit_before old mid new edits.OutOfMemory on told = tt
edit_before old mid new edits.ReadFailed on told = omega (arith, on.failures, told)
edit_before old mid new edits.FileChanged on told = told

pub no_read_asked : (old new : Reads) (fault : AskFault) → IsFaultOfNoRead fault → IsFaultOfReads old new fault
no_read_asked old new (asks.NoTrace p n) is = tt
no_read_asked old new asks.NoField is = tt
no_read_asked old new asks.NoPlace is = tt
no_read_asked old new (asks.NoSample k n) is = tt
no_read_asked old new asks.OutOfMemory is = tt
no_read_asked old new asks.NoValues is = tt
no_read_asked old new asks.ReadFailed is = absurd is
no_read_asked old new asks.FileChanged is = absurd is

-- want of memory
pub memory_tells : (old new : Reads) (refusal : Refusal) → refusal ≡ edits.OutOfMemory → IsRefusalOfReads old new refusal
memory_tells old new refusal is = no_read_tells old new refusal (subst IsRefusalOfNoRead (sym is) tt)

-- an edit is told of the reads what a query for the same numbers is
pub sort_tells : (old new : Reads) (fault : AskFault) → IsFaultOfReads old new fault → IsRefusalOfReads old new (refusal_for fault)
sort_tells old new (asks.NoTrace p n) told = tt
sort_tells old new asks.NoField told = tt
sort_tells old new asks.NoPlace told = tt
sort_tells old new asks.NoValues told = tt
sort_tells old new (asks.NoSample k n) told = tt
sort_tells old new asks.OutOfMemory told = tt
sort_tells old new asks.ReadFailed told = told
sort_tells old new asks.FileChanged told = told

-- ---- a range of traces

-- a reply where two checks let it pass
abbrev checked : Bool → Bool → AskFault → AskFault → Reply → Reply
checked first second fault other reply = if first then Err fault else if second then reply else Err other

no_read_failed : (first second : Bool) (a b n : ℕ) → checked first second (asks.NoTrace a n) (asks.NoTrace b n) (Err asks.NoField) ≡ Err asks.ReadFailed → ⊥
no_read_failed true second a b n e = cc
no_read_failed false true a b n e = cc
no_read_failed false false a b n e = cc

no_change : (first second : Bool) (a b n : ℕ) → checked first second (asks.NoTrace a n) (asks.NoTrace b n) (Err asks.NoField) ≡ Err asks.FileChanged → ⊥
no_change true second a b n e = cc
no_change false true a b n e = cc
no_change false false a b n e = cc

pub range_tells : (v : Volume) (a b : ℕ) (fault : AskFault) (old new : Reads) → ((reply : Reply) → of_traces v a b reply ≡ Err fault) → IsFaultOfReads old new fault
range_tells v a b (asks.NoTrace p n) old new told = tt
range_tells v a b asks.NoField old new told = tt
range_tells v a b asks.NoPlace old new told = tt
range_tells v a b (asks.NoSample k n) old new told = tt
range_tells v a b asks.OutOfMemory old new told = tt
range_tells v a b asks.NoValues old new told = tt
range_tells v a b asks.ReadFailed old new told = absurd (no_read_failed (not (is_trace v a)) (nat_le a b && nat_le b (count_of v)) a b (count_of v) (told (Err asks.NoField)))
range_tells v a b asks.FileChanged old new told = absurd (no_change (not (is_trace v a)) (nat_le a b && nat_le b (count_of v)) a b (count_of v) (told (Err asks.NoField)))
