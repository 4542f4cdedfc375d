-- Replies about a range of traces.
use Rattle.std.proofs.Common.{◌≡◌, ◌+◌, ◌-◌, ◌<◌, ◌≤◌, inl, inr, ℕ, Bool, List, [], Option, None, refl, sym, ap, subst, ◌∙◌, arith}
use Rattle.std.specs.Prelude.{◌⊎◌, Err, IsOk}
use Rattle.std.proofs.lemmas.Bool.{le-leb}
use Rattle.field_map.specs.Pairs.{Pairs}
use Rattle.frame_cut.specs.Traces.{count_of}
use Rattle.frame_cut.specs.Volume.{Volume}
use Rattle.bench_rules.specs.declared.ask_fault.AskFault.{AskFault}
use Rattle.bench_rules.specs.declared.field.Field.{Field}
use Rattle.bench_rules.specs.declared.query.Query.{Query}
use Rattle.bench_rules.specs.declared.query.Query.TheVariants.{Table}
use Rattle.bench_rules.specs.Answer.{answer, of_traces, table_answer, IsReply, Reply, TakesMemory}
use Rattle.bench_rules.specs.Looks.{looks_at, query_looks, range_looks}
use Rattle.bench_rules.specs.ManyTraces.{each_of}
use Rattle.bench_rules.specs.Places.{place_in_trace}
use Rattle.bench_rules.specs.ReadFaults.{IsReadFault}
use Rattle.bench_rules.specs.State.{State}
use Rattle.bench_rules.specs.RangeFaults.{or_fault, IsFaultFor}

-- the fault of a reply is told, or want of memory in place of an answer
pub told_fault : (s : State) (q : Query) (fault : AskFault) (reply : Reply) → answer s q ≡ reply → TakesMemory q → IsFaultFor fault reply → IsReply s q (Err fault)
told_fault s q fault reply e takes (inl is) = inl (sym is ∙ sym e)
told_fault s q fault reply e takes (inr wants) = inr (inl (ap (λ f. Err f) wants.0, (takes, inl (subst (λ r. IsOk r) (sym e) wants.1))))

-- a read that failed is a reply to a query that looks
pub read_reply : (s : State) (q : Query) (fault : AskFault) (on_disk : Bool) → s.on_disk ≡ on_disk → 0 < query_looks s [] q → IsReadFault on_disk fault → IsReply s q (Err fault)
read_reply s q fault on_disk disk some read = inr (inr (some, subst (λ (d : Bool). IsReadFault d fault) (sym disk) read))

-- no fault of the range, so the reply is the answer
pub in_range : (v : Volume) (a b : ℕ) (fault : Option AskFault) (reply : Reply) → of_traces v a b reply ≡ or_fault fault reply → fault ≡ None → of_traces v a b reply ≡ reply
in_range v a b fault reply told none = told ∙ ap (λ o. or_fault o reply) none

-- and its traces are looked at
pub range_looked : (v : Volume) (a b : ℕ) → 1 ≤ a → a ≤ b → b ≤ count_of v → range_looks v a b ≡ b + 1 - a
range_looked v a b low high last = rw (le-leb 1 a low, le-leb a (count_of v) (omega (arith, high, last)), le-leb a b high, le-leb b (count_of v) last) refl

-- ---- a table of a range that is there

pub table_is : (s : State) (v : Volume) (pairs : Pairs) (a b : ℕ) (fields : List Field) (fault : Option AskFault) → s.volume ≡ v → s.fields ≡ pairs
    → ((reply : Reply) → of_traces v a b reply ≡ or_fault fault reply) → fault ≡ None → answer s (Table a b fields) ≡ table_answer v a b (each_of (place_in_trace pairs) fields)
table_is s v pairs a b fields fault same held told none =
    let reply : Reply = table_answer v a b (each_of (place_in_trace pairs) fields) in
    rw (same, held) (in_range v a b fault reply (told reply) none)

-- where it is refused
pub table_refused : {P : Type 0} (s : State) (v : Volume) (pairs : Pairs) (a b : ℕ) (fields : List Field) (fault : AskFault) (on_disk : Bool) (o : Option AskFault) → s.volume ≡ v → s.fields ≡ pairs → s.on_disk ≡ on_disk
    → ((reply : Reply) → of_traces v a b reply ≡ or_fault o reply) → o ≡ None → 1 ≤ a → a ≤ b → b ≤ count_of v → P
    → (IsReadFault on_disk fault × (0 < looks_at (each_of (place_in_trace pairs) fields) (b + 1 - a))) ⊎ (P → IsFaultFor fault (table_answer v a b (each_of (place_in_trace pairs) fields))) → IsReply s (Table a b fields) (Err fault)
table_refused s v pairs a b fields fault on_disk o same held disk told none low high last sure (inl read) =
    let looks : range_looks v a b ≡ b + 1 - a = range_looked v a b low high last in
    read_reply s (Table a b fields) fault on_disk disk (rw (same, held, looks) read.1) read.0
table_refused s v pairs a b fields fault on_disk o same held disk told none low high last sure (inr refused) =
    told_fault s (Table a b fields) fault _ (table_is s v pairs a b fields o same held told none) tt (refused sure)
