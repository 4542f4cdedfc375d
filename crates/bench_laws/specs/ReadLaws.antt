-- What edits and queries are told of reads that failed.
use Rattle.std.specs.Prelude.{◌≡◌, ◌≢◌, ◌⊎◌, ℕ, false, Option, Result, Err, IfErr}
use Rattle.std.specs.Option.{IfSome}
use Rattle.bench_rules.specs.declared.ask_fault.AskFault.{AskFault}
use Rattle.bench_rules.specs.declared.ask_fault.AskFault.TheVariants as asks
use Rattle.bench_rules.specs.declared.edit.Edit.{Edit}
use Rattle.bench_rules.specs.declared.query.Query.{Query}
use Rattle.bench_rules.specs.declared.refusal.Refusal.{Refusal}
use Rattle.bench_rules.specs.declared.refusal.Refusal.TheVariants as refusals
use Rattle.bench_rules.specs.Answer.{Reply, answer, MayWant, IsReply}
use Rattle.bench_rules.specs.Refused.{first_refusal}
use Rattle.bench_rules.specs.State.{State}
use Rattle.bench_rules.specs.Steps.{Step}

-- a refusal that tells of no read
abbrev pub IsNoReadRefusal : Refusal → Type 0
IsNoReadRefusal refusal = (refusal ≢ refusals.ReadFailed) × (refusal ≢ refusals.FileChanged)

-- a fault of a query that tells of none
abbrev pub IsNoReadFault : AskFault → Type 0
IsNoReadFault fault = (fault ≢ asks.ReadFailed) × (fault ≢ asks.FileChanged)

-- what an edit is refused for by the file that it meets tells of no read
abbrev pub FirstRefusalsTellOfNoRead : Type 0
FirstRefusalsTellOfNoRead = (s : State) (edit : Edit) → IfSome (first_refusal s edit) IsNoReadRefusal

-- nor does the answer to a query
abbrev pub AnswersTellOfNoRead : Type 0
AnswersTellOfNoRead = (s : State) (query : Query) → IfErr (answer s query) IsNoReadFault

-- where the loaded bytes are in memory, no edit is told of a read
abbrev pub EditsInMemoryReadAll : Type 0
EditsInMemoryReadAll = (old new : State) (edit : Edit) (reply : Result (Option ℕ) Refusal)
    → old.on_disk ≡ false → Step old edit reply new → IfErr reply IsNoReadRefusal

-- and each query is replied with its answer, or with want of memory
abbrev pub QueriesInMemoryReadAll : Type 0
QueriesInMemoryReadAll = (s : State) (query : Query) (reply : Reply) → s.on_disk ≡ false → IsReply s query reply
    → (reply ≡ answer s query) ⊎ ((reply ≡ Err asks.OutOfMemory) × MayWant s query)

-- an edit that is refused changes nothing, where a read failed too
abbrev pub RefusedEditsChangeNothing : Type 0
RefusedEditsChangeNothing = (old new : State) (edit : Edit) (refusal : Refusal) → Step {T = Option ℕ} old edit (Err refusal) new → new ≡ old
