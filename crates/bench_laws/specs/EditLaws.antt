-- What holds of edits whatever they are.
use Rattle.std.specs.Prelude.{◌≡◌, ◌≢◌, ◌<◌, ℕ, ℤ, Bool, List, Option, None, Result, Ok}
use Rattle.frame_cut.specs.Traces.{count_of, trace_at}
use Rattle.frame_cut.specs.Volume.{Volume, bytes_of}
use Rattle.frame_cut.specs.Cuts.{IsCut}
use Rattle.bench_rules.specs.declared.answer.Answer.TheVariants as answers
use Rattle.bench_rules.specs.declared.edit.Edit.{Edit}
use Rattle.bench_rules.specs.declared.edit.Edit.TheVariants.{Set}
use Rattle.bench_rules.specs.declared.field.Field.{Field}
use Rattle.bench_rules.specs.declared.query.Query.{Query}
use Rattle.bench_rules.specs.declared.query.Query.TheVariants as queries
use Rattle.bench_rules.specs.declared.refusal.Refusal.{Refusal}
use Rattle.bench_rules.specs.After.{bytes_after}
use Rattle.bench_rules.specs.Answer.{Reply, answer, IsReply}
use Rattle.bench_rules.specs.Refused.{first_refusal}
use Rattle.bench_rules.specs.State.{State}
use Rattle.bench_rules.specs.Steps.{Steps}

-- a file that is cut is cut again after an edit that is not refused, and has the same head
abbrev pub StaysCut : Type 0
StaysCut = (s : State) (edit : Edit) → IsCut (bytes_of s.volume) s.reading s.limits s.volume → first_refusal s edit ≡ None
    → (v : Volume) × IsCut (bytes_after s edit) s.reading s.limits v × (v.head ≡ s.volume.head)

-- the new volume is the cut of its own bytes, read as the old one was, and has its head
pub record IsReadAlike (old new : State) : Type 0 where
  pub cut : IsCut (bytes_of new.volume) old.reading old.limits new.volume
  pub head : new.volume.head ≡ old.volume.head
  pub reading : new.reading ≡ old.reading
  pub limits : new.limits ≡ old.limits
  pub on_disk : new.on_disk ≡ old.on_disk

-- after any list of edits, each done or refused, reading the new bytes from scratch gives the parts that are held
abbrev pub StepsStayCut : Type 0
StepsStayCut = (old new : State) (edits : List Edit) (replies : List (Result (Option ℕ) Refusal))
    → IsCut (bytes_of old.volume) old.reading old.limits old.volume → Steps old edits replies new → IsReadAlike old new

-- what reading the new bytes from scratch gives: these parts, as the old file was read and under the field map in force, with the bytes
-- in memory or on disk
abbrev pub from_scratch : (old new : State) → Volume → Bool → State
from_scratch old new v on_disk = record { volume = v; fields = new.fields; reading = old.reading; limits = old.limits; on_disk = on_disk }

-- after any list of edits, each done or refused, any query is answered as it is of what reading the new bytes from scratch gives, in
-- memory and on disk
abbrev pub AnswersFromScratch : Type 0
AnswersFromScratch = (old new : State) (edits : List Edit) (replies : List (Result (Option ℕ) Refusal)) (v : Volume) (on_disk : Bool) (query : Query)
    → IsCut (bytes_of old.volume) old.reading old.limits old.volume → Steps old edits replies new → IsCut (bytes_of new.volume) old.reading old.limits v
    → answer new query ≡ answer (from_scratch old new v on_disk) query

-- and whatever a query is told then, it may be told of what reading the new bytes from scratch gives, held as the old ones were: the
-- answer, or want of memory, or on disk a read that failed
abbrev pub RepliesFromScratch : Type 0
RepliesFromScratch = (old new : State) (edits : List Edit) (replies : List (Result (Option ℕ) Refusal)) (v : Volume) (query : Query) (reply : Reply)
    → IsCut (bytes_of old.volume) old.reading old.limits old.volume → Steps old edits replies new → IsCut (bytes_of new.volume) old.reading old.limits v
    → IsReply new query reply → IsReply (from_scratch old new v old.on_disk) query reply

-- after a set that is not refused, the field of that trace has the value, in the volume that is read from the new bytes
abbrev pub ReadsWhatWasSet : Type 0
ReadsWhatWasSet = (s : State) (p : ℕ) (field : Field) (x : ℤ) (v : Volume)
    → IsCut (bytes_of s.volume) s.reading s.limits s.volume → first_refusal s (Set p field x) ≡ None → IsCut (bytes_after s (Set p field x)) s.reading s.limits v
    → answer (record s { volume = v }) (queries.Get p field) ≡ Ok (answers.Value x)

-- all but trace p is as it was
pub record LeavesOthers (old new : Volume) (p : ℕ) : Type 0 where
  pub head : new.head ≡ old.head
  pub text : new.text ≡ old.text
  pub bin : new.bin ≡ old.bin
  pub blocks : new.blocks ≡ old.blocks
  pub tail : new.tail ≡ old.tail
  pub trailer : new.trailer ≡ old.trailer
  pub count : count_of new ≡ count_of old
  pub traces : (q : ℕ) → 0 < q → q ≢ p → trace_at new q ≡ trace_at old q

-- after a set that is not refused, all but its trace is as it was, in the volume that is read from the new bytes
abbrev pub SetLeavesTheRest : Type 0
SetLeavesTheRest = (s : State) (p : ℕ) (field : Field) (x : ℤ) (v : Volume)
    → IsCut (bytes_of s.volume) s.reading s.limits s.volume → first_refusal s (Set p field x) ≡ None → IsCut (bytes_after s (Set p field x)) s.reading s.limits v
    → LeavesOthers s.volume v p
