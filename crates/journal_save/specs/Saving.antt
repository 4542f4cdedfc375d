-- What a save in place and a recovery do.
use Rattle.std.specs.Prelude.{◌≡◌, ◌⊎◌, ℕ, Bool, true, false, List, [], ◌∷◌, ◌++◌, length, map, Option, Some, None, Result, MatchResult, ⊤}
use Rattle.journal_save.specs.Disk.{Range, range_of, facts_of, laid_all, IsFree, Journal, State, Disk, Each, StandsFor, IsDurable}
use Rattle.std.specs.List.{sum_by}
use Rattle.journal_codes.specs.Codes.{Span, spans_in, IsJournal, IsRefusedAs, AllFit, AreSmall, journal}
use Rattle.journal_codes.specs.declared.file_facts.FileFacts.{FileFacts}
use Rattle.journal_codes.specs.declared.journal_fault.JournalFault.{JournalFault}
use Rattle.journal_save.specs.declared.errors.PutBack.{PutBack}
use Rattle.journal_save.specs.declared.errors.SaveError.{SaveError}
use Rattle.journal_save.specs.declared.errors.SaveError.TheVariants.{Untouched, Undone, Interrupted, NotSettled}
use Rattle.journal_save.specs.declared.errors.RecoverError.{RecoverError}
use Rattle.journal_save.specs.declared.errors.RecoverError.TheVariants.{Refused, Failed}

-- where pieces lie
abbrev pub ranges : List Span → List Range
ranges ss = map range_of ss

-- the pieces that a journal lists, or none where there is no journal
abbrev pub listed_in : Option Journal → List Span
listed_in None = []
listed_in (Some j) = spans_in j.bytes

-- it is all on the disk
abbrev pub IsSynced : Option Journal → Type 0
IsSynced None = ⊤
IsSynced (Some j) = j.synced ≡ true

-- it is a journal of this FILE
abbrev pub IsTaken : FileFacts → Option Journal → Type 0
IsTaken f None = ⊤
IsTaken f (Some j) = IsJournal f j.bytes

-- it is none, and this is why
abbrev pub IsNotTaken : FileFacts → Option Journal → JournalFault → Type 0
IsNotTaken f None fault = ⊥
IsNotTaken f (Some j) fault = IsRefusedAs f j.bytes fault

-- the file that this moment stands for: FILE, with the journal's bytes put back
abbrev pub old_of : State → List ℕ
old_of s = laid_all (listed_in s.journal) s.file

-- The journal's name leads for sure to bytes that are all on the disk, or to nothing, and only the
-- ranges that they list may hold what is not known.
pub record IsRecoverable (s : State) : Type 0 where
  pub synced : IsSynced s.journal
  pub may_leave : s.may_leave ≡ s.journal ∷ []
  pub within : (i : ℕ) → IsFree i (ranges (listed_in s.journal)) → IsFree i s.loose
  pub writes_within : (i : ℕ) → IsFree i (ranges (listed_in s.journal)) → IsFree i (ranges s.writes)

-- and they are a journal of this FILE
pub record IsGuarded (s : State) : Type 0 where
  pub recoverable : IsRecoverable s
  pub taken : IsTaken (facts_of s) s.journal

-- nothing is under way: FILE is all on the disk, and so is what the journal's name leads to
pub record IsSettled (s : State) : Type 0 where
  pub loose : s.loose ≡ []
  pub writes : s.writes ≡ []
  pub may_leave : s.may_leave ≡ s.journal ∷ []

-- no journal of an earlier save was there
abbrev pub WasFree : Disk → Type 0
WasFree d = d.now.journal ≡ None

-- and there is no journal
pub record IsQuiet (s : State) : Type 0 where
  pub loose : s.loose ≡ []
  pub writes : s.writes ≡ []
  pub journal : s.journal ≡ None
  pub may_leave : s.may_leave ≡ None ∷ []

-- the moments from d on and before e have Q
abbrev pub Since : (State → Type 0) → Disk → Disk → Type 0
Since Q d e = (more : List State) × (e.past ≡ more ++ d.past) × Each Q more

-- A crash at any moment from d to e leaves what stands for a file that has P.
pub record LeavesOnly (P : List ℕ → Type 0) (d e : Disk) : Type 0 where
  pub before : Since (StandsFor P) d e
  pub now : StandsFor P e.now

-- the old file, or the new one
abbrev pub IsEither : List ℕ → List ℕ → List ℕ → Type 0
IsEither old new file = (file ≡ old) ⊎ (file ≡ new)

-- pieces are being written, or were, under a journal that guards their ranges
pub record IsWriting (d e : Disk) : Type 0 where
  pub guarded : IsGuarded e.now
  pub journal : e.now.journal ≡ d.now.journal
  pub old : old_of e.now ≡ old_of d.now
  pub before : Since (StandsFor (λ f. f ≡ old_of d.now)) d e

-- all that FILE takes is on the disk, and the journal's name leads to what it led to
pub record IsSettling (d e : Disk) : Type 0 where
  pub settled : IsSettled e.now
  pub journal : e.now.journal ≡ d.now.journal
  pub file : d.now.loose ≡ [] → e.now.file ≡ laid_all d.now.writes d.now.file

-- FILE is the file with these pieces laid over it, all on the disk
pub record IsOver (ss : List Span) (d e : Disk) : Type 0 where
  pub file : e.now.file ≡ laid_all ss d.now.file
  pub loose : e.now.loose ≡ []

-- FILE is this file, all of it on the disk, and so is what a journal would make of it
pub record IsHarmless (file : List ℕ) (s : State) : Type 0 where
  pub file_is : s.file ≡ file
  pub loose : s.loose ≡ []
  pub writes : s.writes ≡ []
  pub synced : IsSynced s.journal
  pub taken : IsTaken (facts_of s) s.journal
  pub restores : laid_all (listed_in s.journal) file ≡ file
  pub stands : StandsFor (λ f. f ≡ file) s

-- FILE was not written
pub record IsUntouched (d e : Disk) : Type 0 where
  pub harmless : IsHarmless d.now.file e.now
  pub before : Since (StandsFor (λ f. f ≡ d.now.file)) d e

-- nothing was done
abbrev pub IsAsItWas : Disk → Disk → Type 0
IsAsItWas d e = (e.now ≡ d.now) × Since (λ s. s ≡ d.now) d e

-- where nothing is under way, nothing was done
abbrev pub StaysSettled : Disk → Disk → Type 0
StaysSettled d e = IsSettled d.now → IsAsItWas d e

-- nothing was done, or there was no journal of an earlier save, and this is so
abbrev pub AsItWasOr : (Disk → Disk → Type 0) → Disk → Disk → Type 0
AsItWasOr R d e = IsAsItWas d e ⊎ (WasFree d × R d e)

-- a journal that was just made
abbrev pub fresh_journal : Option Journal
fresh_journal = Some (record { bytes = []; synced = false })

-- the journal that is being made has these bytes
pub record IsMaking (bytes : List ℕ) (d e : Disk) : Type 0 where
  pub quiet : IsQuiet e.now
  pub file : e.now.file ≡ d.now.file
  pub identity : e.now.identity ≡ d.now.identity
  pub beside : e.now.beside ≡ Some (record { bytes = bytes; synced = false })
  pub before : Since (StandsFor (λ f. f ≡ d.now.file)) d e

-- these are bytes of FILE, which a journal may list
pub record IsOld (ss : List Span) (d : Disk) : Type 0 where
  pub fit : AllFit (facts_of d.now) ss
  pub restores : laid_all ss d.now.file ≡ d.now.file

-- it is a whole journal of the bytes that FILE has in these ranges
pub record IsListing (rs : List Range) (d e : Disk) : Type 0 where
  pub spans : List Span
  pub making : IsMaking (journal (facts_of d.now) spans) d e
  pub ranges_are : ranges spans ≡ rs
  pub old : IsOld spans d
  pub small : AreSmall (facts_of d.now)

-- the journal guards these ranges of FILE, which it has the bytes of
pub record IsGuarding (rs : List Range) (d e : Disk) : Type 0 where
  pub guarded : IsGuarded e.now
  pub ranges_are : ranges (listed_in e.now.journal) ≡ rs
  pub old : old_of e.now ≡ d.now.file

-- a save that did not come to its end
abbrev pub IsRefused : SaveError → List Span → Disk → Disk → Type 0
IsRefused (Untouched error) ss d e = AsItWasOr IsUntouched d e
IsRefused (Undone error) ss d e = IsDurable d.now.file e.now × Since (StandsFor (λ f. f ≡ d.now.file)) d e
IsRefused (Interrupted error again) ss d e = LeavesOnly (λ f. f ≡ d.now.file) d e
IsRefused (NotSettled error) ss d e = IsOver ss d e

-- so many pieces, and so many bytes in them
pub record IsCount (ss : List Span) (back : PutBack) : Type 0 where
  pub pieces : back.pieces ≡ length ss
  pub bytes : back.bytes ≡ sum_by (λ s. length s.1) ss

-- there was no journal, or what its pieces are is told
abbrev pub IsTold : Option PutBack → Option Journal → Type 0
IsTold None j = j ≡ None
IsTold (Some back) j = IsCount (listed_in j) back

-- the old file is there again, all of it on the disk
abbrev pub IsRecovered : Option PutBack → Disk → Disk → Type 0
IsRecovered back d e = IsDurable (old_of d.now) e.now × IsTold back d.now.journal

-- a recovery that did not come to its end
abbrev pub IsNotRecovered : RecoverError → Disk → Disk → Type 0
IsNotRecovered (Refused fault) d e = (e ≡ d) × IsNotTaken (facts_of d.now) d.now.journal fault
IsNotRecovered (Failed error) d e = ⊤

-- a refusal is no failure of the disk
abbrev pub TellsFailure : RecoverError → Bool → Bool → Type 0
TellsFailure (Refused fault) old new = new ≡ old
TellsFailure (Failed error) old new = new ≡ true

-- an error only where the disk failed, or the edits did
abbrev pub IsCaused : {T E : Type 0} → Result T E → (old new edits : Bool) → Type 0
IsCaused r old new edits = MatchResult r (λ _. new ≡ old) (λ _. (new ≡ true) ⊎ (edits ≡ true))

-- there is a journal of so many bytes
abbrev pub Has : ℕ → Option Journal → Type 0
Has size None = ⊥
Has size (Some j) = size ≡ length j.bytes

-- no journal was refused
abbrev pub IsNoRefusal : RecoverError → Type 0
IsNoRefusal (Refused fault) = ⊥
IsNoRefusal (Failed error) = ⊤

-- FILE is so long, and its journal too
abbrev pub IsThere : ℕ → ℕ → State → Type 0
IsThere file size s = (file ≡ length s.file) × Has size s.journal
