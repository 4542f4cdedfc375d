-- Why a line is refused that no rule refuses: for want of memory, or, of a file on disk, for a read.
use Rattle.std.specs.Prelude.{ℕ, ◌≡◌, ◌<◌, ◌≤◌, ⊤, Bool, IsTrue, Option, Result, Err}
use Rattle.room.specs.Refusals.{WasRefused}
use Rattle.base_file.specs.declared.read_fault.ReadFault.{ReadFault}
use Rattle.base_file.specs.declared.read_fault.ReadFault.TheVariants as read_faults
use Rattle.edit_overlay.specs.Reads.{Reads}
use Rattle.bench_rules.specs.declared.ask_fault.AskFault.TheVariants as asks
use Rattle.bench_rules.specs.declared.refusal.Refusal.{Refusal}
use Rattle.bench_rules.specs.declared.refusal.Refusal.TheVariants as edits
use Rattle.bench_rules.specs.Replies.{Reply}

-- how many growths of lists were refused until now, and how many reads of the loaded bytes failed
pub record Failures : Type 0 where
  pub growths : ℕ
  pub reads : ℕ

-- so many growths, so many reads
abbrev pub failures : (growths reads : ℕ) → Failures
failures growths reads = record { growths = growths; reads = reads }

-- what has to hold where a line is told that memory is wanting (E11), that a trace was not read (E14), or that the file has changed (E15)
pub record Causes : Type 1 where
  pub memory : Type 0
  pub read : Type 0
  pub change : Type 0

-- nothing has to
abbrev pub any_cause : Causes
any_cause = record { memory = ⊤; read = ⊤; change = ⊤ }

-- a growth was refused meanwhile, a read failed meanwhile; and none is told that a file has changed
abbrev pub failed_between : Failures → Failures → Causes
failed_between old new = record { memory = WasRefused old.growths new.growths; read = old.reads < new.reads; change = ⊥ }

-- the same, between these counts of refused growths, and between these reads
abbrev pub meanwhile : (room : ℕ) (reads : Reads) (room_now : ℕ) (reads_now : Reads) → Causes
meanwhile room reads room_now reads_now = failed_between (failures room reads.failures) (failures room_now reads_now.failures)

-- a read failed meanwhile, in what takes no memory
abbrev pub read_meanwhile : (reads reads_now : Reads) → Causes
read_meanwhile reads reads_now = record { memory = ⊥; read = reads.failures < reads_now.failures; change = ⊥ }

-- a growth was refused meanwhile, or, of a file on disk, a read failed meanwhile; and none is told that a file has changed
abbrev pub causes_in : (on_disk : Bool) → Failures → Failures → Causes
causes_in on_disk old new = record { memory = WasRefused old.growths new.growths; read = IsTrue on_disk → old.reads < new.reads; change = ⊥ }

-- want of memory, a trace that was not read, and a file that has changed are told for these causes alone
pub record ForCause (why : Causes) (wanting unread changed : Type 0) : Type 0 where
  pub memory : wanting → why.memory
  pub read : unread → why.read
  pub change : changed → why.change

-- by the reply to an edit
abbrev pub EditComesOf : Causes → Result (Option ℕ) Refusal → Type 0
EditComesOf why reply = ForCause why (reply ≡ Err edits.OutOfMemory) (reply ≡ Err edits.ReadFailed) (reply ≡ Err edits.FileChanged)

-- by the reply to a query
abbrev pub QueryComesOf : Causes → Reply → Type 0
QueryComesOf why reply = ForCause why (reply ≡ Err asks.OutOfMemory) (reply ≡ Err asks.ReadFailed) (reply ≡ Err asks.FileChanged)

-- a save ends at a read for these causes alone, and never for want of room
abbrev pub ReadComesOf : Causes → ReadFault → Type 0
ReadComesOf why read_faults.ReadFailed = why.read
ReadComesOf why read_faults.Changed = why.change
ReadComesOf why read_faults.TooLarge = ⊥

-- ---- counts around others

-- the first counts are no greater than the old ones, and the last no less than the new ones; of reads this is asked of a file on disk alone
pub record Spans (on_disk : Bool) (first last old new : Failures) : Type 0 where
  pub before : first.growths ≤ old.growths
  pub behind : new.growths ≤ last.growths
  pub reads_before : IsTrue on_disk → first.reads ≤ old.reads
  pub reads_behind : IsTrue on_disk → new.reads ≤ last.reads
