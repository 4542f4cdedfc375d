-- What is known of the reads of loaded bytes.
use Rattle.std.specs.Prelude.{ℕ, ◌<◌, ◌≤◌, Bool, IsTrue}
use Rattle.base_file.specs.declared.read_fault.ReadFault.{ReadFault}
use Rattle.base_file.specs.declared.read_fault.ReadFault.TheVariants.{ReadFailed, Changed, TooLarge}

-- whether each read since the load gave the bytes that the load read, and how many reads failed: of bytes in memory none does
pub record Reads : Type 0 where
  pub agreed : Bool
  pub failures : ℕ

-- each of them gave the bytes that the load read, but for those that failed
abbrev pub HaveAgreed : Reads → Type 0
HaveAgreed reads = IsTrue reads.agreed

-- those until now, of which the old ones are the first: where these agree the old ones did, and no fewer failed
pub record Follow (old new : Reads) : Type 0 where
  pub agreed : HaveAgreed new → HaveAgreed old
  pub failures : old.failures ≤ new.failures

-- a look was refused for this reason: a read failed meanwhile; or the bytes have changed, so that the reads do not agree. It is
-- never refused for want of room
abbrev pub IsFaultOfLook : (old new : Reads) → ReadFault → Type 0
IsFaultOfLook old new ReadFailed = old.failures < new.failures
IsFaultOfLook old new TooLarge = ⊥
IsFaultOfLook old new Changed = ¬ HaveAgreed new
