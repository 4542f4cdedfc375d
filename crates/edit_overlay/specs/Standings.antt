-- The bytes under a volume: which they are, where, and whether they stand.
use Rattle.std.specs.Prelude.{Bool, true, false}
use Rattle.base_file.specs.HeldBytes.{HeldBytes, Standing, InMemory, OnPass, OnDisk}
use Rattle.edit_overlay.specs.Loaded.{Loaded}
use Rattle.edit_overlay.specs.Reads.{Reads}

-- the bytes are on disk, so that a read of them may fail
abbrev pub is_on_disk : Standing → Bool
is_on_disk InMemory = false
is_on_disk OnPass = true
is_on_disk (OnDisk agreed) = true

-- what the load read, and whether it stays on disk
abbrev pub loaded_in : HeldBytes → Loaded
loaded_in h = record { bytes = h.bytes; on_disk = is_on_disk h.standing }

-- each read since the load gave the bytes that the load read; in memory it does
abbrev pub is_sure : Standing → Bool
is_sure InMemory = true
is_sure OnPass = true
is_sure (OnDisk agreed) = agreed

-- what is known of the reads
abbrev pub reads_in : HeldBytes → Reads
reads_in h = record { agreed = is_sure h.standing; failures = h.failures }
