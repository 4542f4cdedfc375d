-- How the volume and the script are read before a run.
use Rattle.std.specs.Prelude.{ℕ, Bool, ◌≡◌, ◌≢◌, ◌⊎◌, ◌<◌, ◌≤◌, List, length, IfSome}
use Rattle.std.specs.Io.KnownBytes.{Consumes, IsAtEnd}
use Rattle.device_io.specs.Failures.{one_more}
use Rattle.device_io.specs.WholeReads.{GivesSome}
use Rattle.field_map.specs.Binding.{geometry_at_load}
use Rattle.frame_cut.specs.declared.limits.Limits.{Limits}
use Rattle.frame_cut.specs.declared.reading.Reading.{Reading}
use Rattle.frame_cut.specs.declared.load_fault.LoadFault.{LoadFault}
use Rattle.frame_cut.specs.Cuts.{IsCut}
use Rattle.frame_cut.specs.Volume.{bytes_of}
use Rattle.volume_loading.specs.Loading.{IsLoadFault, FailuresAfterRefusal, TakesWithin}
use Rattle.bench_rules.specs.State.{State}
use Rattle.refusal_texts.specs.declared.script_fault.ScriptFault.{ScriptFault}
use Rattle.refusal_texts.specs.declared.script_fault.ScriptFault.TheVariants.{ReadFailed, TooLarge, OutOfMemory}
use Rattle.line_texts.specs.Devices.{Device}

-- the reader gives a whole file, which is cut under the reading and limits, with the six geometry names bound; its bytes are then in memory,
-- or stay on disk
pub record Loads (old new : Device) (reading : Reading) (limits : Limits) (on_disk : Bool) (state : State) : Type 0 where
  pub bytes : Consumes old.bytes new.bytes (bytes_of state.volume)
  pub end : IsAtEnd new.bytes
  pub cut : IsCut (bytes_of state.volume) reading limits state.volume
  pub fields : state.fields ≡ geometry_at_load
  pub reading_is : state.reading ≡ reading
  pub limits_are : state.limits ≡ limits
  pub place_is : state.on_disk ≡ on_disk
  pub failures : new.failures ≡ old.failures

-- the file is refused, for want of a read, of memory or for what it is; at most one byte above the limit is taken from the
-- reader, and the failures rise by one exactly at L01
pub record IsLoadRefused (old new : Device) (reading : Reading) (limits : Limits) (fault : LoadFault) : Type 0 where
  pub reason : IsLoadFault old.bytes reading limits fault
  pub taken : TakesWithin old.bytes new.bytes limits
  pub failures : FailuresAfterRefusal fault old.failures new.failures

-- the reader gives a whole script
pub record ReadsScript (old new : Device) (script : List ℕ) : Type 0 where
  pub bytes : Consumes old.bytes new.bytes script
  pub end : IsAtEnd new.bytes
  pub within : length script ≤ 16777216
  pub failures : new.failures ≡ old.failures

-- the script is refused: P01 where a read failed, P02 where there are more than 16777216 bytes, P03 for want of memory; at most one byte
-- above that limit is taken from the reader
pub record IsScriptRefused (old new : Device) (fault : ScriptFault) : Type 0 where
  pub reason : (fault ≡ ReadFailed) ⊎ (fault ≡ OutOfMemory) ⊎ ((fault ≡ TooLarge) × IfSome old.bytes (λ script. 16777216 < length script))
  pub taken : GivesSome old.bytes new.bytes 0 16777217
  pub failures : ((fault ≡ ReadFailed) × (new.failures ≡ one_more old.failures)) ⊎ ((fault ≢ ReadFailed) × (new.failures ≡ old.failures))
