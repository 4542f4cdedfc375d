-- A store over a file that is being read: more bytes behind those that were there change no trace.
use Rattle.std.specs.Prelude.{◌≡◌}
use Rattle.base_file.specs.HeldBytes.{HasGrown}
use Rattle.trace_store.specs.Stores.{bases_of, payloads_of, traces_of}
use Rattle.trace_store.specs.declared.store.TraceStore.{TraceStore}

-- the same traces over more bytes
pub record HasMore {T : Type 0} (old new : TraceStore T) : Type 0 where
  pub head : new.head ≡ old.head
  pub loaded : HasGrown old.loaded new.loaded
  pub bases : bases_of new ≡ bases_of old
  pub traces : traces_of new ≡ traces_of old
  pub payloads : payloads_of new ≡ payloads_of old
