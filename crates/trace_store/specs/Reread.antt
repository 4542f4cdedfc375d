-- A store whose loaded bytes were read again.
use Rattle.std.specs.Prelude.{◌≡◌}
use Rattle.base_file.specs.HeldBytes.{IsStill}
use Rattle.trace_store.specs.Stores.{bases_of, payloads_of, traces_of}
use Rattle.trace_store.specs.declared.store.TraceStore.{TraceStore}

-- the same store and the same traces; the loaded bytes stand as they did, or have fallen
pub record IsReread {T : Type 0} (old new : TraceStore T) : Type 0 where
  pub head : new.head ≡ old.head
  pub order : new.order ≡ old.order
  pub slots : new.slots ≡ old.slots
  pub loaded : IsStill old.loaded new.loaded
  pub bases : bases_of new ≡ bases_of old
  pub traces : traces_of new ≡ traces_of old
  pub payloads : payloads_of new ≡ payloads_of old
