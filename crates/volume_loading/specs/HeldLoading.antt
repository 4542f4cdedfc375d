-- How a file is held while it is loaded: its bytes, where its traces lie in them, and a store of the first traces.
use Rattle.std.specs.Prelude.{◌≡◌, ◌+◌, ◌<◌, ◌≤◌, ◌^◌, length, take, All}
use Rattle.base_file.specs.HeldBytes.{IsInMemory}
use Rattle.frame_cut.specs.Cuts.{IsTrace}
use Rattle.frame_cut.specs.Layout.{bytes_at, pieces, volume_at, AreTracesOf}
use Rattle.frame_cut.specs.Volume.{bytes_of}
use Rattle.trace_store.specs.Stores.{payloads_of, traces_of}
use Rattle.volume_loading.specs.LoadedVolume.{LoadedVolume}
use Rattle.edit_overlay.specs.Standings.{loaded_in, reads_in}
use Rattle.volume_loading.specs.declared.loading.Loading.TheInside.{Inside}

-- what is shown: the parts of the file
abbrev pub loaded_of : {T : Type 0} → Inside T → LoadedVolume T
loaded_of l = record {
  volume = volume_at l.store.loaded.bytes l.store.head l.extents.items l.tail;
  payloads = payloads_of l.store;
  looks = l.looks;
  loaded = loaded_in l.store.loaded;
  reads = reads_in l.store.loaded;
}

-- the file is in memory; the parts joined are the file, its traces lie one behind the other and are whole, and the store has
-- the first of them
pub record IsLoading {T : Type 0} (l : Inside T) : Type 0 where
  pub in_memory : IsInMemory l.store.loaded.standing
  pub front : l.store.loaded.front ≡ length l.store.loaded.bytes
  pub back : l.store.loaded.back ≡ length l.store.loaded.bytes
  pub joined : bytes_of (volume_at l.store.loaded.bytes l.store.head l.extents.items l.tail) ≡ l.store.loaded.bytes
  pub laid : AreTracesOf l.store.loaded.bytes l.store.head l.extents.items l.tail
  pub inside : All (λ e. e.start + e.length ≤ length l.store.loaded.bytes) l.extents.items
  pub whole : All (λ e. IsTrace l.store.head (bytes_at l.store.loaded.bytes e)) l.extents.items
  pub few : length l.extents.items < 2 ^ 32
  pub so_far : traces_of l.store ≡ pieces l.store.loaded.bytes (take (length (traces_of l.store)) l.extents.items)
