-- What a file shows while it is loaded: a whole volume, whose traces get their payloads one after another.
use Rattle.std.specs.Prelude.{ℕ, List, [], ◌∷◌, ◌++◌}
use Rattle.frame_cut.specs.Volume.{Volume}
use Rattle.edit_overlay.specs.Loaded.{Loaded}
use Rattle.edit_overlay.specs.Reads.{Reads}
use Rattle.edit_overlay.specs.CountedVolume.{CountedVolume, one_more}

-- a volume, the payloads of its first traces, how often traces were looked at, the bytes that were loaded and whether they are
-- on disk, and what is known of the reads of them
pub record LoadedVolume (T : Type 0) : Type 0 where
  pub volume : Volume
  pub payloads : List T
  pub looks : ℕ
  pub loaded : Loaded
  pub reads : Reads

module _ {T : Type 0} where
  -- the same after one more look
  abbrev pub with_next_look : LoadedVolume T → LoadedVolume T
  with_next_look l = record l { looks = one_more l.looks }

  -- the same with the payload of one trace more
  abbrev pub with_payload : LoadedVolume T → T → LoadedVolume T
  with_payload l t = record l { payloads = l.payloads ++ t ∷ [] }

  -- the overlay that it is once each trace has its payload
  abbrev pub overlay_of : LoadedVolume T → CountedVolume T
  overlay_of l = record { volume = l.volume; prepared = l.volume; looks = l.looks; payloads = l.payloads; payloads_prepared = l.payloads; loaded = l.loaded; reads = l.reads }
