-- What an overlay shows: a volume, what it would be with a prepared edit, how often its traces were looked at, the bytes that
-- were loaded, and what their reads gave.
use Rattle.std.specs.Prelude.{ℕ, ◌≡◌, ◌+◌, ◌-◌, ◌≤◌, ◌^◌, List, length, nat_lt, if◌then◌else◌}
use Rattle.frame_cut.specs.Traces.{trace_at}
use Rattle.frame_cut.specs.Volume.{Volume}
use Rattle.trace_store.specs.Each.{put_over}
use Rattle.edit_overlay.specs.Loaded.{Loaded}
use Rattle.edit_overlay.specs.Reads.{Reads, Follow}
use Rattle.trace_view.specs.declared.view.TraceView.{TraceView}
use Rattle.trace_view.specs.Shown.{head_of, bytes_of}

-- the volume with other traces
abbrev pub with_traces : Volume → List (List ℕ) → Volume
with_traces v ts = record v { traces = ts }

-- the volume with these bytes laid over each of the traces from trace a on, one for each of the places: in each from its place on, counted
-- from 0
abbrev pub with_over : Volume → ℕ → (places bytes : List ℕ) → Volume
with_over v a places bytes = record v { traces = put_over v.traces (a - 1) places bytes }

-- a volume and the payload of each of its traces, both as they would be with the edit that is prepared (the same where
-- none is), how often traces were looked at, the bytes that were loaded and whether they are on disk, and what is known of the
-- reads of them since
pub record CountedVolume (T : Type 0) : Type 0 where
  pub volume : Volume
  pub prepared : Volume
  pub looks : ℕ
  pub payloads : List T
  pub payloads_prepared : List T
  pub loaded : Loaded
  pub reads : Reads

-- the count of looks after one more; it stays at `u64::MAX` once there
abbrev pub one_more : ℕ → ℕ
one_more n = if nat_lt n (2 ^ 64 - 1) then n + 1 else n

-- a count of looks is not less than it was, and so many more at most
abbrev pub RisesAtMost : ℕ → ℕ → ℕ → Type 0
RisesAtMost old new n = (old ≤ new) × (new ≤ old + n)

module _ {T : Type 0} where
  -- the same number of looks at another volume with these payloads, for which nothing is prepared
  abbrev pub with_table : CountedVolume T → Volume → List T → CountedVolume T
  with_table o v ps = record o { volume = v; prepared = v; payloads = ps; payloads_prepared = ps }

  -- the same with the same payloads
  abbrev pub with_volume : CountedVolume T → Volume → CountedVolume T
  with_volume o v = with_table o v o.payloads

  -- the same volume, with an edit prepared that would make it this one with these payloads
  abbrev pub with_table_prepared : CountedVolume T → Volume → List T → CountedVolume T
  with_table_prepared o v ps = record o { prepared = v; payloads_prepared = ps }

  -- the same where the payloads stay
  abbrev pub with_prepared : CountedVolume T → Volume → CountedVolume T
  with_prepared o v = with_table_prepared o v o.payloads

  -- the same after these reads
  abbrev pub with_reads : CountedVolume T → Reads → CountedVolume T
  with_reads o reads = record o { reads = reads }

  -- the same after one more look, and these reads
  abbrev pub after_look : CountedVolume T → Reads → CountedVolume T
  after_look o reads = record o { looks = one_more o.looks; reads = reads }

-- the same volume and payloads after so many looks more at most
pub record IsSeen {T : Type 0} (old new : CountedVolume T) (n : ℕ) : Type 0 where
  pub volume : new.volume ≡ old.volume
  pub prepared : new.prepared ≡ old.prepared
  pub payloads : new.payloads ≡ old.payloads
  pub payloads_prepared : new.payloads_prepared ≡ old.payloads_prepared
  pub loaded : new.loaded ≡ old.loaded
  pub looks : RisesAtMost old.looks new.looks n
  pub reads : Follow old.reads new.reads

-- the view shows trace p of the volume
abbrev pub IsViewOf : Volume → ℕ → TraceView → Type 0
IsViewOf v p view = (head_of view ≡ v.head) × (bytes_of view ≡ trace_at v p)

-- the view has the head and the length of trace p of the volume
abbrev pub HasShapeOf : Volume → ℕ → TraceView → Type 0
HasShapeOf v p view = (head_of view ≡ v.head) × (length (bytes_of view) ≡ length (trace_at v p))
