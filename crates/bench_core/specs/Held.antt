-- How a bench holds its volume and the slices that it keeps.
use Rattle.std.specs.Prelude.{◌≡◌}
use Rattle.edit_overlay.specs.Reads.{HaveAgreed}
use Rattle.bench_rules.specs.KeptSlices.{kept_numbers}
use Rattle.bench_rules.specs.Live.{LiveSession, AreSlicesOf}
use Rattle.bench_core.specs.declared.bench.Bench.TheInside.{Inside}

-- the state that is held, with the count of looks, the loaded bytes, what is known of the reads of them, and the numbers of the kept slices
abbrev pub session_of : Inside → LiveSession
session_of b = record { state = b.volume.state; looks = b.volume.looks; loaded = b.volume.loaded; reads = b.volume.reads; kept = kept_numbers b.slices.entries }

-- where each read of the loaded bytes agreed, each kept slice is that of the volume's traces; there is room for 8
pub record IsHeld (b : Inside) : Type 0 where
  pub slices : HaveAgreed b.volume.reads → AreSlicesOf b.volume.state b.slices.entries
  pub capacity : b.slices.capacity ≡ 8
