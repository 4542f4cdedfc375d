-- What a bench lends.
use Rattle.bench_rules.specs.Live.{LiveSession}
use Rattle.bench_rules.specs.State.{Session}

-- its volume, as contracts of the volume see it
abbrev pub volume_of : LiveSession → Session
volume_of b = record { state = b.state; looks = b.looks; loaded = b.loaded; reads = b.reads }
