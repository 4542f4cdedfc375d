-- Where samples of many traces begin, and room for values in them.
use Rattle.std.specs.Prelude.{◌≡◌, ℕ, ◌+◌, ◌*◌, ◌<◌, ◌≤◌, List, length, get_or}
use Rattle.sample_codes.specs.Formats.{width}
use Rattle.frame_cut.specs.Traces.{trace_at}
use Rattle.frame_cut.specs.Volume.{Volume}
use Rattle.trace_view.specs.Values.{samples_at}

-- the i-th of the places is where sample k of the i-th of these traces begins, both counted from 0
abbrev pub AreSamplePlaces : Volume → (k : ℕ) → (traces places : List ℕ) → Type 0
AreSamplePlaces v k traces places =
    (i : ℕ) → i < length traces → get_or places i 0 ≡ samples_at v.head (trace_at v (get_or traces i 0)) + width v.head.format * k

-- from the i-th of the places on the i-th of the traces has so many samples
abbrev pub HaveSampleRoom : Volume → (count : ℕ) → (traces places : List ℕ) → Type 0
HaveSampleRoom v count traces places =
    (i : ℕ) → i < length traces → get_or places i 0 + width v.head.format * count ≤ length (trace_at v (get_or traces i 0))
