-- What holds of two fields of chosen traces that are swapped, and swapped again.
use Rattle.std.specs.Prelude.{◌≡◌, ◌⊎◌, ◌+◌, ◌<◌, ◌≤◌, ℕ, All, List, [], ◌∷◌, flat_map, Some, None}
use Rattle.field_map.specs.declared.place.Place.{Place}
use Rattle.field_map.specs.Places.{offset_of}
use Rattle.frame_cut.specs.Cuts.{IsCut}
use Rattle.frame_cut.specs.Traces.{trace_at}
use Rattle.frame_cut.specs.Volume.{Volume, bytes_of}
use Rattle.trace_view.specs.Values.{value_at}
use Rattle.bench_rules.specs.declared.chosen.Chosen.{Chosen}
use Rattle.bench_rules.specs.declared.chosen_edit.ChosenEdit.TheVariants.{Swap}
use Rattle.bench_rules.specs.declared.edit.Edit.{Edit}
use Rattle.bench_rules.specs.declared.edit.Edit.TheVariants.{Set, OfChosen}
use Rattle.bench_rules.specs.declared.field.Field.{Field}
use Rattle.bench_rules.specs.After.{bytes_after}
use Rattle.bench_rules.specs.Conditions.{chosen}
use Rattle.bench_rules.specs.RangeRefusals.{range_refusal}
use Rattle.bench_rules.specs.Refused.{first_refusal}
use Rattle.bench_rules.specs.State.{State}
use Rattle.bench_rules.specs.Steps.{IsAfter, Steps}
use Rattle.bench_rules.specs.SwappedFields.{two_places}
use Rattle.chosen_laws.specs.EditLaws.{done_each}

-- no byte of the place is one of so many from a place on, counted from 0 in the trace
abbrev pub IsBeside : Place → (at size : ℕ) → Type 0
IsBeside place at size = (offset_of place + place.kind.size ≤ at) ⊎ (at + size ≤ offset_of place)

-- no byte is of both places
abbrev pub AreApart : Place × Place → Type 0
AreApart places = IsBeside places.0 (offset_of places.1) places.1.kind.size

-- no byte of the place says how long the trace is: its numbers of samples are bytes 115-116 and, of the first header extension, bytes
-- 137-140, and its number of header extensions is bytes 157-158 of that one
abbrev pub IsNoLength : Place → Type 0
IsNoLength place = IsBeside place 114 2 × IsBeside place 376 4 × IsBeside place 396 2

-- each byte of the traces is a number of 8 bits
abbrev pub AreOfBytes : List (List ℕ) → Type 0
AreOfBytes traces = All (λ t. All (λ b. b < 256) t) traces

-- the two fields are swapped in these traces, which are chosen; their places share no byte
pub record IsSwapOf (s : State) (c : Chosen) (first second : Field) (places : Place × Place) (ps : List ℕ) (new : State) : Type 0 where
  pub cut : IsCut (bytes_of s.volume) s.reading s.limits s.volume
  pub bytes : AreOfBytes s.volume.traces
  pub found : two_places s.fields first second ≡ Some places
  pub apart : AreApart places
  pub traces : chosen s.volume s.fields c ≡ Some ps
  pub none : first_refusal s (OfChosen c (Swap first second)) ≡ None
  pub after : IsAfter s (OfChosen c (Swap first second)) new

-- two swapped fields are not refused when they are swapped back in the same traces, however these are chosen then, where their range is there
abbrev pub SwapBackIsNotRefused : Type 0
SwapBackIsNotRefused = (s new : State) (c d : Chosen) (first second : Field) (places : Place × Place) (ps : List ℕ) → IsSwapOf s c first second places ps new
    → range_refusal new.volume d.traces ≡ None → chosen new.volume new.fields d ≡ Some ps → first_refusal new (OfChosen d (Swap second first)) ≡ None

-- nor are they when they are swapped in the same turn again, where neither says how long a trace is
abbrev pub SwapAgainIsNotRefused : Type 0
SwapAgainIsNotRefused = (s new : State) (c d : Chosen) (first second : Field) (places : Place × Place) (ps : List ℕ) → IsSwapOf s c first second places ps new
    → IsNoLength places.0 → IsNoLength places.1
    → range_refusal new.volume d.traces ≡ None → chosen new.volume new.fields d ≡ Some ps → first_refusal new (OfChosen d (Swap first second)) ≡ None

-- after both swaps, the second in either turn, the bytes are those of before
abbrev pub SwapTwiceIsNothing : Type 0
SwapTwiceIsNothing = (s new : State) (c d : Chosen) (first second : Field) (places : Place × Place) (ps : List ℕ) → IsSwapOf s c first second places ps new
    → chosen new.volume new.fields d ≡ Some ps
    → (bytes_after new (OfChosen d (Swap second first)) ≡ bytes_of s.volume) × (bytes_after new (OfChosen d (Swap first second)) ≡ bytes_of s.volume)

-- ---- as sets

-- two sets of each of these traces: the first field to the second's number, and then the second to
-- the first's, both as they are in the volume
abbrev pub swap_sets : Volume → (first second : Field) → Place × Place → List ℕ → List Edit
swap_sets v first second places ps =
    flat_map (λ p. Set p first (value_at v.head (trace_at v p) places.1) ∷ Set p second (value_at v.head (trace_at v p) places.0) ∷ []) ps

-- a swap of two fields of chosen traces is what these sets make, one after another, each of them
-- done
abbrev pub SwapIsItsSets : Type 0
SwapIsItsSets = (s : State) (c : Chosen) (first second : Field) (places : Place × Place) (ps : List ℕ)
    → IsCut (bytes_of s.volume) s.reading s.limits s.volume → first_refusal s (OfChosen c (Swap first second)) ≡ None
    → two_places s.fields first second ≡ Some places → chosen s.volume s.fields c ≡ Some ps
    → (new : State) × Steps s (swap_sets s.volume first second places ps) (done_each (swap_sets s.volume first second places ps)) new × IsAfter s (OfChosen c (Swap first second)) new
