-- Places that take one save after another.
use Rattle.std.specs.Prelude.{◌≡◌, ⊤, ℕ, Bool, IsTrue, List, [], Option, Some, None}
use Rattle.safe_save.specs.declared.save_place.Ended.{Ended}
use Rattle.safe_save.specs.declared.save_place.Ended.TheVariants.{Saved, Failed, Unsettled, Torn}

-- the writer of a save has no bytes yet; they are known where what stands in the place is
abbrev pub IsEmpty : Option (List ℕ) → Option (List ℕ) → Type 0
IsEmpty None written = ⊤
IsEmpty (Some old) written = written ≡ Some []

-- these bytes stand in the place, where what stood there was known
abbrev pub Holds : Option (List ℕ) → Option (List ℕ) → Option (List ℕ) → Type 0
Holds None written new = ⊤
Holds (Some old) written new = new ≡ written

-- what stands in a place behind the end of a save: what was written, where all of it was; or what stood there; a place of which that is known is
-- never torn
abbrev pub IsEnded : Bool → Option (List ℕ) → Option (List ℕ) → Ended → Option (List ℕ) → Type 0
IsEnded whole old written Saved new = IsTrue whole × Holds old written new
IsEnded whole old written (Failed taken) new = new ≡ old
IsEnded whole old written Unsettled new = IsTrue whole × Holds old written new
IsEnded whole old written (Torn taken) new = old ≡ None
