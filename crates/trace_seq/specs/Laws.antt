-- Laws of orders.
use Rattle.std.specs.Prelude.{ℕ, ◌≡◌, ◌<◌, List, Some}
use Rattle.trace_seq.specs.Order.{times, AreDistinct, id_at}
use Rattle.trace_seq.specs.Without.{taken_out, without_each, AreRising}

-- an id that is held stands at some position
abbrev pub HeldIdStands : Type 0
HeldIdStands = (ids : List ℕ) (id : ℕ) → 0 < times id ids → (p : ℕ) × (id_at ids p ≡ Some id)

-- an id that stands at some position is held
abbrev pub StandingIdIsHeld : Type 0
StandingIdIsHeld = (ids : List ℕ) (id p : ℕ) → id_at ids p ≡ Some id → 0 < times id ids

-- of distinct ids each stands at one position
abbrev pub StandsAtOnePosition : Type 0
StandsAtOnePosition = (ids : List ℕ) (id p q : ℕ) → AreDistinct ids → id_at ids p ≡ Some id → id_at ids q ≡ Some id → p ≡ q

-- ids that are taken out together are those that are taken out one after the other
abbrev pub TakenOutTogether : Type 0
TakenOutTogether = (ids positions : List ℕ) → AreRising 1 positions → without_each ids positions ≡ taken_out ids positions
