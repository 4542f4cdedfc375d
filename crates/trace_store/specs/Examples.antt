-- Lists and slots worked out, read by the definitions.
use Rattle.std.specs.Prelude.{ℕ, ◌≡◌, List, [], ◌∷◌, refl}
use Rattle.trace_view.specs.declared.run.Run.{Run}
use Rattle.trace_store.specs.declared.base.Base.TheVariants.{Loaded}
use Rattle.trace_store.specs.declared.layers.Kind.TheVariants as kind
use Rattle.trace_store.specs.Each.{put_over}
use Rattle.trace_store.specs.Layers.{layers_of_kind, laid_over}
use Rattle.trace_store.specs.Moved.{with_moved}
use Rattle.trace_store.specs.Swapped.{with_swapped}
use Rattle.trace_store.specs.Then.{place_in_move}

-- the target counts in what is left: to 2 of three is behind all
pub moved_behind : with_moved {T = ℕ} (4 ∷ 7 ∷ 9 ∷ []) 0 2 ≡ 7 ∷ 9 ∷ 4 ∷ []
moved_behind = refl

pub moved_by_one : with_moved {T = ℕ} (4 ∷ 7 ∷ 9 ∷ []) 0 1 ≡ 7 ∷ 4 ∷ 9 ∷ []
moved_by_one = refl

pub moved_in_front : with_moved {T = ℕ} (4 ∷ 7 ∷ 9 ∷ []) 2 0 ≡ 9 ∷ 4 ∷ 7 ∷ []
moved_in_front = refl

pub moved_nowhere : with_moved {T = ℕ} (4 ∷ 7 ∷ 9 ∷ []) 1 1 ≡ 4 ∷ 7 ∷ 9 ∷ []
moved_nowhere = refl

-- two pairs: the first and the last, then the last and the one in front of it
pub swapped_twice : with_swapped {T = ℕ} (4 ∷ 7 ∷ 9 ∷ []) ((1, 3) ∷ (3, 2) ∷ []) ≡ 9 ∷ 4 ∷ 7 ∷ []
swapped_twice = refl

-- trace 1 becomes trace 3: traces 2 and 3 come to stand in front of it, and trace 4 stays
pub from_the_move : place_in_move (record { from = 1; to = 3 }) 3 ≡ 1
from_the_move = refl

pub from_behind : place_in_move (record { from = 1; to = 3 }) 1 ≡ 2
from_behind = refl

pub from_there : place_in_move (record { from = 1; to = 3 }) 4 ≡ 4
from_there = refl

-- 260 bytes of the loaded file from byte 3600 on, without runs, and with these laid over them
pub short-layers : layers_of_kind (kind.Short 260 3600) ≡ record { base = Loaded (record { start = 3600; length = 260 }); runs = [] }
short-layers = refl

pub laid-layers : (runs : List Run) → laid_over (layers_of_kind (kind.Short 260 3600)) runs ≡ record { base = Loaded (record { start = 3600; length = 260 }); runs = runs }
laid-layers runs = refl

-- two bytes over the second and the third of four traces, from the first byte of the one and from the second of the other
pub over_two_at : put_over ((1 ∷ 2 ∷ []) ∷ (3 ∷ 4 ∷ 5 ∷ []) ∷ (6 ∷ 7 ∷ 8 ∷ []) ∷ (9 ∷ []) ∷ []) 1 (0 ∷ 1 ∷ []) (0 ∷ 0 ∷ []) ≡ (1 ∷ 2 ∷ []) ∷ (0 ∷ 0 ∷ 5 ∷ []) ∷ (6 ∷ 0 ∷ 0 ∷ []) ∷ (9 ∷ []) ∷ []
over_two_at = refl
