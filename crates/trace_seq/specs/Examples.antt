-- Orders worked out, read by the definitions.
use Rattle.std.specs.Prelude.{◌≡◌, ℕ, [], ◌∷◌, Some, None, refl}
use Rattle.trace_seq.specs.Order.{times, id_at, with_id, without_id, with_id_moved}
use Rattle.trace_seq.specs.Without.{taken_out, without_each}

-- an id in front of all, and behind all
pub put_in_front : with_id (4 ∷ 7 ∷ []) 1 9 ≡ 9 ∷ 4 ∷ 7 ∷ []
put_in_front = refl

pub put_behind : with_id (4 ∷ 7 ∷ []) 3 9 ≡ 4 ∷ 7 ∷ 9 ∷ []
put_behind = refl

pub second_taken_out : without_id (4 ∷ 7 ∷ 9 ∷ []) 2 ≡ 4 ∷ 9 ∷ []
second_taken_out = refl

-- the target counts in what is left: to 3 of three is behind all
pub moved_behind : with_id_moved (4 ∷ 7 ∷ 9 ∷ []) 1 3 ≡ 7 ∷ 9 ∷ 4 ∷ []
moved_behind = refl

pub moved_by_one : with_id_moved (4 ∷ 7 ∷ 9 ∷ []) 1 2 ≡ 7 ∷ 4 ∷ 9 ∷ []
moved_by_one = refl

pub moved_in_front : with_id_moved (4 ∷ 7 ∷ 9 ∷ []) 3 1 ≡ 9 ∷ 4 ∷ 7 ∷ []
moved_in_front = refl

pub moved_nowhere : with_id_moved (4 ∷ 7 ∷ 9 ∷ []) 2 2 ≡ 4 ∷ 7 ∷ 9 ∷ []
moved_nowhere = refl

pub first : id_at (4 ∷ 7 ∷ []) 1 ≡ Some 4
first = refl

pub none_at_zero : id_at (4 ∷ 7 ∷ []) 0 ≡ None
none_at_zero = refl

pub none_behind : id_at (4 ∷ 7 ∷ []) 3 ≡ None
none_behind = refl

pub twice : times 7 (7 ∷ 4 ∷ 7 ∷ []) ≡ 2
twice = refl

-- the first and the third of four; there is no fifth
pub two_taken_out : without_each {T = ℕ} (4 ∷ 7 ∷ 9 ∷ 2 ∷ []) (1 ∷ 3 ∷ 5 ∷ []) ≡ 7 ∷ 2 ∷ []
two_taken_out = refl

-- the same, one after the other
pub one_by_one : taken_out {T = ℕ} (4 ∷ 7 ∷ 9 ∷ 2 ∷ []) (1 ∷ 3 ∷ 5 ∷ []) ≡ 7 ∷ 2 ∷ []
one_by_one = refl

pub all_stay : without_each {T = ℕ} (4 ∷ 7 ∷ []) [] ≡ 4 ∷ 7 ∷ []
all_stay = refl
