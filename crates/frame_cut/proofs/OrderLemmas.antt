-- The checks of the order of bytes and of the revision, the first three refusals of a head.
use Rattle.std.proofs.Common.{◌≡◌, ℕ, Bool, true, false, cond, List, drop, Result, Err, refl}
use Rattle.num_order.specs.declared.order.Order.{Order}
use Rattle.frame_cut.specs.declared.file_head.Head.{Head}
use Rattle.frame_cut.specs.declared.reading.Reading.{Reading}
use Rattle.frame_cut.specs.declared.load_fault.LoadFault.{LoadFault}
use Rattle.frame_cut.specs.declared.load_fault.LoadFault.TheVariants.{PairSwapped, OtherOrder, Revision}
use Rattle.frame_cut.specs.BinaryHeader.{order_of, told_order, is_other_order, is_pair_swapped, is_unknown_revision, major_of, minor_of}
use Rattle.frame_cut.specs.Heads.{head_from, head_faults, head_by, first_fault_else}

past_by : (b : Bool) (f : LoadFault) (y z : Result Head LoadFault) → b ≡ false → z ≡ y → z ≡ cond b (Err f) y
past_by true f y z e k = absurd cc
past_by false f y z e k = k

stop_at : (b : Bool) (f : LoadFault) (y : Result Head LoadFault) → b ≡ true → Err f ≡ cond b (Err f) y
stop_at true f y e = refl
stop_at false f y e = absurd cc

-- what the list comes to from its third refusal on, and from its fourth
abbrev pub from_third : Reading → Order → List ℕ → List ℕ → Result Head LoadFault
from_third reading o bin rest = first_fault_else (drop 2 (head_faults reading o bin rest)) (head_by reading o bin rest)

abbrev pub from_fourth : Reading → Order → List ℕ → List ℕ → Result Head LoadFault
from_fourth reading o bin rest = first_fault_else (drop 3 (head_faults reading o bin rest)) (head_by reading o bin rest)

-- the order of bytes passed
pub order_passed : (reading : Reading) (bin rest : List ℕ) (r : Result Head LoadFault) → is_pair_swapped bin ≡ false → is_other_order reading.order (told_order bin) ≡ false → r ≡ from_third reading (order_of reading bin) bin rest → r ≡ head_from reading bin rest
order_passed reading bin rest r swapped otherwise e =
    let o : Order = order_of reading bin in
    let more : Result Head LoadFault = from_third reading o bin rest in
    past_by (is_pair_swapped bin) PairSwapped (cond (is_other_order reading.order (told_order bin)) (Err OtherOrder) more) r swapped
    (past_by (is_other_order reading.order (told_order bin)) OtherOrder more r otherwise e)

-- the revision passed
pub revision_passed : (reading : Reading) (o : Order) (bin rest : List ℕ) (r : Result Head LoadFault) → is_unknown_revision o bin ≡ false → r ≡ from_fourth reading o bin rest → r ≡ from_third reading o bin rest
revision_passed reading o bin rest r known e =
    past_by (is_unknown_revision o bin) (Revision (major_of o bin) (minor_of o bin)) (from_fourth reading o bin rest) r known e

-- or it did not
pub revision_stops : (reading : Reading) (o : Order) (bin rest : List ℕ) → is_unknown_revision o bin ≡ true → Err (Revision (major_of o bin) (minor_of o bin)) ≡ from_third reading o bin rest
revision_stops reading o bin rest unknown =
    stop_at (is_unknown_revision o bin) (Revision (major_of o bin) (minor_of o bin)) (from_fourth reading o bin rest) unknown
