-- What is lent of a room are bytes of the base.
use Rattle.std.proofs.Common.{◌≡◌, ℕ, ◌+◌, ◌-◌, ◌≤◌, List, take, drop, sym, ap, ◌∙◌, arith, Bool, IsTrue, Result, Ok, Err, OnOk}
use Rattle.std.proofs.Math.Seq.{take-take, drop-drop}
use Rattle.std.proofs.lemmas.List.{drop-take, length-take}
use Rattle.base_file.specs.HeldBytes.{StandIn}
use Rattle.base_file.specs.Rooms.{read_last, IsOf}
use Rattle.base_file.specs.declared.room.Room.{Room}

-- a part of a part
part_of : (bytes : List ℕ) (from filled at n : ℕ) → from ≤ at → at + n ≤ from + filled
    → take n (drop (at - from) (take filled (drop from bytes))) ≡ take n (drop at bytes)
part_of bytes from filled at n behind within =
    let k : ℕ = at - from in
    let m : ℕ = filled - k in
    let front : k + m ≡ filled = omega (arith, behind, within) in
    let on : from + k ≡ at = omega (arith, behind) in
    let fits : n ≤ m = omega (arith, behind, within) in
    ap (λ (f : ℕ). take n (drop k (take f (drop from bytes)))) (sym front)
    ∙ ap (take n) (drop-take k m (drop from bytes))
    ∙ take-take n m (drop k (drop from bytes)) fits
    ∙ ap (take n) (drop-drop k from bytes ∙ ap (λ (i : ℕ). drop i bytes) on)

-- what is lent is what lies there, if each read so far gave them
pub lent_in : (bytes : List ℕ) (agreed : Bool) (r : Room) (at n : ℕ) → IsOf bytes agreed r → StandIn r.from (read_last r) at n
    → IsTrue agreed → take n (drop (at - r.from) (read_last r)) ≡ take n (drop at bytes)
lent_in bytes agreed r at n of there sure =
    ap (λ (room : List ℕ). take n (drop (at - r.from) room)) (of.same sure)
    ∙ part_of bytes r.from r.filled at n there.behind (omega (arith, there.within, length-take r.filled r.block.items))

-- the same where a read was not refused
pub lent_if : {T E : Type 0} (result : Result T E) (bytes : List ℕ) (agreed : Bool) (r : Room) (at n : ℕ) → IsOf bytes agreed r
    → OnOk result (StandIn r.from (read_last r) at n) → OnOk result (IsTrue agreed → take n (drop (at - r.from) (read_last r)) ≡ take n (drop at bytes))
lent_if (Ok x) bytes agreed r at n of there = lent_in bytes agreed r at n of there
lent_if (Err e) bytes agreed r at n of there = tt
