use Rattle.std.proofs.Common.{◌≡◌, ◌≤◌, ◌++◌, ◌-◌, ◌+◌, ◌/◌, arith, rules, length, replicate, IsOk, vec_len, vec_capacity}
use Rattle.window_counts.proofs.HeldLemmas.{IsSummary-grown, resized}
use Rattle.window_counts.proofs.slots.Slots.grow.Goals as goal

pub invariant_of-self-2 : goal.invariant_of-self-2
invariant_of-self-2 c =
    let ns = c.self.inside.numbers.items in
    let held = c.self.inside.held.items in
    let few = c.self.invariant.few in
    let size = c.len.result + c.args.by in
    let long : c.len.result ≡ length ns = search rules in
    let held_long : vec_len c.self.inside.held ≡ length held = search rules in
    let blocks = size / 64 + 1 - length held in
    -- the room was taken before, so the numbers did grow
    let room : size ≤ vec_capacity c.try_reserve.new.self = search rules in
    let ok : IsOk c.resize-2.result = c.resize-2.ensures.succeeds room in
    let was : c.try_reserve.new.self.items ≡ ns = c.try_reserve.ensures.items in
    let was_long : vec_len c.try_reserve.new.self ≡ length ns = search rules in
    let numbers : c.resize-2.new.self.items ≡ ns ++ replicate c.args.by 0
    = resized ns size (vec_len c.try_reserve.new.self) c.args.by (rw (ok, was) at c.resize-2.ensures.items) was_long (omega arith) in
    let counted : c.resize.new.self.items ≡ held ++ replicate blocks 0
    = resized held (size / 64 + 1) (vec_len c.self.inside.held) blocks (rw c.in_ok-told-2.ensures.ok at c.resize.ensures.items) held_long (omega arith) in
    rw (numbers, counted) (IsSummary-grown ns held c.args.by blocks c.self.invariant (omega arith) (omega arith))
