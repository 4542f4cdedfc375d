use Rattle.std.proofs.Common.{◌≡◌, ◌<◌, ◌≤◌, ◌+◌, ◌∙◌, ℕ, List, [], ◌∷◌, ◌++◌, length, subst, sym, ap, take, drop, arith}
use Rattle.std.proofs.lemmas.List.{length-take}
use Rattle.base_file.specs.HeldBytes.{IsOnDisk}
use Rattle.frame_cut.specs.Cuts.{IsTrace}
use Rattle.trace_store.specs.Stores.{traces_of}
use Rattle.volume_loading.proofs.PassingLemmas.{insert_last, passed_over, trace_shown}
use Rattle.volume_loading.proofs.passing.Passing.push.Goals as goal

few : (n limit read : ℕ) → read ≡ limit → read < 4294967296 → n + 1 ≤ limit → n + 1 < 4294967296
few n limit read same fits within = omega (arith, same, fits, within)

pub overflow_add-place : goal.overflow_add-place
overflow_add-place g c =
    let p = c.self.inside in
    let asked : 0 < length (take p.next p.window.bytes) = rw (← c.self.view_is) at c.requires in
    let some : 0 < p.next = omega (arith, asked, length-take p.next p.window.bytes) in
    let small : c.count-place.result + 1 < 4294967296 = few c.count-place.result p.limits.traces c.traces-most.result c.traces-most.ensures c.traces-most.type_inv (omega (arith, (trace_shown p c.self.invariant some).1, c.count-place.ensures.traces)) in
    omega (arith, small)

pub insert-requires-clause-few : goal.insert-requires-clause-few
insert-requires-clause-few g c =
    let p = c.self.inside in
    let asked : 0 < length (take p.next p.window.bytes) = rw (← c.self.view_is) at c.requires in
    let some : 0 < p.next = omega (arith, asked, length-take p.next p.window.bytes) in
    few (length (traces_of p.store)) p.limits.traces c.traces-most.result c.traces-most.ensures c.traces-most.type_inv (trace_shown p c.self.invariant some).1

pub insert-requires-clause-room : goal.insert-requires-clause-room
insert-requires-clause-room g c = λ (disk : IsOnDisk c.self.inside.store.loaded.standing). absurd (subst IsOnDisk c.self.invariant.standing disk)

pub insert-requires-clause-whole : goal.insert-requires-clause-whole
insert-requires-clause-whole g c =
    let p = c.self.inside in
    let asked : 0 < length (take p.next p.window.bytes) = rw (← c.self.view_is) at c.requires in
    let some : 0 < p.next = omega (arith, asked, length-take p.next p.window.bytes) in
    subst (IsTrace p.store.head) (ap (take p.next) c.self.invariant.next.rest) (trace_shown p c.self.invariant some).0

pub invariant_of-self-2 : goal.invariant_of-self-2
invariant_of-self-2 g c =
    let p = c.self.inside in
    let asked : 0 < length (take p.next p.window.bytes) = rw (← c.self.view_is) at c.requires in
    let some : 0 < p.next = omega (arith, asked, length-take p.next p.window.bytes) in
    let put = c.in_ok-insert.ensures in
    let traces = put.ok ∙ (insert_last (traces_of p.store) c.count-place.result (take p.next (drop p.at p.store.loaded.bytes)) c.count-place.ensures.traces ∙ ap (λ (t : List ℕ). traces_of p.store ++ t ∷ []) (ap (take p.next) (sym c.self.invariant.next.rest))) in
    passed_over p c.insert.new.self c.skip.new.self c.self.invariant some put.head put.loaded traces c.skip.ensures.bytes c.skip.ensures.block
