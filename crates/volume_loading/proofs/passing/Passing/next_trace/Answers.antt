use Rattle.std.proofs.Common.{◌≡◌, ◌<◌, ◌≤◌, ◌+◌, ◌*◌, ℕ, List, length, take, refl, arith}
use Rattle.std.proofs.lemmas.List.{length-take-le}
use Rattle.frame_cut.specs.Fronts.{BeginsWith}
use Rattle.trace_store.specs.Stores.{traces_of}
use Rattle.volume_loading.specs.PassReads.{HasLengthAt}
use Rattle.volume_loading.proofs.PassingLemmas.{length_some, passed_on, passed_tail, trace_fault, trace_shown}
use Rattle.volume_loading.proofs.passing.Passing.next_trace.Goals as goal

pub returns-in-Err-clause-refused : goal.returns-in-Err-clause-refused
returns-in-Err-clause-refused g c =
    let p = c.self.inside in
    let read = c.next_whole-read.ensures in
    let some : p.at + 3200 * p.store.head.trailer < p.size = omega (arith, c.self.invariant.room, c.if-left-eq0.false, c.from.ensures) in
    rw (← c.self.view_is) (trace_fault p c.next_whole-read.new.store c.in-Err.fault c.self.invariant read.grown read.within some c.in-Err.ensures.refused)

pub invariant_of-self-in-None : goal.invariant_of-self-in-None
invariant_of-self-in-None g c =
    let p = c.self.inside in
    let read = c.in-Ok.ensures in
    passed_tail p c.next_whole-read.new.store c.next_whole-read.new.window _ c.self.invariant read.grown read.next read.block read.within (omega (arith, c.self.invariant.room, c.from.ensures)) (read.kept c.in-None.is)

pub invariant_of-self-2 : goal.invariant_of-self-2
invariant_of-self-2 g c =
    let p = c.self.inside in
    let s = c.next_whole-read.new.store in
    let read = c.in-Ok.ensures in
    let n = c.in-Some.length in
    let there : n ≤ length c.next_whole-read.new.window.bytes = rw c.in-Some.is at read.there in
    let fits : p.at + n + 3200 * p.store.head.trailer ≤ p.size = rw c.in-Some.is at read.fits in
    let whole : (file : List ℕ) → BeginsWith s.loaded.bytes p.size file → HasLengthAt file p.store.head p.limits (length (traces_of p.store) + 1) p.at n = rw c.in-Some.is at read.whole in
    passed_on p s c.next_whole-read.new.window n c.saturating_add-self-inside.result c.self.invariant read.grown read.next read.block read.within there fits (λ _. whole)

pub returns-clause-trace : goal.returns-clause-trace
returns-clause-trace g c = λ _.
    let p = c.self.inside in
    let s = c.next_whole-read.new.store in
    let read = c.in-Ok.ensures in
    let n = c.in-Some.length in
    let there : n ≤ length c.next_whole-read.new.window.bytes = rw c.in-Some.is at read.there in
    let fits : p.at + n + 3200 * p.store.head.trailer ≤ p.size = rw c.in-Some.is at read.fits in
    let whole : (file : List ℕ) → BeginsWith s.loaded.bytes p.size file → HasLengthAt file p.store.head p.limits (length (traces_of p.store) + 1) p.at n = rw c.in-Some.is at read.whole in
    let some : 0 < n = length_some s.loaded.bytes p.size p.store.head p.limits _ p.at n read.within c.self.invariant.room whole in
    let after = passed_on p s c.next_whole-read.new.window n c.saturating_add-self-inside.result c.self.invariant read.grown read.next read.block read.within there fits (λ _. whole) in
    (trace_shown _ after some).0

pub returns-clause-inside : goal.returns-clause-inside
returns-clause-inside g c = λ _.
    let p = c.self.inside in
    let s = c.next_whole-read.new.store in
    let next = c.next_whole-read.new.window.bytes in
    let read = c.in-Ok.ensures in
    let n = c.in-Some.length in
    let there : n ≤ length next = rw c.in-Some.is at read.there in
    let fits : p.at + n + 3200 * p.store.head.trailer ≤ p.size = rw c.in-Some.is at read.fits in
    let whole : (file : List ℕ) → BeginsWith s.loaded.bytes p.size file → HasLengthAt file p.store.head p.limits (length (traces_of p.store) + 1) p.at n = rw c.in-Some.is at read.whole in
    let some : 0 < n = length_some s.loaded.bytes p.size p.store.head p.limits _ p.at n read.within c.self.invariant.room whole in
    let long : length (take n next) ≡ n = length-take-le n next there in
    (omega (arith, some, long), omega (arith, fits, long))
