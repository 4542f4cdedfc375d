use Rattle.std.proofs.Common.{◌≡◌, length}
use Rattle.time_slice.proofs.TurnLemmas.{told}
use Rattle.time_slice.proofs.slice_cache.forget_numbers.Given as goal

abbrev pub invariant-loop : goal.invariant-loop
invariant-loop l =
    (l.cache.entries ≡ told l.fn.k l.fn.many l.fn.cache.entries l.counter)
    × (l.cache.cap ≡ l.fn.cache.cap)
    × (l.end ≡ length l.fn.cache.entries)
