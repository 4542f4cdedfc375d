-- What the times of a file tell of a change that comes after them.
use Rattle.std.specs.Prelude.{ℕ, ◌+◌, ◌-◌, ◌%◌, min, max, nat_eq, ◌&&◌, if◌then◌else◌, ◌≡◌, refl}
use Rattle.std.specs.Duration.{max_nanos}

-- how far apart the times are that a file's system gives, where its last modification and last change are these, in nanoseconds since 1970
abbrev pub apart_of : ℕ → ℕ → ℕ
apart_of modified changed = if nat_eq (modified % 1000000000) 0 && nat_eq (changed % 1000000000) 0 then 2000000000 else 20000000

-- how long after `now` each later change gets other times than these
abbrev pub wait_after : (now modified changed : ℕ) → ℕ
wait_after now modified changed = min (max modified changed + apart_of modified changed) max_nanos - now

-- a file of 5 s that is looked at half a second later: half a second of the two, and then another
pub wait_after-coarse : wait_after 5500000000 5000000000 5000000000 ≡ 1500000000
wait_after-coarse = refl

-- with parts of a second, 5 ms later
pub wait_after-fine : wait_after 5006000001 5000000000 5001000001 ≡ 15000000
wait_after-fine = refl

-- old enough
pub wait_after-old : wait_after 7000000000 5000000000 5000000000 ≡ 0
wait_after-old = refl
