-- Runs with one more laid over them.
use Rattle.std.specs.Prelude.{ℕ, ◌≡◌, ◌+◌, ◌≤◌, nat_lt, Bool, List, length, map, take, drop, slice_range}
use Rattle.frame_cut.specs.Splice.{splice}
use Rattle.trace_view.specs.declared.run.Run.{Run}
use Rattle.trace_view.specs.Runs.{FitFrom, end_of, bytes_with_runs}

-- the run ends in front of the place, with a byte between
abbrev pub is_in_front : ℕ → Run → Bool
is_in_front at r = nat_lt (end_of r) at

-- the run begins behind the place, with a byte between
abbrev pub is_behind : ℕ → Run → Bool
is_behind end r = nat_lt end r.at

-- runs as their places and bytes
abbrev pub contents : List Run → List (ℕ × List ℕ)
contents rs = map (λ r. (r.at, r.bytes.items)) rs

-- so many runs end at the place or in front of it, and the others begin there or behind it
pub record IsGap (rs : List Run) (len index place : ℕ) : Type 0 where
  pub some : index ≤ length rs
  pub before : FitFrom 0 (take index rs) place
  pub behind : FitFrom place (drop index rs) len

-- from one place to another, over each base of this length, the runs show these bytes: all of them are theirs
pub record Show (rs : List Run) (len from to : ℕ) (bytes : List ℕ) : Type 0 where
  pub size : from + length bytes ≡ to
  pub shown : (base : List ℕ) → length base ≡ len → slice_range (bytes_with_runs base rs) from to ≡ bytes

-- over each base of this length the list shows what the runs show, with these bytes in its place from `at` on
abbrev pub ShowPut : ℕ → List Run → ℕ → List ℕ → List Run → Type 0
ShowPut len rs at new list =
    (base : List ℕ) → length base ≡ len → bytes_with_runs base list ≡ splice (bytes_with_runs base rs) at (length new) new
