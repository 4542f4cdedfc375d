-- What a reader and a writer that go by steps hold.
use Rattle.std.specs.Prelude.{ℕ, List, length, min, ◌-◌}

-- the bytes that a step reader has still to give, how many a call gives at most, and how many calls are left before it fails
pub record Reading : Type 0 where
  pub rest : List ℕ
  pub step : ℕ
  pub calls : ℕ

-- how many bytes a read into a buffer of so many bytes gives
abbrev pub given_count : Reading → ℕ → ℕ
given_count r room = min r.step (min room (length r.rest))

-- the bytes that a step writer holds, how many a call takes at most, and how many bytes it may hold
pub record Writing : Type 0 where
  pub held : List ℕ
  pub step : ℕ
  pub limit : ℕ

-- how many of so many bytes a write takes
abbrev pub taken_count : Writing → ℕ → ℕ
taken_count w offered = min w.step (min offered (w.limit - length w.held))
