-- How a text goes to a device, of which a part waits.
use Rattle.std.specs.Prelude.{ℕ, ◌≡◌, ◌+◌, List, [], ◌++◌, length, Result, MatchResult}
use Rattle.device_io.specs.declared.write_fault.WriteFault.{WriteFault}
use Rattle.line_texts.specs.Devices.{Device, Takes, TakesPart, count_in_64_bits}

-- what waits to be written, and how many bytes were written before it
pub record Outgoing : Type 0 where
  pub waits : List ℕ
  pub written : ℕ

-- nothing waits, and nothing was written
abbrev pub nothing_out : Outgoing
nothing_out = record { waits = []; written = 0 }

-- the writer takes some bytes; these and what waits now are what waited before and the text
pub record GoesOut (old new : Device) (from to : Outgoing) (text : List ℕ) : Type 0 where
  pub taken : List ℕ
  pub takes : Takes old new taken
  pub joined : taken ++ to.waits ≡ from.waits ++ text
  pub counted : to.written ≡ count_in_64_bits (from.written + length taken)

-- the writer takes a first part of what waited before and the text, and `told` counts all bytes that were written
pub record BreaksOut (old new : Device) (from : Outgoing) (text : List ℕ) (told : ℕ) : Type 0 where
  pub taken : ℕ
  pub takes : TakesPart old new (from.waits ++ text) taken
  pub counted : told ≡ count_in_64_bits (from.written + taken)

-- a text is put behind what waits, and the writer takes some of it or fails
abbrev pub Pushes : {T : Type 0} → Device → Device → Outgoing → Outgoing → List ℕ → Result T WriteFault → Type 0
Pushes old new from to text result =
    MatchResult result (λ _. GoesOut old new from to text) (λ fault. BreaksOut old new from text fault.written)
