-- What readers and writers tell.
use Rattle.std.specs.Prelude.{ℕ, ◌≡◌, ◌<◌, ◌-◌, ◌^◌, min, List, length, take, Option}
use Rattle.std.specs.Io.KnownBytes.{Appends}
use Rattle.device_io.specs.Devices.{CountedDevice}
use Rattle.device_io.specs.Failures.{one_more}

-- the bytes that a reader has left or that a writer holds, where they are known, and how often it has failed
pub record Device : Type 0 where
  pub bytes : Option (List ℕ)
  pub failures : ℕ

-- what a reader or a writer tells, by what its kind says of the bytes
abbrev pub device_of : {D : Type 0} → (D → Option (List ℕ)) → CountedDevice D → Device
device_of bytes d = record { bytes = bytes d.inner; failures = d.failures }

-- a writer takes all of a text
pub record Takes (old new : Device) (text : List ℕ) : Type 0 where
  pub bytes : Appends old.bytes new.bytes text
  pub failures : new.failures ≡ old.failures

-- a writer takes the first `written` bytes of a text, not all, and then a write fails
pub record TakesPart (old new : Device) (text : List ℕ) (written : ℕ) : Type 0 where
  pub bytes : Appends old.bytes new.bytes (take written text)
  pub short : written < length text
  pub failures : new.failures ≡ one_more old.failures

-- a number of bytes as it is told: a count of 64 bits stays at its top
abbrev pub count_in_64_bits : ℕ → ℕ
count_in_64_bits n = min n (2 ^ 64 - 1)
