-- How the text of a reply is written.
use Rattle.std.specs.Prelude.{◌≡◌, ℕ, List, ◌++◌, length, Result, MatchResult}
use Rattle.device_io.specs.declared.write_fault.WriteFault.{WriteFault}
use Rattle.line_texts.specs.Devices.{Device, Takes, TakesPart, count_in_64_bits}
use Rattle.script_text.specs.Replies.{Printed}
use Rattle.script_run.specs.declared.told.Told.{Told}

-- what is printed, with more behind it
abbrev pub followed_by : List ℕ → Printed → Printed
followed_by behind printed = record { text = printed.text ++ behind; is_refusal = printed.is_refusal }

-- the writer takes the text, or a first part of it; what is told counts the bytes that it took
abbrev pub IsWritten : Device → Device → Printed → Result Told WriteFault → Type 0
IsWritten old new printed result =
    MatchResult result
    (λ told. Takes old new printed.text × (told.length ≡ count_in_64_bits (length printed.text)) × (told.is_refusal ≡ printed.is_refusal))
    (λ fault. (taken : ℕ) × (fault.written ≡ count_in_64_bits taken) × TakesPart old new printed.text taken)
