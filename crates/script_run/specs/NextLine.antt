-- What comes next from the reader of a session.
use Rattle.std.specs.Prelude.{◌≡◌, ℕ, false, ⊤, List, Option}
use Rattle.std.specs.Io.KnownBytes.{IsAtEnd}
use Rattle.device_io.specs.Failures.{one_more}
use Rattle.script_run.specs.declared.next.Next.{Next}
use Rattle.script_run.specs.declared.next.Next.TheVariants.{Line, End, Failed, Endless}
use Rattle.script_run.specs.Input.{line_of, TakesLine, Held, Holds, IsEndless}

-- the first line of what was left is taken and held, behind one that lacks its line feed nothing is left; or nothing was left, and nothing is; or more
-- was left than can be counted
abbrev pub IsNext : Option (List ℕ) → Option (List ℕ) → Held → Next → Type 0
IsNext old new held (Line has_end) =
    (line : List ℕ) × TakesLine old new (line_of line has_end) × Holds held line × (has_end ≡ false → IsAtEnd new)
IsNext old new held End = IsAtEnd old × IsAtEnd new
IsNext old new held Failed = ⊤
IsNext old new held Endless = IsEndless old

-- the failures rise by one exactly where a read failed
abbrev pub FailuresAfterNext : Next → ℕ → ℕ → Type 0
FailuresAfterNext (Line has_end) old new = new ≡ old
FailuresAfterNext End old new = new ≡ old
FailuresAfterNext Failed old new = new ≡ one_more old
FailuresAfterNext Endless old new = new ≡ old
