-- How lines are taken from a reader, of which some bytes are read ahead.
use Rattle.std.specs.Prelude.{◌≡◌, ◌⊎◌, ℕ, ◌<◌, ◌≤◌, ◌-◌, ◌^◌, IfSome, IsTrue, Bool, true, false, not, if◌then◌else◌, ⊤, List, [], ◌∷◌, ◌++◌, length, Option, Some, None}
use Rattle.std.specs.List.{list_any, before_first, after_first}
use Rattle.std.specs.Io.KnownBytes.{prepend_known, Consumes, IsAtEnd}
use Rattle.room.specs.Refusals.{WasRefused}
use Rattle.line_texts.specs.Devices.{count_in_64_bits}
use Rattle.script_words.specs.Words.{is_line_feed}
use Rattle.script_run.specs.declared.line_read.LineRead.{LineRead}
use Rattle.script_run.specs.declared.line_read.LineRead.TheVariants.{Text, TooLarge, Lost}

-- the bytes that are left: those that were read ahead, and those of the reader
abbrev pub left_of : List ℕ → Option (List ℕ) → Option (List ℕ)
left_of ahead bytes = prepend_known ahead bytes

-- a line as it comes from a reader: what stands in front of its line feed, and whether it has one
pub record SessionLine : Type 0 where
  pub text : List ℕ
  pub has_end : Bool

-- a line that its line feed ends
abbrev pub ended : List ℕ → SessionLine
ended text = record { text = text; has_end = true }

-- the last line, where it lacks a line feed
abbrev pub cut_off : List ℕ → SessionLine
cut_off text = record { text = text; has_end = false }

-- a line with its line feed, or without
abbrev pub line_of : List ℕ → Bool → SessionLine
line_of text has_end = record { text = text; has_end = has_end }

-- a byte in front of the first line; where there is none, it begins the last
abbrev pub onto_first_line : ℕ → List SessionLine → List SessionLine
onto_first_line b [] = cut_off (b ∷ []) ∷ []
onto_first_line b (line ∷ lines) = record { text = b ∷ line.text; has_end = line.has_end } ∷ lines

-- the lines of these bytes
abbrev pub session_lines : List ℕ → List SessionLine
session_lines [] = []
session_lines (b ∷ bs) = if is_line_feed b then ended [] ∷ session_lines bs else onto_first_line b (session_lines bs)

-- one of these lines lacks its line feed
abbrev pub any_cut_off : List SessionLine → Bool
any_cut_off lines = list_any (λ line. not line.has_end) lines

-- the first line is taken from known bytes
abbrev pub TakesLine : Option (List ℕ) → Option (List ℕ) → SessionLine → Type 0
TakesLine None new line = ⊤
TakesLine (Some xs) None line = ⊥
TakesLine (Some xs) (Some ys) line = session_lines xs ≡ line ∷ session_lines ys

-- the first lines are taken from known bytes
abbrev pub TakesLines : Option (List ℕ) → Option (List ℕ) → List SessionLine → Type 0
TakesLines None new lines = ⊤
TakesLines (Some xs) None lines = ⊥
TakesLines (Some xs) (Some ys) lines = session_lines xs ≡ lines ++ session_lines ys

-- what is held of a line: how many bytes were read of it, and these, unless they were too many or no memory held them
pub record Held : Type 0 where
  pub length : ℕ
  pub is_lost : Bool
  pub bytes : List ℕ

-- nothing was read of a line
abbrev pub nothing_held : Held
nothing_held = record { length = 0; is_lost = false; bytes = [] }

-- this is held of the bytes that were read of a line
pub record Holds (held : Held) (line : List ℕ) : Type 0 where
  pub length_is : held.length ≡ count_in_64_bits (length line)
  pub bytes_are : held.is_lost ≡ false → held.bytes ≡ line

-- where the line is lost, it is too long, or a growth was refused between these two counts
abbrev pub IsLostWithCause : Held → ℕ → ℕ → Type 0
IsLostWithCause held first last = IsTrue held.is_lost → (16777216 < held.length) ⊎ WasRefused first last

-- what stands in front of the first line feed, and what behind it; all and nothing where there is none
abbrev pub IsFront : List ℕ → List ℕ → List ℕ → Bool → Type 0
IsFront whole front rest true = (list_any is_line_feed whole ≡ true) × (front ≡ before_first is_line_feed whole) × (rest ≡ after_first is_line_feed whole)
IsFront whole front rest false = (list_any is_line_feed whole ≡ false) × (front ≡ whole) × (rest ≡ [])

-- what stands in front of the first line feed is taken onto a line
abbrev pub IsPartTaken : List ℕ → List ℕ → Held → Held → Bool → Type 0
IsPartTaken old new from to found =
    (front : List ℕ) × IsFront old front new found × ((line : List ℕ) → Holds from line → Holds to (line ++ front))

-- how a line is read, and what is then held of it
abbrev pub IsReadAs : LineRead → Held → List ℕ → Type 0
IsReadAs Text held line = (length line ≤ 16777216) × (held.bytes ≡ line)
IsReadAs TooLarge held line = 16777216 < length line
IsReadAs Lost held line = length line ≤ 16777216

-- of the first line of what was left, all up to here is taken, and held
pub record TakesFront (old now : Option (List ℕ)) (held : Held) : Type 0 where
  pub part : List ℕ
  pub taken : Consumes old now part
  pub none : list_any is_line_feed part ≡ false
  pub holds : Holds held part

-- whatever was taken up to here still is
abbrev pub KeepsTaken : Option (List ℕ) → Option (List ℕ) → Type 0
KeepsTaken old new = (first : Option (List ℕ)) (part : List ℕ) → Consumes first old part → Consumes first new part

-- bytes wait, or nothing is left
abbrev pub WaitsOrEnds : Bool → List ℕ → Option (List ℕ) → Type 0
WaitsOrEnds true ahead bytes = 0 < length ahead
WaitsOrEnds false ahead bytes = (ahead ≡ []) × IsAtEnd bytes

-- known bytes that are more than a 64-bit number counts, or as many
abbrev pub IsEndless : Option (List ℕ) → Type 0
IsEndless known = IfSome known (λ bytes. 2 ^ 64 - 1 ≤ length bytes)

-- so many lines were taken, or behind the lines that were taken so many bytes are left
abbrev pub HasTooMany : Option (List ℕ) → List SessionLine → Type 0
HasTooMany known lines = (2 ^ 64 - 1 ≤ length lines) ⊎ ((rest : Option (List ℕ)) × TakesLines known rest lines × IsEndless rest)
