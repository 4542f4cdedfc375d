-- The bytes of a journal, and what they list.
use Rattle.std.specs.Prelude.{◌≡◌, ◌⊎◌, ℕ, zero, suc, ◌+◌, ◌-◌, ◌^◌, ◌<◌, ◌≤◌, ◌==◌, ◌||◌, Bool, true, List, [], ◌∷◌, ◌++◌, length, take, drop, codes, ⊤}
use Rattle.std.specs.List.{flat_map}
use Rattle.std.specs.Int.{w64, to_le_bytes, from_le_bytes}
use Rattle.md5.specs.Md5.{md5}
use Rattle.journal_codes.specs.declared.file_facts.FileFacts.{FileFacts}
use Rattle.journal_codes.specs.declared.journal_fault.JournalFault.{JournalFault}
use Rattle.journal_codes.specs.declared.journal_fault.JournalFault.TheVariants.{NoJournal, OtherVersion, OtherLength, OtherFile, OtherBirth, Broken}

-- bytes at an offset of FILE
abbrev pub Span : Type 0
Span = ℕ × List ℕ

-- a number in 8 bytes, the lowest first
abbrev pub number : ℕ → List ℕ
number n = to_le_bytes w64 n

-- the number that bytes begin with
unfoldable pub number_in : List ℕ → ℕ
number_in bs = from_le_bytes w64 bs

-- the first 8 bytes of a journal
abbrev pub mark : List ℕ
mark = codes "SEGYWBJL"

-- what a journal begins with: the mark, the version, and the length, the inode and the time of birth of its FILE
abbrev pub front : FileFacts → List ℕ
front f = mark ++ (number 2 ++ (number f.length ++ (number f.inode ++ number f.birth)))

-- a piece: its place in FILE, how many bytes it has, and those
abbrev pub piece : Span → List ℕ
piece s = number s.0 ++ (number (length s.1) ++ s.1)

-- pieces, one behind the other
abbrev pub pieces : List Span → List ℕ
pieces ss = flat_map piece ss

-- a journal without its end
abbrev pub body : FileFacts → List Span → List ℕ
body f ss = front f ++ pieces ss

-- a journal: at its end stands the MD5 digest of all that is before
abbrev pub journal : FileFacts → List Span → List ℕ
journal f ss = body f ss ++ md5 (body f ss)

-- what has a place in a journal of this FILE: a piece inside FILE, of at most 65536 bytes
pub record Fits (f : FileFacts) (s : Span) : Type 0 where
  pub inside : s.0 + length s.1 ≤ f.length
  pub small : length s.1 ≤ 65536

-- all of them have
abbrev pub AllFit : FileFacts → List Span → Type 0
AllFit f [] = ⊤
AllFit f (s ∷ ss) = Fits f s × AllFit f ss

-- each of these numbers is one of 64 bits
pub record AreSmall (f : FileFacts) : Type 0 where
  pub length : f.length < 2 ^ 64
  pub inode : f.inode < 2 ^ 64
  pub birth : f.birth < 2 ^ 64

-- the piece that bytes begin with
abbrev pub place_in : List ℕ → ℕ
place_in bs = number_in bs

-- how many bytes that has
abbrev pub size_in : List ℕ → ℕ
size_in bs = number_in (drop 8 bs)

-- that piece: its place, and its bytes
abbrev pub span_in : List ℕ → Span
span_in bs = (place_in bs, take (size_in bs) (drop 16 bs))

-- it ends within the bytes, and lies inside a FILE of this length
pub record IsPiece (file : ℕ) (bs : List ℕ) : Type 0 where
  pub ends : 16 + size_in bs ≤ length bs
  pub small : size_in bs ≤ 65536
  pub inside : place_in bs + size_in bs ≤ file

-- the pieces that bytes list, behind the first ones, so many of which are passed over
unfoldable pub spans_from : ℕ → List ℕ → List Span
spans_from skip [] = []
spans_from zero (b ∷ bs) = span_in (b ∷ bs) ∷ spans_from (15 + size_in (b ∷ bs)) bs
spans_from (suc skip) (b ∷ bs) = spans_from skip bs

-- they are pieces, one behind the other, and nothing else
unfoldable pub ArePieces : ℕ → ℕ → List ℕ → Type 0
ArePieces file skip [] = ⊤
ArePieces file zero (b ∷ bs) = IsPiece file (b ∷ bs) × ArePieces file (15 + size_in (b ∷ bs)) bs
ArePieces file (suc skip) (b ∷ bs) = ArePieces file skip bs

-- all but the digest
abbrev pub without_end : List ℕ → List ℕ
without_end bs = take (length bs - 16) bs

-- the pieces that a journal lists
abbrev pub spans_in : List ℕ → List Span
spans_in bs = spans_from 0 (drop 40 (without_end bs))

-- they begin with the mark
abbrev pub HasMark : List ℕ → Type 0
HasMark bs = number_in bs ≡ number_in mark

-- the version of a journal stands behind it
abbrev pub HasVersion : List ℕ → Type 0
HasVersion bs = number_in (drop 8 bs) ≡ 2

-- then FILE's length
abbrev pub HasLength : FileFacts → List ℕ → Type 0
HasLength f bs = number_in (drop 16 bs) ≡ f.length

-- then FILE's inode
abbrev pub HasIdentity : FileFacts → List ℕ → Type 0
HasIdentity f bs = number_in (drop 24 bs) ≡ f.inode

-- a file that was made at the one time may be one that was made at the other, where 0 is not known
abbrev pub may_be_birth : (noted found : ℕ) → Bool
may_be_birth noted found = noted == 0 || (found == 0 || noted == found)

-- then the time at which FILE was made, where both know it
abbrev pub HasBirth : FileFacts → List ℕ → Type 0
HasBirth f bs = may_be_birth (number_in (drop 32 bs)) f.birth ≡ true

-- bytes begin as a journal of this FILE does
abbrev pub HasFront : FileFacts → List ℕ → Type 0
HasFront f bs = HasMark bs × HasVersion bs × HasLength f bs × HasIdentity f bs × HasBirth f bs

-- they do not, and this is the first thing that is not so
abbrev pub LacksFront : FileFacts → List ℕ → JournalFault → Type 0
LacksFront f bs NoJournal = HasMark bs → ⊥
LacksFront f bs OtherVersion = HasMark bs × (HasVersion bs → ⊥)
LacksFront f bs OtherLength = HasMark bs × HasVersion bs × (HasLength f bs → ⊥)
LacksFront f bs OtherFile = HasMark bs × HasVersion bs × HasLength f bs × (HasIdentity f bs → ⊥)
LacksFront f bs OtherBirth = HasMark bs × HasVersion bs × HasLength f bs × HasIdentity f bs × (HasBirth f bs → ⊥)
LacksFront f bs Broken = ⊥

-- behind its front, a journal of this FILE is whole
pub record IsWhole (f : FileFacts) (bs : List ℕ) : Type 0 where
  pub pieces : ArePieces f.length 0 (drop 40 (without_end bs))
  pub digest : drop (length bs - 16) bs ≡ md5 (without_end bs)

-- a journal of this FILE
pub record IsJournal (f : FileFacts) (bs : List ℕ) : Type 0 where
  pub long : 56 ≤ length bs
  pub front : HasFront f bs
  pub whole : IsWhole f bs

-- why bytes are none: they are too short, or else their front tells, or else they are cut or rotten behind it
abbrev pub IsRefusedAs : FileFacts → List ℕ → JournalFault → Type 0
IsRefusedAs f bs Broken = (length bs < 56) ⊎ (HasFront f bs × (IsWhole f bs → ⊥))
IsRefusedAs f bs fault = (56 ≤ length bs) × LacksFront f bs fault

-- What is written as a journal is one, and lists what was written.
abbrev pub IsReadAgain : FileFacts → List Span → Type 0
IsReadAgain f ss = IsJournal f (journal f ss) × (spans_in (journal f ss) ≡ ss)
