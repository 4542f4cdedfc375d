-- A file is cut into its parts, or its traces stop at one that is refused.
use Rattle.std.specs.Prelude.{ℕ, ◌≡◌, ◌+◌, ◌<◌, ◌≤◌, ◌⊎◌, ◌&&◌, ◌||◌, ◌++◌, nat_lt, Bool, false, IsTrue, IsFalse, List, [], length, All, Option, Some, None, Ok, Err, if◌then◌else◌}
use Rattle.std.specs.List.{concat}
use Rattle.frame_cut.specs.declared.file_head.Head.{Head}
use Rattle.frame_cut.specs.declared.limits.Limits.{Limits}
use Rattle.frame_cut.specs.declared.reading.Reading.{Reading}
use Rattle.frame_cut.specs.declared.load_fault.LoadFault.{LoadFault}
use Rattle.frame_cut.specs.declared.load_fault.LoadFault.TheVariants.{ExtensionCount, Truncated, TooManyTraces}
use Rattle.frame_cut.specs.Volume.{Volume, front_of, bytes_of}
use Rattle.frame_cut.specs.Heads.{head_of}
use Rattle.frame_cut.specs.Frames.{trace_length, front_length}
use Rattle.text_block.specs.declared.block.TheConstants.{TEXT_BLOCK_BYTES}
use Rattle.frame_cut.specs.declared.sizes.TheConstants.{BINARY_HEADER_BYTES}

-- the bytes are a whole trace: their headers give them the length that they have
pub record IsTrace (h : Head) (t : List ℕ) : Type 0 where
  pub whole : front_length h ≤ length t
  pub exact : trace_length h t ≡ Some (length t)

-- whether the length is there, and so many bytes are less
abbrev pub is_longer : Option ℕ → ℕ → Bool
is_longer None left = false
is_longer (Some n) left = nat_lt left n

-- whether the bytes are less than a trace: they end in its front, or before the length that its headers give it
abbrev pub is_torn : Head → List ℕ → Bool
is_torn h rest = nat_lt (length rest) (front_length h) || is_longer (trace_length h rest) (length rest)

-- what may stand behind the last trace: nothing, or under a reading that keeps it less than a trace
abbrev pub IsTail : Reading → Head → List ℕ → Type 0
IsTail reading h tail = (tail ≡ []) ⊎ (IsTrue reading.tail × IsTrue (is_torn h tail))

-- so many blocks of 3200 bytes
pub record AreBlocks (n : ℕ) (blocks : List (List ℕ)) : Type 0 where
  pub count : length blocks ≡ n
  pub whole : All (λ b. length b ≡ TEXT_BLOCK_BYTES) blocks

-- the parts are as the file's head says, and within the limits
pub record AreParts (file : List ℕ) (reading : Reading) (limits : Limits) (v : Volume) : Type 0 where
  pub head : head_of file reading limits ≡ Ok v.head
  pub text : length v.text ≡ TEXT_BLOCK_BYTES
  pub bin : length v.bin ≡ BINARY_HEADER_BYTES
  pub blocks : AreBlocks v.head.blocks v.blocks
  pub traces : All (λ t. IsTrace v.head t) v.traces
  pub few : length v.traces ≤ limits.traces
  pub tail : IsTail reading v.head v.tail
  pub trailer : AreBlocks v.head.trailer v.trailer

-- the parts are the whole file
pub record IsCut (file : List ℕ) (reading : Reading) (limits : Limits) (v : Volume) : Type 0 where
  pub joined : bytes_of v ≡ file
  pub parts : AreParts file reading limits v

-- the refusal of trace p where so many bytes are left and its headers give it this length, if it meets one
abbrev pub refusal_by_length : Limits → ℕ → ℕ → Option ℕ → Option LoadFault
refusal_by_length limits p left None = Some (ExtensionCount p)
refusal_by_length limits p left (Some n) =
    if nat_lt left n then Some (Truncated p) else if nat_lt limits.traces p then Some TooManyTraces else None

-- the first refusal of trace p at the front of the bytes that are left, if it meets one
abbrev pub trace_refusal : Head → Limits → ℕ → List ℕ → Option LoadFault
trace_refusal h limits p rest =
    if nat_lt (length rest) (front_length h) then Some (Truncated p)
    else refusal_by_length limits p (length rest) (trace_length h rest)

-- the traces before these bytes are whole, and the next one is refused; the reading does not keep the bytes as a tail
pub record IsStuck (file : List ℕ) (reading : Reading) (limits : Limits) (v : Volume) (rest : List ℕ) (fault : LoadFault) : Type 0 where
  pub joined : front_of v ++ concat v.traces ++ (rest ++ concat v.trailer) ≡ file
  pub parts : AreParts file reading limits v
  pub untailed : v.tail ≡ []
  pub unkept : IsFalse (reading.tail && is_torn v.head rest)
  pub some : 0 < length rest
  pub refused : trace_refusal v.head limits (length v.traces + 1) rest ≡ Some fault

-- the file is refused for this reason: by its head, or at a trace
abbrev pub IsRefused : List ℕ → Reading → Limits → LoadFault → Type 0
IsRefused file reading limits fault =
    (head_of file reading limits ≡ Err fault) ⊎ ((v : Volume) × (rest : List ℕ) × IsStuck file reading limits v rest fault)
