-- A file as its parts.
use Rattle.std.specs.Prelude.{ℕ, ◌+◌, List, ◌++◌, length, take}
use Rattle.std.specs.List.{concat}
use Rattle.frame_cut.specs.declared.file_head.Head.{Head}

-- the parts of a file: what its headers say, and the bytes of each part
pub record Volume : Type 0 where
  pub head : Head
  -- the textual header
  pub text : List ℕ
  -- the binary header
  pub bin : List ℕ
  -- the extended textual headers
  pub blocks : List (List ℕ)
  -- each trace with its headers and samples
  pub traces : List (List ℕ)
  -- bytes of no trace: less than one, behind the last
  pub tail : List ℕ
  -- the data trailer records
  pub trailer : List (List ℕ)

-- the bytes in front of the traces
abbrev pub front_of : Volume → List ℕ
front_of v = v.text ++ v.bin ++ concat v.blocks

-- the bytes behind the traces
abbrev pub behind_traces : Volume → List ℕ
behind_traces v = v.tail ++ concat v.trailer

-- the file's bytes: its parts, one after another
abbrev pub bytes_of : Volume → List ℕ
bytes_of v = front_of v ++ concat v.traces ++ behind_traces v

-- where a trace begins, traces counted from 0: behind the front and the traces before it
abbrev pub start_of : Volume → ℕ → ℕ
start_of v p = length (front_of v) + length (concat (take p v.traces))
