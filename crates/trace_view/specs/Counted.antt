-- Which bytes of a trace tell how long it is.
use Rattle.std.specs.Prelude.{ℕ, ◌+◌, ◌-◌, ◌==◌, ◌&&◌, ◌||◌, nat_le, Bool}
use Rattle.field_map.specs.declared.place.TheConstants.{TRACE_HEADER_BYTES}
use Rattle.frame_cut.specs.declared.file_head.Head.{Head}

-- n bytes from place a on and m bytes from place b on share none
abbrev pub share_no_byte : ℕ → ℕ → ℕ → ℕ → Bool
share_no_byte a n b m = nat_le (a + n) b || nat_le (b + m) a

-- n bytes of a trace from place a on, counted from 0, are none of bytes 115-116 of its main header, and none of bytes 137-140
-- and 157-158 of its first header extension, where there are extensions
abbrev pub leave_length : Head → ℕ → ℕ → Bool
leave_length h a n =
    share_no_byte a n (115 - 1) 2
    && (h.extensions == 0 || (share_no_byte a n (TRACE_HEADER_BYTES + 137 - 1) 4 && share_no_byte a n (TRACE_HEADER_BYTES + 157 - 1) 2))
