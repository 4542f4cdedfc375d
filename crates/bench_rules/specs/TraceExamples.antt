-- Edits of samples and of whole traces, worked by hand.
use Rattle.std.specs.Prelude.{◌≡◌, ◌++◌, true, List, [], ◌∷◌, ℕ, pos, negsuc, refl}
use Rattle.std.specs.List.{concat}
use Rattle.frame_cut.specs.SmallFiles.{with_bytes_at, zeros, text_plain, bin_plain, file_plain, trace_plain_1, trace_plain_2, trace_plain_3, volume_plain, volume_counted}
use Rattle.frame_cut.specs.Volume.{bytes_of}
use Rattle.bench_rules.specs.TraceEdits.{bytes_after_resize, bytes_after_renumber}
use Rattle.bench_rules.specs.WholeTraces.{trace_start, bytes_after_patch, with_blank, with_copy, bytes_after_delete, bytes_after_move}

-- the first plain file with these traces
abbrev with_traces : List (List ℕ) → List ℕ
with_traces traces = text_plain ++ bin_plain ++ concat traces

-- trace 2 begins at byte 3845, and the traces end with byte 4332
pub starts-at : trace_start volume_plain 2 ≡ 3844
starts-at = refl

pub ends-at : trace_start volume_plain 4 ≡ 4332
ends-at = refl

-- sample 1 of trace 2, counted from 0, as -7
pub patched-plain : bytes_after_patch volume_plain 2 1 (negsuc 6 ∷ []) ≡ with_bytes_at 4087 (0xFF ∷ 0xF9 ∷ []) file_plain
patched-plain = refl

pub blank-plain : with_blank volume_plain 4 ≡ file_plain ++ zeros 244
blank-plain = refl

pub copied-plain : with_copy volume_plain 3 1 ≡ with_traces (trace_plain_3 ∷ trace_plain_1 ∷ trace_plain_2 ∷ trace_plain_3 ∷ [])
copied-plain = refl

pub deleted-plain : bytes_after_delete volume_plain 1 ≡ with_traces (trace_plain_2 ∷ trace_plain_3 ∷ [])
deleted-plain = refl

-- trace 1 becomes trace 3, and trace 3 trace 1
pub moved-back : bytes_after_move volume_plain 1 3 ≡ with_traces (trace_plain_2 ∷ trace_plain_3 ∷ trace_plain_1 ∷ [])
moved-back = refl

pub moved-front : bytes_after_move volume_plain 3 1 ≡ with_traces (trace_plain_3 ∷ trace_plain_1 ∷ trace_plain_2 ∷ [])
moved-front = refl

-- four samples in place of two: both counts say so, and two samples of zero stand behind
pub resized-counted : bytes_after_resize volume_counted 1 4 ≡ with_bytes_at 3715 (0 ∷ 4 ∷ []) (with_bytes_at 3977 (0 ∷ 0 ∷ 0 ∷ 4 ∷ []) (bytes_of volume_counted)) ++ zeros 4
resized-counted = refl

-- crosslines 100, 95 and 90 in bytes 193-196
pub renumbered-plain : bytes_after_renumber volume_plain 1 3 (record { extension = 0; byte = 193; kind = record { size = 4; signed = true } }) (pos 100) (negsuc 4) ≡ with_bytes_at 3796 (100 ∷ []) (with_bytes_at 4040 (95 ∷ []) (with_bytes_at 4284 (90 ∷ []) file_plain))
renumbered-plain = refl
