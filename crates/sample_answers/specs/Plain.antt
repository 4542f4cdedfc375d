-- Samples of a trace that no edit has touched, as they are read by their numbers.
use Rattle.std.specs.Prelude.{◌≡◌, ℕ, List, Some}
use Rattle.sample_codes.specs.Formats.{values, value_width, width}
use Rattle.frame_cut.specs.declared.file_head.Head.{Head}
use Rattle.frame_cut.specs.Frames.{sample_count}
use Rattle.trace_view.specs.Values.{sample_bytes}
use Rattle.sample_answers.specs.declared.plain.PlainSamples.{PlainSamples}

-- they are those of a trace of these bytes
pub record ArePlain (p : PlainSamples) (h : Head) (t : List ℕ) : Type 0 where
  pub order : p.order ≡ h.order
  pub format : values h.format ≡ Some p.format
  pub width : value_width p.format ≡ width h.format
  pub count : p.count ≡ sample_count h t
  pub bytes : p.bytes.now ≡ sample_bytes h t
