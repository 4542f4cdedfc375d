-- How far apart neighbouring cells are.
use Rattle.std.specs.Prelude.{ℤ, pos, List, Option, option_map}
use Rattle.line_problems.specs.declared.spans.LineSpan.{LineSpan}
use Rattle.line_problems.specs.LineSpans.{span_of}
use Rattle.grid_live.specs.Cells.{inlines, crosslines}
use Rattle.trace_record.specs.Facts.{Facts}

-- one step from an inline to the next, the commonest one, and none from its crossline; nothing where there is one inline
abbrev pub inlines_apart : LineSpan → Option (ℤ × ℤ)
inlines_apart span = option_map (λ s. (s, pos 0)) span.step

-- one step from a crossline to the next, and none from its inline
abbrev pub crosslines_apart : LineSpan → Option (ℤ × ℤ)
crosslines_apart span = option_map (λ s. (pos 0, s)) span.step

-- the first and the last of the inlines of these traces that are not far from the others, and the step from one to the next; nothing of no trace
unfoldable pub inline_span_of : List Facts → Option LineSpan
inline_span_of fs = span_of (inlines fs)

-- the same of their crosslines
unfoldable pub crossline_span_of : List Facts → Option LineSpan
crossline_span_of fs = span_of (crosslines fs)
