-- What views of traces show, one after the other.
use Rattle.std.specs.Prelude.{ℕ, List, map}
use Rattle.frame_cut.specs.declared.file_head.Head.{Head}
use Rattle.frame_cut.specs.Volume.{Volume}
use Rattle.trace_view.specs.declared.view.TraceView.{TraceView}
use Rattle.trace_view.specs.Shown.{head_of, bytes_of}

-- what a view shows: a trace, under the head of its file
pub record ShownTrace : Type 0 where
  pub head : Head
  pub bytes : List ℕ

-- what this view shows
abbrev pub shown_by : TraceView → ShownTrace
shown_by view = record { head = head_of view; bytes = bytes_of view }

-- what views of these traces show, under one head
abbrev pub shown_each : Head → List (List ℕ) → List ShownTrace
shown_each h traces = map (λ t. record { head = h; bytes = t }) traces

-- what views of the traces of a volume show, in order
abbrev pub shown_traces : Volume → List ShownTrace
shown_traces v = shown_each v.head v.traces
