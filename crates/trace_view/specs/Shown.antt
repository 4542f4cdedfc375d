-- What a view shows.
use Rattle.std.specs.Prelude.{ℕ, List}
use Rattle.frame_cut.specs.declared.file_head.Head.{Head}
use Rattle.trace_view.specs.declared.run.Run.{Run}
use Rattle.trace_view.specs.declared.view.TraceView.{TraceView}
use Rattle.trace_view.specs.Runs.{bytes_with_runs}

-- the head of the trace's file
abbrev pub head_of : TraceView → Head
head_of v = v.head.now

-- the runs over the base bytes
abbrev pub runs_of : TraceView → List Run
runs_of v = v.bytes.runs.now

-- the trace's bytes
abbrev pub bytes_of : TraceView → List ℕ
bytes_of v = bytes_with_runs v.bytes.base.now v.bytes.runs.now
